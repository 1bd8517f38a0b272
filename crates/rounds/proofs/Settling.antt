-- One run or two, as the code makes them.
use Rattle.std.proofs.Common.{◌≡◌, ℕ, ◌+◌, true, false, ◌⊎◌, List, [], length, is_some, Some, None, Option, ap, subst, ⊎_elim}
use Rattle.std.proofs.lemmas.List.{nil_from_length}
use Rattle.sets.specs.declared.Set.{Set}
use Rattle.scheme.specs.Task.{Task}
use Rattle.tariff.specs.Amounts.{Scale}
use Rattle.rules.specs.Rules.{at_once, from_none, anew}
use Rattle.rounds.specs.Steps.{Runs, Settles}

module _ {V : Type 0} (t : Scale V) (capacity : ℕ) (k : Task) (prices : List V) (bars : Set) (kept : List Set) where
  -- a run that found a set, or began from none, is all
  pub settles_first :
      (found : Option Set) (to : List Set) (n : ℕ) →
      (is_some found ≡ true) ⊎ (length kept ≡ 0) →
      Runs t capacity k prices bars kept found to n →
      Settles t capacity k prices bars kept found to n
  settles_first (Some s) to n why run ready = at_once (run ready)
  settles_first None to n why run ready =
      from_none (⊎_elim (λ (e : false ≡ true). absurd cc) (nil_from_length kept) why) (run ready)

  -- one that spent the capacity over kept landmarks is followed by one from none
  pub settles_anew :
      (first found : Option Set) (mid start to : List Set) (m n : ℕ) →
      is_some first ≡ false →
      (length kept ≡ 0 → ⊥) →
      start ≡ [] →
      Runs t capacity k prices bars kept first mid m →
      Runs t capacity k prices bars start found to n →
      Settles t capacity k prices bars kept found to (m + n)
  settles_anew (Some s) found mid start to m n e some none run again ready = absurd cc
  settles_anew None found mid start to m n e some none run again ready =
      let P : List Set → Type 0 = λ x. Runs t capacity k prices bars x found to n in
      let from = subst P none again in
      anew (λ (empty : kept ≡ []). some (ap length empty)) (run ready)
      (from (record { fair = ready.fair; enough = ready.enough; marks = tt }))
