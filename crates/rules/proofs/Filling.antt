-- The calls that fill in what a task holds lead to it.
use Rattle.std.proofs.Common.{◌≡◌, ℕ, ◌+◌, ◌^◌, ◌<◌, ◌≤◌, ◌⊎◌, List, [], ◌∷◌, ◌++◌, map, length, refl, subst, inl, inr, ⊎_elim, append_assoc, append-nil, arith, length-append}
use Rattle.sets.specs.declared.Set.{Set}
use Rattle.sets.specs.Member.{Has, Members, none}
use Rattle.sets.specs.Listed.{In, Rising, members}
use Rattle.sets.proofs.Laws.{same_members, none_has}
use Rattle.sets.proofs.Listing.{members_listed, members_rising, members_sound}
use Rattle.scheme.specs.declared.Work.{Work}
use Rattle.scheme.specs.Edits.{opened, with_works, with_standing, with_wanted}
use Rattle.scheme.specs.Task.{Task}
use Rattle.tariff.specs.Amounts.{Scale, All}
use Rattle.rules.specs.Calls.{Call, Effect, Since, added, entered, entry, filling, opening, stood, then}
use Rattle.rules.specs.Calls.Call.{stand, want}
use Rattle.rules.proofs.Existence.{with_item}

module _ {V : Type 0} (t : Scale V) (capacity : ℕ) where
  -- works are entered behind those that are held
  enter_all :
      (rest : List Work) {calls : List (Call V)} {k : Task} →
      Since t capacity calls k [] →
      length k.works + length rest ≤ 64 →
      All (λ (w : Work). w.gives ≡ none → ⊥) rest →
      Since t capacity (calls ++ map entry rest) (with_works k (k.works ++ rest)) []
  enter_all [] {calls} {k} since few gives = simp append-nil since
  enter_all (w ∷ rest) {calls} {k} since few gives =
      simp append_assoc at
      (enter_all rest (then since (entered {n = w.needs} {g = w.gives} gives.0 (omega arith)))
      (simp length-append (omega arith)) gives.1)

  -- items are added to a set of items, one after the other
  module _ (put : Set → Task) (call : ℕ → Call V) (adds : (i : ℕ) (s u : Set) → i < 64 → (Has s i → ⊥) → Members u (λ j. Has s j ⊎ (j ≡ i)) → Effect t capacity (put s) [] (call i) (put u) []) where
    add_all :
        (items : List ℕ) {calls : List (Call V)} (s u : Set) →
        Since t capacity calls (put s) [] →
        Rising items →
        ((i : ℕ) → In i items → i < 64) →
        ((i : ℕ) → In i items → Has s i → ⊥) →
        Members u (λ j. Has s j ⊎ In j items) →
        Since t capacity (calls ++ map call items) (put u) []
    add_all [] {calls} s u since rising low new whole =
        let same : s ≡ u = same_members (Has s) s u (λ j. (λ y. y, λ y. y)) (λ j. (λ y. ⊎_elim (λ z. z) absurd ((whole j).0 y), λ y. (whole j).1 (inl y))) in
        simp append-nil (subst (λ (x : Set). Since t capacity calls (put x) []) same since)
    add_all (i ∷ items) {calls} s u since rising low new whole =
        let more = with_item s i in
        simp append_assoc at
        (add_all items more.0 u (then since (adds i s more.0 (low i (inl refl)) (new i (inl refl)) more.1)) rising.1
        (λ j y. low j (inr y))
        (λ j y h. ⊎_elim (new j (inr y)) (λ e. omega (arith, rising.0 j y)) ((more.1 j).0 h))
        (λ j. (
          λ h. ⊎_elim (λ y. inl ((more.1 j).1 (inl y))) (⊎_elim (λ e. inl ((more.1 j).1 (inr e))) inr) ((whole j).0 h),
          λ h. (whole j).1 (⊎_elim (λ y. ⊎_elim inl (λ e. inr (inl e)) ((more.1 j).0 y)) (λ y. inr (inr y)) h),
        )))

    -- the items of a set are added where there are none
    add_members : {calls : List (Call V)} (u : Set) → u.bits < 2 ^ 64 → Since t capacity calls (put none) [] → Since t capacity (calls ++ map call (members u)) (put u) []
    add_members u small since =
        add_all (members u) none u since (members_rising u) (λ i y. (members_sound u i y).1) (λ i y h. none_has i h)
        (λ j. (λ y. inr (((members_listed u small).members j).0 y), λ h. ⊎_elim (λ y. absurd (none_has j y)) ((members_listed u small).members j).1 h))

  pub since_filled :
      (k : Task) →
      length k.works ≤ 64 →
      All (λ (w : Work). w.gives ≡ none → ⊥) k.works →
      k.standing.bits < 2 ^ 64 →
      k.wanted.bits < 2 ^ 64 →
      Since t capacity (filling k) k []
  since_filled k few gives standing wanted =
      let held = with_works opened k.works in
      add_members (with_wanted (with_standing held k.standing)) want (λ i s u low new more. added low new more) k.wanted wanted
      (add_members (with_standing held) stand (λ i s u low new more. stood low new more) k.standing standing
      (enter_all k.works opening (omega arith) gives))
