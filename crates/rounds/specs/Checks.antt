-- What a question or a marking is refused for before anything is done.
use Rattle.std.specs.Prelude.{◌≡◌, ℕ, ◌<◌, ◌≤◌, ◌⊎◌, List, length, Ok, Err, Result, ◌≢◌}
use Rattle.sets.specs.declared.Set.{Set}
use Rattle.scheme.specs.Task.{Task}
use Rattle.scheme.specs.declared.refusals.Refusal.{Refusal}
use Rattle.scheme.specs.Refusals.{number_of}
use Rattle.tariff.specs.Amounts.{Scale, All}
use Rattle.rules.specs.Calls.{Fair, Held, Valid, Readable}

-- whether there is one price for each work, each within the ceiling
abbrev pub Priced : {V : Type 0} → Scale V → Task → List V → Result (Unit {0}) Refusal → Type 0
Priced t k prices (Ok _) = Fair t k prices
Priced t k prices (Err e) =
    ((number_of e ≡ 5) × (length prices ≢ length k.works))
    ⊎ ((number_of e ≡ 6) × (length prices ≡ length k.works) × (All t.within prices → ⊥))

-- whether every work of a set is held
abbrev pub Keeps : Task → Set → Result (Unit {0}) Refusal → Type 0
Keeps k s (Ok _) = Held k s
Keeps k s (Err e) = (number_of e ≡ 7) × (Held k s → ⊥)

-- whether every work of a paper is held
abbrev pub ListsHeld : Task → List ℕ → Result (Unit {0}) Refusal → Type 0
ListsHeld k paper (Ok _) = All (λ w. w < length k.works) paper
ListsHeld k paper (Err e) = (number_of e ≡ 7) × (All (λ w. w < length k.works) paper → ⊥)

module _ {V : Type 0} (t : Scale V) where
  -- a question that is refused for its arguments: which refusal comes when
  abbrev pub Misput : Task → List V → Set → ℕ → Refusal → Type 0
  Misput k prices bars places e =
      ((number_of e ≡ 5) × (length prices ≢ length k.works))
      ⊎ (((number_of e ≡ 6) × (length prices ≡ length k.works) × (All t.within prices → ⊥))
      ⊎ (((number_of e ≡ 7) × Fair t k prices × (Held k bars → ⊥))
      ⊎ ((number_of e ≡ 8) × Fair t k prices × Held k bars × (places < length k.works))))

  -- a marking that is refused for its arguments: which refusal comes when
  abbrev pub Illegible : Task → List V → Set → List ℕ → Refusal → Type 0
  Illegible k prices bars paper e =
      ((number_of e ≡ 5) × (length prices ≢ length k.works))
      ⊎ (((number_of e ≡ 6) × (length prices ≡ length k.works) × (All t.within prices → ⊥))
      ⊎ (((number_of e ≡ 11) × Fair t k prices × (64 < length paper))
      ⊎ (((number_of e ≡ 7) × Fair t k prices × (length paper ≤ 64) × (Held k bars → ⊥))
      ⊎ ((number_of e ≡ 7) × Fair t k prices × (length paper ≤ 64) × Held k bars × (All (λ w. w < length k.works) paper → ⊥)))))

  -- whether the arguments of a marking are readable
  abbrev pub Reads : Task → List V → Set → List ℕ → Result (Unit {0}) Refusal → Type 0
  Reads k prices bars paper (Ok _) = Readable t k prices bars paper
  Reads k prices bars paper (Err e) = Illegible k prices bars paper e

-- whether the arguments of a question are valid
abbrev pub Checked : {V : Type 0} → Scale V → Task → List V → Set → ℕ → Result (Unit {0}) Refusal → Type 0
Checked t k prices bars places (Ok _) = Valid t k prices bars places
Checked t k prices bars places (Err e) = Misput t k prices bars places e
