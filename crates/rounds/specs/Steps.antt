-- What the steps of the code answer, in the words of the rules.
use Rattle.std.specs.Prelude.{◌≡◌, ℕ, ◌⊎◌, List, Some, None, Ok, Err, Option, Result}
use Rattle.sets.specs.declared.Set.{Set}
use Rattle.scheme.specs.Task.{Task}
use Rattle.scheme.specs.declared.refusals.Refusal.{Refusal}
use Rattle.scheme.specs.Refusals.{number_of}
use Rattle.scheme.specs.Reach.{Sufficient}
use Rattle.scheme.specs.Landmarks.{Landmark}
use Rattle.tariff.specs.Amounts.{Scale, All}
use Rattle.rules.specs.Rules.{Ending, Unbarred, Run, Settled}
use Rattle.rules.specs.Rules.Ending.{reached, exhausted}
use Rattle.rules.specs.Calls.{Fair, Valid}
use Rattle.rounds.specs.Checks.{Misput}
use Rattle.rounds.specs.declared.finding.Found.{Found}

-- the ending that a found set, or none, stands for
abbrev pub ending_of : Option Set → Ending
ending_of (Some s) = reached s
ending_of None = exhausted

-- What a run begins from: one price within the ceiling for each work, unbarred works that are sufficient, and kept sets that are landmarks.
pub record Ready {V : Type 0} (t : Scale V) (k : Task) (prices : List V) (bars : Set) (kept : List Set) : Type 0 where
  pub fair : Fair t k prices
  pub enough : Sufficient k (Unbarred bars)
  pub marks : All (Landmark k) kept

module _ {V : Type 0} (t : Scale V) (capacity : ℕ) (k : Task) (prices : List V) (bars : Set) (kept : List Set) where
  -- what a run found, the sets then kept and the number of its rounds are by the rules
  abbrev pub Runs : Option Set → List Set → ℕ → Type 0
  Runs found to rounds = Ready t k prices bars kept → Run t capacity k prices bars kept (ending_of found) to rounds

  -- the same of one run or two
  abbrev pub Settles : Option Set → List Set → ℕ → Type 0
  Settles found to rounds = Ready t k prices bars kept → Settled t capacity k prices bars kept (ending_of found) to rounds

-- What a search for the cheapest sufficient set answers, and the sets then kept.
abbrev pub Finds : {V : Type 0} → Scale V → ℕ → Task → List V → Set → List Set → Result Found Refusal → List Set → Type 0
Finds t capacity k prices bars kept (Ok f) to =
    Sufficient k (Unbarred bars) × Settles t capacity k prices bars kept (Some f.set) to f.rounds
Finds t capacity k prices bars kept (Err e) to =
    ((number_of e ≡ 9) × (Sufficient k (Unbarred bars) → ⊥) × (to ≡ kept))
    ⊎ ((number_of e ≡ 10) × Sufficient k (Unbarred bars) × ((n : ℕ) × Settles t capacity k prices bars kept None to n))

-- A question that is put: refused for its arguments, or searched for its cheapest set. The order is not written.
abbrev pub Puts : {V : Type 0} → Scale V → ℕ → Task → List V → Set → ℕ → List Set → Result Found Refusal → List Set → Type 0
Puts t capacity k prices bars places kept (Ok f) to =
    Valid t k prices bars places × Finds t capacity k prices bars kept (Ok f) to
Puts t capacity k prices bars places kept (Err e) to =
    (Misput t k prices bars places e × (to ≡ kept))
    ⊎ (Valid t k prices bars places × Finds t capacity k prices bars kept (Err e) to)
