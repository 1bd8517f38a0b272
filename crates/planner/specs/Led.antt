-- What a planner can hold and keep: what some list of calls since an opening leads to.
use Rattle.std.specs.Prelude.{ℕ, List}
use Rattle.sets.specs.declared.Set.{Set}
use Rattle.scheme.specs.Task.{Task}
use Rattle.tariff.specs.Amounts.{Scale}
use Rattle.rules.specs.Calls.{Call, Since}

abbrev pub Led : {V : Type 0} (t : Scale V) (capacity : ℕ) → Task → List Set → Type 0
Led {V} t capacity k kept = ∥ ((calls : List (Call V)) × Since t capacity calls k kept) ∥₁
