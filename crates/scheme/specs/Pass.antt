-- One pass through works on the way to a reach.
use Rattle.std.specs.Prelude.{ℕ, ◌<◌, List}
use Rattle.sets.specs.declared.Set.{Set}
use Rattle.sets.specs.Member.{Sub}
use Rattle.scheme.specs.declared.Work.{Work}
use Rattle.scheme.specs.Reach.{Closed}
use Rattle.scheme.specs.Task.{work}

-- After the works below n: r holds the items s and the gives of each chosen work whose needs s holds, and lies in every closed set that holds s.
pub record Pass (works : List Work) (chosen : ℕ → Type 0) (n : ℕ) (s r : Set) : Type 0 where
  pub from : Sub s r
  pub gives : (w : ℕ) → w < n → chosen w → Sub (work works w).needs s → Sub (work works w).gives r
  pub within : (x : Set) → Sub s x → Closed works chosen x → Sub r x
