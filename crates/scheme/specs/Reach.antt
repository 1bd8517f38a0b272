-- What some works can make stand (relaxed reachability).
use Rattle.std.specs.Prelude.{ℕ, ◌<◌, List, length}
use Rattle.sets.specs.declared.Set.{Set}
use Rattle.sets.specs.Member.{Sub}
use Rattle.scheme.specs.declared.Work.{Work}
use Rattle.scheme.specs.Task.{Task, work}

-- x holds the gives of each chosen work whose needs it holds.
abbrev pub Closed : List Work → (ℕ → Type 0) → Set → Type 0
Closed works chosen x =
    (w : ℕ) → w < length works → chosen w → Sub (work works w).needs x → Sub (work works w).gives x

-- The reach of the chosen works: the smallest closed set that holds the standing items.
pub record Reach (works : List Work) (chosen : ℕ → Type 0) (standing r : Set) : Type 0 where
  pub from : Sub standing r
  pub closed : Closed works chosen r
  pub smallest : (x : Set) → Sub standing x → Closed works chosen x → Sub r x

-- The chosen works are sufficient: their reach holds every wanted item. (Said of every closed set, so that no reach has to be named.)
abbrev pub Sufficient : Task → (ℕ → Type 0) → Type 0
Sufficient k chosen = (x : Set) → Sub k.standing x → Closed k.works chosen x → Sub k.wanted x
