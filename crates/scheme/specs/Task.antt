-- A delete-free planning task: works (actions), items (facts), the items standing at the start and the wanted items.
use Rattle.std.specs.Prelude.{ℕ, List, vec_items, slice_index_or}
use Rattle.sets.specs.declared.Set.{Set}
use Rattle.sets.specs.Member.{none}
use Rattle.scheme.specs.declared.Work.{Work}
use Rattle.scheme.specs.declared.Scheme.{Scheme}

-- What a scheme holds: its works in order of entry, the items standing at the start and the wanted items.
pub record Task : Type 0 where
  pub works : List Work
  pub standing : Set
  pub wanted : Set

abbrev pub task_of : Scheme → Task
task_of s = record { works = vec_items s.works; standing = s.standing; wanted = s.wanted }

-- the work that needs and gives nothing: what is read past the last work
abbrev pub idle : Work
idle = record { needs = none; gives = none }

-- the work of number w
abbrev pub work : List Work → ℕ → Work
work works w = slice_index_or works w idle
