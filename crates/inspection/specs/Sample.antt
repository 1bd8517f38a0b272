-- The sample junction.
use Rattle.std.specs.Prelude.{◌≡◌, ℕ, List, [], ◌∷◌, ◌++◌, map, codes, slice_index_or}
use Rattle.sets.specs.declared.Set.{Set}
use Rattle.sets.specs.Member.{none}
use Rattle.scheme.specs.declared.Work.{Work}
use Rattle.scheme.specs.Edits.{with_works}
use Rattle.scheme.specs.Task.{Task}

-- the set with a number
abbrev pub set_of : ℕ → Set
set_of n = record { bits = n }

-- a work by the numbers of its needs and gives
abbrev pub work_of : ℕ × ℕ → Work
work_of p = record { needs = set_of p.0; gives = set_of p.1 }

-- after holds what k holds and, behind its works, the given ones
abbrev pub Holds : Task → List (ℕ × ℕ) → Task → Type 0
Holds k works after = after ≡ with_works k (k.works ++ map work_of works)

-- the needs and gives of Trench, Duct, Supply, Controller, Loops, Radar and Priority
abbrev pub table : List (ℕ × ℕ)
table = (0, 3) ∷ (0, 1) ∷ (0, 2) ∷ (3, 4) ∷ (1, 8) ∷ (4, 8) ∷ (12, 16) ∷ []

-- the sample junction: nothing stands, and item 4 is wanted
abbrev pub sample : Task
sample = record { works = map work_of table; standing = none; wanted = set_of 16 }

-- the names of its works
abbrev pub work_name : ℕ → List ℕ
work_name w =
    slice_index_or (codes "Trench" ∷ codes "Duct" ∷ codes "Supply" ∷ codes "Controller" ∷ codes "Loops" ∷ codes "Radar" ∷ codes "Priority" ∷ []) w []

-- the names of its items
abbrev pub item_name : ℕ → List ℕ
item_name i =
    slice_index_or (codes "Duct" ∷ codes "Supply" ∷ codes "Controller" ∷ codes "Detection" ∷ codes "Priority" ∷ []) i []
