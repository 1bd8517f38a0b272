-- The record of a scheme file.
use Rattle.std.specs.Prelude.{◌≡◌, ℕ, zero, suc, cond, ◌⊎◌, List, [], ◌∷◌, ◌++◌, codes, decimal, ◌==◌}
use Rattle.scheme.specs.Task.{Task}
use Rattle.scheme_file.specs.declared.causes.Fault.{Fault}
use Rattle.scheme_file.specs.declared.rows.WorkRow.{WorkRow}
use Rattle.scheme_file.specs.declared.rows.ItemRow.{ItemRow}
use Rattle.scheme_file.specs.Causes.{cause_number}
use Rattle.scheme_file.specs.Contents.{bytes_at, Reads}
use Rattle.scheme_file.specs.Faults.{Faulty}
use Rattle.inspection.specs.Record.{Recorded}

-- the name of the work of a number, by its row
abbrev pub work_in : List ℕ → List WorkRow → ℕ → List ℕ
work_in bytes [] w = []
work_in bytes (r ∷ rows) zero = bytes_at bytes r.name
work_in bytes (r ∷ rows) (suc w) = work_in bytes rows w

-- the name of an item, by the first row with its number
abbrev pub item_in : List ℕ → List ItemRow → ℕ → List ℕ
item_in bytes [] i = []
item_in bytes (r ∷ rows) i = cond (r.number == i) (bytes_at bytes r.name) (item_in bytes rows i)

-- what is printed of a fault: the number of its cause, and the offset
abbrev pub refusal : Fault → List ℕ
refusal f = codes "refused " ++ (decimal (cause_number f.cause) ++ (codes " at " ++ (decimal f.offset ++ codes "\n")))

-- what a file holds, and the record of it
pub record Accepted (bytes text : List ℕ) : Type 0 where
  pub task : Task
  pub rows : List WorkRow
  pub items : List ItemRow
  pub reads : Reads bytes task rows items
  pub recorded : Recorded task (work_in bytes rows) (item_in bytes items) text

-- What is printed of a file: the record of the scheme that it holds, or its fault. The lent lists have that many rows.
abbrev pub Inspected : List ℕ → ℕ → ℕ → List ℕ → Type 0
Inspected bytes works items text =
    Accepted bytes text ⊎ ((f : Fault) × Faulty bytes works items f × (text ≡ refusal f))
