use Rattle.std.proofs.Common.{◌≡◌, length, take}
use Rattle.scheme.specs.Edits.{with_works}
use Rattle.scheme.specs.Task.{task_of}
use Rattle.scheme_file.specs.Passes.{Entering}
use Rattle.scheme_file.proofs.filling.fill_works.Given as goal

-- the works before are entered and their rows filled, and the scheme's sets are as they were
abbrev pub invariant-loop-row : goal.invariant-loop-row
invariant-loop-row l =
    Entering l.bytes l.initial.at (task_of l.scheme).works (take l.row-index l.rows) l.at (length l.initial.rows)
    × (task_of l.scheme ≡ with_works (task_of l.initial.scheme) (task_of l.scheme).works)
