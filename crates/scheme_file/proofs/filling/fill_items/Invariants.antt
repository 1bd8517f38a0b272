use Rattle.std.proofs.Common.{ℕ, [], length, take}
use Rattle.scheme_file.specs.Passes.{Itemed}
use Rattle.scheme_file.proofs.filling.fill_items.Given as goal

-- the rows before are filled
abbrev pub invariant-loop-row : goal.invariant-loop-row
invariant-loop-row l =
    let n = length l.initial.rows in (m : ℕ) → Itemed l.bytes [] 4 n m → Itemed l.bytes (take l.row-index l.rows) l.at n m
