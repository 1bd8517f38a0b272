use Rattle.std.proofs.Common.{◌≡◌, ◌*◌, ◌≤◌, map, length, take}
use Rattle.scheme_file.specs.Contents.{entries}
use Rattle.scheme_file.specs.Format.{bytes_of, work_record}
use Rattle.scheme_file.specs.Passes.{WorksFit}
use Rattle.scheme_file.proofs.vetting.works_size.Given as goal

-- the rows before fit, and their records have that size
abbrev pub invariant-loop-row : goal.invariant-loop-row
invariant-loop-row l =
    WorksFit (take l.row-index l.works) (take l.row-index l.rows) l.text
    × (l.size ≡ length (bytes_of (map work_record (entries l.text (take l.row-index l.works) (take l.row-index l.rows)))))
    × (l.size ≤ 64 * l.row-index)
