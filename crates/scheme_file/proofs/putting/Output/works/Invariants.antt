use Rattle.std.proofs.Common.{map, length, take}
use Rattle.scheme_file.specs.Contents.{entries}
use Rattle.scheme_file.specs.Format.{bytes_of, work_record}
use Rattle.scheme_file.specs.Passes.{Put}
use Rattle.scheme_file.proofs.putting.Output.works.Given as goal

-- the records before are put
abbrev pub invariant-loop-work : goal.invariant-loop-work
invariant-loop-work l =
    (goal.iterator-loop-work).can_next l.work-iterator
    × (goal.iterator-loop-work).is_finite l.work-iterator
    × Put l.initial.self (bytes_of (take (length l.yielded) (map work_record (entries l.initial.self.text.now l.works l.rows)))) l.self
