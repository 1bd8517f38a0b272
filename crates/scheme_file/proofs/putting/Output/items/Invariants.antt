use Rattle.std.proofs.Common.{map, take}
use Rattle.scheme_file.specs.Contents.{item_in}
use Rattle.scheme_file.specs.Format.{bytes_of, item_record}
use Rattle.scheme_file.specs.Passes.{Put}
use Rattle.scheme_file.proofs.putting.Output.items.Given as goal

-- the records before are put
abbrev pub invariant-loop-row : goal.invariant-loop-row
invariant-loop-row l =
    Put l.initial.self (bytes_of (take l.row-index (map item_record (map (item_in l.initial.self.text.now) l.items)))) l.self
