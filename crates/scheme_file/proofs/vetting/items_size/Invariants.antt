use Rattle.std.proofs.Common.{◌≡◌, ◌*◌, ◌≤◌, map, length, take}
use Rattle.scheme_file.specs.Contents.{item_in}
use Rattle.scheme_file.specs.Format.{bytes_of, item_record}
use Rattle.scheme_file.specs.Passes.{ItemsFit, above}
use Rattle.scheme_file.proofs.vetting.items_size.Given as goal

-- the rows before fit, and their records have that size
abbrev pub invariant-loop-row : goal.invariant-loop-row
invariant-loop-row l =
    ItemsFit (take l.row-index l.items) l.text
    × (l.least ≡ above 0 (map (item_in l.text) (take l.row-index l.items)))
    × (l.size ≡ length (bytes_of (map item_record (map (item_in l.text) (take l.row-index l.items)))))
    × (l.size ≤ 45 * l.row-index)
    × (l.row-index ≤ l.least) × (l.least ≤ 64)
