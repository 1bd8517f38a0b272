use Rattle.std.proofs.Common.{◌≡◌, ℕ, ◌<◌, List, map, length, get_or, sym, ap, ◌∙◌, arith}
use lib.ListN.{length-map}
use Rattle.std.proofs.lemmas.List.{get_or-map}
use Rattle.scheme_file.specs.declared.rows.ItemRow.{ItemRow}
use Rattle.scheme_file.specs.Contents.{item_in}
use Rattle.scheme_file.specs.Format.{Record, encode, item_record}
use Rattle.scheme_file.proofs.Puts.{put_as, record_room, record_step}
use Rattle.scheme_file.proofs.Vets.{items_at, name_size}
use Rattle.scheme_file.proofs.putting.Output.items.Goals as goal

abbrev none : ItemRow
none = record { number = 0; name = record { at = 0; len = 0 } }

-- the records to be put
abbrev all : List ItemRow → List ℕ → List Record
all items text = map item_record (map (item_in text) items)

-- each is that of its row
at_row :
    (items : List ItemRow) (text : List ℕ) (i : ℕ) →
    i < length items →
    (i < length (all items text)) × (item_record (item_in text (get_or items i none)) ≡ get_or (all items text) i (item_record (item_in text none)))
at_row items text i lt =
    let named = map (item_in text) items in
    let l = length-map items (item_in text) in (
      omega (arith, l, length-map named item_record),
      sym (get_or-map item_record named i (item_in text none) (item_record (item_in text none)) (omega arith)
          ∙ ap item_record (get_or-map (item_in text) items i none (item_in text none) lt)),
    )

pub item-requires : goal.item-requires
item-requires c =
    let items = c.args.items.now in
    let text = c.args.self.now.text.now in
    let i = c.loop-row.row-index in
    let row = get_or items i none in
    let fits = items_at items text i none c.loop-row-test.true c.requires.0 in
    let long = name_size text row.name fits.lies in
    let r = at_row items text i c.loop-row-test.true in
    let room = record_room (all items text) i (item_record (item_in text none)) r.0 c.loop-row.invariant c.requires.1 in
    rw c.loop-row.invariant.text (fits.lies, omega (arith, fits.name.short), omega (arith, room, ap (λ x. length (encode x)) r.1))

pub loop-row-preserved : goal.loop-row-preserved
loop-row-preserved c =
    let items = c.args.items.now in
    let text = c.args.self.now.text.now in
    let i = c.loop-row.row-index in
    let r = at_row items text i c.loop-row-test.true in
    let same = ap (λ t. encode (item_record (item_in t (get_or items i none)))) c.loop-row.invariant.text ∙ ap encode r.1 in
    record_step (all items text) i (item_record (item_in text none)) r.0 c.loop-row.invariant (put_as same c.item.ensures)
