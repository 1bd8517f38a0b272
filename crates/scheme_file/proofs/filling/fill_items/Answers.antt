use Rattle.std.proofs.Common.{◌≡◌, ℕ, ◌+◌, ◌≤◌, List, length, take, sym, subst, arith}
use Rattle.std.proofs.lemmas.List.{take_all, take_more_set}
use Rattle.scheme_file.specs.declared.kinds.Kind.TheVariants.{Item}
use Rattle.scheme_file.specs.declared.rows.ItemRow.{ItemRow}
use Rattle.scheme_file.specs.Passes.{Ahead, Listed}
use Rattle.scheme_file.specs.Rules.{after}
use Rattle.scheme_file.proofs.Fills.{item_at, item_step, room_here, size_here}
use Rattle.scheme_file.proofs.filling.fill_items.Goals as goal

pub item_row-requires : goal.item_row-requires
item_row-requires c =
    let t = c.loop-row.invariant c.requires.0 c.requires.1 in
    let n = item_at c.loop-row.rows c.loop-row.row-index c.loop-row.at (length c.args.rows.now) c.requires.0 (omega arith) c.loop-row-test.true t in
    (omega (arith, room_here n, n.kept.0), omega (arith, size_here n, n.kept.0), omega (arith, size_here n, room_here n))

pub overflow_add-at : goal.overflow_add-at
overflow_add-at c =
    let t = c.loop-row.invariant c.requires.0 c.requires.1 in
    let n = item_at c.loop-row.rows c.loop-row.row-index c.loop-row.at (length c.args.rows.now) c.requires.0 (omega arith) c.loop-row-test.true t in
    omega (arith, size_here n, room_here n, c.item_row.ensures.len, c.item_row.ensures.start, c.well_formed)

pub loop-row-preserved : goal.loop-row-preserved
loop-row-preserved c m s =
    let made = c.item_row.ensures in
    let row = c.item_row.result in
    let bytes = c.args.bytes.now in
    let i = c.loop-row.row-index in
    let rows = c.loop-row.rows in
    let t = c.loop-row.invariant m s in
    let n = item_at rows i c.loop-row.at (length c.args.rows.now) m (omega arith) c.loop-row-test.true t in
    let at' = row.name.at + row.name.len in
    let e : at' ≡ c.loop-row.at + (4 + length n.body) = omega (arith, size_here n, made.len, made.start) in
    let q = after t.0 Item n.body in
    let A : ℕ → Type 0 = λ x. Ahead bytes x q t.1 in
    let L : List ItemRow → Type 0 = λ x. Listed bytes x at' q in (
      q,
      t.1,
      subst A (sym e) n.ahead,
      record { low = omega arith; high = omega arith },
      subst L (sym (take_more_set rows i row (omega arith))) (item_step (take i rows) row n t.4 made.number made.start made.len at' e),
      t.5,
      t.6,
    )

pub returns : goal.returns
returns c = let all : length c.loop-row.rows ≤ c.loop-row.row-index = omega arith in rw take_all at c.loop-row.invariant
