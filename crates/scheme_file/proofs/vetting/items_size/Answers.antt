use Rattle.std.proofs.Common.{◌+◌, get_or, take, sym, ◌∙◌, ap₂, subst, arith}
use Rattle.std.proofs.lemmas.Result.{err_from_is_err_and}
use Rattle.std.proofs.lemmas.List.{take_more}
use Rattle.scheme_file.specs.declared.rows.ItemRow.{ItemRow}
use Rattle.scheme_file.specs.Passes.{ItemFits}
use Rattle.scheme_file.proofs.Vets.{items_at, items_push, name_size}
use Rattle.scheme_file.proofs.vetting.items_size.Goals as goal

abbrev none : ItemRow
none = record { number = 0; name = record { at = 0; len = 0 } }

pub returns-in_err-size : goal.returns-in_err-size
returns-in_err-size c =
    let items = c.args.items.now in
    let text = c.args.text.now in
    let failed = c.in_err-size.ensures in
    let p = err_from_is_err_and c.from_residual.result c.from_residual.ensures.1 in
    rw (p.1, p.2) (
      failed.0,
      λ fit.
          let at = items_at items text c.loop-row.row-index none c.loop-row-test.true fit in
          failed.1 (subst (λ n. ItemFits text n (get_or items c.loop-row.row-index none)) (sym c.loop-row.invariant.1) at),
    )

pub loop-row-preserved : goal.loop-row-preserved
loop-row-preserved c =
    let items = c.args.items.now in
    let i = c.loop-row.row-index in
    let row = get_or items i none in
    let one = c.in_ok-size.ensures.0 in
    let n = c.in_ok-size.ensures.1 in
    let more = items_push (take i items) c.args.text.now c.loop-row.least row c.loop-row.invariant.0 c.loop-row.invariant.1 one in
    let e = take_more items i none c.loop-row-test.true in
    rw e (
      more.0,
      more.1,
      ap₂ ◌+◌ c.loop-row.invariant.2 n ∙ more.2,
      omega (arith, c.loop-row.invariant.3, one.name.short, n, name_size c.args.text.now row.name one.lies),
      omega (arith, c.loop-row.invariant.4, one.above),
      omega (arith, one.low),
    )
