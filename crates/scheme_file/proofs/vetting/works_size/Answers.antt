use Rattle.std.proofs.Common.{◌+◌, get_or, take, ◌∙◌, ap₂, arith}
use Rattle.std.proofs.lemmas.Result.{err_from_is_err_and}
use Rattle.std.proofs.lemmas.List.{take_more}
use Rattle.scheme.specs.Task.{idle}
use Rattle.scheme_file.specs.declared.rows.WorkRow.{WorkRow}
use Rattle.scheme_file.proofs.Vets.{name_size, works_at, works_push}
use Rattle.scheme_file.proofs.vetting.works_size.Goals as goal

abbrev none : WorkRow
none = record { pounds = 0; hours = 0; name = record { at = 0; len = 0 } }

pub returns-in_err-size : goal.returns-in_err-size
returns-in_err-size c =
    let failed = c.in_err-size.ensures in
    let p = err_from_is_err_and c.from_residual.result c.from_residual.ensures.1 in
    rw (p.1, p.2)
    (failed.0, λ fit. failed.1 (works_at c.args.works.now c.args.rows.now c.args.text.now c.loop-row.row-index none c.loop-row-test.true fit))

pub loop-row-preserved : goal.loop-row-preserved
loop-row-preserved c =
    let works = c.args.works.now in
    let rows = c.args.rows.now in
    let i = c.loop-row.row-index in
    let row = get_or rows i none in
    let one = c.in_ok-size.ensures.0 in
    let n = c.in_ok-size.ensures.1 in
    let more = works_push (take i works) (take i rows) c.args.text.now (get_or works i idle) row c.loop-row.invariant.0 one in
    let w = take_more works i idle (omega arith) in
    let r = take_more rows i none c.loop-row-test.true in
    rw (w, r) (
      more.0,
      ap₂ ◌+◌ c.loop-row.invariant.1 n ∙ more.1,
      omega (arith, c.loop-row.invariant.2, one.name.short, n, name_size c.args.text.now row.name one.lies),
    )
