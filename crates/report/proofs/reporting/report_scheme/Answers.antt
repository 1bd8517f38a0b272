use Rattle.std.proofs.Common.{◌≡◌, ℕ, List, ◌++◌, map, take, Ok, Err, ap, ◌∙◌, subst}
use native.Mathlib.Nat.{sub-zero}
use Rattle.std.specs.List.{flat_map}
use Rattle.std.proofs.lemmas.List.{take_all}
use Rattle.scheme.specs.Task.{task_of}
use Rattle.page.specs.Puts.{Published}
use Rattle.planner.specs.Parts.{scheme_of}
use Rattle.report.specs.Lines.{total_line}
use Rattle.report.specs.Rows.{row_line, row_pounds}
use Rattle.report.proofs.Telling.{printed, tells}
use Rattle.report.proofs.reporting.report_scheme.Goals as goal

pub returns-in-Ok : goal.returns-in-Ok
returns-in-Ok g c =
    let bytes = c.args.bytes.now in
    let rows = c.args.rows.now in
    let k = task_of (scheme_of c.args.planner.now) in
    let order = c.ask.new.order in
    let a = c.in-Ok.answer in
    let listed : c.as_slice.result.now ≡ map row_pounds rows =
    c.as_slice.ensures.value ∙ c.loop-row.invariant ∙ ap (map row_pounds) (take_all c.loop-row.row-index rows c.loop-row-test.false)
    in
    let Shown : ℕ → Type 0 = λ n.
    Published (flat_map (row_line bytes rows) (take n order) ++ total_line a.total) c.args.page.now c.publish.result c.publish.new.page
    in
    record {
      text = printed bytes k rows c.requires.reads.0 c.requires.reads.1 (Ok a) order;
      answered = tells bytes k rows c.requires.reads.0 c.requires.reads.1 _ listed g.C.Chooser.room _ _ (Ok a) order _ _ c.requires.opens c.empty.ensures
          c.in-Ok.ensures.asks.same c.in-Ok.ensures.asks.promised;
      published = subst Shown (sub-zero a.length) c.publish.ensures;
    }

pub returns-in-Err : goal.returns-in-Err
returns-in-Err g c =
    let bytes = c.args.bytes.now in
    let rows = c.args.rows.now in
    let k = task_of (scheme_of c.args.planner.now) in
    let order = c.ask.new.order in
    let e = c.in-Err.refusal in
    let listed : c.as_slice.result.now ≡ map row_pounds rows =
    c.as_slice.ensures.value ∙ c.loop-row.invariant ∙ ap (map row_pounds) (take_all c.loop-row.row-index rows c.loop-row-test.false)
    in
    let Shown : List ℕ → Type 0 = λ text. Published text c.args.page.now c.publish-in-Err.result c.publish-in-Err.new.page in
    record {
      text = printed bytes k rows c.requires.reads.0 c.requires.reads.1 (Err e) order;
      answered = tells bytes k rows c.requires.reads.0 c.requires.reads.1 _ listed g.C.Chooser.room _ _ (Err e) order _ _ c.requires.opens c.empty.ensures
          c.in-Err.ensures.asks.same c.in-Err.ensures.asks.promised;
      published = subst Shown c.from.ensures c.publish-in-Err.ensures;
    }
