use Rattle.std.proofs.Common.{◌≡◌, ℕ, ◌+◌, List, [], ◌++◌, get_or, take, sym, ap, ◌∙◌}
use Rattle.std.proofs.lemmas.List.{flat_map_more, take_all, take_more}
use Rattle.std.specs.List.{flat_map}
use Rattle.page.proofs.Laws.{adds_as, adds_more, adds_none}
use Rattle.report.specs.Rows.{row_line}
use Rattle.report.proofs.answers.LinesText.put.Goals as goal

pub loop-number-init : goal.loop-number-init
loop-number-init c = adds_none c.args.page.now

pub loop-number-preserved : goal.loop-number-preserved
loop-number-preserved c =
    let self = c.args.self.now in
    let order = self.order.now in
    let i = c.loop-number.number-index in
    let w = get_or order i 0 in
    let print : ℕ → List ℕ = row_line self.bytes.now self.rows.now in
    let more : flat_map print (take i order) ++ print w ≡ flat_map print (take (i + 1) order) =
    flat_map_more print [] (take i order) w ∙ sym (ap (flat_map print) (take_more order i 0 c.loop-number-test.true))
    in
    adds_as more (adds_more c.loop-number.invariant c.put_work.ensures)

pub returns : goal.returns
returns c =
    let self = c.args.self.now in
    let all = ap (flat_map (row_line self.bytes.now self.rows.now)) (take_all c.loop-number.number-index self.order.now c.loop-number-test.false) in
    adds_more (adds_as all c.loop-number.invariant) (adds_more c.put.ensures (adds_more c.put_number.ensures c.put-2.ensures))
