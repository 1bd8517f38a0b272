use Rattle.std.proofs.lemmas.Result.{err_from_is_err_and}
use Rattle.planner.proofs.Judging.{marked_illegible, marked_flawed, marked_refused, marked_compared}
use Rattle.planner.proofs.Leading.{assured_marking, led_found}
use Rattle.planner.proofs.types.Planner.mark.Goals as goal

pub returns-in_err-check_paper : goal.returns-in_err-check_paper
returns-in_err-check_paper g c =
    let p = err_from_is_err_and c.from_residual.result c.from_residual.ensures.1 in
    let marks =
    marked_illegible g.T.Tariff.scale g.C.Chooser.room _ _ _ _ (g.C.Chooser.kept c.args.self.now.chooser) _
    c.in_err-check_paper.ensures
    in
    rw (p.1, p.2) (record { marks = marks; assured = assured_marking _ _ c.args.self.now.led marks.promised })

pub returns-in-Some : goal.returns-in-Some
returns-in-Some g c =
    let marks =
    marked_flawed g.T.Tariff.scale g.C.Chooser.room _ _ _ _ (g.C.Chooser.kept c.args.self.now.chooser)
    c.in_ok-check_paper.ensures _ c.in-Some.ensures
    in record { marks = marks; assured = assured_marking _ _ c.args.self.now.led marks.promised }

pub returns-in_err-found : goal.returns-in_err-found
returns-in_err-found g c =
    let p = err_from_is_err_and c.from_residual-in_err-found.result c.from_residual-in_err-found.ensures.1 in
    let marks = marked_refused _ _ _ _ _ _ _ c.in_ok-check_paper.ensures c.in_default.ensures _ _ c.in_err-found.ensures in
    rw (p.1, p.2) (record { marks = marks; assured = assured_marking _ _ c.args.self.now.led marks.promised })

pub returns : goal.returns
returns g c =
    let marks =
    marked_compared _ _ _ _ _ _ _ c.in_ok-check_paper.ensures c.in_default.ensures c.in_ok-found.found _ _
    c.in_ok-found.ensures c.compare.ensures
    in record { marks = marks; assured = assured_marking _ _ c.args.self.now.led marks.promised }

pub invariant_of-self-2 : goal.invariant_of-self-2
invariant_of-self-2 g c = record { led = led_found _ _ _ _ _ c.in_ok-check_paper.ensures c.find.result c.find.ensures c.args.self.now.led }
