use Rattle.planner.proofs.Agreeing.{both_agree}
use Rattle.planner.proofs.Leading.{alike}
use Rattle.planner.proofs.pairs.ask_both.Goals as goal

pub returns-clause-agreed : goal.returns-clause-agreed
returns-clause-agreed g c =
    both_agree _ _ _ _ _ _ _ _ _ _ _ _ _ _ _ _ _ c.ask.ensures.asks.promised c.ask-2.ensures.asks.promised

pub returns-clause-alike : goal.returns-clause-alike
returns-clause-alike g c =
    alike _ g.C.Chooser.room g.D.Chooser.room _ _ (g.C.Chooser.kept c.args.one.now.chooser)
    (g.D.Chooser.kept c.args.other.now.chooser) _ _ _ _ _ _ _ _ c.args.one.now.led c.args.other.now.led
    (both_agree _ _ _ _ _ _ _ _ _ _ _ _ _ _ _ _ _ c.ask.ensures.asks.promised c.ask-2.ensures.asks.promised)
