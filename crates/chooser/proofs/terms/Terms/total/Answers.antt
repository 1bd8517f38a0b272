use Rattle.chooser.proofs.Tallies.{tally_more}
use Rattle.chooser.proofs.terms.Terms.total.Goals as goal

pub loop-w-preserved : goal.loop-w-preserved
loop-w-preserved g c =
    tally_more g.T.Tariff.scale c.args.self.now.prices.now c.loop-w.yielded c.in-Some.w c.loop-w.total c.charge-total.result c.loop-w.invariant
    c.charge-total.ensures
