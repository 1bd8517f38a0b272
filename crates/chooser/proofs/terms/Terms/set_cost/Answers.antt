use Rattle.std.proofs.Common.{arith}
use Rattle.chooser.proofs.Drained.{set_drained}
use Rattle.chooser.proofs.terms.Terms.set_cost.Goals as goal

pub returns : goal.returns
returns g c =
    let charged = c.total.ensures in
    set_drained g.T.Tariff.scale c.args.self.now.prices.now c.args.set c.iter.result charged.0 (g.T.Tariff.scale.amount c.total.result) (omega arith)
    c.iter.ensures charged.1 charged.2
