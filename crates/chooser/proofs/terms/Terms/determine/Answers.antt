use Rattle.chooser.proofs.Trimming.{candidates_below}
use Rattle.chooser.proofs.Existence.{draws_determined}
use Rattle.chooser.proofs.terms.Terms.determine.Goals as goal

pub returns : goal.returns
returns g c kept low =
    let t = g.T.Tariff.scale in
    let prices = c.args.self.now.prices.now in
    draws_determined t prices c.args.self.now.bars kept c.args.free
    (candidates_below t prices c.args.self.now.bars kept c.args.free 64 low c.requires)
