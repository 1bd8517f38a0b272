use Rattle.std.proofs.Common.{rules}
use Rattle.searcher.proofs.Prices.{reduced}
use Rattle.searcher.proofs.draw.Draw.cheapest.Goals as goal

pub returns : goal.returns
returns g c =
    reduced g.T.Tariff.scale c.args.self.now.terms.prices.now _ _ (λ v w r h k. search rules) c.args.set c.iter.result c.reduce.result c.iter.ensures
    c.reduce.ensures.ran
