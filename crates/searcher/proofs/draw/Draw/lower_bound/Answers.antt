use Rattle.std.proofs.Common.{rules}
use Rattle.searcher.proofs.Bounding.{bounds_picked}
use Rattle.searcher.proofs.draw.Draw.lower_bound.Goals as goal

pub returns : goal.returns
returns g c =
    bounds_picked g.T.Tariff.scale c.args.self.now.terms.prices.now _ c.args.self.now.sets.now c.args.node c.bound.result c.bound.ensures.taken
    c.bound.ensures.paired (λ shared w p. search rules)
