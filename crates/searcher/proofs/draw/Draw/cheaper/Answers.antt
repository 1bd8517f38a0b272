use Rattle.searcher.proofs.Prices.{cheaper_new}
use Rattle.searcher.proofs.draw.Draw.cheaper.Goals as goal

pub returns-then-is_less : goal.returns-then-is_less
returns-then-is_less g c =
    cheaper_new g.T.Tariff.scale c.args.self.now.terms.prices.now c.args.v c.args.w c.cost_of-2.result c.cost_of.result
    c.cost_of-2.ensures c.cost_of.ensures (c.is_less.ensures.0 c.if-is_less.true)
