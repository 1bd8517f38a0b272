use Rattle.searcher.proofs.Prices.{only_cost}
use Rattle.searcher.proofs.draw.Draw.cost_of.Goals as goal

pub returns : goal.returns
returns g c = only_cost g.T.Tariff.scale c.args.self.now.terms.prices.now c.only.result c.args.w c.only.ensures c.set_cost.result c.set_cost.ensures
