use Rattle.searcher.proofs.Steps.{closed_same, closed_chosen, dead, halved}
use Rattle.searcher.proofs.draw.Draw.advance.Goals as goal

pub returns-in_default : goal.returns-in_default
returns-in_default g c =
    let draw = c.args.self.now in
    closed_chosen g.T.Tariff.scale draw.terms.prices.now draw.sets.now c.args.node draw.works c.args.best c.requires.node c.in_default.ensures
    c.if-is_beaten.ensures

pub returns-in_default-cheapest : goal.returns-in_default-cheapest
returns-in_default-cheapest g c =
    let draw = c.args.self.now in
    let unmet = c.in-Some.ensures in
    closed_same g.T.Tariff.scale draw.terms.prices.now draw.sets.now c.args.node draw.works c.args.best
    (dead g.T.Tariff.scale draw.terms.prices.now draw.sets.now c.args.node c.args.best c.in-Some.one c.intersection.result unmet.0 unmet.1
    c.intersection.ensures c.in_default-cheapest.ensures)
    c.requires.best

pub returns : goal.returns
returns g c =
    let w = c.in-Some-cheapest.w in
    halved c.args.node c.with.result c.without.result w ((c.intersection.ensures w).0 c.in-Some-cheapest.ensures.member).1
    c.in-Some-cheapest.ensures.low c.with.ensures.chosen c.with.ensures.free c.without.ensures.chosen c.without.ensures.free
