use Rattle.std.proofs.Common.{List, None, sym, refl, subst, arith}
use Rattle.searcher.specs.declared.node.Node.{Node}
use Rattle.searcher.proofs.Walks.{Walk, walk_start, walk_split, walk_next, work_after, work_halved, work_some}
use Rattle.searcher.proofs.draw.Draw.least.Goals as goal

pub walk-init : goal.walk-init
walk-init g c =
    let draw = c.args.self.now in
    let At : List Node → Type 0 =
    λ ns. Walk g.T.Tariff.scale draw.terms.prices.now draw.works draw.sets.now ns (record { chosen = c.empty.result; free = draw.works }) None
    in
    subst At (sym c.new-stack.ensures) (walk_start g.T.Tariff.scale draw.terms.prices.now draw.works draw.sets.now _ draw.low c.empty.ensures refl)

pub walk-smaller-in-Continue : goal.walk-smaller-in-Continue
walk-smaller-in-Continue g c =
    let falls = work_halved c.walk.node c.in-Continue.with c.in-Continue.without c.in-Continue.ensures in
    let after = work_after c.walk.stack.items c.push.new.self.items c.in-Continue.without c.push.ensures.items in
    omega (arith, falls, after)

pub walk-preserved-in-Continue : goal.walk-preserved-in-Continue
walk-preserved-in-Continue g c =
    let draw = c.args.self.now in
    let At : List Node → Type 0 =
    λ ns. Walk g.T.Tariff.scale draw.terms.prices.now draw.works draw.sets.now ns c.in-Continue.with c.walk.best
    in
    subst At (sym c.push.ensures.items)
    (walk_split g.T.Tariff.scale draw.terms.prices.now draw.works draw.sets.now c.walk.stack.items c.walk.node c.in-Continue.with
    c.in-Continue.without c.walk.best c.walk.invariant c.in-Continue.ensures)

pub walk-smaller : goal.walk-smaller
walk-smaller g c =
    let before = work_after c.pop.new.self.items c.walk.stack.items c.in-Some.next c.in-Some.ensures.items in
    omega (arith, before, work_some c.walk.node)

pub walk-preserved : goal.walk-preserved
walk-preserved g c =
    let draw = c.args.self.now in
    let At : List Node → Type 0 =
    λ ns. Walk g.T.Tariff.scale draw.terms.prices.now draw.works draw.sets.now ns c.walk.node c.walk.best
    in
    walk_next g.T.Tariff.scale draw.terms.prices.now draw.works draw.sets.now c.pop.new.self.items c.walk.node c.in-Some.next c.walk.best
    c.in-Break.found (subst At c.in-Some.ensures.items c.walk.invariant) c.in-Break.ensures
