use Rattle.std.proofs.Common.{rules}
use Rattle.scheme.specs.Orders.{finished}
use Rattle.scheme.proofs.Carryings.{carried_lacking, carried_more}
use Rattle.scheme.proofs.Scheme.carry_out.Goals as goal

pub loop-place-init : goal.loop-place-init
loop-place-init c = finished

pub returns-in-Some : goal.returns-in-Some
returns-in-Some c =
    carried_lacking c.args.order.now c.minus.result c.in_ok-work.work.now c.loop-place.invariant c.loop-place-test.true (search rules) (search rules) c.minus.ensures
    c.in-Some.ensures.0

pub loop-place-preserved : goal.loop-place-preserved
loop-place-preserved c =
    carried_more c.args.order.now c.minus.result c.in_ok-work.work.now c.loop-place.invariant c.loop-place-test.true (search rules) (search rules) c.minus.ensures
    c.in_default.ensures c.union-held.ensures
