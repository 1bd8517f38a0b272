use Rattle.std.proofs.lemmas.Result.{err_from_is_err_and}
use Rattle.planner.proofs.Asking.{asked_refused, asked_answered, leads_put}
use Rattle.planner.proofs.Leading.{led_on, assured}
use Rattle.planner.proofs.types.Planner.ask.Goals as goal

pub returns-in_err-found : goal.returns-in_err-found
returns-in_err-found g c =
    let p = err_from_is_err_and c.from_residual.result c.from_residual.ensures.1 in
    let asks = asked_refused _ _ _ _ _ _ c.args.order.now _ _ c.in_err-found.ensures in
    rw (p.1, p.2) (record { asks = asks; assured = assured _ _ c.args.self.now.led asks.promised })

pub returns : goal.returns
returns g c =
    let asks =
    asked_answered _ _ _ _ _ _ c.args.order.now c.in_ok-found.found _ _ _ _ c.in_ok-found.ensures c.in_ok-length.ensures.1
    c.set_cost.ensures
    in record { asks = asks; assured = assured _ _ c.args.self.now.led asks.promised }

pub invariant_of-self : goal.invariant_of-self
invariant_of-self g c = record { led = led_on _ _ (leads_put _ _ _ _ _ _ _ c.put.result _ c.put.ensures) c.args.self.now.led }
