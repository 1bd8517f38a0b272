use Rattle.std.proofs.Common.{ap, arith}
use Rattle.rules.proofs.Effects.{effect_waived, effect_not_waived}
use Rattle.planner.proofs.Leading.{led_by_effect}
use Rattle.rules.specs.Calls.Call.{waive}
use Rattle.planner.proofs.types.Planner.waive.Goals as goal

pub returns-in_err-waive-clause-effect : goal.returns-in_err-waive-clause-effect
returns-in_err-waive-clause-effect g c =
    let e = ap (λ s. s.bits) c.wanted-wanted.ensures in
    effect_not_waived _ _ _ _ _ _ _ (omega (arith, e)) c.in_err-waive.ensures

pub returns-clause-effect : goal.returns-clause-effect
returns-clause-effect g c = rw c.clear.ensures (effect_waived _ _ _ _ _ _ c.in_ok-waive.ensures)

pub invariant_of-self : goal.invariant_of-self
invariant_of-self g c =
    let e = ap (λ s. s.bits) c.wanted-wanted.ensures in
    record { led = led_by_effect _ _ {c = waive c.args.item} (effect_not_waived _ _ _ _ _ _ _ (omega (arith, e)) c.in_err-waive.ensures) c.args.self.now.led }

pub invariant_of-self-2 : goal.invariant_of-self-2
invariant_of-self-2 g c = record { led = led_by_effect _ _ {c = waive c.args.item} (rw c.clear.ensures (effect_waived _ _ _ _ _ _ c.in_ok-waive.ensures)) c.args.self.now.led }
