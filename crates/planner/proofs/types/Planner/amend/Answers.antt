use Rattle.rules.proofs.Effects.{effect_amended, effect_not_amended}
use Rattle.planner.proofs.Leading.{led_by_effect}
use Rattle.rules.specs.Calls.Call.{amend}
use Rattle.planner.proofs.types.Planner.amend.Goals as goal

pub returns-in_err-amend-clause-effect : goal.returns-in_err-amend-clause-effect
returns-in_err-amend-clause-effect g c = effect_not_amended _ _ _ _ _ _ _ _ _ c.in_err-amend.ensures

pub returns-clause-effect : goal.returns-clause-effect
returns-clause-effect g c = rw c.clear.ensures (effect_amended _ _ _ _ _ _ _ _ c.in_ok-amend.ensures)

pub invariant_of-self : goal.invariant_of-self
invariant_of-self g c = record { led = led_by_effect _ _ {c = amend c.args.number c.args.work.needs c.args.work.gives} (effect_not_amended _ _ _ _ _ _ _ _ _ c.in_err-amend.ensures) c.args.self.now.led }

pub invariant_of-self-2 : goal.invariant_of-self-2
invariant_of-self-2 g c = record { led = led_by_effect _ _ {c = amend c.args.number c.args.work.needs c.args.work.gives} (rw c.clear.ensures (effect_amended _ _ _ _ _ _ _ _ c.in_ok-amend.ensures)) c.args.self.now.led }
