use Rattle.rules.proofs.Effects.{effect_entered, effect_not_entered}
use Rattle.planner.proofs.Leading.{led_by_effect}
use Rattle.rules.specs.Calls.Call.{enter}
use Rattle.planner.proofs.types.Planner.enter.Goals as goal

pub returns-in_err-number-clause-effect : goal.returns-in_err-number-clause-effect
returns-in_err-number-clause-effect g c = effect_not_entered _ _ _ _ _ _ _ _ c.in_err-number.ensures

pub returns-clause-effect : goal.returns-clause-effect
returns-clause-effect g c = rw c.clear.ensures (effect_entered _ _ _ _ _ _ _ _ c.in_ok-number.ensures)

pub invariant_of-self : goal.invariant_of-self
invariant_of-self g c = record { led = led_by_effect _ _ {c = enter c.args.work.needs c.args.work.gives} (effect_not_entered _ _ _ _ _ _ _ _ c.in_err-number.ensures) c.args.self.now.led }

pub invariant_of-self-2 : goal.invariant_of-self-2
invariant_of-self-2 g c = record { led = led_by_effect _ _ {c = enter c.args.work.needs c.args.work.gives} (rw c.clear.ensures (effect_entered _ _ _ _ _ _ _ _ c.in_ok-number.ensures)) c.args.self.now.led }
