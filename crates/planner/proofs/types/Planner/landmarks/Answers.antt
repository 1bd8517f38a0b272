use Rattle.planner.proofs.Leading.{led_landmarks}
use Rattle.planner.proofs.types.Planner.landmarks.Goals as goal

pub returns-clause-landmarks : goal.returns-clause-landmarks
returns-clause-landmarks g c = led_landmarks _ _ c.args.self.now.led
