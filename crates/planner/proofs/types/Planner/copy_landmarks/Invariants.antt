use Rattle.std.proofs.Common.{◌≡◌, map, take}
use Rattle.planner.specs.Landmarks.{number}
use Rattle.planner.proofs.types.Planner.copy_landmarks.Given as goal

abbrev pub invariant-loop-place : goal.invariant-loop-place
invariant-loop-place g l = take l.place l.first ≡ map number (take l.place (g.C.Chooser.kept l.self.chooser))
