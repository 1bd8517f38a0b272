use Rattle.std.proofs.Common.{◌-◌, length}
use Rattle.scheme.specs.Task.{task_of}
use Rattle.rules.proofs.Runs.{Onward}
use Rattle.rounds.proofs.question.Question.run.Given as goal

abbrev pub invariant-round : goal.invariant-round
invariant-round g l =
    Onward g.T.Tariff.scale g.C.Chooser.room (task_of l.self.scheme.now) l.self.terms.prices.now l.self.terms.bars
    (g.C.Chooser.kept l.initial.chooser) l.rounds (g.C.Chooser.kept l.chooser)

abbrev pub decreases-round : goal.decreases-round
decreases-round g l = g.C.Chooser.room - length (g.C.Chooser.kept l.chooser)
