use Rattle.std.proofs.Common.{◌∙◌, sym}
use Rattle.rules.proofs.Existence.{draws_some}
use Rattle.rules.proofs.Runs.{onward_more, onward_reached, onward_exhausted}
use Rattle.rounds.proofs.Tested.{where_err, where_ok}
use Rattle.rounds.proofs.question.Question.run.Goals as goal

-- over landmarks a draw does not come out empty
pub returns-in_default-clause-ruled : goal.returns-in_default-clause-ruled
returns-in_default-clause-ruled g c ready =
    absurd (draws_some _ _ _ _ ready.fair ready.enough _ (c.round.invariant.marks ready.marks) c.in_default.ensures)

pub returns-in_default-landmark-clause-ruled : goal.returns-in_default-landmark-clause-ruled
returns-in_default-landmark-clause-ruled g c ready =
    onward_reached _ _ _ _ _ c.round.invariant c.in-Some.ensures c.in_default-landmark.ensures

pub returns-then-is_err-clause-ruled : goal.returns-then-is_err-clause-ruled
returns-then-is_err-clause-ruled g c ready =
    let full = where_err _ _ c.add.result (sym c.is_err.ensures.value ∙ c.if-is_err.true) c.add.ensures in
    rw full.1 (onward_exhausted _ _ _ _ _ c.round.invariant c.in-Some.ensures c.in-Some-landmark.ensures.0 full.0)

pub round-preserved : goal.round-preserved
round-preserved g c =
    let drawn = c.in-Some-landmark.ensures in
    let added = where_ok _ _ c.add.result (sym c.is_err.ensures.value ∙ c.if-is_err.false) c.add.ensures in
    rw added.1 (onward_more _ _ _ _ _ c.round.invariant c.in-Some.ensures drawn.0 added.0 drawn.1)
