use Rattle.planner.proofs.Histories.{obeys_edit}
use Rattle.planner.proofs.types.Planner.obey.Goals as goal

pub returns-in-Enter : goal.returns-in-Enter
returns-in-Enter g c = obeys_edit _ _ _ _ _ _ c.in-Enter.is c.enter.ensures.effect

pub returns-in-Amend : goal.returns-in-Amend
returns-in-Amend g c = obeys_edit _ _ _ _ _ _ c.in-Amend.is c.amend.ensures.effect

pub returns-in-Stand : goal.returns-in-Stand
returns-in-Stand g c = obeys_edit _ _ _ _ _ _ c.in-Stand.is c.stand.ensures.effect

pub returns-in-Want : goal.returns-in-Want
returns-in-Want g c = obeys_edit _ _ _ _ _ _ c.in-Want.is c.want.ensures.effect

pub returns-in-Waive : goal.returns-in-Waive
returns-in-Waive g c = obeys_edit _ _ _ _ _ _ c.in-Waive.is c.waive.ensures.effect
