use Rattle.rules.proofs.Plans.{plan_of_sufficient, sufficient_of_plan, no_plan_of_insufficient}
use Rattle.rules.proofs.facts.reach_tells.Goals as goal

pub returns : goal.returns
returns c k bars = record {
  within = plan_of_sufficient k bars;
  beyond = no_plan_of_insufficient k bars;
  sufficient = λ order plan. sufficient_of_plan k bars plan;
}
