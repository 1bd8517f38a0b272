use Rattle.std.proofs.Common.{rules}
use Rattle.chooser.proofs.terms.Terms.compare_costs.Goals as goal

pub returns-else-is_less-2 : goal.returns-else-is_less-2
returns-else-is_less-2 g c first second =
    let a = c.set_cost-first.ensures first in
    let b = c.set_cost-second.ensures second in
    search rules
