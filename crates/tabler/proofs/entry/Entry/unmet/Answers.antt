use Rattle.std.proofs.Common.{rules}
use Rattle.tabler.proofs.Subsets.{lacking_none, lacking_less, lacking_over, lacking_all, lacking_within}
use Rattle.tabler.proofs.entry.Entry.unmet.Goals as goal

pub each-init : goal.each-init
each-init g c = search (rules, lacking_none)

pub each-preserved : goal.each-preserved
each-preserved g c = search (rules, lacking_less, lacking_over)

pub returns : goal.returns
returns g c = search (rules, lacking_all, lacking_within)
