use Rattle.rules.proofs.Unique.{since_unique}
use Rattle.rules.proofs.facts.calls_are_determined.Goals as goal

pub returns : goal.returns
returns g c capacity calls k k' kept kept' since since' = since_unique since since'
