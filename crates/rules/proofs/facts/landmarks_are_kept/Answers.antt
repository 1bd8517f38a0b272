use Rattle.rules.proofs.Kept.{since_marks, since_fits}
use Rattle.rules.proofs.facts.landmarks_are_kept.Goals as goal

pub returns : goal.returns
returns g c capacity calls k kept since = (since_marks since, since_fits since)
