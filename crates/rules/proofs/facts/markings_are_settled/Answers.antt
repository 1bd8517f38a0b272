use Rattle.rules.proofs.Existence.{marked_exists}
use Rattle.rules.proofs.Unique.{marked_unique}
use Rattle.rules.proofs.facts.markings_are_settled.Goals as goal

pub returns : goal.returns
returns g c capacity k prices bars paper kept fair held marks fits =
    let m = marked_exists g.T.Tariff.scale k prices bars fair capacity kept marks fits paper held in
    record { marking = m.0; to = m.1; ruled = m.2; only = λ other after b. marked_unique b m.2 }
