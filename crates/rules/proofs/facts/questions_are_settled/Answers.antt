use Rattle.rules.proofs.Existence.{asked_exists}
use Rattle.rules.proofs.Outcomes.{asked_right}
use Rattle.rules.proofs.Runs.{asked_rounds_most}
use Rattle.rules.proofs.Unique.{asked_unique}
use Rattle.rules.proofs.facts.questions_are_settled.Goals as goal

pub returns : goal.returns
returns g c capacity k prices bars kept fair marks fits =
    let t = g.T.Tariff.scale in
    let a = asked_exists t k prices bars fair capacity kept marks fits in
    record {
      outcome = a.0;
      to = a.1;
      ruled = a.2;
      right = asked_right t k prices bars fair a.2 marks;
      only = λ o after b. asked_unique b a.2;
      rounds_most = λ order total rounds e. asked_rounds_most a.2 fits e;
    }
