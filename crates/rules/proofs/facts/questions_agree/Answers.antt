use Rattle.rules.proofs.Outcomes.{asked_agree}
use Rattle.rules.proofs.facts.questions_agree.Goals as goal

pub returns : goal.returns
returns g c capacity capacity' k prices bars kept kept' to to' o o' fair marks marks' a a' =
    asked_agree g.T.Tariff.scale k prices bars fair a a' marks marks'
