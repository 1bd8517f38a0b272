use Rattle.std.proofs.Common.{◌≡◌, true, ltb, arith, ltb-true}
use Rattle.std.proofs.lemmas.Bool.{cases_from_iff}
use Rattle.sets.proofs.Laws.{has_below}
use Rattle.sets.proofs.Set.contains.Goals as goal

pub returns-else-k-lt-LIMIT : goal.returns-else-k-lt-LIMIT
returns-else-k-lt-LIMIT c =
    let k = c.args.k in
    cases_from_iff (λ (e : ltb k 64 ≡ true). absurd (omega (arith, ltb-true k 64 e)), λ h. absurd (omega (arith, has_below 64 c.args.self k (omega arith) h)))
