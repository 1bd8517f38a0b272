use Rattle.std.proofs.Common.{arith}
use Rattle.sets.proofs.Laws.{has_below}
use Rattle.sets.proofs.Set.without.Goals as goal

pub returns : goal.returns
returns c j =
    let m = c.minus.ensures j in
    let only = c.only.ensures j in (
      λ h. ((m.0 h).0, λ e. (m.0 h).1 (only.1 (e, omega (arith, has_below 64 c.args.self j (omega arith) (m.0 h).0)))),
      λ p. m.1 (p.0, λ y. p.1 (only.0 y).0),
    )
