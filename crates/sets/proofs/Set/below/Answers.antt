use Rattle.std.proofs.Common.{arith}
use Rattle.std.proofs.lemmas.Nat.{one_shl}
use Rattle.sets.proofs.Laws.{below_members}
use Rattle.sets.proofs.Set.below.Goals as goal

pub returns-then-n-lt-LIMIT : goal.returns-then-n-lt-LIMIT
returns-then-n-lt-LIMIT c k =
    let n = c.args.n in
    let m = below_members n k in
    rw (one_shl n 64 c.if-n-lt-LIMIT.true) (λ h. (m.0 h, omega (arith, m.0 h)), λ p. m.1 p.0)

pub returns-else-n-lt-LIMIT : goal.returns-else-n-lt-LIMIT
returns-else-n-lt-LIMIT c k =
    let m = below_members 64 k in (λ h. (omega (arith, m.0 h), m.0 h), λ p. m.1 p.1)
