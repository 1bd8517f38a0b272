use Rattle.std.proofs.Common.{arith}
use Rattle.std.proofs.lemmas.Nat.{one_shl}
use Rattle.sets.proofs.Laws.{only_members, none_has}
use Rattle.sets.proofs.Set.only.Goals as goal

pub returns-then-k-lt-LIMIT : goal.returns-then-k-lt-LIMIT
returns-then-k-lt-LIMIT c j =
    let k = c.args.k in
    rw (one_shl k 64 c.if-k-lt-LIMIT.true) (λ h. ((only_members k j).0 h, c.if-k-lt-LIMIT.true), λ p. (only_members k j).1 p.0)

pub returns-else-k-lt-LIMIT : goal.returns-else-k-lt-LIMIT
returns-else-k-lt-LIMIT c j = (λ h. absurd (none_has j h), λ p. absurd (omega (arith, p.1)))
