use Rattle.std.proofs.Common.{w64, arith}
use Rattle.std.proofs.lemmas.Nat.Bits.{bit_at-trailing_zeros}
use Rattle.sets.specs.Member.{Has}
use Rattle.sets.proofs.Laws.{none_or_some}
use Rattle.sets.proofs.Set.lowest.Goals as goal

pub returns-then-self-eq0 : goal.returns-then-self-eq0
returns-then-self-eq0 c = (none_or_some c.args.self).0 c.if-self-eq0.true

pub returns-else-self-eq0 : goal.returns-else-self-eq0
unfolding Has
returns-else-self-eq0 c =
    let low = bit_at-trailing_zeros w64 c.args.self.bits (omega (arith, c.if-self-eq0.false)) (omega arith) in
    (record { member = low.1; first = λ j lt h. omega (arith, low.2 j lt) }, low.0)
