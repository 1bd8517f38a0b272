-- The held works that are not barred.
use Rattle.std.proofs.Common.{◌<◌, length}
use Rattle.sets.specs.declared.Set.{Set}
use Rattle.sets.specs.Member.{Has, Members}
use Rattle.scheme.specs.Task.{Task}
use Rattle.scheme.specs.Reach.{Sufficient}
use Rattle.scheme.proofs.Reaches.{sufficient_grows}
use Rattle.rules.specs.Rules.{Unbarred}

module _ (k : Task) (bars s : Set) (free : Members s (λ w. (w < length k.works) × Unbarred bars w)) where
  pub unbarred_enough : Sufficient k (Has s) → Sufficient k (Unbarred bars)
  unbarred_enough = sufficient_grows k (Has s) (Unbarred bars) (λ w held y. ((free w).0 y).1)

  pub enough_unbarred : Sufficient k (Unbarred bars) → Sufficient k (Has s)
  enough_unbarred = sufficient_grows k (Unbarred bars) (Has s) (λ w held y. (free w).1 (held, y))
