use Rattle.std.proofs.Common.{rules}
use Rattle.scheme.proofs.Scheme.pass.Goals as goal
use Rattle.scheme.proofs.Scheme.pass.Goals.{then-contains+then-is_subset, else-contains, else-contains-via-then-contains+else-is_subset, else-contains-via-else-contains}

pub loop-w-preserved : goal.loop-w-preserved
loop-w-preserved c =
    elim c.if-contains.branch [
      | then-contains+then-is_subset w ↦ search rules
      | else-contains w ↦ elim w.else-contains.branch [
        | else-contains-via-then-contains+else-is_subset v ↦ search rules
        | else-contains-via-else-contains v ↦ search rules
      ]
    ]
