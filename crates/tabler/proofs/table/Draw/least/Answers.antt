use Rattle.std.proofs.Common.{◌-◌, arith}
use Rattle.tabler.proofs.BestChoices.{filled_more}
use Rattle.tabler.proofs.table.Draw.least.Goals as goal

pub invariant_of-entry-clause-filled : goal.invariant_of-entry-clause-filled
invariant_of-entry-clause-filled g c = ∣ (λ k lt. c.fill.invariant k (omega arith)) ∣₁

pub fill-preserved : goal.fill-preserved
fill-preserved g c =
    filled_more _ _ _ _ _ _ _ (omega arith) c.fill.invariant (rw (← c.from_bits-subset.ensures) c.best.ensures)

pub returns : goal.returns
returns g c = rw (← c.subsets-end.ensures.value) (c.fill.invariant (c.subsets-end.result - 1) (omega arith))
