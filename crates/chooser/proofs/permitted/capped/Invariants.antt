use Rattle.std.proofs.Common.{◌<◌, length}
use Rattle.sets.specs.Member.{Members}
use Rattle.chooser.specs.Least.{Capped}
use Rattle.chooser.proofs.permitted.capped.Given as goal

abbrev pub invariant-loop-w : goal.invariant-loop-w
invariant-loop-w g l =
    Members l.found (λ w. (w < l.w) × ((w < length l.prices) × Capped g.T.Tariff.scale l.prices w × (w < 64)))
