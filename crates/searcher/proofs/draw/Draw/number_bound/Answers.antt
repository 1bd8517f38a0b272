use Rattle.std.proofs.Common.{rules}
use Rattle.searcher.proofs.Floors.{floor_picked}
use Rattle.searcher.proofs.draw.Draw.number_bound.Goals as goal

pub returns : goal.returns
returns g c =
    floor_picked _ c.args.self.now.sets.now c.args.node c.bound.result c.bound.ensures.paired (λ shared w p. search rules)
