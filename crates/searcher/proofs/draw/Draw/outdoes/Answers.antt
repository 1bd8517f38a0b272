use Rattle.std.proofs.Common.{inr}
use Rattle.tariff.proofs.Order.{at_most_of_equal}
use Rattle.searcher.proofs.draw.Draw.outdoes.Goals as goal

pub returns-in-Equal : goal.returns-in-Equal
returns-in-Equal g c capped bounded e =
    inr (at_most_of_equal g.T.Tariff.scale _ _ (c.in-Equal.ensures capped bounded).0, c.is_floor.ensures e)
