use Rattle.std.proofs.Common.{rules}
use Rattle.sets.proofs.Laws.{has_below}
use Rattle.tabler.proofs.BestChoices.{best_none, fold_best}
use Rattle.tabler.proofs.Decided.{filled_shown, met_shown}
use Rattle.tabler.proofs.Subsets.{met_of_all}
use Rattle.tabler.proofs.entry.Entry.best.Goals as goal

pub bounds-self-place : goal.bounds-self-place
bounds-self-place g c = search (rules, has_below)

pub returns-in-Some : goal.returns-in-Some
returns-in-Some g c =
    let self = c.args.self.now in
    let draw = self.draw.now in
    fold_best _ _ _ _ _ _ (filled_shown _ _ _ _ _ _ self.filled) _ _ c.intersection-works.ensures
    c.in-Some.ensures.0.member _ _ c.iter.ensures (met_of_all _ _ _ self.low (met_shown _ _ draw.met)) c.fold.ensures.ran
    (λ a w b f' k. search rules)

pub returns-in-None : goal.returns-in-None
returns-in-None g c = best_none _ _ _ _ _ _ c.in-None.ensures c.empty.ensures
