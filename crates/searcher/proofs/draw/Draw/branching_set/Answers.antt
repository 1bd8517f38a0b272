use Rattle.std.proofs.Common.{rules, ap, ◌∙◌}
use Rattle.searcher.proofs.Steps.{narrowest, apart_is}
use Rattle.searcher.proofs.draw.Draw.branching_set.Goals as goal

pub returns : goal.returns
returns g c =
    narrowest _ _ c.args.node.chosen c.args.self.now.sets.now c.filter.result c.copied.result c.min_by_key.result _ c.min_by_key.ensures.runs
    c.filter.ensures.runs
    (λ q seen from whole.
    let under = c.copied.ensures.runs q seen from in
    let all = c.iter.ensures.runs under.0 under.0.seen in
    under.2.2 ∙ all.4 (under.2.0 ∙ whole) ∙ ap (λ i. i.rest.now) under.1 ∙ c.iter.ensures.rest)
    (λ x r h k. search (rules, apart_is))
