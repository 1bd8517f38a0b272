use Rattle.std.proofs.Common.{◌≡◌, map-id, sym, ◌∙◌, rules}
use Rattle.std.proofs.lemmas.Iterator.{items_from_drains, YieldsList-from_slice, YieldsList-from_map}
use Rattle.std.proofs.lemmas.Iterator.Consumers.{YieldsList-at}
use Rattle.chooser.proofs.terms.Terms.order_cost.Goals as goal

pub returns : goal.returns
returns g c =
    let charged = c.total.ensures in
    let end = charged.1 in
    let order = c.args.order.now in
    let same : charged.0 ≡ order =
    sym (map-id charged.0)
    ∙ items_from_drains charged.0 (end.1.0, end.1.1, λ _. (end.0, end.1.2))
    (YieldsList-from_map _ (λ x. x) (YieldsList-at c.map.ensures.source (YieldsList-from_slice order c.iter.ensures.rest)) c.map.ensures.closure
    (λ x r q k. search rules))
    ∙ map-id order
    in
    rw (sym same) charged.2
