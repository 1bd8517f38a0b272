use Rattle.std.proofs.Common.{MatchBool, Option, sym, subst, ⊎_elim}
use Rattle.std.proofs.Math.Logic.{∥∥₁_map}
use Rattle.searcher.specs.Nodes.{Best, Better, Settled}
use Rattle.searcher.proofs.Bounding.{first_test, second_test, tests_stable}
use Rattle.searcher.proofs.draw.Draw.is_beaten.Goals as goal

pub returns-then-precedes : goal.returns-then-precedes
returns-then-precedes g c =
    let t = g.T.Tariff.scale in
    let draw = c.args.self.now in
    let n = c.args.node in
    let of = c.requires.node in
    let set = c.in-Some.set in
    let part = subst (Best draw.works draw.sets.now) c.in-Some.is c.requires.best in
    let Tested : Option _ → Type 0 = λ best. MatchBool c.precedes.result (Settled t draw.terms.prices.now draw.sets.now best n) (Better t draw.terms.prices.now n.chosen best) in
    subst Tested (sym c.in-Some.is)
    (tests_stable t draw.terms.prices.now draw.sets.now n set c.precedes.result
    (∥∥₁_map draw.capped (λ capped.
    first_test t draw.terms.prices.now draw.sets.now n set c.precedes.result
    (c.precedes.ensures (λ w h. capped w (part.0 w h)) (λ w h. capped w (of.chosen w h))))))

pub returns-else-precedes : goal.returns-else-precedes
returns-else-precedes g c =
    let t = g.T.Tariff.scale in
    let draw = c.args.self.now in
    let n = c.args.node in
    let of = c.requires.node in
    let set = c.in-Some.set in
    let part = subst (Best draw.works draw.sets.now) c.in-Some.is c.requires.best in
    let Tested : Option _ → Type 0 = λ best. MatchBool c.outdoes.result (Settled t draw.terms.prices.now draw.sets.now best n) (Better t draw.terms.prices.now n.chosen best) in
    subst Tested (sym c.in-Some.is)
    (tests_stable t draw.terms.prices.now draw.sets.now n set c.outdoes.result
    (∥∥₁_map draw.capped (λ capped.
    let bounds = c.lower_bound.ensures (λ w h. capped w (of.free w h)) in
    second_test t draw.terms.prices.now draw.sets.now n set c.lower_bound.result c.outdoes.result bounds
    (c.outdoes.ensures (λ w h. capped w (part.0 w h)) (λ w h. ⊎_elim (λ y. capped w (of.chosen w y)) (λ y. capped w (of.free w y)) (bounds.within w h)))
    (c.if-precedes.ensures (λ w h. capped w (part.0 w h)) (λ w h. capped w (of.chosen w h))))))
