use Rattle.std.proofs.Common.{get_or, Some}
use Rattle.sets.specs.Member.{none}
use Rattle.searcher.proofs.Pairings.{pairing_none, pairing_counted, pairing_paired}
use Rattle.searcher.proofs.Steps.{one_at}
use Rattle.searcher.proofs.draw.Draw.bound.Goals as goal
use Rattle.searcher.proofs.draw.Draw.bound.Goals.{in-Some, in_default}

pub loop-one-init : goal.loop-one-init
loop-one-init g c = pairing_none (λ s w. goal.F-post g c.args.pick s (Some w)) c.args.self.now.sets.now c.args.node

pub loop-one-preserved : goal.loop-one-preserved
loop-one-preserved g c =
    let sets = c.args.self.now.sets.now in
    let i = c.loop-one.one-index in
    elim c.match-and_then.branch [
      | in-Some w ↦ rw (w.bound-is, w.rest-is)
          (pairing_counted (λ s w. goal.F-post g c.args.pick s (Some w)) sets c.args.node c.loop-one.bound w.with-bound.result c.loop-one.rest w.minus-rest.result
          (get_or sets i none) c.own_works.result w.in-Some.w c.loop-one.invariant (one_at sets i none c.loop-one-test.true) c.own_works.ensures
          w.in-Some.ensures w.with-bound.ensures w.minus-rest.ensures)
      | in_default w ↦ rw (w.bound-is, w.rest-is) c.loop-one.invariant
    ]

pub returns-clause-paired : goal.returns-clause-paired
returns-clause-paired g c =
    pairing_paired (λ s w. goal.F-post g c.args.pick s (Some w)) c.args.self.now.sets.now c.args.node c.loop-one.bound c.loop-one.rest
    c.loop-one.invariant
