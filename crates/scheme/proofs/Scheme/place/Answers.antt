use Rattle.std.proofs.Common.{◌≡◌, ℕ, ◌⊎◌, length, subst, ◌∙◌, arith}
use Rattle.std.proofs.lemmas.List.{set-get_or, get_or_default}
use Rattle.sets.specs.Member.{Has, Members}
use Rattle.scheme.specs.declared.Work.{Work}
use Rattle.scheme.specs.Task.{task_of, work}
use Rattle.scheme.specs.Placing.{Filled}
use Rattle.scheme.proofs.Placings.{placing_none, placing_full, placing_more, placing_done}
use Rattle.scheme.proofs.Scheme.place.Goals as goal

pub loop-placed-init : goal.loop-placed-init
loop-placed-init c = placing_none

pub returns-in_default : goal.returns-in_default
returns-in_default c =
    rw (set-get_or c.loop-placed.places c.loop-placed.placed 0) (placing_done c.loop-placed.invariant (omega arith) c.in_default.ensures)

pub loop-placed-preserved : goal.loop-placed-preserved
loop-placed-preserved c =
    let Adds : Work → Type 0 = λ v. Members c.union-held.result (λ i. Has c.loop-placed.held i ⊎ Has v.gives i) in
    let is : c.index.result.now ≡ work (task_of c.args.self.now).works c.in-Some.w =
    c.index.ensures ∙ get_or_default _ _ _ _ c.in-Some.ensures.held
    in
    placing_more c.loop-placed.invariant c.in-Some.ensures (omega arith) c.without-left.ensures (subst Adds is c.union-held.ensures)

pub returns : goal.returns
returns c =
    let k = task_of c.args.self.now in
    let Fills : ℕ → Type 0 = λ n. Filled k.works c.args.chosen k.standing c.args.places.now n c.loop-placed.places in
    let all : c.loop-placed.placed ≡ length c.loop-placed.places = omega arith in
    subst Fills all (placing_done c.loop-placed.invariant (omega arith) (placing_full c.loop-placed.invariant (omega arith)))
