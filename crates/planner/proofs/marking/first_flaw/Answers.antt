use Rattle.std.proofs.Common.{ℕ, ◌<◌, List, length, sym, subst}
use Rattle.std.proofs.lemmas.List.{drop_more, drop_all}
use Rattle.tariff.proofs.Sums.{all_at}
use Rattle.scheme.specs.Task.{task_of}
use Rattle.rules.specs.Marks.{Flawed, at_barred, at_lacking, at_end}
use Rattle.rules.specs.Marks.Flaw.{barred, lacking, missing}
use Rattle.planner.proofs.Papers.{Front, front_more, front_plan, lowest_lacked, none_lacked}
use Rattle.planner.proofs.marking.first_flaw.Goals as goal

pub returns-then-contains : goal.returns-then-contains
returns-then-contains c =
    let paper = c.args.paper.now in
    let i = c.loop-place.place in
    let At : List ℕ → Type 0 = λ rest. Flawed (task_of c.args.scheme.now) c.args.bars i c.loop-place.held rest (barred i) in
    c.loop-place.invariant.flaw (barred i)
    (subst At (sym (drop_more paper i 0 c.loop-place-test.true)) (at_barred c.if-contains.ensures))

pub returns-in-Some : goal.returns-in-Some
returns-in-Some c =
    let paper = c.args.paper.now in
    let i = c.loop-place.place in
    let held = c.loop-place.held in
    let item = c.in-Some.item in
    let At : List ℕ → Type 0 = λ rest. Flawed (task_of c.args.scheme.now) c.args.bars i held rest (lacking i item) in
    let low = lowest_lacked _ held c.minus.result c.minus.ensures item c.in-Some.ensures.0 in
    let lacks = rw c.works-works.ensures.value at low in
    c.loop-place.invariant.flaw (lacking i item)
    (subst At (sym (drop_more paper i 0 c.loop-place-test.true)) (at_lacking c.if-contains.ensures lacks))

pub loop-place-preserved : goal.loop-place-preserved
loop-place-preserved c =
    let k = task_of c.args.scheme.now in
    let paper = c.args.paper.now in
    let i = c.loop-place.place in
    let held = c.loop-place.held in
    let Low : ℕ → Type 0 = λ w. w < length k.works in
    let Here : List ℕ → Type 0 = Front k c.args.bars paper i held in
    let ready = none_lacked _ held c.minus.result c.minus.ensures c.in_default.ensures in
    let needs = rw c.works-works.ensures.value at ready in
    let adds = c.union-held.ensures in
    let gives = rw c.works-works.ensures.value at adds in
    front_more k c.args.bars paper (subst Here (drop_more paper i 0 c.loop-place-test.true) c.loop-place.invariant)
    (all_at Low paper i 0 c.loop-place-test.true c.requires) c.if-contains.ensures needs gives

pub returns-in_err-item : goal.returns-in_err-item
returns-in_err-item c =
    let k = task_of c.args.scheme.now in
    let paper = c.args.paper.now in
    let i = c.loop-place.place in
    let held = c.loop-place.held in
    let Here : List ℕ → Type 0 = Front k c.args.bars paper i held in
    let ends = none_lacked _ held c.minus-2.result c.minus-2.ensures c.in_err-item.ensures in
    let stand = rw c.wanted.ensures at ends in
    rw c.from_residual.ensures
    (front_plan k c.args.bars paper (subst Here (drop_all i paper c.loop-place-test.false) c.loop-place.invariant) stand)

pub returns : goal.returns
returns c =
    let k = task_of c.args.scheme.now in
    let paper = c.args.paper.now in
    let i = c.loop-place.place in
    let held = c.loop-place.held in
    let item = c.in_ok-item.item in
    let low = lowest_lacked _ held c.minus-2.result c.minus-2.ensures item c.in_ok-item.ensures.0 in
    let lacks = rw c.wanted.ensures at low in
    let At : List ℕ → Type 0 = λ rest. Flawed k c.args.bars i held rest (missing item) in
    c.loop-place.invariant.flaw (missing item) (subst At (sym (drop_all i paper c.loop-place-test.false)) (at_end lacks))
