use Rattle.std.proofs.Common.{List, get_or, take, sym, subst}
use Rattle.std.proofs.lemmas.List.{take_more, take_all}
use Rattle.sets.specs.declared.Set.{Set}
use Rattle.sets.specs.Member.{none}
use Rattle.chooser.specs.Steps.{Gathered}
use Rattle.chooser.proofs.Trimming.{gathered_none, gathered_more}
use Rattle.chooser.proofs.permitted.gather.Goals as goal

pub loop-one-init : goal.loop-one-init
loop-one-init c = gathered_none c.args.free c.empty-found.result c.empty-found.ensures

pub loop-one-preserved : goal.loop-one-preserved
loop-one-preserved c =
    let kept = c.args.kept.now in
    let i = c.loop-one.one-index in
    let After : List Set → Type 0 = λ sets. Gathered c.args.free sets c.union-found.result in
    subst After (sym (take_more kept i none c.loop-one-test.true))
    (gathered_more c.args.free (take i kept) (get_or kept i none) c.loop-one.found c.shared.result c.union-found.result
    c.loop-one.invariant c.shared.ensures.low c.shared.ensures.members c.union-found.ensures)

pub returns : goal.returns
returns c =
    let Whole : List Set → Type 0 = λ kept. Gathered c.args.free kept c.loop-one.found in
    subst Whole (take_all c.loop-one.one-index c.args.kept.now c.loop-one-test.false) c.loop-one.invariant
