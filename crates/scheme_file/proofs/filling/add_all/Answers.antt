use Rattle.std.proofs.Common.{◌≡◌, sym, ap, ◌∙◌, rules}
use Rattle.sets.specs.Member.{none}
use Rattle.scheme.specs.Task.{task_of}
use Rattle.scheme_file.proofs.Adds.{adding_all, adding_none}
use Rattle.scheme_file.proofs.filling.add_all.Goals as goal

pub loop-item-init : goal.loop-item-init
loop-item-init g c =
    let k = task_of c.args.scheme.now in
    let empty : g.part.get k ≡ none = search rules in
    (adding_none _ _ empty, sym (g.part.same k))

pub returns : goal.returns
returns g c =
    let all = adding_all _ _ _ c.loop-item.invariant.0 c.in-None.ensures.steps.0 in
    c.loop-item.invariant.1 ∙ ap (g.part.put (task_of c.args.scheme.now)) (all ∙ (cc))
