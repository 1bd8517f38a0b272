use Rattle.std.proofs.Common.{rules}
use Rattle.std.proofs.lemmas.Iterator.{cases_from_all, YieldsList-from_slice}
use Rattle.sets.specs.Member.{Meet, none}
use Rattle.tabler.proofs.Decided.{all_answered}
use Rattle.tabler.proofs.table.meets_all.Goals as goal

pub returns : goal.returns
returns c =
    all_answered (Meet c.args.free) none c.args.sets.now c.all.result
    (cases_from_all _ _ _ (Meet c.args.free) (λ one. Meet c.args.free one → ⊥) c.all.ensures.ran
    (YieldsList-from_slice c.args.sets.now cc) (λ x q k. search rules) (λ x q k. search rules))
