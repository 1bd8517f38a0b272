use Rattle.std.proofs.Common.{◌<◌, List, ℕ, sym, subst, rules}
use Rattle.std.proofs.lemmas.Fn.{fold_over, fronts}
use Rattle.std.proofs.lemmas.Iterator.{YieldsList-from_slice}
use Rattle.sets.specs.declared.Set.{Set}
use Rattle.sets.specs.Listed.{In}
use Rattle.sets.specs.Member.{Has, Members}
use Rattle.sets.proofs.Laws.{none_has}
use Rattle.sets.proofs.Lists.{set_more}
use Rattle.sets.proofs.Set.of.Goals as goal

pub returns : goal.returns
returns c =
    let Upto : List ℕ → Set → Type 0 = λ ys s. Members s (λ k. In k ys × (k < 64)) in
    let None : Set → Type 0 = λ s. (k : ℕ) → Has s k → ⊥ in
    let none = subst None (sym c.empty.ensures) none_has in
    fold_over (fronts {A = ℕ}) (λ y. y.now) _ Upto _ (λ ys a x b f' before called. (set_more ys x.now 64 a b before (search rules), search rules))
    c.iter.result c.args.numbers.now c.empty.result c.fold.result (YieldsList-from_slice {s = c.iter.result} c.args.numbers.now cc).runs
    (λ k. (λ y. absurd (none k y), λ p. absurd p.0)) c.fold.ensures.ran
