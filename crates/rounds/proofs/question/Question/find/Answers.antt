use Rattle.std.proofs.Common.{◌≡◌, Err, Result, refl, ap, ◌∙◌, inl, inr}
use Rattle.std.specs.Option.{ok_or}
use Rattle.std.proofs.lemmas.Result.{err_from_is_err_and}
use Rattle.sets.specs.declared.Set.{Set}
use Rattle.scheme.specs.Task.{task_of}
use Rattle.scheme.specs.declared.refusals.Refusal.{Refusal}
use Rattle.scheme.specs.declared.refusals.Refusal.TheVariants.{CapacitySpent}
use Rattle.rounds.proofs.Free.{unbarred_enough, enough_unbarred}
use Rattle.rounds.proofs.question.Question.find.Goals as goal

pub returns-then-not-is_sufficient : goal.returns-then-not-is_sufficient
returns-then-not-is_sufficient g c =
    let k = task_of c.args.self.now.scheme.now in
    inl (
      refl,
      λ enough. c.if-not-is_sufficient.ensures (enough_unbarred k c.args.self.now.terms.bars c.unbarred.result c.unbarred.ensures enough),
      refl,
    )

pub returns-in_err-set : goal.returns-in_err-set
returns-in_err-set g c =
    let k = task_of c.args.self.now.scheme.now in
    let none = c.in_err-set.ensures in
    let same : ◌≡◌ {A = Result Set Refusal} (Err c.in_err-set.field-0.0) (Err CapacitySpent) =
    none.value ∙ ap (λ o. ok_or o CapacitySpent) none.ok_part
    in
    let spent : c.in_err-set.field-0.0 ≡ CapacitySpent = cc in
    let p = err_from_is_err_and c.from_residual.result c.from_residual.ensures.1 in
    let ruled = rw none.ok_part at c.settle-found.ensures.ruled in
    rw (p.1, p.2, spent)
    (inr (
      refl,
      unbarred_enough k c.args.self.now.terms.bars c.unbarred.result c.unbarred.ensures c.if-not-is_sufficient.ensures,
      (c.settle-found.result.1, ruled),
    ))
