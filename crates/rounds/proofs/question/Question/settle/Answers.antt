use Rattle.std.proofs.Common.{sym, ◌∙◌, inl, inr, ⊎_elim, arith}
use Rattle.rounds.proofs.Settling.{settles_first, settles_anew}
use Rattle.rounds.proofs.question.Question.settle.Goals as goal

pub returns-then-is_some-clause-ruled : goal.returns-then-is_some-clause-ruled
returns-then-is_some-clause-ruled g c =
    settles_first _ _ _ _ _ _ c.run-first.result.0 _ _
    (⊎_elim (λ e. inl (sym c.is_some.ensures ∙ e)) (λ p. inr (omega (arith, p.1, c.count-kept.ensures.value))) c.then-is_some.either)
    c.run-first.ensures.ruled

pub returns-clause-ruled : goal.returns-clause-ruled
returns-clause-ruled g c =
    settles_anew _ _ _ _ _ _ c.run-first.result.0 c.run-second.result.0 _ _ _ _ _
    (sym c.is_some.ensures ∙ c.if-is_some.false) (λ e. omega (arith, c.if-kept-eq0.false, c.count-kept.ensures.value))
    c.clear.ensures c.run-first.ensures.ruled c.run-second.ensures.ruled
