use Rattle.std.proofs.Common.{◌≡◌, ◌≤◌, take}
use Rattle.std.specs.Result.{MatchResult}
use Rattle.scheme.specs.declared.refusals.Refusal.TheVariants.{PriceTooHigh}
use Rattle.tariff.specs.Amounts.{All}
use Rattle.rounds.proofs.question.Question.check_prices.Given as goal

abbrev pub invariant-loop-place : goal.invariant-loop-place
invariant-loop-place g l =
    (l.place ≤ l.count)
    × MatchResult l.ceiling (λ _. All g.T.Tariff.scale.within (take l.place l.self.terms.prices.now))
    (λ e. (e ≡ PriceTooHigh) × (All g.T.Tariff.scale.within l.self.terms.prices.now → ⊥))
