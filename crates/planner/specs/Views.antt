-- What the code's values say in the words of the rules.
use Rattle.std.specs.Prelude.{◌≡◌, ℕ, ◌⊎◌, List, [], ◌∷◌, take, Ok, Err, Result}
use Rattle.scheme.specs.declared.refusals.Refusal.{Refusal}
use Rattle.scheme.specs.Refusals.{number_of}
use Rattle.tariff.specs.Amounts.{Scale}
use Rattle.rules.specs.Rules.{Outcome}
use Rattle.rules.specs.Rules.Outcome.{answered, out_of_reach, capacity_spent}
use Rattle.rules.specs.Calls.{Call}
use Rattle.rules.specs.Calls.Call.{enter, amend, stand, want, waive, mark, ask}
use Rattle.planner.specs.declared.types.Answer.{Answer}
use Rattle.planner.specs.declared.types.Request.{Request}
use Rattle.planner.specs.declared.types.Request.TheVariants.{Enter, Amend, Stand, Want, Waive, Mark, Ask}

-- a result of the code says an outcome of the rules; places is the order list at the return
abbrev pub Says : {V : Type 0} (t : Scale V) → Result (Answer V) Refusal → List ℕ → Outcome t.Amount → Type 0
Says t (Ok a) places o = o ≡ answered (take a.length places) (t.amount a.total) a.rounds
Says t (Err e) places o = ((number_of e ≡ 9) × (o ≡ out_of_reach)) ⊎ ((number_of e ≡ 10) × (o ≡ capacity_spent))

-- a request says a call
abbrev pub call_of : {T V : Type 0} → Request T V → Call V
call_of (Enter work) = enter work.needs work.gives
call_of (Amend number work) = amend number work.needs work.gives
call_of (Stand item) = stand item
call_of (Want item) = want item
call_of (Waive item) = waive item
call_of (Mark terms paper) = mark terms.prices.now terms.bars paper.now
call_of (Ask terms places) = ask terms.prices.now terms.bars places

abbrev pub calls_of : {T V : Type 0} → List (Request T V) → List (Call V)
calls_of [] = []
calls_of (r ∷ rest) = call_of r ∷ calls_of rest
