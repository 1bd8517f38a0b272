-- Two planners that hold the same say what agrees.
use Rattle.std.proofs.Common.{◌≡◌, ℕ, List, Ok, Err, Result, sym, ◌∙◌, subst, subst₂, inl, inr, arith}
use Rattle.sets.specs.declared.Set.{Set}
use Rattle.scheme.specs.Task.{Task}
use Rattle.scheme.specs.Landmarks.{Landmark}
use Rattle.scheme.specs.declared.refusals.Refusal.{Refusal}
use Rattle.tariff.specs.Amounts.{Scale, All}
use Rattle.rules.specs.Rules.{Outcome, Asked}
use Rattle.rules.specs.Calls.{Valid}
use Rattle.rules.specs.Promises.{Agree}
use Rattle.planner.specs.Views.{Says}
use Rattle.planner.specs.Asks.{Promised, Agreed}
use Rattle.planner.specs.declared.types.Answer.{Answer}
use Rattle.rules.proofs.Kept.{since_marks}
use Rattle.rules.proofs.Outcomes.{asked_agree}

module _ {V : Type 0} (t : Scale V) where
  -- a result says one outcome
  says_one :
      (r : Result (Answer V) Refusal) (order : List ℕ) (o o' : Outcome t.Amount) → Says t r order o → Says t r order o' → o ≡ o'
  says_one (Ok a) order o o' e e' = e ∙ sym e'
  says_one (Err x) order o o' (inl p) (inl p') = p.1 ∙ sym p'.1
  says_one (Err x) order o o' (inl p) (inr p') = absurd (omega (arith, p.0, p'.0))
  says_one (Err x) order o o' (inr p) (inl p') = absurd (omega (arith, p.0, p'.0))
  says_one (Err x) order o o' (inr p) (inr p') = p.1 ∙ sym p'.1

  pub both_agree :
      (capacity capacity' : ℕ) (k k' : Task) (kept kept' : List Set) (prices : List V) (bars : Set) (places places' : ℕ)
      (r : Result (Answer V) Refusal) (order : List ℕ) (to : List Set) (r' : Result (Answer V) Refusal) (order' : List ℕ) (to' : List Set) →
      Promised t capacity k prices bars places kept r order to →
      Promised t capacity' k' prices bars places' kept' r' order' to' →
      Agreed t capacity capacity' k k' kept kept' prices bars places places' r order r' order'
  both_agree capacity capacity' k k' kept kept' prices bars places places' r order to r' order' to' first second calls calls' since since' same valid valid' o o' said said' =
      let c = first calls since valid in
      let V' : Task → Type 0 = λ x. Valid t x prices bars places' in
      let c' = second calls' since' (subst V' same valid') in
      let A : Task → Type 0 = λ x. Asked t capacity' x prices bars kept' c'.outcome to' in
      let L : Task → Type 0 = λ x. All (Landmark x) kept' in
      subst₂ Agree (says_one r order c.outcome o c.said said) (says_one r' order' c'.outcome o' c'.said said')
      (asked_agree t k prices bars valid.0 c.ruled (subst A (sym same) c'.ruled) (since_marks since)
      (subst L (sym same) (since_marks since')))
