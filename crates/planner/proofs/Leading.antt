-- What a planner holds and keeps is what some list of calls leads to.
use Rattle.std.proofs.Common.{◌≡◌, ℕ, List, [], ◌∷◌, ◌++◌, length, Ok, Err, Result, subst₂, sym, inr, arith}
use Rattle.std.proofs.Math.Logic.{∥∥₁_map, ∥∥₁_map₂}
use Rattle.sets.specs.declared.Set.{Set}
use Rattle.scheme.specs.Task.{Task, task_of}
use Rattle.scheme.specs.declared.Scheme.{Scheme}
use Rattle.scheme.specs.Edits.{opened}
use Rattle.tariff.specs.Amounts.{Scale}
use Rattle.scheme.specs.declared.refusals.Refusal.{Refusal}
use Rattle.rules.specs.Calls.{Call, Effect, Since, Readable, opening, then}
use Rattle.rounds.specs.Steps.{Finds}
use Rattle.rounds.specs.declared.finding.Found.{Found}
use Rattle.planner.proofs.Asking.{leads_put}
use Rattle.planner.specs.Asks.{Leads, Promised, Assured, Agreed, Alike}
use Rattle.planner.specs.Papers.{MarksPromised, AssuredMarking}
use Rattle.planner.specs.declared.types.Answer.{Answer}
use Rattle.planner.specs.declared.marking.Verdict.{Verdict}
use Rattle.rules.proofs.Kept.{since_marks}
use Rattle.planner.specs.Landmarks.{AllLandmarks}
use Rattle.planner.specs.Led.{Led}

module _ {V : Type 0} (t : Scale V) (capacity : ℕ) where
  pub led_by : {k : Task} {kept : List Set} {calls : List (Call V)} → Since t capacity calls k kept → Led t capacity k kept
  led_by {calls = calls} since = ∣ (calls, since) ∣₁

  pub led_opened : {k : Task} {kept : List Set} → k ≡ opened → kept ≡ [] → Led t capacity k kept
  led_opened e f = led_by (subst₂ (Since t capacity []) (sym e) (sym f) opening)

  pub led_same : {s before : Scheme} {kept : List Set} → s ≡ before → Led t capacity (task_of before) kept → Led t capacity (task_of s) kept
  led_same e led = rw e led

  pub led_on : {k after : Task} {kept to : List Set} {c : Call V} → Leads t capacity k kept c after to → Led t capacity k kept → Led t capacity after to
  led_on leads led = ∥∥₁_map led (λ p. (p.0 ++ (_ ∷ []), leads p.0 p.1))

  pub led_by_effect : {k after : Task} {kept to : List Set} {c : Call V} → Effect t capacity k kept c after to → Led t capacity k kept → Led t capacity after to
  led_by_effect effect = led_on (λ calls since. then since effect)

  -- a search for the cheapest sufficient set, as a question makes it
  pub led_found :
      {k : Task} (prices : List V) (bars : Set) (paper : List ℕ) {kept to : List Set} →
      Readable t k prices bars paper →
      (r : Result Found Refusal) →
      Finds t capacity k prices bars kept r to →
      Led t capacity k kept →
      Led t capacity k to
  led_found {k = k} prices bars paper readable (Ok f) finds =
      led_on (leads_put t capacity _ _ _ _ (length k.works) (Ok f) _ ((readable.0, readable.2, omega arith), finds))
  led_found {k = k} prices bars paper readable (Err e) finds =
      led_on (leads_put t capacity _ _ _ _ (length k.works) (Err e) _ (inr ((readable.0, readable.2, omega arith), finds)))

  pub led_landmarks : {k : Task} {kept : List Set} → Led t capacity k kept → AllLandmarks k kept
  led_landmarks led = ∥∥₁_map led (λ p. since_marks p.1)

  -- what is promised of every list of calls that led here

  pub assured :
      {k : Task} {prices : List V} {bars : Set} {places : ℕ} {kept : List Set} {r : Result (Answer V) Refusal} {order : List ℕ} {to : List Set} →
      Led t capacity k kept →
      Promised t capacity k prices bars places kept r order to →
      Assured t capacity k prices bars places kept r order to
  assured led promised valid = ∥∥₁_map led (λ p. promised p.0 p.1 valid)

  pub assured_marking :
      {k : Task} {prices : List V} {bars : Set} {paper : List ℕ} {kept : List Set} {r : Result (Verdict V) Refusal} {to : List Set} →
      Led t capacity k kept →
      MarksPromised t capacity k prices bars paper kept r to →
      AssuredMarking t capacity k prices bars paper kept r to
  assured_marking led promised readable = ∥∥₁_map led (λ p. promised p.0 p.1 readable)

  pub alike :
      (capacity' : ℕ) (k k' : Task) (kept kept' : List Set) (prices : List V) (bars : Set) (places places' : ℕ)
      (r r' : Result (Answer V) Refusal) (order order' : List ℕ) →
      Led t capacity k kept →
      Led t capacity' k' kept' →
      Agreed t capacity capacity' k k' kept kept' prices bars places places' r order r' order' →
      Alike t k k' prices bars places places' r order r' order'
  alike capacity' k k' kept kept' prices bars places places' r r' order order' led led' agreed same valid valid' o o' said said' =
      ∥∥₁_map₂ led led' (λ p p'. agreed p.0 p'.0 p.1 p'.1 same valid valid' o o' said said')
