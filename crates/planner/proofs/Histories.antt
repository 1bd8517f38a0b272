-- Lists of requests, one request more at a time.
use Rattle.std.proofs.Common.{◌≡◌, ℕ, ◌+◌, ◌<◌, ◌≤◌, List, [], ◌∷◌, ◌++◌, length, get_or, take, Result, sym, refl, ap, ◌∙◌, subst, subst₂}
use Rattle.std.proofs.lemmas.List.{take_more, take_all}
use Rattle.sets.specs.declared.Set.{Set}
use Rattle.scheme.specs.Task.{Task}
use Rattle.scheme.specs.Edits.{opened}
use Rattle.scheme.specs.declared.refusals.Refusal.{Refusal}
use Rattle.tariff.specs.Amounts.{Scale}
use Rattle.rules.specs.Calls.{Effect, Since, opening, then}
use Rattle.rules.proofs.Unique.{since_unique}
use Rattle.planner.specs.Asks.{Asks, Leads, ConductedAlone}
use Rattle.planner.specs.Views.{call_of, calls_of}
use Rattle.planner.specs.declared.types.Answer.{Answer}
use Rattle.planner.specs.declared.types.Request.{Request}

calls_append : {T V : Type 0} (xs ys : List (Request T V)) → calls_of (xs ++ ys) ≡ calls_of xs ++ calls_of ys
calls_append [] ys = refl
calls_append (x ∷ xs) ys = ap (λ rest. call_of x ∷ rest) (calls_append xs ys)

module _ {V : Type 0} (t : Scale V) (capacity : ℕ) where
  pub since_opened : (k : Task) (kept : List Set) → k ≡ opened → kept ≡ [] → Since t capacity [] k kept
  since_opened k kept e f = subst₂ (Since t capacity []) (sym e) (sym f) opening

  -- what a call does, where a request says the call
  module _ {T : Type 0} (k after : Task) (kept to : List Set) where
    pub obeys : {r r' : Request T V} → r ≡ r' → Leads t capacity k kept (call_of r') after to → Leads t capacity k kept (call_of r) after to
    obeys e leads = let P : Request T V → Type 0 = λ x. Leads t capacity k kept (call_of x) after to in subst P (sym e) leads

    pub obeys_edit :
        {r r' : Request T V} → r ≡ r' → Effect t capacity k kept (call_of r') after to → Leads t capacity k kept (call_of r) after to
    obeys_edit e effect = obeys e (λ calls since. then since effect)

  module _ {T : Type 0} (requests : List (Request T V)) where
    pub since_more :
        (i : ℕ) (r : Request T V) (k after : Task) (kept to : List Set) →
        i < length requests →
        r ≡ get_or requests i r →
        Since t capacity (calls_of (take i requests)) k kept →
        Leads t capacity k kept (call_of r) after to →
        Since t capacity (calls_of (take (i + 1) requests)) after to
    since_more i r k after kept to lt e since leads =
        let same : calls_of (take (i + 1) requests) ≡ calls_of (take i requests) ++ (call_of r ∷ []) =
        ap calls_of (take_more requests i r lt)
        ∙ calls_append (take i requests) (get_or requests i r ∷ [])
        ∙ ap (λ x. calls_of (take i requests) ++ (call_of x ∷ [])) (sym e)
        in
        rw same (leads (calls_of (take i requests)) since)

    pub conducted_alone :
        (i : ℕ) (k after : Task) (kept to : List Set) (prices : List V) (bars : Set) (from : List ℕ) (r : Result (Answer V) Refusal) (order : List ℕ) →
        length requests ≤ i →
        Since t capacity (calls_of (take i requests)) k kept →
        Asks t capacity k kept prices bars from r order after to →
        ConductedAlone t capacity (calls_of requests) prices bars from r order after to
    conducted_alone i k after kept to prices bars from r order le since asks =
        let all = rw (take_all i requests le) at since in
        record {
          k = k;
          kept = kept;
          since = all;
          alone = λ held other led. since_unique led all;
          asks = asks;
          comes_to = λ valid. asks.promised (calls_of requests) all valid;
          after_all = asks.since (calls_of requests) all;
        }
