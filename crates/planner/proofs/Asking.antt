-- What a question promises, from what its steps answer.
use Rattle.std.proofs.Common.{◌≡◌, ℕ, List, [], ◌∷◌, ◌++◌, length, take, Ok, Err, Result, sym, refl, subst, inl, inr, arith}
use Rattle.sets.specs.declared.Set.{Set}
use Rattle.scheme.specs.Task.{Task}
use Rattle.scheme.specs.Landmarks.{Landmark}
use Rattle.scheme.specs.Placing.{Filled}
use Rattle.scheme.specs.declared.refusals.Refusal.{Refusal}
use Rattle.scheme.proofs.Ordered.{placed_exists}
use Rattle.tariff.specs.Amounts.{Scale, All}
use Rattle.chooser.specs.Least.{SetCapped, set_cost}
use Rattle.rules.specs.Rules.{Outcome, Asked, beyond, found, spent}
use Rattle.rules.specs.Rules.Outcome.{answered, out_of_reach, capacity_spent}
use Rattle.rules.specs.Calls.{Since, Valid, asked, not_asked, then}
use Rattle.rules.specs.Calls.Call.{ask}
use Rattle.planner.specs.Views.{Says}
use Rattle.planner.specs.Asks.{Asks, Later, Leads, Numbers, Unmoved, Within}
use Rattle.rounds.specs.Checks.{Misput}
use Rattle.rounds.specs.Steps.{Puts}
use Rattle.planner.specs.declared.types.Answer.{Answer}
use Rattle.rounds.specs.declared.finding.Found.{Found}
use Rattle.rules.proofs.Kept.{since_marks}
use Rattle.rules.proofs.Outcomes.{asked_right, settled_based}
use Rattle.rules.proofs.Unique.{asked_unique}

-- ---- questions

-- a question that is refused for its arguments is not valid
misput_not_valid :
    {V : Type 0} (t : Scale V) (k : Task) (prices : List V) (bars : Set) (places : ℕ) (e : Refusal) →
    Misput t k prices bars places e →
    Valid t k prices bars places →
    ⊥
misput_not_valid t k prices bars places e (inl p) valid = p.1 valid.0.0
misput_not_valid t k prices bars places e (inr (inl p)) valid = p.2 valid.0.1
misput_not_valid t k prices bars places e (inr (inr (inl p))) valid = p.2 valid.1
misput_not_valid t k prices bars places e (inr (inr (inr p))) valid = omega (arith, p.3, valid.2)

module _ {V : Type 0} (t : Scale V) (capacity : ℕ) (k : Task) (prices : List V) (bars : Set) (kept : List Set) (from : List ℕ) where
  -- a valid question that comes to something
  by_rule :
      (r : Result (Answer V) Refusal) (order : List ℕ) (to : List Set) →
      Numbers t k prices bars (length from) r →
      Later r from order →
      Within r order →
      Unmoved r kept to →
      Valid t k prices bars (length from) →
      (All (Landmark k) kept →
      (o : Outcome t.Amount) × Says t r order o × Asked t capacity k prices bars kept o to) →
      Asks t capacity k kept prices bars from r order k to
  by_rule r order to numbers later within unmoved valid comes = record {
    same = refl;
    since = λ calls since. then since (asked valid (comes (since_marks since)).2);
    promised = λ calls since _.
        let marks = since_marks since in
        let a = comes marks in
        record {
          outcome = a.0;
          said = a.1;
          ruled = a.2;
          right = asked_right t k prices bars valid.0 a.2 marks;
        };
    alone = λ calls since _ o other b.
        let a = comes (since_marks since) in
        let same = asked_unique b a.2 in
        (subst (Says t r order) (sym same.0) a.1, same.1);
    numbers = numbers;
    later = later;
    within = within;
    unmoved = unmoved;
  }

  asked_misput : (e : Refusal) → Misput t k prices bars (length from) e → Asks t capacity k kept prices bars from (Err e) from k kept
  asked_misput e wrong = record {
    same = refl;
    since = λ calls since. then since (not_asked (misput_not_valid t k prices bars (length from) e wrong));
    promised = λ calls since valid. absurd (misput_not_valid t k prices bars (length from) e wrong valid);
    alone = λ calls since valid o other b. absurd (misput_not_valid t k prices bars (length from) e wrong valid);
    numbers = inl wrong;
    later = refl;
    within = tt;
    unmoved = inr refl;
  }

  -- a question that is put and refused
  pub asked_refused :
      (e : Refusal) (to : List Set) → Puts t capacity k prices bars (length from) kept (Err e) to → Asks t capacity k kept prices bars from (Err e) from k to
  asked_refused e to (inl wrong) = let A : List Set → Type 0 = λ x. Asks t capacity k kept prices bars from (Err e) from k x in subst A (sym wrong.1) (asked_misput e wrong.0)
  asked_refused e to (inr (valid, inl p)) =
      by_rule (Err e) from to (inr (inl (p.0, valid, p.1))) refl tt (inr p.2) valid
      (λ marks.
      let Beyond : List Set → Type 0 = λ x. Asked t capacity k prices bars kept out_of_reach x in
      (out_of_reach, inl (p.0, refl), subst Beyond (sym p.2) (beyond p.1)))
  asked_refused e to (inr (valid, inr p)) =
      by_rule (Err e) from to (inr (inr (p.0, valid, p.1))) refl tt (inl p.0) valid
      (λ marks.
      let settled = p.2.1 (record { fair = valid.0; enough = p.1; marks = marks }) in
      (capacity_spent, inr (p.0, refl), spent p.1 settled))

  -- one that is answered, and its order written
  pub asked_answered :
      (f : Found) (n : ℕ) (total : V) (order : List ℕ) (to : List Set) →
      Puts t capacity k prices bars (length from) kept (Ok f) to →
      Filled k.works f.set k.standing from n order →
      (SetCapped t prices f.set → t.amount total ≡ set_cost t prices f.set) →
      Asks t capacity k kept prices bars from (Ok (record { length = n; total = total; rounds = f.rounds })) order k to
  asked_answered f n total order to (valid, finds) filled cost =
      by_rule (Ok (record { length = n; total = total; rounds = f.rounds })) order to (valid, finds.0) filled.later filled.within tt valid
      (λ marks.
      let settled = finds.1 (record { fair = valid.0; enough = finds.0; marks = marks }) in
      let least = (settled_based t k prices bars settled marks).least in
      let At : t.Amount → Type 0 = λ x. Asked t capacity k prices bars kept (answered (take n order) x f.rounds) to in (
        answered (take n order) (t.amount total) f.rounds,
        refl,
        subst At (sym (cost (λ w y. (least.hitting.allowed w y).1))) (found finds.0 settled filled.placed),
      ))

-- ---- a question in a list of calls

pub leads_put :
    {V : Type 0} (t : Scale V) (capacity : ℕ) (k : Task) (prices : List V) (bars : Set) (kept : List Set) (places : ℕ) (r : Result Found Refusal) (to : List Set) →
    Puts t capacity k prices bars places kept r to →
    Leads t capacity k kept (ask prices bars places) k to
leads_put t capacity k prices bars kept places (Ok f) to (valid, finds) calls since =
    let settled = finds.1 (record { fair = valid.0; enough = finds.0; marks = since_marks since }) in
    then since (asked valid (found finds.0 settled (placed_exists k.works f.set k.standing).1))
leads_put {V} t capacity k prices bars kept places (Err e) to (inl wrong) calls since =
    let After : List Set → Type 0 = Since t capacity (calls ++ (ask prices bars places ∷ [])) k in
    subst After (sym wrong.1) (then since (not_asked (misput_not_valid t k prices bars places e wrong.0)))
leads_put t capacity k prices bars kept places (Err e) to (inr (valid, inl p)) calls since =
    let Beyond : List Set → Type 0 = λ x. Asked t capacity k prices bars kept out_of_reach x in
    then since (asked valid (subst Beyond (sym p.2) (beyond p.1)))
leads_put t capacity k prices bars kept places (Err e) to (inr (valid, inr p)) calls since =
    let settled = p.2.1 (record { fair = valid.0; enough = p.1; marks = since_marks since }) in
    then since (asked valid (spent p.1 settled))
