-- What a marking promises, from what its steps answer.
use Rattle.std.proofs.Common.{ℕ, List, [], ◌∷◌, Ok, Err, Result, sym, refl, ap, subst, inl, inr, ⊎_elim, arith}
use Rattle.sets.specs.declared.Set.{Set}
use Rattle.scheme.specs.Task.{Task}
use Rattle.scheme.specs.Orders.{Plan}
use Rattle.scheme.specs.Landmarks.{Landmark}
use Rattle.scheme.specs.declared.refusals.Refusal.{Refusal}
use Rattle.scheme.proofs.Ordered.{placed_exists}
use Rattle.tariff.specs.Amounts.{Scale, All}
use Rattle.chooser.specs.Least.{Capped, order_cost}
use Rattle.rules.specs.Rules.{found, spent}
use Rattle.rules.specs.Marks.{Marking, Marked, Flawed, flawed, as_cheap, not_cheapest, undecided}
use Rattle.rules.specs.Marks.Marking.{given, refused}
use Rattle.rules.specs.Marks.Verdict.{flaw, dearer, cheapest}
use Rattle.rules.specs.Calls.{Fair, Readable, marked, not_marked, then}
use Rattle.rounds.specs.Steps.{Finds}
use Rattle.rounds.specs.Checks.{Illegible}
use Rattle.planner.specs.Papers.{flaw_of, Beside, Compares, Judged, MarkNumbers, Marks, SaysMarking, Stated, StatedBy, Unasked}
use Rattle.planner.specs.declared.marking.Flaw.{Flaw}
use Rattle.planner.specs.declared.marking.Verdict.{Verdict}
use Rattle.planner.specs.declared.marking.Verdict.TheVariants.{Flawed as Faulty, Dearer, Cheapest}
use Rattle.rounds.specs.declared.finding.Found.{Found}
use Rattle.rules.proofs.Flaws.{flawed_no_plan}
use Rattle.rules.proofs.Kept.{since_marks}
use Rattle.rules.proofs.Optimal.{price_capped}
use Rattle.rules.proofs.Outcomes.{asked_right}
use Rattle.rules.proofs.Unique.{marked_unique}
use Rattle.rules.proofs.Plans.{sufficient_of_plan}

module _ {V : Type 0} (t : Scale V) (capacity : ℕ) (k : Task) (prices : List V) (bars : Set) (paper : List ℕ) (kept : List Set) where
  -- a marking is right
  marked_judged :
      Fair t k prices →
      {m : Marking t.Amount} {to : List Set} →
      Marked t capacity k prices bars paper kept m to →
      All (Landmark k) kept →
      Judged t k prices bars paper m
  marked_judged fair (flawed f) marks = flawed_no_plan k bars f
  marked_judged fair (as_cheap {total} plan a e) marks =
      let right = asked_right t k prices bars fair a marks in (
        plan,
        refl,
        λ other p less.
            let lower = subst (t.less (order_cost t prices other)) (sym e) less in
            ⊎_elim (λ higher. t.laws.never_itself total (t.laws.chained total (order_cost t prices other) total higher lower))
            (λ same. t.laws.never_itself total (subst (λ (x : t.Amount). t.less x total) (sym same) lower))
            (right.none_cheaper other p),
      )
  marked_judged fair (not_cheapest {order} plan a less) marks =
      let right = asked_right t k prices bars fair a marks in (
        plan,
        refl,
        (order, right.plan, subst (λ (x : t.Amount). t.less x (order_cost t prices paper)) right.cost less),
      )
  marked_judged fair (undecided plan a) marks = plan

  -- a readable paper that comes to something
  by_rule :
      (r : Result (Verdict V) Refusal) (to : List Set) →
      MarkNumbers t k prices bars paper r →
      StatedBy t k prices bars paper r →
      Unasked r kept to →
      Readable t k prices bars paper →
      (All (Landmark k) kept →
      (m : Marking t.Amount) × SaysMarking t r m × Marked t capacity k prices bars paper kept m to) →
      Marks t capacity k kept prices bars paper r k to
  by_rule r to numbers stated unmoved readable comes = record {
    same = refl;
    since = λ calls since. then since (marked readable (comes (since_marks since)).2);
    promised = λ calls since _.
        let marks = since_marks since in
        let m = comes marks in
        record {
          marking = m.0;
          said = m.1;
          ruled = m.2;
          right = marked_judged readable.0 m.2 marks;
        };
    alone = λ calls since _ other after b.
        let m = comes (since_marks since) in
        let same = marked_unique b m.2 in
        (subst (SaysMarking t r) (sym same.0) m.1, same.1);
    numbers = numbers;
    stated = stated;
    unmoved = unmoved;
  }

  not_readable : (e : Refusal) → Illegible t k prices bars paper e → Readable t k prices bars paper → ⊥
  not_readable e (inl p) readable = p.1 readable.0.0
  not_readable e (inr (inl p)) readable = p.2 readable.0.1
  not_readable e (inr (inr (inl p))) readable = omega (arith, p.2, readable.1)
  not_readable e (inr (inr (inr (inl p)))) readable = p.3 readable.2
  not_readable e (inr (inr (inr (inr p)))) readable = p.4 readable.3

  pub marked_illegible : (e : Refusal) → Illegible t k prices bars paper e → Marks t capacity k kept prices bars paper (Err e) k kept
  marked_illegible e wrong = record {
    same = refl;
    since = λ calls since. then since (not_marked (not_readable e wrong));
    promised = λ calls since readable. absurd (not_readable e wrong readable);
    alone = λ calls since readable m other b. absurd (not_readable e wrong readable);
    numbers = inl wrong;
    stated = tt;
    unmoved = inr refl;
  }

  module _ (readable : Readable t k prices bars paper) where
    pub marked_flawed : (f : Flaw) → Flawed k bars 0 k.standing paper (flaw_of f) → Marks t capacity k kept prices bars paper (Ok (Faulty f)) k kept
    marked_flawed f h = by_rule (Ok (Faulty f)) kept readable h refl readable (λ marks. (given (flaw (flaw_of f)), refl, flawed h))

    module _ (plan : Plan k bars paper) where
      pub marked_refused : (e : Refusal) (to : List Set) → Finds t capacity k prices bars kept (Err e) to → Marks t capacity k kept prices bars paper (Err e) k to
      marked_refused e to (inl p) = absurd (p.1 (sufficient_of_plan k bars plan))
      marked_refused e to (inr p) =
          by_rule (Err e) to (inr (p.0, readable, plan)) tt (inl p.0) readable
          (λ marks.
          let settled = p.2.1 (record { fair = readable.0; enough = p.1; marks = marks }) in
          (refused, (p.0, refl), undecided plan (spent p.1 settled)))

      all_capped : (order : List ℕ) → All (Capped t prices) order
      all_capped [] = tt
      all_capped (w ∷ rest) = (price_capped t k prices bars readable.0 w, all_capped rest)

      pub marked_compared :
          (f : Found) (v : Verdict V) (to : List Set) →
          Finds t capacity k prices bars kept (Ok f) to →
          Compares t prices f.set paper v →
          Marks t capacity k kept prices bars paper (Ok v) k to
      marked_compared f v to finds compares =
          let beside = compares readable.1 (all_capped paper) (λ w y. price_capped t k prices bars readable.0 w) in
          by_rule (Ok v) to readable (stated v beside) (unasked v beside) readable (λ marks. judge marks v beside)
        where
          stated : (v : Verdict V) → Beside t prices f.set paper v → Stated t k prices bars paper v
          stated (Faulty x) b = absurd b
          stated (Dearer x) b = (plan, b.0)
          stated (Cheapest x) b = (plan, b.0)

          unasked : (v : Verdict V) → Beside t prices f.set paper v → Unasked (Ok v) kept to
          unasked (Faulty x) b = absurd b
          unasked (Dearer x) b = tt
          unasked (Cheapest x) b = tt

          judge :
              All (Landmark k) kept →
              (v : Verdict V) →
              Beside t prices f.set paper v →
              (m : Marking t.Amount) × SaysMarking t (Ok v) m × Marked t capacity k prices bars paper kept m to
          judge marks (Faulty x) b = absurd b
          judge marks (Dearer x) b =
              let settled = finds.1 (record { fair = readable.0; enough = finds.0; marks = marks }) in
              let a = found finds.0 settled (placed_exists k.works f.set k.standing).1 in
              (given (dearer (order_cost t prices paper)), ap (λ x. given (dearer x)) (sym b.0), not_cheapest plan a b.1)
          judge marks (Cheapest x) b =
              let settled = finds.1 (record { fair = readable.0; enough = finds.0; marks = marks }) in
              let a = found finds.0 settled (placed_exists k.works f.set k.standing).1 in
              let right = (asked_right t k prices bars readable.0 a marks).none_cheaper paper plan in (
                given (cheapest (order_cost t prices paper)),
                ap (λ x. given (cheapest x)) (sym b.0),
                ⊎_elim (λ less. absurd (b.1 less)) (as_cheap plan a) right,
              )
