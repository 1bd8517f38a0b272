-- Questions, markings, calls and lists of calls have a result.
use Rattle.std.proofs.Common.{◌≡◌, ℕ, zero, suc, ◌+◌, ◌-◌, ◌<◌, ◌≤◌, ◌⊎◌, List, [], ◌∷◌, ◌++◌, length, None, sym, refl, subst, inl, inr, ⊎_elim, append_assoc, append-nil, zero-le, arith, length-append}
use native.Mathlib.Decide.{dec_lt}
use Rattle.sets.specs.declared.Set.{Set}
use Rattle.sets.specs.Member.{Has, Members, none}
use Rattle.sets.proofs.Laws.{has_or_not, lowest_below, members_end, same_set, none_has}
use Rattle.sets.proofs.Decided.{both_decided, same_decided}
use Rattle.sets.proofs.Parts.{added_if, less_one, sub_decided}
use Rattle.scheme.specs.Task.{Task}
use Rattle.scheme.specs.Reach.{Sufficient}
use Rattle.scheme.specs.Orders.{Plan}
use Rattle.scheme.specs.Landmarks.{Landmark}
use Rattle.scheme.proofs.Reaches.{sufficient_or_not}
use Rattle.scheme.proofs.Ordered.{placed_exists}
use Rattle.scheme.proofs.Drawing.{drawn_exists}
use Rattle.tariff.specs.Amounts.{Scale, All}
use Rattle.chooser.specs.Least.{Allowed, Least, Hitting, Draws, set_cost}
use Rattle.chooser.proofs.Trimming.{candidates_all}
use Rattle.chooser.proofs.Existence.{least_exists}
use Rattle.rules.specs.Rules.{Ending, Outcome, Unbarred, Run, last, full, more, Settled, at_once, from_none, anew, Asked, beyond, found, spent}
use Rattle.rules.specs.Rules.Ending.{reached, exhausted}
use Rattle.rules.specs.Rules.Outcome.{answered, out_of_reach, capacity_spent}
use Rattle.rules.specs.Marks.{Marking, Marked, flawed, as_cheap, not_cheapest, undecided}
use Rattle.rules.specs.Calls.{Call, Fair, Held, Valid, Readable, Effect, entered, not_entered, amended, not_amended, stood, not_stood, added, not_added, waived, not_waived, asked, not_asked, marked, not_marked, Since, opening, then}
use Rattle.rules.specs.Calls.Call.{enter, amend, stand, want, waive, mark, ask}
use Rattle.rules.proofs.Plans.{free_works, free_sufficient, unbarred_sufficient_or_not}
use Rattle.rules.proofs.Optimal.{held_allowed, sufficient_hits}
use Rattle.rules.proofs.Kept.{marks_more, since_marks, since_fits}
use Rattle.rules.proofs.Outcomes.{asked_right}
use Rattle.rules.proofs.Flaws.{flawed_or_plan}

-- ---- runs and questions

module _ {V : Type 0} (t : Scale V) (k : Task) (prices : List V) (bars : Set) (fair : Fair t k prices) where
  -- the unbarred works are those that may be chosen
  free_allowed : Members (free_works k bars).0 (Allowed t prices bars)
  free_allowed w =
      let free = (free_works k bars).1 w in (
        λ y. held_allowed t k prices bars fair w (free.0 y).0 (free.0 y).1,
        λ a. free.1 (subst (λ (n : ℕ). w < n) fair.0 a.0, a.2),
      )

  module _ (enough : Sufficient k (Unbarred bars)) where
    -- they meet every landmark
    pub free_hits : {kept : List Set} → All (Landmark k) kept → Hitting t prices bars kept (free_works k bars).0
    free_hits marks =
        sufficient_hits t k prices bars fair marks (free_works k bars).0 (λ w y. ((free_works k bars).1 w).0 y)
        (free_sufficient k bars enough)

    -- so a draw over landmarks has a least set
    pub least_drawn : (kept : List Set) → All (Landmark k) kept → (s : Set) × Least t prices bars kept s
    least_drawn kept marks =
        let free = (free_works k bars).0 in
        least_exists t prices bars kept free (candidates_all t prices bars kept free free_allowed) free (free_hits marks)

    -- and does not answer that there is none
    pub draws_some : (kept : List Set) → All (Landmark k) kept → Draws t prices bars kept None → ⊥
    draws_some kept marks nothing = nothing (free_works k bars).0 (free_hits marks)

    module _ (capacity : ℕ) where
      Runs : List Set → Type 0
      Runs kept = (end : Ending) × (to : List Set) × (n : ℕ) × Run t capacity k prices bars kept end to n

      run_on : (places : ℕ) (kept : List Set) → All (Landmark k) kept → length kept + places ≡ capacity → Runs kept
      unfolding Runs
      run_on zero kept marks e =
          let (s, least) = least_drawn kept marks in
          ⊎_elim (λ y. (reached s, kept, 1, last least y)) (λ short. (exhausted, kept, 1, full least short (omega arith)))
          (sufficient_or_not k (Has s) (has_or_not s))
      run_on (suc places) kept marks e =
          let (s, least) = least_drawn kept marks in
          let (l, drawn) = drawn_exists k s in
          ⊎_elim (λ y. (reached s, kept, 1, last least y))
          (λ short.
          let rest = run_on places (kept ++ (l ∷ [])) (marks_more kept marks drawn short) (simp length-append (omega arith)) in
          (rest.0, rest.1, suc rest.2, more least short (omega arith) drawn rest.3))
          (sufficient_or_not k (Has s) (has_or_not s))

      pub run_exists :
          (kept : List Set) →
          All (Landmark k) kept →
          length kept ≤ capacity →
          (end : Ending) × (to : List Set) × (n : ℕ) × Run t capacity k prices bars kept end to n
      unfolding Runs
      run_exists kept marks fits = run_on (capacity - length kept) kept marks (omega arith)

      pub settled_exists :
          (kept : List Set) →
          All (Landmark k) kept →
          length kept ≤ capacity →
          (end : Ending) × (to : List Set) × (n : ℕ) × Settled t capacity k prices bars kept end to n
      settled_exists kept marks fits = settle kept (run_exists kept marks fits)
        where
          settle :
              (kept : List Set) →
              ((end : Ending) × (to : List Set) × (n : ℕ) × Run t capacity k prices bars kept end to n) →
              (end : Ending) × (to : List Set) × (n : ℕ) × Settled t capacity k prices bars kept end to n
          settle kept (reached s, to, n, r) = (reached s, to, n, at_once r)
          settle [] (exhausted, to, n, r) = (exhausted, to, n, from_none refl r)
          settle (l ∷ kept) (exhausted, mid, m, r) =
              let a = run_exists [] tt zero-le in
              let some : l ∷ kept ≡ [] → ⊥ = λ e. let z : ◌≡◌ {A = ℕ} 0 1 = cc in omega arith in
              (a.0, a.1, m + a.2, anew some r a.3)

  module _ (capacity : ℕ) (kept : List Set) (marks : All (Landmark k) kept) (fits : length kept ≤ capacity) where
    -- a question over landmarks comes to something
    pub asked_exists : (o : Outcome t.Amount) × (to : List Set) × Asked t capacity k prices bars kept o to
    asked_exists =
        ⊎_elim (λ enough. finish enough (settled_exists enough capacity kept marks fits))
        (λ short. (out_of_reach, kept, beyond short)) (unbarred_sufficient_or_not k bars)
      where
        finish :
            Sufficient k (Unbarred bars) →
            ((end : Ending) × (to : List Set) × (n : ℕ) × Settled t capacity k prices bars kept end to n) →
            (o : Outcome t.Amount) × (to : List Set) × Asked t capacity k prices bars kept o to
        finish enough (reached s, to, n, r) =
            let (order, placed) = placed_exists k.works s k.standing in
            (answered order (set_cost t prices s) n, to, found enough r placed)
        finish enough (exhausted, to, n, r) = (capacity_spent, to, spent enough r)

    -- a paper of held works is marked
    pub marked_exists :
        (paper : List ℕ) →
        All (λ w. w < length k.works) paper →
        (m : Marking t.Amount) × (to : List Set) × Marked t capacity k prices bars paper kept m to
    marked_exists paper held =
        ⊎_elim (λ f. (_, kept, flawed f.1)) (λ plan. judge plan asked_exists) (flawed_or_plan k bars paper held)
      where
        judge :
            Plan k bars paper →
            ((o : Outcome t.Amount) × (to : List Set) × Asked t capacity k prices bars kept o to) →
            (m : Marking t.Amount) × (to : List Set) × Marked t capacity k prices bars paper kept m to
        judge plan (answered order total n, to, a) =
            ⊎_elim (λ less. (_, to, not_cheapest plan a less)) (λ e. (_, to, as_cheap plan a e))
            ((asked_right t k prices bars fair a marks).none_cheaper paper plan)
        judge plan (out_of_reach, to, a) = absurd (asked_right t k prices bars fair a marks paper plan)
        judge plan (capacity_spent, to, a) = (_, to, undecided plan a)

-- ---- what calls are refused for

at_most_decided : (a b : ℕ) → (a ≤ b) ⊎ (a ≤ b → ⊥)
at_most_decided a b = elim (dec_lt b a) [ yes lt ↦ inr (λ le. omega arith) | no ge ↦ inl (omega arith) ]

count_decided : (a b : ℕ) → (a < b) ⊎ (b ≤ a)
count_decided a b = elim (dec_lt a b) [ yes lt ↦ inl lt | no ge ↦ inr (omega arith) ]

none_decided : (s : Set) → (s ≡ none) ⊎ (s ≡ none → ⊥)
none_decided s =
    ⊎_elim (λ h. inl (same_set s none h (λ i y. absurd (none_has i y))))
    (λ not. inr (λ e. not (subst (λ (x : Set). (i : ℕ) → Has x i → Has none i) (sym e) (λ i y. y)))) (sub_decided s none)

all_decided : {X : Type 0} (P : X → Type 0) → ((x : X) → P x ⊎ (P x → ⊥)) → (xs : List X) → All P xs ⊎ (All P xs → ⊥)
all_decided P decide [] = inl tt
all_decided P decide (x ∷ xs) = both_decided (decide x) (all_decided P decide xs)

held_decided : (k : Task) (s : Set) → Held k s ⊎ (Held k s → ⊥)
held_decided k s =
    let n = length k.works in
    ⊎_elim (λ f. inr (λ held. omega (arith, held f.0 f.2.0, f.2.1)))
    (λ nothing. inl (λ w y. ⊎_elim (λ lt. lt) (λ le. absurd (nothing w (members_end s w y) (y, le))) (count_decided w n)))
    (lowest_below (λ w. Has s w × (n ≤ w)) (λ w. both_decided (has_or_not s w) (at_most_decided n w)) s.bits)

-- the set with one item more
pub with_item : (s : Set) (i : ℕ) → (x : Set) × Members x (λ j. Has s j ⊎ (j ≡ i))
with_item s i =
    let x = added_if s i (Unit {0}) (inl tt) in
    (x.0, λ j. (λ y. ⊎_elim inl (λ p. inr p.0) ((x.1 j).0 y), ⊎_elim (λ y. (x.1 j).1 (inl y)) (λ e. (x.1 j).1 (inr (e, tt)))))

-- ---- calls, where it can be told which prices are within the ceiling

module _ {V : Type 0} (t : Scale V) (decide : (v : V) → t.within v ⊎ (t.within v → ⊥)) where
  pub fair_decided : (k : Task) (prices : List V) → Fair t k prices ⊎ (Fair t k prices → ⊥)
  fair_decided k prices =
      both_decided (same_decided (length prices) (length k.works)) (all_decided t.within decide prices)

  pub valid_decided :
      (k : Task) (prices : List V) (bars : Set) (places : ℕ) →
      Valid t k prices bars places ⊎ (Valid t k prices bars places → ⊥)
  valid_decided k prices bars places =
      ⊎_elim (λ h. inl (h.0, h.1.0, h.1.1)) (λ not. inr (λ h. not (h.0, (h.1, h.2))))
      (both_decided (fair_decided k prices) (both_decided (held_decided k bars) (at_most_decided (length k.works) places)))

  pub readable_decided :
      (k : Task) (prices : List V) (bars : Set) (paper : List ℕ) →
      Readable t k prices bars paper ⊎ (Readable t k prices bars paper → ⊥)
  readable_decided k prices bars paper =
      ⊎_elim (λ h. inl (h.0, h.1.0, h.1.1.0, h.1.1.1)) (λ not. inr (λ h. not (h.0, (h.1, (h.2, h.3)))))
      (both_decided (fair_decided k prices)
      (both_decided (at_most_decided (length paper) 64)
      (both_decided (held_decided k bars)
      (all_decided (λ w. w < length k.works) (λ w. at_most_decided (suc w) (length k.works)) paper))))

  module _ (capacity : ℕ) where
    module _ (k : Task) (kept : List Set) (marks : All (Landmark k) kept) (fits : length kept ≤ capacity) where
      Done : Call V → Type 0
      Done c = (after : Task) × (to : List Set) × Effect t capacity k kept c after to

      -- every call comes to something
      effect_done : (c : Call V) → Done c
      unfolding Done
      effect_done (enter n g) =
          ⊎_elim (λ e. (k, kept, not_entered (inl e)))
          (λ gives. ⊎_elim (λ place. (_, [], entered gives place)) (λ no_place. (k, kept, not_entered (inr no_place)))
          (count_decided (length k.works) 64))
          (none_decided g)
      effect_done (amend w n g) =
          ⊎_elim
          (λ held. ⊎_elim (λ e. (k, kept, not_amended (inr e))) (λ gives. (_, [], amended held gives)) (none_decided g))
          (λ past. (k, kept, not_amended (inl past))) (count_decided w (length k.works))
      effect_done (stand i) =
          ⊎_elim
          (λ low.
          ⊎_elim (λ y. (k, kept, not_stood (inr y))) (λ new. (_, [], stood low new (with_item k.standing i).1))
          (has_or_not k.standing i))
          (λ high. (k, kept, not_stood (inl high))) (count_decided i 64)
      effect_done (want i) =
          ⊎_elim
          (λ low.
          ⊎_elim (λ y. (k, kept, not_added (inr y))) (λ new. (_, kept, added low new (with_item k.wanted i).1))
          (has_or_not k.wanted i))
          (λ high. (k, kept, not_added (inl high))) (count_decided i 64)
      effect_done (waive i) =
          ⊎_elim (λ y. (_, [], waived y (less_one k.wanted i).1)) (λ not. (k, kept, not_waived not))
          (has_or_not k.wanted i)
      effect_done (mark prices bars paper) =
          ⊎_elim
          (λ h. let m = marked_exists t k prices bars h.0 capacity kept marks fits paper h.3 in (k, m.1, marked h m.2))
          (λ not. (k, kept, not_marked not)) (readable_decided k prices bars paper)
      effect_done (ask prices bars places) =
          ⊎_elim
          (λ h. let a = asked_exists t k prices bars h.0 capacity kept marks fits in (k, a.1, asked h a.2))
          (λ not. (k, kept, not_asked not)) (valid_decided k prices bars places)

      pub effect_exists : (c : Call V) → (after : Task) × (to : List Set) × Effect t capacity k kept c after to
      unfolding Done
      effect_exists c = effect_done c

    -- more calls after those made so far
    pub since_goes_on :
        (later : List (Call V)) {calls : List (Call V)} {k : Task} {kept : List Set} →
        Since t capacity calls k kept →
        (after : Task) × (to : List Set) × Since t capacity (calls ++ later) after to
    since_goes_on [] {calls} {k} {kept} h = (k, kept, rw (append-nil calls) h)
    since_goes_on (c ∷ later) {calls} {k} {kept} h =
        let e = effect_exists k kept (since_marks h) (since_fits h) c in
        let rest = since_goes_on later (then h e.2) in
        (rest.0, rest.1, rw append_assoc at rest.2)

    -- every list of calls comes to something
    pub since_exists : (calls : List (Call V)) → (k : Task) × (kept : List Set) × Since t capacity calls k kept
    since_exists calls = since_goes_on calls opening
