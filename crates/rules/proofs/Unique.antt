-- Runs, questions, markings, calls and lists of calls have one result.
use Rattle.std.proofs.Common.{◌≡◌, ℕ, suc, ◌+◌, ◌⊎◌, List, [], ◌∷◌, ◌++◌, sym, refl, ap, ◌∙◌, subst, ap₂, ⊎_elim, arith}
use mathlib.Core.Path.{subst₃}
use Rattle.sets.specs.declared.Set.{Set}
use Rattle.sets.specs.Member.{Has}
use Rattle.sets.proofs.Laws.{same_members}
use Rattle.scheme.specs.Task.{Task}
use Rattle.scheme.specs.Reach.{Sufficient}
use Rattle.scheme.specs.Orders.{Placed}
use Rattle.scheme.specs.Landmarks.{Drawn}
use Rattle.scheme.specs.Edits.{with_standing, with_wanted}
use Rattle.scheme.proofs.Ordered.{placed_unique}
use Rattle.scheme.proofs.Drawing.{drawn_unique}
use Rattle.tariff.specs.Amounts.{Scale}
use Rattle.chooser.specs.Least.{Least, set_cost, order_cost}
use Rattle.chooser.proofs.Hits.{least_unique}
use Rattle.rules.specs.Rules.{Ending, Outcome, Run, last, full, more, Settled, at_once, from_none, anew, Asked, beyond, found, spent}
use Rattle.rules.specs.Rules.Ending.{reached, exhausted}
use Rattle.rules.specs.Rules.Outcome.{answered, capacity_spent}
use Rattle.rules.specs.Marks.{Marking, Marked, flawed, as_cheap, not_cheapest, undecided}
use Rattle.rules.specs.Marks.Verdict.{flaw}
use Rattle.rules.specs.Marks.Marking.{given}
use Rattle.rules.specs.Calls.{Call, Effect, entered, not_entered, amended, not_amended, stood, not_stood, added, not_added, waived, not_waived, asked, not_asked, marked, not_marked, Since, opening, then}
use Rattle.rules.proofs.Flaws.{flawed_unique, flawed_no_plan}

-- ---- what cannot be equal

reached_not_exhausted : {s : Set} → reached s ≡ exhausted → ⊥
reached_not_exhausted e = let z : ◌≡◌ {A = ℕ} 0 1 = cc in omega arith

answered_not_spent : {W : Type 0} {order : List ℕ} {total : W} {n : ℕ} → answered order total n ≡ capacity_spent → ⊥
answered_not_spent e = let z : ◌≡◌ {A = ℕ} 0 1 = cc in omega arith

same_total :
    {W : Type 0} {order order' : List ℕ} {total total' : W} {n n' : ℕ} →
    answered order total n ≡ answered order' total' n' →
    total ≡ total'
same_total e = cc

-- ---- a list and one more element

push_not_none : {X : Type 0} (xs : List X) (x : X) → [] ≡ xs ++ (x ∷ []) → ⊥
push_not_none [] x e = let z : ◌≡◌ {A = ℕ} 0 1 = cc in omega arith
push_not_none (y ∷ xs) x e = let z : ◌≡◌ {A = ℕ} 0 1 = cc in omega arith

push_same : {X : Type 0} (xs ys : List X) (x y : X) → xs ++ (x ∷ []) ≡ ys ++ (y ∷ []) → (xs ≡ ys) × (x ≡ y)
push_same [] [] x y e = (refl, cc)
push_same [] (b ∷ ys) x y e = absurd (push_not_none ys y (cc))
push_same (a ∷ xs) [] x y e = absurd (push_not_none xs x (cc))
push_same (a ∷ xs) (b ∷ ys) x y e = let rest = push_same xs ys x y (cc) in (cc, rest.1)

-- ---- draws and answers

module _ {V : Type 0} {t : Scale V} {prices : List V} {bars : Set} {kept : List Set} {s s' : Set} where
  same_least : Least t prices bars kept s → Least t prices bars kept s' → s ≡ s'
  same_least l l' = least_unique t prices bars kept s s' l l'

  -- what is drawn is not both sufficient and insufficient
  one_side :
      (k : Task) →
      Least t prices bars kept s →
      Least t prices bars kept s' →
      Sufficient k (Has s) →
      (Sufficient k (Has s') → ⊥) →
      ⊥
  one_side k l l' enough short = let P : Set → Type 0 = λ x. Sufficient k (Has x) in short (subst P (same_least l l') enough)

-- one set gives one answer
same_answer :
    {V : Type 0} (t : Scale V) (k : Task) (prices : List V) {s s' : Set} {order order' : List ℕ} {n n' : ℕ} →
    reached s ≡ reached s' →
    n ≡ n' →
    Placed k.works s k.standing order →
    Placed k.works s' k.standing order' →
    answered order (set_cost t prices s) n ≡ answered order' (set_cost t prices s') n'
same_answer t k prices {s} {s'} {order} {order'} e rounds p p' =
    let same : s' ≡ s = cc in
    let P : Set → Type 0 = λ x. Placed k.works x k.standing order' in
    let orders = placed_unique p (subst P same p') in
    let totals : set_cost t prices s ≡ set_cost t prices s' = ap (set_cost t prices) (sym same) in
    cc

module _ {V : Type 0} {t : Scale V} {capacity : ℕ} where
  module _ {k : Task} {prices : List V} {bars : Set} where
    -- ---- runs and questions

    pub run_unique :
        {kept to : List Set} {end : Ending} {n : ℕ} →
        Run t capacity k prices bars kept end to n →
        {to' : List Set} {end' : Ending} {n' : ℕ} →
        Run t capacity k prices bars kept end' to' n' →
        (end ≡ end') × (to ≡ to') × (n ≡ n')
    run_unique (last l enough) (last l' enough') = (ap reached (same_least l l'), refl, refl)
    run_unique (last l enough) (full l' short' no-place') = absurd (one_side k l l' enough short')
    run_unique (last l enough) (more l' short' place' d' r') = absurd (one_side k l l' enough short')
    run_unique (full l short no_place) (last l' enough') = absurd (one_side k l' l enough' short)
    run_unique (full l short no_place) (full l' short' no-place') = (refl, refl, refl)
    run_unique (full l short no_place) (more l' short' place' d' r') = absurd (omega arith)
    run_unique (more l short place d r) (last l' enough') = absurd (one_side k l' l enough' short)
    run_unique (more l short place d r) (full l' short' no-place') = absurd (omega arith)
    run_unique (more {kept} {l = x} l short place d r) {to'} {end'} (more {l = x'} {n = m'} l' short' place' d' r') =
        let D : Set → Type 0 = λ s. Drawn k s x' in
        let R : Set → Type 0 = λ y. Run t capacity k prices bars (kept ++ (y ∷ [])) end' to' m' in
        let same : x' ≡ x = drawn_unique (subst D (same_least l' l) d') d in
        let rest = run_unique r (subst R same r') in
        (rest.0, rest.1, ap suc rest.2)

    pub settled_unique :
        {kept to : List Set} {end : Ending} {n : ℕ} →
        Settled t capacity k prices bars kept end to n →
        {to' : List Set} {end' : Ending} {n' : ℕ} →
        Settled t capacity k prices bars kept end' to' n' →
        (end ≡ end') × (to ≡ to') × (n ≡ n')
    settled_unique (at_once r) (at_once r') = run_unique r r'
    settled_unique (at_once r) (from_none e' r') = absurd (reached_not_exhausted (run_unique r r').0)
    settled_unique (at_once r) (anew some' r' a') = absurd (reached_not_exhausted (run_unique r r').0)
    settled_unique (from_none e r) (at_once r') = absurd (reached_not_exhausted (run_unique r' r).0)
    settled_unique (from_none e r) (from_none e' r') = run_unique r r'
    settled_unique (from_none e r) (anew some' r' a') = absurd (some' e)
    settled_unique (anew some r a) (at_once r') = absurd (reached_not_exhausted (run_unique r' r).0)
    settled_unique (anew some r a) (from_none e' r') = absurd (some e')
    settled_unique (anew some r a) (anew some' r' a') =
        let first = run_unique r r' in
        let second = run_unique a a' in
        (second.0, second.1, ap₂ ◌+◌ first.2 second.2)

    pub asked_unique :
        {kept to : List Set} {o : Outcome t.Amount} →
        Asked t capacity k prices bars kept o to →
        {to' : List Set} {o' : Outcome t.Amount} →
        Asked t capacity k prices bars kept o' to' →
        (o ≡ o') × (to ≡ to')
    asked_unique (beyond short) (beyond short') = (refl, refl)
    asked_unique (beyond short) (found enough' r' p') = absurd (short enough')
    asked_unique (beyond short) (spent enough' r') = absurd (short enough')
    asked_unique (found enough r p) (beyond short') = absurd (short' enough)
    asked_unique (found enough r p) (found enough' r' p') =
        let same = settled_unique r r' in (same_answer t k prices same.0 same.2 p p', same.1)
    asked_unique (found enough r p) (spent enough' r') = absurd (reached_not_exhausted (settled_unique r r').0)
    asked_unique (spent enough r) (beyond short') = absurd (short' enough)
    asked_unique (spent enough r) (found enough' r' p') = absurd (reached_not_exhausted (settled_unique r' r).0)
    asked_unique (spent enough r) (spent enough' r') = (refl, (settled_unique r r').1)

    -- ---- markings

    -- a total is not both the paper's and less than it
    one_verdict :
        {kept to to' : List Set} {order order' : List ℕ} {total total' : t.Amount} {n n' : ℕ} (paper : t.Amount) →
        Asked t capacity k prices bars kept (answered order total n) to →
        Asked t capacity k prices bars kept (answered order' total' n') to' →
        total ≡ paper →
        t.less total' paper →
        ⊥
    one_verdict paper a a' e less =
        t.laws.never_itself paper
        (subst (λ (x : t.Amount). t.less x paper) (sym (same_total (asked_unique a a').0) ∙ e) less)

    pub marked_unique :
        {paper : List ℕ} {kept to : List Set} {m : Marking t.Amount} →
        Marked t capacity k prices bars paper kept m to →
        {to' : List Set} {m' : Marking t.Amount} →
        Marked t capacity k prices bars paper kept m' to' →
        (m ≡ m') × (to ≡ to')
    marked_unique (flawed f) (flawed f') = (ap (λ x. given (flaw x)) (flawed_unique k bars f f'), refl)
    marked_unique (flawed f) (as_cheap plan' a' e') = absurd (flawed_no_plan k bars f plan')
    marked_unique (flawed f) (not_cheapest plan' a' less') = absurd (flawed_no_plan k bars f plan')
    marked_unique (flawed f) (undecided plan' a') = absurd (flawed_no_plan k bars f plan')
    marked_unique (as_cheap plan a e) (flawed f') = absurd (flawed_no_plan k bars f' plan)
    marked_unique (as_cheap plan a e) (as_cheap plan' a' e') = (refl, (asked_unique a a').1)
    marked_unique {paper} (as_cheap plan a e) (not_cheapest plan' a' less') =
        absurd (one_verdict (order_cost t prices paper) a a' e less')
    marked_unique (as_cheap plan a e) (undecided plan' a') = absurd (answered_not_spent (asked_unique a a').0)
    marked_unique (not_cheapest plan a less) (flawed f') = absurd (flawed_no_plan k bars f' plan)
    marked_unique {paper} (not_cheapest plan a less) (as_cheap plan' a' e') =
        absurd (one_verdict (order_cost t prices paper) a' a e' less)
    marked_unique (not_cheapest plan a less) (not_cheapest plan' a' less') = (refl, (asked_unique a a').1)
    marked_unique (not_cheapest plan a less) (undecided plan' a') = absurd (answered_not_spent (asked_unique a a').0)
    marked_unique (undecided plan a) (flawed f') = absurd (flawed_no_plan k bars f' plan)
    marked_unique (undecided plan a) (as_cheap plan' a' e') = absurd (answered_not_spent (asked_unique a' a).0)
    marked_unique (undecided plan a) (not_cheapest plan' a' less') = absurd (answered_not_spent (asked_unique a' a).0)
    marked_unique (undecided plan a) (undecided plan' a') = (refl, (asked_unique a a').1)

  -- ---- calls

  pub effect_unique :
      {k : Task} {kept : List Set} {c : Call V} {after : Task} {to : List Set} →
      Effect t capacity k kept c after to →
      {after' : Task} {to' : List Set} →
      Effect t capacity k kept c after' to' →
      (after ≡ after') × (to ≡ to')
  effect_unique (entered gives place) (entered gives' place') = (refl, refl)
  effect_unique (entered gives place) (not_entered why) = absurd (⊎_elim gives (λ h. omega arith) why)
  effect_unique (not_entered why) (entered gives place) = absurd (⊎_elim gives (λ h. omega arith) why)
  effect_unique (not_entered why) (not_entered why') = (refl, refl)
  effect_unique (amended held gives) (amended held' gives') = (refl, refl)
  effect_unique (amended held gives) (not_amended why) = absurd (⊎_elim (λ h. omega arith) gives why)
  effect_unique (not_amended why) (amended held gives) = absurd (⊎_elim (λ h. omega arith) gives why)
  effect_unique (not_amended why) (not_amended why') = (refl, refl)
  effect_unique {k} (stood {i} {s} low new adds) (stood {s = s'} low' new' adds') =
      (ap (with_standing k) (same_members (λ j. Has k.standing j ⊎ (j ≡ i)) s s' adds adds'), refl)
  effect_unique (stood low new adds) (not_stood why) = absurd (⊎_elim (λ h. omega arith) new why)
  effect_unique (not_stood why) (stood low new adds) = absurd (⊎_elim (λ h. omega arith) new why)
  effect_unique (not_stood why) (not_stood why') = (refl, refl)
  effect_unique {k} (added {i} {s} low new adds) (added {s = s'} low' new' adds') =
      (ap (with_wanted k) (same_members (λ j. Has k.wanted j ⊎ (j ≡ i)) s s' adds adds'), refl)
  effect_unique (added low new adds) (not_added why) = absurd (⊎_elim (λ h. omega arith) new why)
  effect_unique (not_added why) (added low new adds) = absurd (⊎_elim (λ h. omega arith) new why)
  effect_unique (not_added why) (not_added why') = (refl, refl)
  effect_unique {k} (waived {i} {s} has less) (waived {s = s'} has' less') =
      (ap (with_wanted k) (same_members (λ j. Has k.wanted j × (j ≡ i → ⊥)) s s' less less'), refl)
  effect_unique (waived has less) (not_waived why) = absurd (why has)
  effect_unique (not_waived why) (waived has less) = absurd (why has)
  effect_unique (not_waived why) (not_waived why') = (refl, refl)
  effect_unique (asked valid a) (asked valid' a') = (refl, (asked_unique a a').1)
  effect_unique (asked valid a) (not_asked why) = absurd (why valid)
  effect_unique (not_asked why) (asked valid a) = absurd (why valid)
  effect_unique (not_asked why) (not_asked why') = (refl, refl)
  effect_unique (marked readable m) (marked readable' m') = (refl, (marked_unique m m').1)
  effect_unique (marked readable m) (not_marked why) = absurd (why readable)
  effect_unique (not_marked why) (marked readable m) = absurd (why readable)
  effect_unique (not_marked why) (not_marked why') = (refl, refl)

  -- ---- lists of calls

  since_same :
      {calls : List (Call V)} {k : Task} {kept : List Set} →
      Since t capacity calls k kept →
      {calls' : List (Call V)} {k' : Task} {kept' : List Set} →
      Since t capacity calls' k' kept' →
      calls ≡ calls' →
      (k ≡ k') × (kept ≡ kept')
  since_same opening opening e = (refl, refl)
  since_same opening (then {calls = calls'} {c = c'} h' f') e = absurd (push_not_none calls' c' e)
  since_same (then {calls} {c} h f) opening e = absurd (push_not_none calls c (sym e))
  since_same (then {calls} {c} h f) {k' = after'} {kept' = to'} (then {calls = calls'} {c = c'} h' f') e =
      let parts = push_same calls calls' c c' e in
      let before = since_same h h' parts.0 in
      let P : Call V → Task → List Set → Type 0 = λ x y z. Effect t capacity y z x after' to' in
      effect_unique f (subst₃ P (sym parts.1) (sym before.0) (sym before.1) f')

  -- a list of calls leads to one task and one list of kept sets
  pub since_unique :
      {calls : List (Call V)} {k k' : Task} {kept kept' : List Set} →
      Since t capacity calls k kept →
      Since t capacity calls k' kept' →
      (k ≡ k') × (kept ≡ kept')
  since_unique h h' = since_same h h' refl
