-- What outcomes promise, and that two of them agree.
use Rattle.std.proofs.Common.{◌≡◌, ℕ, List, sym, refl, ap, ◌∙◌, subst}
use Rattle.sets.specs.declared.Set.{Set}
use Rattle.sets.specs.Member.{Has}
use Rattle.scheme.specs.Task.{Task}
use Rattle.scheme.specs.Reach.{Sufficient}
use Rattle.scheme.specs.Orders.{Placed}
use Rattle.scheme.specs.Landmarks.{Landmark}
use Rattle.scheme.proofs.Reaches.{sufficient_grows}
use Rattle.scheme.proofs.Ordered.{placed_unique}
use Rattle.tariff.specs.Amounts.{Scale, All}
use Rattle.chooser.specs.Least.{Least, set_cost}
use Rattle.rules.specs.Rules.{Outcome, Unbarred, Run, last, more, Settled, at_once, anew, Asked, beyond, found, spent}
use Rattle.rules.specs.Rules.Ending.{reached}
use Rattle.rules.specs.Rules.Outcome.{answered, out_of_reach, capacity_spent}
use Rattle.rules.specs.Calls.{Fair}
use Rattle.rules.specs.Promises.{Cheapest, Right, Agree}
use Rattle.rules.proofs.Kept.{marks_more}
use Rattle.rules.proofs.Optimal.{placed_cheapest, least_agree}
use Rattle.rules.proofs.Plans.{plan_of_sufficient, no_plan_of_insufficient}

module _ {V : Type 0} (t : Scale V) (k : Task) (prices : List V) (bars : Set) where
  -- what a reached set rests on: landmarks over which it is the least, and that it is sufficient
  pub record Based (s : Set) : Type 0 where
    pub over : List Set
    pub marks : All (Landmark k) over
    pub least : Least t prices bars over s
    pub enough : Sufficient k (Has s)

  -- what an outcome rests on
  abbrev pub Backed : Outcome t.Amount → Type 0
  Backed (answered order total rounds) =
      (s : Set) × Based s × Placed k.works s k.standing order × (total ≡ set_cost t prices s)
  Backed out_of_reach = Sufficient k (Unbarred bars) → ⊥
  Backed capacity_spent = Sufficient k (Unbarred bars)

  based_unbarred : {s : Set} → Based s → Sufficient k (Unbarred bars)
  based_unbarred {s} b = sufficient_grows k (Has s) (Unbarred bars) (λ w held y. (b.least.hitting.allowed w y).2) b.enough

  -- ---- from the rules

  module _ {capacity : ℕ} where
    pub run_based :
        {kept to : List Set} {s : Set} {n : ℕ} →
        Run t capacity k prices bars kept (reached s) to n →
        All (Landmark k) kept →
        Based s
    run_based (last {kept} least enough) marks = record { over = kept; marks = marks; least = least; enough = enough }
    run_based (more {kept} least short place drawn r) marks = run_based r (marks_more kept marks drawn short)

    pub settled_based :
        {kept to : List Set} {s : Set} {n : ℕ} →
        Settled t capacity k prices bars kept (reached s) to n →
        All (Landmark k) kept →
        Based s
    settled_based (at_once r) marks = run_based r marks
    settled_based (anew some r r') marks = run_based r' tt

    pub asked_backed :
        {kept to : List Set} {o : Outcome t.Amount} →
        Asked t capacity k prices bars kept o to →
        All (Landmark k) kept →
        Backed o
    asked_backed (beyond short) marks = short
    asked_backed (found {s} enough r placed) marks = (s, settled_based r marks, placed, refl)
    asked_backed (spent enough r) marks = enough

  -- ---- what follows

  module _ (fair : Fair t k prices) where
    pub backed_right : (o : Outcome t.Amount) → Backed o → Right t k prices bars o
    backed_right (answered order total rounds) (s, b, placed, e) =
        subst (Cheapest t k prices bars order) (sym e)
        (placed_cheapest t k prices bars fair b.marks b.least b.enough placed)
    backed_right out_of_reach short = no_plan_of_insufficient k bars short
    backed_right capacity_spent enough = plan_of_sufficient k bars enough

    backed_agree : (o o' : Outcome t.Amount) → Backed o → Backed o' → Agree o o'
    backed_agree (answered order total n) (answered order' total' n') (s, b, placed, e) (s', b', placed', e') =
        let same : s' ≡ s =
        least_agree t k prices bars fair b'.marks b.marks b'.least b'.enough b.least b.enough
        in
        let Order : Set → Type 0 = λ x. Placed k.works x k.standing order' in
        (placed_unique placed (subst Order same placed'), e ∙ ap (set_cost t prices) (sym same) ∙ sym e')
    backed_agree (answered order total n) out_of_reach (s, b, placed, e) short = short (based_unbarred b)
    backed_agree (answered order total n) capacity_spent b enough = tt
    backed_agree out_of_reach (answered order total n) short (s, b, placed, e) = short (based_unbarred b)
    backed_agree out_of_reach out_of_reach short short' = tt
    backed_agree out_of_reach capacity_spent short enough = short enough
    backed_agree capacity_spent (answered order total n) enough b = tt
    backed_agree capacity_spent out_of_reach enough short = short enough
    backed_agree capacity_spent capacity_spent enough enough' = tt

    -- a question over landmarks keeps its promise
    pub asked_right :
        {capacity : ℕ} {kept to : List Set} {o : Outcome t.Amount} →
        Asked t capacity k prices bars kept o to →
        All (Landmark k) kept →
        Right t k prices bars o
    asked_right {o} a marks = backed_right o (asked_backed a marks)

    -- two questions over landmarks agree, whatever landmarks and capacities they have
    pub asked_agree :
        {capacity capacity' : ℕ} {kept kept' to to' : List Set} {o o' : Outcome t.Amount} →
        Asked t capacity k prices bars kept o to →
        Asked t capacity' k prices bars kept' o' to' →
        All (Landmark k) kept →
        All (Landmark k) kept' →
        Agree o o'
    asked_agree {o} {o'} a a' marks marks' = backed_agree o o' (asked_backed a marks) (asked_backed a' marks')
