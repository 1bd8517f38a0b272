-- The least set that meets every kept landmark, where it is sufficient, gives the cheapest order of all.
use Rattle.std.proofs.Common.{◌≡◌, ℕ, ◌<◌, List, [], ◌∷◌, length, take, drop, sym, subst, ⊎_elim, take-append-drop}
use Rattle.sets.specs.declared.Set.{Set}
use Rattle.sets.specs.Member.{Has, Members, Meet, Sub}
use Rattle.sets.specs.Listed.{In}
use Rattle.sets.proofs.Laws.{has_or_not}
use Rattle.sets.proofs.Decided.{below_decided}
use Rattle.sets.proofs.Parts.{part_of}
use Rattle.scheme.specs.Task.{Task}
use Rattle.scheme.specs.Reach.{Sufficient}
use Rattle.scheme.specs.Orders.{Plan, Placed}
use Rattle.scheme.specs.Landmarks.{Landmark}
use Rattle.scheme.proofs.Reaches.{sufficient_grows}
use Rattle.sets.proofs.Lists.{Distinct}
use Rattle.scheme.proofs.Ordered.{placed_from, placed_once, placed_plan, sufficient_by_plan}
use Rattle.scheme.proofs.Drawing.{landmark_meets}
use Rattle.tariff.specs.Amounts.{Scale, All, AtMost}
use Rattle.tariff.proofs.Order.{at_most_chained, less_or_equal}
use Rattle.tariff.proofs.Sums.{all_back, all_take}
use Rattle.chooser.specs.Least.{Allowed, Capped, Hitting, Least, Precedes, set_cost, order_cost}
use Rattle.chooser.proofs.Precedence.{precedes_sub, precedes_proper, precedes_transitive, precedes_antisymmetric, cost_of_precedes}
use Rattle.chooser.proofs.OrderCosts.{works_of, cost_distinct, cost_order}
use Rattle.rules.specs.Rules.{Unbarred}
use Rattle.rules.specs.Calls.{Fair}
use Rattle.rules.specs.Promises.{Cheapest}

-- what follows of every element
pub all_map : {X : Type 0} (P Q : X → Type 0) → ((x : X) → P x → Q x) → (xs : List X) → All P xs → All Q xs
all_map P Q f [] h = tt
all_map P Q f (x ∷ xs) h = (f x h.0, all_map P Q f xs h.1)

once_distinct : (xs : List ℕ) → Distinct xs → Distinct xs
once_distinct [] h = tt
once_distinct (x ∷ xs) h = (h.0, once_distinct xs h.1)

module _ {V : Type 0} (t : Scale V) (k : Task) (prices : List V) (bars : Set) (fair : Fair t k prices) where
  -- ---- sets of unbarred works

  pub price_capped : (w : ℕ) → Capped t prices w
  price_capped w =
      all_take t.within 1 (drop w prices)
      (all_back t.within (take w prices) (drop w prices) (rw (take-append-drop w prices) fair.1))

  -- every held work that is not barred may be chosen
  pub held_allowed : (w : ℕ) → w < length k.works → Unbarred bars w → Allowed t prices bars w
  held_allowed w held not = (subst (λ (n : ℕ). w < n) (sym fair.0) held, price_capped w, not)

  -- a sufficient set of held, unbarred works meets every landmark
  pub sufficient_hits :
      {kept : List Set} →
      All (Landmark k) kept →
      (o : Set) →
      ((w : ℕ) → Has o w → (w < length k.works) × Unbarred bars w) →
      Sufficient k (Has o) →
      Hitting t prices bars kept o
  sufficient_hits {kept} marks o free enough = record {
    allowed = λ w y. held_allowed w (free w y).0 (free w y).1;
    meets = all_map (Landmark k) (Meet o)
        (λ l mark. let m = landmark_meets k l o mark enough in (m.0, m.2, m.1)) kept marks;
  }

  -- ---- a least set that is sufficient

  module _ {kept : List Set} (marks : All (Landmark k) kept) {s : Set} (least : Least t prices bars kept s) (enough : Sufficient k (Has s)) where
    least_unbarred : (w : ℕ) → Has s w → Unbarred bars w
    least_unbarred w y = (least.hitting.allowed w y).2

    -- it is the first of all sufficient sets of unbarred works
    pub first_sufficient :
        (o : Set) → ((w : ℕ) → Has o w → Unbarred bars w) → Sufficient k (Has o) → Precedes t prices s o
    first_sufficient o free all =
        let x = part_of o (λ w. w < length k.works) (λ w. below_decided w (length k.works)) in
        precedes_transitive t prices s x.0 o
        (least.first x.0
        (sufficient_hits marks x.0 (λ w y. let p = (x.1 w).0 y in (p.1, free w p.0))
        (sufficient_grows k (Has o) (Has x.0) (λ w held y. (x.1 w).1 (y, held)) all)))
        (precedes_sub t prices x.0 o (λ w y. ((x.1 w).0 y).0))

    -- no proper part of it is sufficient
    pub none_idle : (x : Set) → Sub x s → (w : ℕ) → Has s w → (Has x w → ⊥) → Sufficient k (Has x) → ⊥
    none_idle x sub w y out still =
        precedes_proper t prices x s sub w y out (first_sufficient x (λ v z. least_unbarred v (sub v z)) still)

    -- no plan costs less
    pub none_cheaper : (other : List ℕ) → Plan k bars other → AtMost t (set_cost t prices s) (order_cost t prices other)
    none_cheaper other plan =
        let x = works_of other in
        at_most_chained t _ _ _
        (cost_of_precedes t prices s x.0
        (first_sufficient x.0 (λ w y. plan.unbarred w ((x.1 w).0 y))
        (sufficient_by_plan (Has x.0) plan (λ w y. (x.1 w).1 y))))
        (cost_order t prices other x.0 (λ w y. (x.1 w).0 y))

    -- ---- its order

    module _ {order : List ℕ} (placed : Placed k.works s k.standing order) where
      pub placed_is_plan : Plan k bars order
      placed_is_plan = placed_plan placed enough least_unbarred

      -- every work of the set is placed
      pub all_placed : (w : ℕ) → Has s w → In w order
      all_placed w y =
          let x = works_of order in
          ⊎_elim (x.1 w).0
          (λ out. absurd (none_idle x.0 (λ v z. placed_from placed v ((x.1 v).0 z)) w y out
          (sufficient_by_plan (Has x.0) placed_is_plan (λ v z. (x.1 v).1 z))))
          (has_or_not x.0 w)

      pub placed_members : Members s (λ w. In w order)
      placed_members w = (all_placed w, placed_from placed w)

      -- the order costs as much as the set
      pub placed_cost : order_cost t prices order ≡ set_cost t prices s
      placed_cost = cost_distinct t prices order s (once_distinct order (placed_once placed)) placed_members

      -- the order is a plan, its cost is the set's, and no plan is cheaper
      pub placed_cheapest : Cheapest t k prices bars order (set_cost t prices s)
      placed_cheapest = record {
        plan = placed_is_plan;
        cost = sym placed_cost;
        none_cheaper = λ other plan. less_or_equal t _ _ (none_cheaper other plan);
      }

-- two least sets that are sufficient are the same, whatever landmarks each was drawn over
pub least_agree :
    {V : Type 0} (t : Scale V) (k : Task) (prices : List V) (bars : Set) →
    Fair t k prices →
    {kept kept' : List Set} →
    All (Landmark k) kept →
    All (Landmark k) kept' →
    {s s' : Set} →
    Least t prices bars kept s →
    Sufficient k (Has s) →
    Least t prices bars kept' s' →
    Sufficient k (Has s') →
    s ≡ s'
least_agree t k prices bars fair marks marks' {s} {s'} least enough least' enough' =
    precedes_antisymmetric t prices s s'
    (first_sufficient t k prices bars fair marks least enough s' (λ w y. (least'.hitting.allowed w y).2) enough')
    (first_sufficient t k prices bars fair marks' least' enough' s (λ w y. (least.hitting.allowed w y).2) enough)
