-- The bound on the costs, and the nodes that cannot better the best set.
use Rattle.std.proofs.Common.{◌≡◌, ℕ, ◌<◌, Bool, true, false, ◌⊎◌, List, IsTrue, Some, MatchBool, sym, refl, subst, inl, inr, ⊎_elim}
use Rattle.std.proofs.Math.Logic.{∥∥₁_elim, ∥∥₁_map}
use mathlib.Core.HLevel.{⊥_prop}
use Rattle.sets.specs.declared.Set.{Set}
use Rattle.sets.specs.Member.{Has, Members, Meet}
use Rattle.sets.proofs.Laws.{has_or_not, added_member}
use Rattle.tariff.specs.Amounts.{Scale, All, AtMost}
use Rattle.tariff.proofs.Joins.{at_most_join, at_most_joined_left}
use Rattle.tariff.proofs.Order.{at_most_chained, at_most_of_equal, less_at_most_chained}
use Rattle.chooser.specs.Least.{SetCapped, Precedes, set_cost}
use Rattle.chooser.proofs.Precedence.{precedes_of_cost, precedes_or_not}
use Rattle.chooser.proofs.SetCosts.{cost_sub, cost_in, cost_out}
use Rattle.searcher.specs.declared.node.Node.{Node}
use Rattle.searcher.specs.Costs.{Bounds, Cheapest, Outdoes, Paired, within, tied, Picked, Taken, work_cost}
use Rattle.searcher.specs.Nodes.{Inside, Better, Settled}
use Rattle.searcher.proofs.Steps.{beaten, better}

module _ {V : Type 0} (t : Scale V) (prices : List V) where
  -- a set with a work more costs at most as much as the set and the work
  with_at_most :
      (s u : Set) (w : ℕ) → w < 64 → Members u (λ k. Has s k ⊎ ((k ≡ w) × (w < 64))) →
      AtMost t (set_cost t prices u) (t.join (work_cost t prices w) (set_cost t prices s))
  with_at_most s u w lt m =
      ⊎_elim
      (λ y.
      at_most_chained t _ _ _
      (cost_sub t prices u s (λ k h. ⊎_elim (λ z. z) (λ e. subst (Has s) (sym e.0) y) ((m k).0 h)))
      (at_most_joined_left t (set_cost t prices s) (work_cost t prices w)))
      (λ out. at_most_of_equal t _ _ (cost_in t prices s u w out (added_member s u w lt m)))
      (has_or_not s w)

  -- where each work is tied to one that is not cheaper, the cost is not higher
  pub paired_cost :
      (P : ℕ → ℕ → Type 0) → ((w k : ℕ) → P w k → (w < 64) × AtMost t (work_cost t prices w) (work_cost t prices k)) →
      (a b : Set) → Paired P a b → AtMost t (set_cost t prices a) (set_cost t prices b)
  paired_cost P cheaper a b (within sub) = cost_sub t prices a b sub
  paired_cost P cheaper more all (tied a b w k so_far p has adds takes) =
      let both = cheaper w k p in
      rw (cost_out t prices all b k has takes)
      (at_most_chained t _ _ _ (with_at_most a more w both.0 adds)
      (at_most_join t _ _ _ _ both.1 (paired_cost P cheaper a b so_far)))

  -- what is picked is the cheapest of some free works
  pub bounds_picked :
      (Pick : Set → ℕ → Type 0) (sets : List Set) (n : Node) (bound : Set) → ((k : ℕ) → Has bound k → Has n.chosen k ⊎ Taken Pick n k) →
      ((o : Set) → Inside n o → All (Meet o) sets → Paired (Picked Pick n) bound o) →
      ((shared : Set) (w : ℕ) → Pick shared w → Cheapest t prices shared w) → SetCapped t prices n.free → Bounds t prices sets n bound
  bounds_picked Pick sets n bound taken paired cheap capped = record {
    within = λ k h. ⊎_elim inl (λ p. inr (p.1 k (cheap p.0 k p.2).member)) (taken k h);
    below = λ o inside m.
        paired_cost (Picked Pick n)
        (λ w k p. let one = cheap p.0 w p.2 in (one.low, one.least (λ j h. capped j (p.1 j h)) k p.3)) bound o (paired o inside m);
  }

  -- ---- a set that outdoes the bound

  module _ (sets : List Set) (n : Node) where
    -- a set that outdoes the bound precedes each hitting set of the node
    pub outdone :
        (s bound o : Set) → Bounds t prices sets n bound → Outdoes t prices sets n s bound → Inside n o → All (Meet o) sets → Precedes t prices s o
    outdone s bound o bounds (inl less) inside m = inl (less_at_most_chained t _ _ _ less (bounds.below o inside m))
    outdone s bound o bounds (inr (le, low)) inside m =
        precedes_of_cost t prices s o (at_most_chained t _ _ _ le (bounds.below o inside m)) (low o inside m)

    -- what the two tests of a node say together
    pub first_test :
        (s : Set) (b : Bool) → MatchBool b (Precedes t prices s n.chosen) (Precedes t prices s n.chosen → ⊥) →
        MatchBool b (Settled t prices sets (Some s) n) (Better t prices n.chosen (Some s))
    first_test s true h = beaten t prices sets n s h
    first_test s false not = better t prices sets n s not

    pub second_test :
        (s bound : Set) (b : Bool) → Bounds t prices sets n bound → (IsTrue b → Outdoes t prices sets n s bound) →
        (Precedes t prices s n.chosen → ⊥) → MatchBool b (Settled t prices sets (Some s) n) (Better t prices n.chosen (Some s))
    second_test s bound true bounds out not = λ o inside m. outdone s bound o bounds (out refl) inside m
    second_test s bound false bounds out not = better t prices sets n s not

    -- a set is known to precede another, or not
    precedes_stable : (a b : Set) → ∥ Precedes t prices a b ∥₁ → Precedes t prices a b
    precedes_stable a b h = ⊎_elim (λ p. p) (λ not. absurd (∥∥₁_elim h ⊥_prop not)) (precedes_or_not t prices a b)

    pub tests_stable :
        (s : Set) (b : Bool) → ∥ MatchBool b (Settled t prices sets (Some s) n) (Better t prices n.chosen (Some s)) ∥₁ →
        MatchBool b (Settled t prices sets (Some s) n) (Better t prices n.chosen (Some s))
    tests_stable s true h = λ o inside m. precedes_stable s o (∥∥₁_map h (λ settled. settled o inside m))
    tests_stable s false h = precedes_stable n.chosen s h
