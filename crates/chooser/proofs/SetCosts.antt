-- The cost of a set by its members.
use Rattle.std.proofs.Common.{◌≡◌, ℕ, zero, suc, ◌^◌, ◌<◌, ◌≤◌, ◌⊎◌, List, [], ◌∷◌, length, get_or, take, sym, refl, ap, ◌∙◌, subst, inl, inr, ⊎_elim, arith, drop-cons}
use native.Mathlib.Nat.{suc_inj}
use lib.Seq.{drop-nil}
use Rattle.sets.specs.declared.Set.{Set}
use Rattle.sets.specs.Member.{Has, Members, Sub, none}
use Rattle.sets.proofs.Laws.{has_or_not, only_members, none_has}
use Rattle.tariff.specs.Amounts.{Scale, AtMost, sum}
use Rattle.tariff.proofs.Joins.{join_swap, at_most_joined_right, at_most_join_left, at_most_join_right}
use Rattle.chooser.specs.Least.{price, set_cost}
use Rattle.chooser.proofs.Halves.{half, up, down, picked_first, picked_later}
use Rattle.chooser.proofs.Parts.{less_others, put_back, union_parted}

-- ---- the price of one work

module _ {V : Type 0} where
  pub price_held : (prices : List V) (w : ℕ) (d : V) → w < length prices → price prices w ≡ get_or prices w d ∷ []
  price_held prices w d h = ap (take 1) (drop-cons prices w d h)

  pub price_past : (prices : List V) (w : ℕ) → length prices ≤ w → price prices w ≡ []
  price_past [] w h = ap (take 1) (drop-nil w)
  price_past (v ∷ vs) zero h = absurd (omega arith)
  price_past (v ∷ vs) (suc w) h = price_past vs w (omega arith)

-- ---- the cost of a set

module _ {V : Type 0} (t : Scale V) where
  cost_first : (v : V) (vs : List V) (s : Set) → Has s 0 → set_cost t (v ∷ vs) s ≡ t.join (t.amount v) (set_cost t vs (half s))
  cost_first v vs s h = ap (sum t) (picked_first v vs s h)

  cost_later : (v : V) (vs : List V) (s : Set) → (Has s 0 → ⊥) → set_cost t (v ∷ vs) s ≡ set_cost t vs (half s)
  cost_later v vs s not = ap (sum t) (picked_later v vs s not)

  -- a set of works past the end of the prices costs nothing
  pub cost_empty : (prices : List V) (s : Set) → ((k : ℕ) → k < length prices → Has s k → ⊥) → set_cost t prices s ≡ t.none
  cost_empty [] s h = refl
  cost_empty (v ∷ vs) s h =
      cost_later v vs s (h 0 (omega arith)) ∙ cost_empty vs (half s) (λ k lt y. h (suc k) (omega arith) (up s k y))

  pub cost_none : (prices : List V) → set_cost t prices none ≡ t.none
  cost_none prices = cost_empty prices none (λ k lt. none_has k)

  -- sets with the same members as far as the prices reach cost the same
  pub cost_same :
      (prices : List V) (a b : Set) → ((k : ℕ) → k < length prices → (Has a k → Has b k) × (Has b k → Has a k)) →
      set_cost t prices a ≡ set_cost t prices b
  cost_same [] a b h = refl
  cost_same (v ∷ vs) a b h =
      let rest =
      cost_same vs (half a) (half b)
      (λ k lt. (λ y. down b k ((h (suc k) (omega arith)).0 (up a k y)), λ y. down a k ((h (suc k) (omega arith)).1 (up b k y))))
      in
      let start = h 0 (omega arith) in
      ⊎_elim
      (λ y. cost_first v vs a y ∙ ap (t.join (t.amount v)) rest ∙ sym (cost_first v vs b (start.0 y)))
      (λ n. cost_later v vs a n ∙ rest ∙ sym (cost_later v vs b (λ y. n (start.1 y))))
      (has_or_not a 0)

  -- the members of either of two sets that share none
  pub cost_union :
      (prices : List V) (a b u : Set) → Members u (λ k. Has a k ⊎ Has b k) → ((k : ℕ) → Has a k → Has b k → ⊥) →
      set_cost t prices u ≡ t.join (set_cost t prices a) (set_cost t prices b)
  cost_union [] a b u m apart = sym (t.laws.neutral t.none)
  cost_union (v ∷ vs) a b u m apart =
      let cost : Set → t.Amount = λ s. set_cost t vs (half s) in
      let halves : Members (half u) (λ k. Has (half a) k ⊎ Has (half b) k) = λ k. (
        λ y. ⊎_elim (λ z. inl (down a k z)) (λ z. inr (down b k z)) ((m (suc k)).0 (up u k y)),
        ⊎_elim (λ z. down u k ((m (suc k)).1 (inl (up a k z)))) (λ z. down u k ((m (suc k)).1 (inr (up b k z)))),
      )
      in
      let rest : cost u ≡ t.join (cost a) (cost b) =
      cost_union vs (half a) (half b) (half u) halves (λ k y z. apart (suc k) (up a k y) (up b k z))
      in
      let joined : (x y : t.Amount) → set_cost t (v ∷ vs) a ≡ x → set_cost t (v ∷ vs) b ≡ y → t.join x y ≡ t.join (set_cost t (v ∷ vs) a) (set_cost t (v ∷ vs) b) =
      λ x y p q. ap (λ z. t.join z y) (sym p) ∙ ap (t.join (set_cost t (v ∷ vs) a)) (sym q)
      in
      ⊎_elim
      (λ in-a.
      cost_first v vs u ((m 0).1 (inl in-a)) ∙ ap (t.join (t.amount v)) rest ∙ sym (t.laws.grouped (t.amount v) (cost a) (cost b))
      ∙ joined _ _ (cost_first v vs a in-a) (cost_later v vs b (apart 0 in-a)))
      (λ not_a.
      ⊎_elim
      (λ in_b.
      cost_first v vs u ((m 0).1 (inr in_b)) ∙ ap (t.join (t.amount v)) rest ∙ join_swap t (t.amount v) (cost a) (cost b)
      ∙ joined _ _ (cost_later v vs a not_a) (cost_first v vs b in_b))
      (λ not-b.
      cost_later v vs u (λ y. ⊎_elim not_a not-b ((m 0).0 y)) ∙ rest
      ∙ joined _ _ (cost_later v vs a not_a) (cost_later v vs b not-b))
      (has_or_not b 0))
      (has_or_not a 0)

  pub cost_only : (prices : List V) (s : Set) (w : ℕ) → Members s (λ k. k ≡ w) → set_cost t prices s ≡ sum t (price prices w)
  cost_only [] s w m = sym (ap (λ vs. sum t (take 1 vs)) (drop-nil w))
  cost_only (v ∷ vs) s zero m =
      cost_first v vs s ((m 0).1 refl)
      ∙ ap (t.join (t.amount v)) (cost_empty vs (half s) (λ k lt y. omega (arith, (m (suc k)).0 (up s k y))))
  cost_only (v ∷ vs) s (suc w) m =
      cost_later v vs s (λ y. omega (arith, (m 0).0 y))
      ∙ cost_only vs (half s) w (λ k. (λ y. suc_inj ((m (suc k)).0 (up s k y)), λ e. down s k ((m (suc k)).1 (ap suc e))))

  module _ (prices : List V) where
    -- a work more
    pub cost_in :
        (s u : Set) (w : ℕ) → (Has s w → ⊥) → Members u (λ k. Has s k ⊎ (k ≡ w)) →
        set_cost t prices u ≡ t.join (sum t (price prices w)) (set_cost t prices s)
    cost_in s u w out m =
        let one : Set = record { bits = 2 ^ w } in
        let is-w = only_members w in
        cost_union prices one s u
        (λ k. (
          λ y. ⊎_elim inr (λ e. inl ((is-w k).1 e)) ((m k).0 y),
          ⊎_elim (λ y. (m k).1 (inr ((is-w k).0 y))) (λ y. (m k).1 (inl y)),
        ))
        (λ k y z. out (subst (Has s) ((is-w k).0 y) z))
        ∙ ap (λ x. t.join x (set_cost t prices s)) (cost_only prices one w is-w)

    -- a work fewer
    pub cost_out :
        (s x : Set) (w : ℕ) → Has s w → Members x (λ k. Has s k × (k ≡ w → ⊥)) →
        set_cost t prices s ≡ t.join (sum t (price prices w)) (set_cost t prices x)
    cost_out s x w h m = cost_in x s w (λ y. ((m w).0 y).1 refl) (put_back s x w h m)

    -- a subset costs at most as much
    pub cost_sub : (a b : Set) → Sub a b → AtMost t (set_cost t prices a) (set_cost t prices b)
    cost_sub a b h =
        let rest = less_others b a in
        let parts =
        cost_union prices a rest.0 b
        (λ k. (
          λ y. ⊎_elim inl (λ n. inr ((rest.1 k).1 (y, n))) (has_or_not a k),
          ⊎_elim (h k) (λ z. ((rest.1 k).0 z).0),
        ))
        (λ k y z. ((rest.1 k).0 z).1 y)
        in
        rw parts (at_most_joined_right t (set_cost t prices a) (set_cost t prices rest.0))

    -- the members of either of two sets cost at most as much as both
    pub cost_union_at_most :
        (a b u : Set) → Members u (λ k. Has a k ⊎ Has b k) → AtMost t (set_cost t prices u) (t.join (set_cost t prices a) (set_cost t prices b))
    cost_union_at_most a b u m =
        let rest = less_others b a in
        rw (cost_union prices a rest.0 u (union_parted a b u rest.0 m rest.1) (λ k y z. ((rest.1 k).0 z).1 y))
        (at_most_join_left t (set_cost t prices rest.0) (set_cost t prices b) (set_cost t prices a)
        (cost_sub rest.0 b (λ k z. ((rest.1 k).0 z).0)))

    -- one work in the place of another that costs at least as much
    pub cost_swap :
        (s x u : Set) (v w : ℕ) → Has s w → Members x (λ k. Has s k × (k ≡ w → ⊥)) → (Has x v → ⊥) → Members u (λ k. Has x k ⊎ (k ≡ v)) →
        AtMost t (sum t (price prices v)) (sum t (price prices w)) → AtMost t (set_cost t prices u) (set_cost t prices s)
    cost_swap s x u v w h m out n le =
        rw (cost_in x u v out n, cost_out s x w h m) (at_most_join_right t (sum t (price prices v)) (sum t (price prices w)) (set_cost t prices x) le)
