-- Which of two sets comes first: a linear order on sets.
use Rattle.std.proofs.Common.{◌≡◌, ℕ, ◌^◌, ◌≤◌, ◌⊎◌, List, sym, refl, ap, ◌∙◌, subst, inl, inr, ⊎_elim, arith}
use native.Mathlib.Decide.{dec_lt}
use Rattle.sets.specs.declared.Set.{Set}
use Rattle.sets.specs.Member.{Has, Members, Sub}
use Rattle.sets.proofs.Laws.{only_members, sub_le, proper_lt}
use Rattle.tariff.specs.Amounts.{Scale, AtMost}
use Rattle.tariff.proofs.Order.{less_asymmetric, less_or_equal, at_most_of_less, at_most_of_equal, at_most_less_chained}
use Rattle.chooser.specs.Least.{Precedes, set_cost}
use Rattle.chooser.proofs.SetCosts.{cost_sub, cost_union, cost_union_at_most}
use Rattle.chooser.proofs.UnionNumbers.{number_union, number_union_at_most}

same_number : (a b : Set) → a.bits ≡ b.bits → a ≡ b
same_number a b e = ap (λ (n : ℕ). record { bits = n }) e

module _ {V : Type 0} (t : Scale V) (prices : List V) where
  pub precedes_reflexive : (a : Set) → Precedes t prices a a
  precedes_reflexive a = inr (refl, omega arith)

  pub precedes_transitive : (a b c : Set) → Precedes t prices a b → Precedes t prices b c → Precedes t prices a c
  precedes_transitive a b c (inl h) (inl k) = inl (t.laws.chained _ _ _ h k)
  precedes_transitive a b c (inl h) (inr k) = inl (subst (t.less (set_cost t prices a)) k.0 h)
  precedes_transitive a b c (inr h) (inl k) = inl (subst (λ (x : t.Amount). t.less x (set_cost t prices c)) (sym h.0) k)
  precedes_transitive a b c (inr h) (inr k) = inr (h.0 ∙ k.0, omega arith)

  pub precedes_antisymmetric : (a b : Set) → Precedes t prices a b → Precedes t prices b a → a ≡ b
  precedes_antisymmetric a b (inl h) (inl k) = absurd (less_asymmetric t _ _ h k)
  precedes_antisymmetric a b (inl h) (inr k) = absurd (at_most_of_equal t _ _ k.0 h)
  precedes_antisymmetric a b (inr h) (inl k) = absurd (at_most_of_equal t _ _ h.0 k)
  precedes_antisymmetric a b (inr h) (inr k) = same_number a b (omega arith)

  -- of two sets one comes first, strictly, or the other comes no later
  pub precedes_or_after : (a b : Set) → Precedes t prices a b ⊎ (Precedes t prices b a × (Precedes t prices a b → ⊥))
  precedes_or_after a b =
      elim (t.laws.compared (set_cost t prices a) (set_cost t prices b)) [
        | inl h ↦ inl (inl h)
        | inr (inr h) ↦ inr (inl h, ⊎_elim (less_asymmetric t _ _ h) (λ k. at_most_of_equal t _ _ k.0 h))
        | inr (inl e) ↦ elim (dec_lt b.bits a.bits) [
          | yes lt ↦ inr (
            inr (sym e, omega arith),
            ⊎_elim (λ h. at_most_of_equal t _ _ (sym e) h) (λ k. omega (arith, k.1)),
          )
          | no ge ↦ inl (inr (e, omega arith))
        ]
      ]

  pub precedes_total : (a b : Set) → Precedes t prices a b ⊎ Precedes t prices b a
  precedes_total a b = ⊎_elim inl (λ k. inr k.0) (precedes_or_after a b)

  pub precedes_or_not : (a b : Set) → Precedes t prices a b ⊎ (Precedes t prices a b → ⊥)
  precedes_or_not a b = ⊎_elim inl (λ k. inr k.1) (precedes_or_after a b)

  -- what does not come before comes after
  pub precedes_of_not : (a b : Set) → (Precedes t prices a b → ⊥) → Precedes t prices b a
  precedes_of_not a b not = ⊎_elim (λ h. absurd (not h)) (λ k. k.0) (precedes_or_after a b)

  -- what comes before is not dearer
  pub cost_of_precedes : (a b : Set) → Precedes t prices a b → AtMost t (set_cost t prices a) (set_cost t prices b)
  cost_of_precedes a b = ⊎_elim (at_most_of_less t _ _) (λ k. at_most_of_equal t _ _ k.0)

  -- a set that is not dearer, with a number that is not greater
  pub precedes_of_cost :
      (a b : Set) → AtMost t (set_cost t prices a) (set_cost t prices b) → a.bits ≤ b.bits → Precedes t prices a b
  precedes_of_cost a b h le = ⊎_elim inl (λ e. inr (e, le)) (less_or_equal t _ _ h)

  pub precedes_sub : (a b : Set) → Sub a b → Precedes t prices a b
  precedes_sub a b h = precedes_of_cost a b (cost_sub t prices a b h) (sub_le a b h)

  -- a proper subset comes first, strictly
  pub precedes_proper : (a b : Set) → Sub a b → (k : ℕ) → Has b k → (Has a k → ⊥) → Precedes t prices b a → ⊥
  precedes_proper a b h k in_b not_a (inl less) = cost_sub t prices a b h less
  precedes_proper a b h k in_b not_a (inr same) = omega (arith, proper_lt a b h k in_b not_a)

  -- the same works joined to both: those that the later set has none of
  pub precedes_union :
      (a b c x y : Set) → Precedes t prices a b → ((k : ℕ) → Has b k → Has c k → ⊥) → Members x (λ k. Has a k ⊎ Has c k) →
      Members y (λ k. Has b k ⊎ Has c k) → Precedes t prices x y
  precedes_union a b c x y h apart m n =
      let cost = set_cost t prices in
      let up_to : AtMost t (cost x) (t.join (cost a) (cost c)) = cost_union_at_most t prices a c x m in
      let whole : cost y ≡ t.join (cost b) (cost c) = cost_union t prices b c y n apart in
      elim h [
        | inl less ↦ inl (rw whole (at_most_less_chained t _ _ _ up_to (t.laws.monotone _ _ _ less)))
        | inr same ↦ precedes_of_cost x y
            (subst (AtMost t (cost x)) (ap (λ z. t.join z (cost c)) same.0 ∙ sym whole) up_to)
            (omega (arith, number_union_at_most a c x m, number_union b c y n apart))
      ]

  -- one work joined to both
  pub precedes_with :
      (a b x y : Set) (w : ℕ) → Precedes t prices a b → (Has b w → ⊥) → Members x (λ k. Has a k ⊎ (k ≡ w)) →
      Members y (λ k. Has b k ⊎ (k ≡ w)) → Precedes t prices x y
  precedes_with a b x y w h out m n =
      let one : Set = record { bits = 2 ^ w } in
      let is-w = only_members w in
      let joined : (s u : Set) → Members u (λ k. Has s k ⊎ (k ≡ w)) → Members u (λ k. Has s k ⊎ Has one k) = λ s u p k. (
        λ z. ⊎_elim inl (λ e. inr ((is-w k).1 e)) ((p k).0 z),
        ⊎_elim (λ z. (p k).1 (inl z)) (λ z. (p k).1 (inr ((is-w k).0 z))),
      )
      in
      precedes_union a b one x y h (λ k z e. out (subst (Has b) ((is-w k).0 e) z)) (joined a x m) (joined b y n)
