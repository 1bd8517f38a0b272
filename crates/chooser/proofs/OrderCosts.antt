-- The cost of an order, and how it stands to the cost of the set of its works.
use Rattle.std.proofs.Common.{◌≡◌, ℕ, ◌^◌, List, [], ◌∷◌, ◌++◌, sym, refl, ap, ◌∙◌, subst, inl, inr, ⊎_elim, append_assoc, append-nil, arith}
use lib.Bits.{bit_or}
use Rattle.sets.specs.declared.Set.{Set}
use Rattle.sets.specs.Listed.{In, Rising, Listed}
use Rattle.sets.specs.Member.{Has, Members, none}
use Rattle.sets.proofs.Laws.{has_or_not, none_has, only_members, union_members}
use Rattle.sets.proofs.Lists.{Distinct}
use Rattle.sets.proofs.Parts.{less_one}
use Rattle.tariff.specs.Amounts.{Scale, AtMost, sum}
use Rattle.tariff.proofs.Joins.{at_most_joined_left, at_most_join_left}
use Rattle.tariff.proofs.Order.{at_most_chained, at_most_of_equal}
use Rattle.tariff.proofs.Sums.{sum_append}
use Rattle.chooser.specs.Least.{price, priced, order_cost, set_cost}
use Rattle.chooser.proofs.SetCosts.{cost_empty, cost_same, cost_out}

-- the set of an order's works
pub works_of : (order : List ℕ) → (s : Set) × Members s (λ k. In k order)
works_of [] = (none, λ k. (λ y. none_has k y, λ h. absurd h))
works_of (w ∷ rest) =
    let s = works_of rest in
    let one : Set = record { bits = 2 ^ w } in
    let both = union_members one s.0 in (
      record { bits = bit_or (2 ^ w) s.0.bits },
      λ k. (
        λ y. ⊎_elim (λ z. inl ((only_members w k).0 z)) (λ z. inr ((s.1 k).0 z)) ((both k).0 y),
        ⊎_elim (λ e. (both k).1 (inl ((only_members w k).1 e))) (λ h. (both k).1 (inr ((s.1 k).1 h))),
      ),
    )

pub priced_append : {V : Type 0} (prices : List V) (xs ys : List ℕ) → priced prices (xs ++ ys) ≡ priced prices xs ++ priced prices ys
priced_append prices [] ys = refl
priced_append prices (w ∷ xs) ys =
    ap (λ vs. price prices w ++ vs) (priced_append prices xs ys) ∙ sym (append_assoc (price prices w) (priced prices xs) (priced prices ys))

module _ {V : Type 0} (t : Scale V) (prices : List V) where
  pub order_cost_first : (w : ℕ) (rest : List ℕ) → order_cost t prices (w ∷ rest) ≡ t.join (sum t (price prices w)) (order_cost t prices rest)
  order_cost_first w rest = sum_append t (price prices w) (priced prices rest)

  pub order_cost_append : (xs ys : List ℕ) → order_cost t prices (xs ++ ys) ≡ t.join (order_cost t prices xs) (order_cost t prices ys)
  order_cost_append xs ys = ap (sum t) (priced_append prices xs ys) ∙ sum_append t (priced prices xs) (priced prices ys)

  pub order_cost_push : (xs : List ℕ) (w : ℕ) → order_cost t prices (xs ++ (w ∷ [])) ≡ t.join (order_cost t prices xs) (sum t (price prices w))
  order_cost_push xs w =
      order_cost_append xs (w ∷ []) ∙ ap (λ vs. t.join (order_cost t prices xs) (sum t vs)) (append-nil (price prices w))

  -- an order costs as much as the set of its works, where none is repeated
  pub cost_distinct : (order : List ℕ) (s : Set) → Distinct order → Members s (λ k. In k order) → order_cost t prices order ≡ set_cost t prices s
  cost_distinct [] s d m = sym (cost_empty t prices s (λ k lt y. (m k).0 y))
  cost_distinct (w ∷ rest) s d m =
      let x = less_one s w in
      let others : Members x.0 (λ k. In k rest) = λ k. (
        λ y. let z = (x.1 k).0 y in ⊎_elim (λ e. absurd (z.1 e)) (λ h. h) ((m k).0 z.0),
        λ h. (x.1 k).1 ((m k).1 (inr h), λ e. d.0 (subst (λ (j : ℕ). In j rest) e h)),
      )
      in
      order_cost_first w rest
      ∙ ap (t.join (sum t (price prices w))) (cost_distinct rest x.0 d.1 others)
      ∙ sym (cost_out t prices s x.0 w ((m w).1 (inl refl)) x.1)

  -- an order costs at least as much as a set of works that all stand in it
  pub cost_order : (order : List ℕ) (s : Set) → ((k : ℕ) → Has s k → In k order) → AtMost t (set_cost t prices s) (order_cost t prices order)
  cost_order [] s h = at_most_of_equal t _ _ (cost_empty t prices s (λ k lt y. h k y))
  cost_order (w ∷ rest) s h =
      let x = less_one s w in
      let charge = sum t (price prices w) in
      let later =
      cost_order rest x.0 (λ k y. let z = (x.1 k).0 y in ⊎_elim (λ e. absurd (z.1 e)) (λ i. i) (h k z.0))
      in
      let charged : AtMost t (set_cost t prices s) (t.join charge (set_cost t prices x.0)) =
      ⊎_elim
      (λ y. at_most_of_equal t _ _ (cost_out t prices s x.0 w y x.1))
      (λ n.
      let same : set_cost t prices s ≡ set_cost t prices x.0 =
      cost_same t prices s x.0
      (λ k lt. (λ y. (x.1 k).1 (y, λ e. n (subst (Has s) e y)), λ y. ((x.1 k).0 y).0))
      in
      rw same (at_most_joined_left t (set_cost t prices x.0) charge))
      (has_or_not s w)
      in
      at_most_chained t _ _ _ charged
      (rw (order_cost_first w rest) (at_most_join_left t (set_cost t prices x.0) (order_cost t prices rest) charge later))

-- a rising list has no element twice
pub distinct_rising : (xs : List ℕ) → Rising xs → Distinct xs
distinct_rising [] r = tt
distinct_rising (x ∷ xs) r = (λ h. omega (arith, r.0 x h), distinct_rising xs r.1)

-- the members of a set in rising order cost as much as the set
pub cost_listed :
    {V : Type 0} (t : Scale V) (prices : List V) (s : Set) (xs : List ℕ) → Listed s xs → order_cost t prices xs ≡ set_cost t prices s
cost_listed t prices s xs l = cost_distinct t prices xs s (distinct_rising xs l.rising) l.members
