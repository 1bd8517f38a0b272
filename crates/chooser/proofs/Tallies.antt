-- A running total of the prices of works.
use Rattle.std.proofs.Common.{◌≡◌, ℕ, ◌<◌, ◌≤◌, List, [], ◌∷◌, ◌++◌, length, get_or, drop, refl, sym, ap, ◌∙◌, subst, inl, inr, arith, length-append, length-take}
use Rattle.tariff.specs.Amounts.{Scale, All, Total, sum}
use Rattle.tariff.proofs.Joins.{join_none}
use Rattle.tariff.proofs.Sums.{all_append, all_front, all_back, sum_one}
use Rattle.tariff.proofs.Totals.{total_price}
use Rattle.chooser.specs.Least.{Capped, OrderCapped, price, priced, order_cost}
use Rattle.chooser.specs.Steps.{Charged}
use Rattle.chooser.proofs.OrderCosts.{order_cost_push}
use Rattle.chooser.proofs.SetCosts.{price_held, price_past}

module _ {V : Type 0} (t : Scale V) (prices : List V) where
  -- ---- the price of a work that is read from the list

  module _ (w : ℕ) (v : V) (held : w < length prices) (is : v ≡ get_or prices w v) where
    pub within_of : Capped t prices w → t.within v
    within_of h = subst t.within (sym is) (rw (price_held prices w v held) at h).0

    pub capped_of : t.within v → Capped t prices w
    capped_of h = rw (price_held prices w v held) (subst t.within is h, tt)

    price_sum : sum t (price prices w) ≡ t.amount v
    price_sum = ap (sum t) (price_held prices w v held) ∙ sum_one t (get_or prices w v) ∙ ap t.amount (sym is)

  -- ---- one work charged

  charged_sum :
      (total r : V) (w n : ℕ) → Charged t prices total w r → Total t n total → n < 64 → Capped t prices w →
      t.amount r ≡ t.join (t.amount total) (sum t (price prices w))
  charged_sum total r w n (inl (v, held, is, joins)) counted few capped =
      joins n 1 counted (total_price t v (within_of w v held is capped)) (omega arith)
      ∙ ap (t.join (t.amount total)) (sym (price_sum w v held is))
  charged_sum total r w n (inr (past, same)) counted few capped =
      ap t.amount same
      ∙ sym (ap (λ vs. t.join (t.amount total) (sum t vs)) (price_past prices w past) ∙ join_none t (t.amount total))

  -- ---- works charged one after another

  priced_within : (works : List ℕ) → OrderCapped t prices works → All t.within (priced prices works)
  priced_within [] capped = tt
  priced_within (w ∷ works) capped = all_append t.within (price prices w) (priced prices works) capped.0 (priced_within works capped.1)

  priced_few : (works : List ℕ) → length (priced prices works) ≤ length works
  priced_few [] = omega arith
  priced_few (w ∷ works) =
      omega (arith, length-append (price prices w) (priced prices works), length-take 1 (drop w prices), priced_few works)

  -- a total so far of as many works as may be charged
  abbrev pub Tally : List ℕ → V → Type 0
  Tally works total = length works ≤ 64 → OrderCapped t prices works → t.amount total ≡ order_cost t prices works

  pub tally_more : (works : List ℕ) (w : ℕ) (total r : V) → Tally works total → Charged t prices total w r → Tally (works ++ (w ∷ [])) r
  tally_more works w total r tally charges short capped =
      let more = length-append works (w ∷ []) in
      let front = all_front (Capped t prices) works (w ∷ []) capped in
      let whole = tally (omega (arith, more)) front in
      charged_sum total r w (length (priced prices works)) charges (priced prices works, refl, priced_within works front, whole)
      (omega (arith, more, priced_few works)) (all_back (Capped t prices) works (w ∷ []) capped).0
      ∙ ap (λ x. t.join x (sum t (price prices w))) whole
      ∙ sym (order_cost_push t prices works w)
