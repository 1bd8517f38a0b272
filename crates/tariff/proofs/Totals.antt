-- Totals of prices within the ceiling.
use Rattle.std.proofs.Common.{◌≡◌, ℕ, ◌+◌, ◌≤◌, [], ◌∷◌, ◌++◌, length, sym, refl, ap, ◌∙◌, suc-ne-zero, length-append}
use Rattle.tariff.specs.Amounts.{Scale, Total, Joined, sum}
use Rattle.tariff.proofs.Sums.{all_append, sum_one, sum_append}

module _ {V : Type 0} (t : Scale V) where
  pub total_none : (v : V) → t.amount v ≡ t.none → Total t 0 v
  total_none v e = ([], refl, tt, e)

  pub none_of_total : (v : V) → Total t 0 v → t.amount v ≡ t.none
  none_of_total v ([], e, h, s) = s
  none_of_total v (p ∷ ps, e, h, s) = absurd (suc-ne-zero (length ps) e)

  pub total_price : (v : V) → t.within v → Total t 1 v
  total_price v h = (v ∷ [], refl, (h, tt), sym (sum_one t v))

  pub total_same : (n : ℕ) (v w : V) → t.amount w ≡ t.amount v → Total t n v → Total t n w
  total_same n v w e (ps, l, h, s) = (ps, l, h, e ∙ s)

  pub total_join : (m n : ℕ) (a b r : V) → Total t m a → Total t n b → t.amount r ≡ t.join (t.amount a) (t.amount b) → Total t (m + n) r
  total_join m n a b r (ps, l, h, s) (qs, k, i, u) e = (
    ps ++ qs,
    length-append ps qs ∙ ap (λ x. x + length qs) l ∙ ap (λ x. m + x) k,
    all_append t.within ps qs h i,
    e ∙ ap (λ x. t.join x (t.amount b)) s ∙ ap (t.join (sum t ps)) u ∙ sym (sum_append t ps qs),
  )

  -- what the result of `Tariff::join` is a total of
  pub total_joined : (m n : ℕ) (a b r : V) → Joined t a b r → Total t m a → Total t n b → m + n ≤ 64 → Total t (m + n) r
  total_joined m n a b r j x y h = total_join m n a b r x y (j m n x y h)
