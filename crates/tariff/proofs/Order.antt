-- Comparison of a scale's amounts.
use Rattle.std.proofs.Common.{◌≡◌, ◌⊎◌, sym, subst, inl, inr}
use Rattle.tariff.specs.Amounts.{Scale, AtMost}

module _ {V : Type 0} (t : Scale V) where
  pub less_asymmetric : (x y : t.Amount) → t.less x y → t.less y x → ⊥
  less_asymmetric x y h k = t.laws.never_itself x (t.laws.chained x y x h k)

  -- of two values one is less, or they are the same value
  pub compared_values : (v w : V) → t.less (t.amount v) (t.amount w) ⊎ ((v ≡ w) ⊎ t.less (t.amount w) (t.amount v))
  compared_values v w =
      elim (t.laws.compared (t.amount v) (t.amount w)) [
        | inl h ↦ inl h
        | inr (inl e) ↦ inr (inl (t.faithful v w e))
        | inr (inr h) ↦ inr (inr h)
      ]

  pub at_most_reflexive : (x : t.Amount) → AtMost t x x
  at_most_reflexive x = t.laws.never_itself x

  pub at_most_none : (x : t.Amount) → AtMost t t.none x
  at_most_none x = t.laws.none_least x

  pub at_most_of_less : (x y : t.Amount) → t.less x y → AtMost t x y
  at_most_of_less x y h = less_asymmetric x y h

  pub at_most_of_equal : (x y : t.Amount) → x ≡ y → AtMost t x y
  at_most_of_equal x y e = subst (AtMost t x) e (at_most_reflexive x)

  pub at_most_or_less : (x y : t.Amount) → AtMost t x y ⊎ t.less y x
  at_most_or_less x y =
      elim (t.laws.compared x y) [
        | inl h ↦ inl (at_most_of_less x y h)
        | inr (inl e) ↦ inl (at_most_of_equal x y e)
        | inr (inr h) ↦ inr h
      ]

  pub less_or_equal : (x y : t.Amount) → AtMost t x y → t.less x y ⊎ (x ≡ y)
  less_or_equal x y h =
      elim (t.laws.compared x y) [ inl k ↦ inl k | inr (inl e) ↦ inr e | inr (inr k) ↦ absurd (h k) ]

  pub less_at_most_chained : (x y z : t.Amount) → t.less x y → AtMost t y z → t.less x z
  less_at_most_chained x y z h k =
      elim (less_or_equal y z k) [ inl l ↦ t.laws.chained x y z h l | inr e ↦ subst (t.less x) e h ]

  pub at_most_less_chained : (x y z : t.Amount) → AtMost t x y → t.less y z → t.less x z
  at_most_less_chained x y z h k =
      elim (less_or_equal x y h) [ inl l ↦ t.laws.chained x y z l k | inr e ↦ subst (λ (w : t.Amount). t.less w z) (sym e) k ]

  pub at_most_chained : (x y z : t.Amount) → AtMost t x y → AtMost t y z → AtMost t x z
  at_most_chained x y z h k l = h (at_most_less_chained y z x k l)

  pub at_most_antisymmetric : (x y : t.Amount) → AtMost t x y → AtMost t y x → x ≡ y
  at_most_antisymmetric x y h k = elim (less_or_equal x y h) [ inl l ↦ absurd (k l) | inr e ↦ e ]
