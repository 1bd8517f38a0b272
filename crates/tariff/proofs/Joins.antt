-- Joining of a scale's amounts, and how it keeps their order.
use Rattle.std.proofs.Common.{◌≡◌, sym, ap, ◌∙◌, subst, inl, inr}
use Rattle.tariff.specs.Amounts.{Scale, AtMost}
use Rattle.tariff.proofs.Order.{less_asymmetric, at_most_none, at_most_of_equal, less_at_most_chained, at_most_less_chained, at_most_chained, at_most_antisymmetric}

module _ {V : Type 0} (t : Scale V) where
  pub join_none : (x : t.Amount) → t.join x t.none ≡ x
  join_none x = t.laws.ordered x t.none ∙ t.laws.neutral x

  pub join_swap : (x y z : t.Amount) → t.join x (t.join y z) ≡ t.join y (t.join x z)
  join_swap x y z =
      sym (t.laws.grouped x y z) ∙ ap (λ w. t.join w z) (t.laws.ordered x y) ∙ t.laws.grouped y x z

  pub join_exchange : (w x y z : t.Amount) → t.join (t.join w x) (t.join y z) ≡ t.join (t.join w y) (t.join x z)
  join_exchange w x y z =
      t.laws.grouped w x (t.join y z) ∙ ap (t.join w) (join_swap x y z) ∙ sym (t.laws.grouped w y (t.join x z))

  -- the law `monotone`, with the third amount joined on the left
  pub less_join_left : (x y z : t.Amount) → t.less x y → t.less (t.join z x) (t.join z y)
  less_join_left x y z h = rw (t.laws.ordered z x, t.laws.ordered z y) (t.laws.monotone x y z h)

  pub less_join : (w x y z : t.Amount) → t.less w x → t.less y z → t.less (t.join w y) (t.join x z)
  less_join w x y z h k = t.laws.chained _ _ _ (t.laws.monotone w x y h) (less_join_left y z x k)

  pub less_cancel_right : (x y z : t.Amount) → t.less (t.join x z) (t.join y z) → t.less x y
  less_cancel_right x y z h =
      elim (t.laws.compared x y) [
        | inl k ↦ k
        | inr (inl e) ↦ absurd (t.laws.never_itself (t.join y z) (subst (λ (w : t.Amount). t.less (t.join w z) (t.join y z)) e h))
        | inr (inr k) ↦ absurd (less_asymmetric t _ _ h (t.laws.monotone y x z k))
      ]

  pub less_cancel_left : (x y z : t.Amount) → t.less (t.join z x) (t.join z y) → t.less x y
  less_cancel_left x y z h = less_cancel_right x y z (rw (t.laws.ordered x z, t.laws.ordered y z) h)

  pub at_most_join_right : (x y z : t.Amount) → AtMost t x y → AtMost t (t.join x z) (t.join y z)
  at_most_join_right x y z h k = h (less_cancel_right y x z k)

  pub at_most_join_left : (x y z : t.Amount) → AtMost t x y → AtMost t (t.join z x) (t.join z y)
  at_most_join_left x y z h k = h (less_cancel_left y x z k)

  pub at_most_join : (w x y z : t.Amount) → AtMost t w x → AtMost t y z → AtMost t (t.join w y) (t.join x z)
  at_most_join w x y z h k =
      at_most_chained t (t.join w y) (t.join x y) (t.join x z) (at_most_join_right w x y h) (at_most_join_left y z x k)

  pub less_at_most_join : (w x y z : t.Amount) → t.less w x → AtMost t y z → t.less (t.join w y) (t.join x z)
  less_at_most_join w x y z h k =
      less_at_most_chained t (t.join w y) (t.join x y) (t.join x z) (t.laws.monotone w x y h) (at_most_join_left y z x k)

  pub at_most_less_join : (w x y z : t.Amount) → AtMost t w x → t.less y z → t.less (t.join w y) (t.join x z)
  at_most_less_join w x y z h k =
      at_most_less_chained t (t.join w y) (t.join x y) (t.join x z) (at_most_join_right w x y h) (less_join_left y z x k)

  pub at_most_cancel_right : (x y z : t.Amount) → AtMost t (t.join x z) (t.join y z) → AtMost t x y
  at_most_cancel_right x y z h k = h (t.laws.monotone y x z k)

  pub at_most_cancel_left : (x y z : t.Amount) → AtMost t (t.join z x) (t.join z y) → AtMost t x y
  at_most_cancel_left x y z h k = h (less_join_left y x z k)

  pub join_cancel_right : (x y z : t.Amount) → t.join x z ≡ t.join y z → x ≡ y
  join_cancel_right x y z e =
      at_most_antisymmetric t x y
      (at_most_cancel_right x y z (at_most_of_equal t _ _ e))
      (at_most_cancel_right y x z (at_most_of_equal t _ _ (sym e)))

  pub join_cancel_left : (x y z : t.Amount) → t.join z x ≡ t.join z y → x ≡ y
  join_cancel_left x y z e = join_cancel_right x y z (t.laws.ordered x z ∙ e ∙ t.laws.ordered z y)

  pub at_most_joined_right : (x y : t.Amount) → AtMost t x (t.join x y)
  at_most_joined_right x y =
      subst (λ (w : t.Amount). AtMost t w (t.join x y)) (join_none x) (at_most_join_left t.none y x (at_most_none t y))

  pub at_most_joined_left : (x y : t.Amount) → AtMost t x (t.join y x)
  at_most_joined_left x y = rw (t.laws.ordered y x) (at_most_joined_right x y)

  pub less_joined_right : (x y : t.Amount) → t.less t.none y → t.less x (t.join x y)
  less_joined_right x y h =
      subst (λ (w : t.Amount). t.less w (t.join x y)) (join_none x) (less_join_left t.none y x h)

  pub less_joined_left : (x y : t.Amount) → t.less t.none y → t.less x (t.join y x)
  less_joined_left x y h = rw (t.laws.ordered y x) (less_joined_right x y h)
