-- The amounts of the tariff `HoursFirst`: pairs of whole numbers, joined by sums and compared by hours and then pounds.
use Rattle.std.specs.Prelude.{◌≡◌, ℕ, ◌+◌, ◌<◌, ◌≤◌, ◌⊎◌}
use Rattle.std.proofs.Common.{ap, ◌∙◌, inl, inr, arith}
use Rattle.tariff.specs.Amounts.{Laws, Scale}
use Rattle.tariff.specs.Numbers.{saturated_sum, trichotomy}
use Rattle.tariff.specs.declared.hours_first.HoursAndPounds.{HoursAndPounds}

pub record Pair : Type 0 where
  pub hours : ℕ
  pub pounds : ℕ

abbrev pub pair : ℕ → ℕ → Pair
pair h p = record { hours = h; pounds = p }

abbrev pub join_pairs : Pair → Pair → Pair
join_pairs x y = pair (x.hours + y.hours) (x.pounds + y.pounds)

abbrev pub less_pair : Pair → Pair → Type 0
less_pair x y = (x.hours < y.hours) ⊎ ((x.hours ≡ y.hours) × (x.pounds < y.pounds))

pub same_pair : (x y : Pair) → x.hours ≡ y.hours → x.pounds ≡ y.pounds → x ≡ y
same_pair x y h p = ap (λ n. pair n x.pounds) h ∙ ap (pair y.hours) p

compared_pairs : (x y : Pair) → less_pair x y ⊎ ((x ≡ y) ⊎ less_pair y x)
compared_pairs x y =
    elim (trichotomy x.hours y.hours) [
      | inl h ↦ inl (inl h)
      | inr (inr h) ↦ inr (inr (inl h))
      | inr (inl e) ↦ elim (trichotomy x.pounds y.pounds) [
        | inl h ↦ inl (inr (e, h))
        | inr (inl p) ↦ inr (inl (same_pair x y e p))
        | inr (inr h) ↦ inr (inr (inr (omega arith, h)))
      ]
    ]

chained_pairs : (x y z : Pair) → less_pair x y → less_pair y z → less_pair x z
chained_pairs x y z (inl h) (inl k) = inl (omega arith)
chained_pairs x y z (inl h) (inr k) = inl (omega arith)
chained_pairs x y z (inr h) (inl k) = inl (omega arith)
chained_pairs x y z (inr h) (inr k) = inr (omega arith, omega arith)

monotone_pairs : (x y z : Pair) → less_pair x y → less_pair (join_pairs x z) (join_pairs y z)
monotone_pairs x y z (inl h) = inl (omega arith)
monotone_pairs x y z (inr h) = inr (omega arith, omega arith)

pub pair_laws : Laws (pair 0 0) join_pairs less_pair
pair_laws = record {
  grouped = λ x y z. same_pair _ _ (omega arith) (omega arith);
  ordered = λ x y. same_pair _ _ (omega arith) (omega arith);
  neutral = λ x. same_pair _ _ (omega arith) (omega arith);
  compared = compared_pairs;
  never_itself = λ x h. omega arith;
  chained = chained_pairs;
  none_least = λ x h. omega arith;
  monotone = monotone_pairs;
}

abbrev value : Pair → HoursAndPounds
value a = record { hours = a.hours; pounds = a.pounds }

abbrev pub hours_first_scale : Scale HoursAndPounds
hours_first_scale = record {
  Amount = Pair;
  none = pair 0 0;
  join = join_pairs;
  less = less_pair;
  laws = pair_laws;
  amount = λ v. pair v.hours v.pounds;
  faithful = λ x y e. ap value e;
  within = λ v. (v.hours ≤ 65535) × (v.pounds ≤ 65535);
}

-- what `join` of `HoursFirst` answers
abbrev pub saturated_sums : HoursAndPounds → HoursAndPounds → HoursAndPounds
saturated_sums a b = record {
  hours = saturated_sum a.hours b.hours;
  pounds = saturated_sum a.pounds b.pounds;
}
