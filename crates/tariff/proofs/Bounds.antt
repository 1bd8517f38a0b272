-- A bound on totals, from a bound on single prices; up to it saturated sums are sums.
use Rattle.std.proofs.Common.{◌≡◌, ℕ, ◌+◌, ◌*◌, ◌≤◌, List, [], ◌∷◌, length, mul-suc, arith}
use Rattle.tariff.specs.Amounts.{Scale, All, Total, sum}
use Rattle.tariff.specs.Numbers.{saturated_sum}

-- a size of amounts that adds up where amounts are joined
module _ {V : Type 0} (t : Scale V) (size : t.Amount → ℕ) (empty : size t.none ≡ 0) (adds : (x y : t.Amount) → size (t.join x y) ≡ size x + size y) where
  -- and is at most c for a price
  module _ (c : ℕ) (price : (v : V) → t.within v → size (t.amount v) ≤ c) where
    pub sum_bound : (ps : List V) → All t.within ps → size (sum t ps) ≤ c * length ps
    sum_bound [] h = omega (arith, empty)
    sum_bound (p ∷ ps) h = omega (arith, adds (t.amount p) (sum t ps), price p h.0, sum_bound ps h.1, mul-suc c (length ps))

    pub total_bound : (n : ℕ) (v : V) → Total t n v → size (t.amount v) ≤ c * n
    total_bound n v (ps, l, h, s) = rw (s, ← l) (sum_bound ps h)

  -- and is at most the ceiling for a price: the sizes of two totals of few prices add up below the largest number of 64 bits
  pub few_add_up : ((v : V) → t.within v → size (t.amount v) ≤ 65535) →
      (m n : ℕ) (a b : V) → Total t m a → Total t n b → m + n ≤ 64 →
      saturated_sum (size (t.amount a)) (size (t.amount b)) ≡ size (t.amount a) + size (t.amount b)
  few_add_up price m n a b total_a total_b few =
      omega (arith, total_bound 65535 price m a total_a, total_bound 65535 price n b total_b)
