-- Joining that takes the larger of two whole numbers is not strictly monotone, so it gives no tariff.
use Rattle.std.specs.Prelude.{ℕ, ◌<◌, max}
use Rattle.tariff.specs.Amounts.{Laws}

-- x is less than y, but not when z is joined to both
abbrev pub BreaksMonotone : ℕ → ℕ → ℕ → Type 0
BreaksMonotone x y z = (x < y) × (max x z < max y z → ⊥)

-- the law `monotone` does not hold
abbrev pub NotMonotone : Type 0
NotMonotone = ((x y z : ℕ) → x < y → max x z < max y z) → ⊥

abbrev pub NoTariff : Type 0
NoTariff = Laws 0 max ◌<◌ → ⊥
