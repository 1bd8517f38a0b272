-- Whole numbers, as both tariffs use them.
use Rattle.std.specs.Prelude.{◌≡◌, ℕ, ◌+◌, ◌-◌, ◌^◌, ◌<◌, min, ◌⊎◌}
use Rattle.std.proofs.Common.{inl, inr}
use Rattle.std.proofs.lemmas.Bool.{cases_order}

pub trichotomy : (x y : ℕ) → (x < y) ⊎ ((x ≡ y) ⊎ (y < x))
trichotomy x y = elim (cases_order x y) [ inl e ↦ inr (inl e) | inr (inl h) ↦ inl h | inr (inr h) ↦ inr (inr h) ]

-- the sum, or the largest number of 64 bits where the sum is larger
abbrev pub saturated_sum : ℕ → ℕ → ℕ
saturated_sum x y = min (x + y) (2 ^ 64 - 1)
