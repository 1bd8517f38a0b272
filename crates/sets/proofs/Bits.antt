-- The binary digits of a number.
use Rattle.std.proofs.Common.{◌≡◌, ℕ, zero, suc, ◌+◌, ◌/◌, ◌^◌, ◌<◌, ◌≤◌, sym, ap, ◌∙◌, pow-suc, arith}
use lib.Bits.{bit_and, and_le_r}
use lib.Count.{ones, ones_step}
use Rattle.std.specs.Int.{bit_at}
use Rattle.std.proofs.lemmas.Nat.Bits.{bit_at_lowest, bit_at-suc, bit_at_and, same_from_bits}

-- a number whose digits are set in another is not above it
pub bits_le : (a b : ℕ) → ((k : ℕ) → bit_at a k ≤ bit_at b k) → a ≤ b
bits_le a b h =
    let same : bit_and a b ≡ a = same_from_bits (bit_and a b) a (λ k. omega (arith, bit_at_and a b k, h k)) in
    omega (arith, and_le_r a b)

pub below_pow : (n : ℕ) → n < 2 ^ n
below_pow zero = omega arith
below_pow (suc n) = omega (arith, below_pow n, pow-suc 2 n)

-- one set digit fewer is one fewer
pub ones_fewer : (k n m : ℕ) → bit_at n k ≡ 1 → bit_at m k ≡ 0 → ((j : ℕ) → (j ≡ k → ⊥) → bit_at m j ≡ bit_at n j) → ones m + 1 ≡ ones n
ones_fewer zero n m set unset rest =
    let halves : m / 2 ≡ n / 2 =
    same_from_bits (m / 2) (n / 2) (λ j. sym (bit_at-suc m j) ∙ rest (suc j) (λ e. omega arith) ∙ bit_at-suc n j)
    in
    omega (arith, ones_step n, ones_step m, ap ones halves, bit_at_lowest n, bit_at_lowest m)
ones_fewer (suc k) n m set unset rest =
    let less =
    ones_fewer k (n / 2) (m / 2) (sym (bit_at-suc n k) ∙ set) (sym (bit_at-suc m k) ∙ unset)
    (λ j ne. sym (bit_at-suc m j) ∙ rest (suc j) (λ e. ne (omega arith)) ∙ bit_at-suc n j)
    in
    omega (arith, ones_step n, ones_step m, rest 0 (λ e. omega arith), bit_at_lowest n, bit_at_lowest m)
