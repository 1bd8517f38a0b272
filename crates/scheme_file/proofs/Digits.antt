-- Numbers in bytes, the lowest byte first.
use Rattle.std.proofs.Common.{◌≡◌, ℕ, zero, suc, ◌+◌, ◌*◌, ◌/◌, ◌%◌, ◌^◌, ◌<◌, ◌≤◌, List, [], ◌∷◌, length, get_or, take, refl, ap, ◌∙◌, ap₂, pow-suc, arith}
use Rattle.scheme_file.specs.Bytes.{le, value}

-- the bytes of the number that bytes make
pub le_value : (n : ℕ) (xs : List ℕ) → n ≤ length xs → ((i : ℕ) → get_or xs i 0 < 256) → le n (value (take n xs)) ≡ take n xs
le_value zero xs room fits = refl
le_value (suc n) [] room fits = absurd (omega arith)
le_value (suc n) (x ∷ xs) room fits =
    let v = value (take n xs) in
    let low : (x + 256 * v) % 256 ≡ x = omega (arith, fits 0) in
    let high : (x + 256 * v) / 256 ≡ v = omega (arith, fits 0) in
    ap₂ ◌∷◌ low (ap (le n) high ∙ le_value n xs (omega arith) (λ i. fits (suc i)))

-- the number that a number's bytes make
pub value_le : (n x : ℕ) → x < 256 ^ n → value (le n x) ≡ x
value_le zero x h = omega arith
value_le (suc n) x h = ap (λ v. x % 256 + 256 * v) (value_le n (x / 256) (omega (arith, pow-suc 256 n))) ∙ omega arith
