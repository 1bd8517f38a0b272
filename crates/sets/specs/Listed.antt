-- The members of a set as a list in rising order.
use Rattle.std.specs.Prelude.{◌≡◌, ℕ, ◌/◌, ◌%◌, ◌^◌, ◌<◌, Bool, ◌⊎◌, List, [], ◌∷◌, filter, ◌==◌}
use Rattle.std.specs.List.{range_with_len}
use Rattle.sets.specs.declared.Set.{Set}
use Rattle.sets.specs.Member.{Members}

-- k is an element of a list
abbrev pub In : ℕ → List ℕ → Type 0
In k [] = ⊥
In k (x ∷ xs) = (k ≡ x) ⊎ In k xs

-- each element is above those before it
abbrev pub Rising : List ℕ → Type 0
Rising [] = Unit {0}
Rising (x ∷ xs) = ((k : ℕ) → In k xs → x < k) × Rising xs

-- the elements of a rising list are the members of s
pub record Listed (s : Set) (xs : List ℕ) : Type 0 where
  pub members : Members s (λ k. In k xs)
  pub rising : Rising xs

-- whether the bit of weight 2 ^ k is set
abbrev pub has_bit : Set → ℕ → Bool
has_bit s k = s.bits / 2 ^ k % 2 == 1

-- the members in rising order: the numbers below 64 of which the bit is set
unfoldable pub members : Set → List ℕ
members s = filter (has_bit s) (range_with_len 0 64)
