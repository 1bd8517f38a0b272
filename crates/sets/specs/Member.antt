-- Membership, and how sets stand to one another by their members.
use Rattle.std.specs.Prelude.{◌≡◌, ℕ, ◌/◌, ◌%◌, ◌^◌, ◌<◌}
use Rattle.sets.specs.declared.Set.{Set}

-- The number k is a member where the bit of weight 2 ^ k is set.
unfoldable pub Has : Set → ℕ → Type 0
Has s k = s.bits / 2 ^ k % 2 ≡ 1

-- The members of s are the numbers of which P holds.
abbrev pub Members : Set → (ℕ → Type 0) → Type 0
Members s P = (k : ℕ) → (Has s k → P k) × (P k → Has s k)

-- Each member of a is one of b.
abbrev pub Sub : Set → Set → Type 0
Sub a b = (k : ℕ) → Has a k → Has b k

-- Some number is a member of both.
abbrev pub Meet : Set → Set → Type 0
Meet a b = (k : ℕ) × Has a k × Has b k

-- the set with no members
abbrev pub none : Set
none = record { bits = 0 }

-- k is the lowest member of s
pub record Lowest (s : Set) (k : ℕ) : Type 0 where
  pub member : Has s k
  pub first : (j : ℕ) → j < k → Has s j → ⊥
