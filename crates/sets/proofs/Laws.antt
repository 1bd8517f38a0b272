-- The laws of membership.
use Rattle.std.proofs.Common.{◌≡◌, ℕ, zero, suc, ◌+◌, ◌-◌, ◌^◌, ◌<◌, ◌≤◌, ◌⊎◌, refl, subst, inl, inr, ⊎_elim, w64, arith, pow_pos}
use lib.Bits.{bit_and, bit_or}
use lib.Count.{ones, ones-le}
use Rattle.std.specs.Int.{bit_at}
use Rattle.std.proofs.lemmas.Nat.Bits.{bit_at-zero, bit_at_and, bit_at_or, bit_at_not, bit_at_above, bit_at_ones, bit_at_ones_above, bit_at-pow_same, bit_at-pow_other}
use Rattle.sets.specs.declared.Set.{Set}
use Rattle.sets.specs.Member.{Has, Members, Sub, Meet}
use Rattle.sets.proofs.Bits.{bits_le, below_pow, ones_fewer}
use Rattle.sets.proofs.Decided.{same_decided, both_decided, not_decided}

-- ---- one set

pub has_or_not : (s : Set) (k : ℕ) → Has s k ⊎ (Has s k → ⊥)
unfolding Has
has_or_not s k = same_decided (bit_at s.bits k) 1

pub none_has : (k : ℕ) → Has (record { bits = 0 }) k → ⊥
unfolding Has
none_has k h = omega (arith, bit_at-zero k)

-- a member of a set whose number is below 2 ^ n is below n
pub has_below : (n : ℕ) (s : Set) (k : ℕ) → s.bits < 2 ^ n → Has s k → k < n
unfolding Has
has_below n s k h e = grind (arith, bit_at_above)

-- some number bounds every member
pub members_end : (s : Set) (k : ℕ) → Has s k → k < s.bits
members_end s k = has_below s.bits s k (below_pow s.bits)

-- ---- two sets

-- a subset is not a greater number
pub sub_le : (a b : Set) → Sub a b → a.bits ≤ b.bits
unfolding Has
sub_le a b h =
    bits_le a.bits b.bits (λ k.
    ⊎_elim (λ y. omega (arith, h k y)) (λ n. let low : bit_at a.bits k ≡ 0 = omega (arith, n) in omega arith) (has_or_not a k))

-- sets with the same members are the same
pub same_set : (a b : Set) → Sub a b → Sub b a → a ≡ b
same_set a b h g = grind (arith, sub_le)

pub same_members : (P : ℕ → Type 0) (a b : Set) → Members a P → Members b P → a ≡ b
same_members P a b h g = same_set a b (λ k y. (g k).1 ((h k).0 y)) (λ k y. (h k).1 ((g k).0 y))

-- a proper subset is a smaller number
pub proper_lt : (a b : Set) → Sub a b → (k : ℕ) → Has b k → (Has a k → ⊥) → a.bits < b.bits
proper_lt a b h k in_b not_a = grind (arith, sub_le)

-- ---- what can be decided

-- the lowest number below n of which P holds, or none
abbrev pub LowestOrNone : (ℕ → Type 0) → ℕ → Type 0
LowestOrNone P n = ((k : ℕ) × (k < n) × P k × ((j : ℕ) → j < k → P j → ⊥)) ⊎ ((k : ℕ) → k < n → P k → ⊥)

lowest_more : (P : ℕ → Type 0) (n : ℕ) → P n ⊎ (P n → ⊥) → LowestOrNone P n → LowestOrNone P (suc n)
lowest_more P n here before = grind arith

pub lowest_below : (P : ℕ → Type 0) → ((k : ℕ) → P k ⊎ (P k → ⊥)) → (n : ℕ) → LowestOrNone P n
lowest_below P decide zero = inr (λ k lt p. omega arith)
lowest_below P decide (suc n) = lowest_more P n (decide n) (lowest_below P decide n)

-- a set has a lowest member, or none
pub lowest_or_none : (s : Set) → ((k : ℕ) × Has s k × ((j : ℕ) → j < k → Has s j → ⊥)) ⊎ ((k : ℕ) → Has s k → ⊥)
lowest_or_none s =
    ⊎_elim (λ f. inl (f.0, f.2, f.3)) (λ none. inr (λ k h. none k (members_end s k h) h))
    (lowest_below (Has s) (has_or_not s) s.bits)

-- the set whose number is 0 has no members, and any other has one
pub none_or_some : (s : Set) → (s.bits ≡ 0 → (k : ℕ) → Has s k → ⊥) × ((s.bits ≡ 0 → ⊥) → (k : ℕ) × Has s k)
none_or_some s = (
  λ e k h. none_has k (subst (λ (n : ℕ). Has (record { bits = n }) k) e h),
  λ ne. ⊎_elim (λ f. (f.0, f.1)) (λ empty. absurd (ne (omega (arith, sub_le s (record { bits = 0 }) (λ k h. absurd (empty k h))))))
      (lowest_or_none s),
)

-- a set lies in another, or has a lowest member that the other lacks
pub sub_or_not : (a b : Set) →
    Sub a b ⊎ ((k : ℕ) × Has a k × (Has b k → ⊥) × ((j : ℕ) → j < k → Has a j → Has b j))
sub_or_not a b =
    ⊎_elim (λ f. inr (f.0, f.2.0, f.2.1, λ j lt h. ⊎_elim (λ y. y) (λ n. absurd (f.3 j lt (h, n))) (has_or_not b j)))
    (λ none. inl (λ k h. ⊎_elim (λ y. y) (λ n. absurd (none k (members_end a k h) (h, n))) (has_or_not b k)))
    (lowest_below (λ k. Has a k × (Has b k → ⊥)) (λ k. both_decided (has_or_not a k) (not_decided (has_or_not b k))) a.bits)

pub meet_or_not : (a b : Set) → Meet a b ⊎ (Meet a b → ⊥)
meet_or_not a b =
    ⊎_elim (λ f. inl (f.0, f.2.0, f.2.1)) (λ none. inr (λ m. none m.0 (members_end a m.0 m.1) (m.1, m.2)))
    (lowest_below (λ k. Has a k × Has b k) (λ k. both_decided (has_or_not a k) (has_or_not b k)) a.bits)

-- ---- sets made of others

pub union_members : (a b : Set) → Members (record { bits = bit_or a.bits b.bits }) (λ k. Has a k ⊎ Has b k)
unfolding Has
union_members a b k = grind (arith, bit_at_or, has_or_not)

pub intersection_members : (a b : Set) → Members (record { bits = bit_and a.bits b.bits }) (λ k. Has a k × Has b k)
unfolding Has
intersection_members a b k = grind (arith, bit_at_and)

pub minus_members : (a b : Set) → a.bits < 2 ^ 64 → b.bits < 2 ^ 64 →
    Members (record { bits = bit_and a.bits (2 ^ 64 - 1 - b.bits) }) (λ k. Has a k × (Has b k → ⊥))
unfolding Has
minus_members a b ha hb k =
    let both = bit_at_and a.bits (2 ^ 64 - 1 - b.bits) k in
    let other : k < 64 → bit_at (2 ^ 64 - 1 - b.bits) k ≡ 1 - bit_at b.bits k = bit_at_not w64 b.bits k hb in (
      λ h. let lt = has_below 64 a k ha (omega (arith, both)) in (omega (arith, both), λ y. omega (arith, both, other lt)),
      λ p. let low : bit_at b.bits k ≡ 0 = omega (arith, p.1) in omega (arith, both, other (has_below 64 a k ha p.0)),
    )

-- the set with the one member k
pub only_members : (k : ℕ) → Members (record { bits = 2 ^ k }) (λ j. j ≡ k)
unfolding Has
only_members k j = grind (arith, bit_at-pow_other, bit_at-pow_same)

-- A set of the numbers below n of which P holds, taken to m, one more: with n, or as it is.
module _ (P : ℕ → Type 0) (n m : ℕ) (s : Set) (next : m ≡ n + 1) (below : Members s (λ k. (k < n) × P k)) where
  pub filled_with : (t : Set) → P n → Members t (λ k. Has s k ⊎ (k ≡ n)) → Members t (λ k. (k < m) × P k)
  filled_with t here adds k = grind arith

  pub filled_over : (P n → ⊥) → Members s (λ k. (k < m) × P k)
  filled_over not k = grind arith

-- an added number that can be a member is one
pub added_member : (s t : Set) (k : ℕ) → k < 64 → Members t (λ j. Has s j ⊎ ((j ≡ k) × (k < 64))) → Members t (λ j. Has s j ⊎ (j ≡ k))
added_member s t k lt m j = grind arith

-- There is a set of the numbers below n of which P holds.
pub set_of : (P : ℕ → Type 0) → ((k : ℕ) → P k ⊎ (P k → ⊥)) → (n : ℕ) → (s : Set) × Members s (λ k. (k < n) × P k)
set_of P decide zero = (record { bits = 0 }, λ k. (λ h. absurd (none_has k h), λ p. absurd (omega (arith, p.0))))
set_of P decide (suc n) =
    let s = set_of P decide n in
    let last : Set = record { bits = 2 ^ n } in
    let both = union_members s.0 last in
    let adds : Members (record { bits = bit_or s.0.bits (2 ^ n) }) (λ k. Has s.0 k ⊎ (k ≡ n)) = λ k. (
      λ h. ⊎_elim inl (λ y. inr ((only_members n k).0 y)) ((both k).0 h),
      ⊎_elim (λ h. (both k).1 (inl h)) (λ e. (both k).1 (inr ((only_members n k).1 e))),
    )
    in
    let more : Set = record { bits = bit_or s.0.bits (2 ^ n) } in
    ⊎_elim (λ here. (more, filled_with P n (suc n) s.0 (omega arith) s.1 more here adds)) (λ not. (s.0, filled_over P n (suc n) s.0 (omega arith) s.1 not)) (decide n)

-- the set of the numbers below n
pub below_members : (n : ℕ) → Members (record { bits = 2 ^ n - 1 }) (λ k. k < n)
unfolding Has
below_members n k = grind (arith, bit_at_ones_above, bit_at_ones)

-- ---- how many members a set has

-- a set whose members lie below n has at most n
pub count_within : (n : ℕ) (s : Set) → ((k : ℕ) → Has s k → k < n) → ones s.bits ≤ n
count_within n s h =
    let all : Set = record { bits = 2 ^ n - 1 } in
    let le = sub_le s all (λ k y. (below_members n k).1 (h k y)) in
    ones-le n s.bits (omega (arith, pow_pos n))

-- a set with a member removed has one fewer
pub count_without : (s t : Set) (k : ℕ) → Has s k → Members t (λ j. Has s j × (j ≡ k → ⊥)) → ones t.bits + 1 ≡ ones s.bits
unfolding Has
count_without s t k y m = ones_fewer k s.bits t.bits y unset others
  where
    unset : bit_at t.bits k ≡ 0
    unset = ⊎_elim (λ z. absurd (((m k).0 z).1 refl)) (λ not. omega (arith, not)) (has_or_not t k)

    others : (j : ℕ) → (j ≡ k → ⊥) → bit_at t.bits j ≡ bit_at s.bits j
    others j ne = grind arith
