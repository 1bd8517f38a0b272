-- The number of a union.
use Rattle.std.proofs.Common.{◌≡◌, ℕ, suc, ◌+◌, ◌/◌, ◌%◌, ◌≤◌, ◌⊎◌, inl, inr, ⊎_elim, arith}
use lib.Arith.{bin_ind}
use Rattle.sets.specs.declared.Set.{Set}
use Rattle.sets.specs.Member.{Has, Members, none}
use Rattle.sets.proofs.Laws.{has_or_not, sub_le}
use Rattle.chooser.proofs.Halves.{half, up, down, odd, even}
use Rattle.chooser.proofs.Parts.{less_others, union_parted}

adds : (n : ℕ) (a b : Set) → Members (record { bits = n }) (λ k. Has a k ⊎ Has b k) → ((k : ℕ) → Has a k → Has b k → ⊥) → n ≡ a.bits + b.bits
adds =
    bin_ind
    (λ n. (a b : Set) → Members (record { bits = n }) (λ k. Has a k ⊎ Has b k) → ((k : ℕ) → Has a k → Has b k → ⊥) → n ≡ a.bits + b.bits)
    (λ a b m apart.
    omega (arith, sub_le a none (λ k y. (m k).1 (inl y)), sub_le b none (λ k y. (m k).1 (inr y))))
    (λ n ih a b m apart.
    let u : Set = record { bits = n } in
    let halves : n / 2 ≡ a.bits / 2 + b.bits / 2 =
    ih (half a) (half b)
    (λ k. (
      λ y. ⊎_elim (λ z. inl (down a k z)) (λ z. inr (down b k z)) ((m (suc k)).0 (up u k y)),
      ⊎_elim (λ z. down u k ((m (suc k)).1 (inl (up a k z)))) (λ z. down u k ((m (suc k)).1 (inr (up b k z)))),
    ))
    (λ k y z. apart (suc k) (up a k y) (up b k z))
    in
    let last : n % 2 ≡ a.bits % 2 + b.bits % 2 =
    ⊎_elim
    (λ y. omega (arith, odd u ((m 0).1 (inl y)), odd a y, even b (apart 0 y)))
    (λ not_a.
    ⊎_elim
    (λ y. omega (arith, odd u ((m 0).1 (inr y)), even a not_a, odd b y))
    (λ not-b. omega (arith, even u (λ y. ⊎_elim not_a not-b ((m 0).0 y)), even a not_a, even b not-b))
    (has_or_not b 0))
    (has_or_not a 0)
    in
    omega arith)

-- of two sets that share no member: the sum of their numbers
pub number_union : (a b u : Set) → Members u (λ k. Has a k ⊎ Has b k) → ((k : ℕ) → Has a k → Has b k → ⊥) → u.bits ≡ a.bits + b.bits
number_union a b u m apart = adds u.bits a b m apart

-- of any two: at most the sum
pub number_union_at_most : (a b u : Set) → Members u (λ k. Has a k ⊎ Has b k) → u.bits ≤ a.bits + b.bits
number_union_at_most a b u m =
    let rest = less_others b a in
    omega (
      arith,
      number_union a rest.0 u (union_parted a b u rest.0 m rest.1) (λ k y z. ((rest.1 k).0 z).1 y),
      sub_le rest.0 b (λ k z. ((rest.1 k).0 z).0),
    )
