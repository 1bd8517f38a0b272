-- Parts of a set, and sets with more.
use Rattle.std.proofs.Common.{◌≡◌, ℕ, suc, ◌<◌, ◌⊎◌, inl, inr, ⊎_elim, arith}
use lib.Bits.{bit_or}
use Rattle.sets.specs.declared.Set.{Set}
use Rattle.sets.specs.Member.{Has, Members, Sub}
use Rattle.sets.proofs.Decided.{same_decided, both_decided, not_decided}
use Rattle.sets.proofs.Laws.{has_or_not, members_end, proper_lt, sub_or_not, union_members, set_of}

pub sub_decided : (a b : Set) → Sub a b ⊎ (Sub a b → ⊥)
sub_decided a b = ⊎_elim inl (λ f. inr (λ h. f.2 (h f.0 f.1))) (sub_or_not a b)

-- the set of the members of a of which P holds
pub part_of :
    (a : Set) (P : ℕ → Type 0) → ((k : ℕ) → P k ⊎ (P k → ⊥)) → (x : Set) × Members x (λ k. Has a k × P k)
part_of a P decide =
    let x = set_of (λ k. Has a k × P k) (λ k. both_decided (has_or_not a k) (decide k)) a.bits in
    (x.0, λ k. (λ y. ((x.1 k).0 y).1, λ p. (x.1 k).1 (members_end a k p.0, p)))

-- the set with n taken out
pub less_one : (a : Set) (n : ℕ) → (x : Set) × Members x (λ k. Has a k × (k ≡ n → ⊥))
less_one a n = part_of a (λ k. k ≡ n → ⊥) (λ k. not_decided (same_decided k n))

-- the set of the members of either
pub union_of : (a b : Set) → (u : Set) × Members u (λ i. Has a i ⊎ Has b i)
union_of a b = (record { bits = bit_or a.bits b.bits }, union_members a b)

-- with a set that does not lie in it, a set has a larger number
pub union_larger : (a b : Set) → (Sub b a → ⊥) → a.bits < (union_of a b).0.bits
union_larger a b not =
    let u = union_of a b in
    ⊎_elim (λ h. absurd (not h))
    (λ f. proper_lt a u.0 (λ i y. (u.1 i).1 (inl y)) f.0 ((u.1 f.0).1 (inr f.1)) f.2)
    (sub_or_not b a)

-- the set with n added where A holds
pub added_if :
    (a : Set) (n : ℕ) (A : Type 0) → A ⊎ (A → ⊥) → (x : Set) × Members x (λ k. Has a k ⊎ ((k ≡ n) × A))
added_if a n A decide =
    let one = set_of (λ k. (k ≡ n) × A) (λ k. both_decided (same_decided k n) decide) (suc n) in
    let both = union_of a one.0 in (
      both.0,
      λ k. (
        λ y. ⊎_elim inl (λ z. inr ((one.1 k).0 z).1) ((both.1 k).0 y),
        ⊎_elim (λ y. (both.1 k).1 (inl y)) (λ p. (both.1 k).1 (inr ((one.1 k).1 (omega arith, p)))),
      ),
    )
