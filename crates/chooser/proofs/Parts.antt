-- Parts of a set.
use Rattle.std.proofs.Common.{◌≡◌, ℕ, ◌⊎◌, sym, subst, inl, inr, ⊎_elim}
use Rattle.sets.specs.declared.Set.{Set}
use Rattle.sets.specs.Member.{Has, Members}
use Rattle.sets.proofs.Laws.{has_or_not}
use Rattle.sets.proofs.Decided.{not_decided, same_decided}
use Rattle.sets.proofs.Parts.{part_of}

-- the members that another set lacks
pub less_others : (s o : Set) → (x : Set) × Members x (λ k. Has s k × (Has o k → ⊥))
less_others s o = part_of s (λ k. Has o k → ⊥) (λ k. not_decided (has_or_not o k))

-- a set is what is left of it, and the member taken out
pub put_back : (s x : Set) (w : ℕ) → Has s w → Members x (λ k. Has s k × (k ≡ w → ⊥)) → Members s (λ k. Has x k ⊎ (k ≡ w))
put_back s x w h m k = (
  λ y. ⊎_elim inr (λ ne. inl ((m k).1 (y, ne))) (same_decided k w),
  ⊎_elim (λ y. ((m k).0 y).0) (λ e. subst (Has s) (sym e) h),
)

-- a union is the one set, and what the other has more
pub union_parted :
    (a b u x : Set) → Members u (λ k. Has a k ⊎ Has b k) → Members x (λ k. Has b k × (Has a k → ⊥)) → Members u (λ k. Has a k ⊎ Has x k)
union_parted a b u x m n k = (
  λ y. ⊎_elim inl (λ out. ⊎_elim inl (λ z. inr ((n k).1 (z, out))) ((m k).0 y)) (has_or_not a k),
  ⊎_elim (λ y. (m k).1 (inl y)) (λ z. (m k).1 (inr ((n k).0 z).0)),
)
