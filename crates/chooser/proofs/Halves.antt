-- A set as its member 0, which it may lack, and the others counted from 1.
use Rattle.std.proofs.Common.{◌≡◌, ℕ, suc, ◌/◌, ◌%◌, ◌^◌, List, ◌∷◌, sym, ap, ◌∙◌, div-one, one-add, arith, shr-shr}
use Rattle.sets.specs.declared.Set.{Set}
use Rattle.sets.specs.Member.{Has}
use Rattle.chooser.specs.Least.{picked}

abbrev pub half : Set → Set
half s = record { bits = s.bits / 2 }

digit_suc : (n k : ℕ) → n / 2 / 2 ^ k % 2 ≡ n / 2 ^ suc k % 2
digit_suc n k = ap (λ x. x % 2) (shr-shr n 1 k ∙ ap (λ x. n / 2 ^ x) (one-add k))

pub up : (s : Set) (k : ℕ) → Has (half s) k → Has s (suc k)
unfolding Has
up s k h = sym (digit_suc s.bits k) ∙ h

pub down : (s : Set) (k : ℕ) → Has s (suc k) → Has (half s) k
unfolding Has
down s k h = digit_suc s.bits k ∙ h

pub odd : (s : Set) → Has s 0 → s.bits % 2 ≡ 1
unfolding Has
odd s h = ap (λ x. x % 2) (sym (div-one s.bits)) ∙ h

pub even : (s : Set) → (Has s 0 → ⊥) → s.bits % 2 ≡ 0
unfolding Has
even s not =
    let ne : s.bits % 2 ≡ 1 → ⊥ = λ e. not (ap (λ x. x % 2) (div-one s.bits) ∙ e) in
    omega (arith, ne)

module _ {V : Type 0} (v : V) (vs : List V) (s : Set) where
  pub picked_first : Has s 0 → picked (v ∷ vs) s.bits ≡ v ∷ picked vs (half s).bits
  picked_first h = rw (odd s h)

  pub picked_later : (Has s 0 → ⊥) → picked (v ∷ vs) s.bits ≡ picked vs (half s).bits
  picked_later not = rw (even s not)
