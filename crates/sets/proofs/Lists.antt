-- Elements of lists of numbers.
use Rattle.std.proofs.Common.{◌≡◌, ℕ, ◌<◌, ◌⊎◌, List, [], ◌∷◌, ◌++◌, inl, inr, ⊎_elim, arith}
use Rattle.sets.specs.declared.Set.{Set}
use Rattle.sets.specs.Listed.{In}
use Rattle.sets.specs.Member.{Has, Members}

-- an element of one list after another is one of either
pub in_append : (k : ℕ) (xs ys : List ℕ) → In k (xs ++ ys) → In k xs ⊎ In k ys
in_append k [] ys h = inr h
in_append k (x ∷ xs) ys (inl e) = inl (inl e)
in_append k (x ∷ xs) ys (inr h) = ⊎_elim (λ y. inl (inr y)) inr (in_append k xs ys h)

pub in_front : (k : ℕ) (xs ys : List ℕ) → In k xs → In k (xs ++ ys)
in_front k [] ys h = absurd h
in_front k (x ∷ xs) ys (inl e) = inl e
in_front k (x ∷ xs) ys (inr h) = inr (in_front k xs ys h)

pub in_back : (k : ℕ) (xs ys : List ℕ) → In k ys → In k (xs ++ ys)
in_back k [] ys h = h
in_back k (x ∷ xs) ys h = inr (in_back k xs ys h)

-- no element stands twice
abbrev pub Distinct : List ℕ → Type 0
Distinct [] = Unit {0}
Distinct (x ∷ xs) = (In x xs → ⊥) × Distinct xs

-- a set of the elements of a list that are below m, with one element more
pub set_more :
    (ys : List ℕ) (x m : ℕ) (s t : Set) →
    Members s (λ k. In k ys × (k < m)) →
    Members t (λ k. Has s k ⊎ ((k ≡ x) × (x < m))) →
    Members t (λ k. In k (ys ++ (x ∷ [])) × (k < m))
set_more ys x m s t before adds k =
    let parted = in_append k ys (x ∷ []) in
    let front = in_front k ys (x ∷ []) in
    let back = in_back k ys (x ∷ []) in
    grind (arith, before, adds)
