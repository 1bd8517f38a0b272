-- Tests on sets that the checker runs, and what each tells.
use Rattle.std.proofs.Common.{◌≡◌, ℕ, zero, suc, ◌/◌, ◌%◌, ◌^◌, ◌<◌, Bool, true, false, not, ◌||◌, eqb, List, [], ◌∷◌, ◌⊎◌, Some, None, Decides, Option, sym, refl, ap, subst, inl, inr, ⊎_elim, below_more, arith}
use Rattle.std.specs.Option.{IfSome, option_and_then}
use lib.Bits.{bit_and, bit_or}
use Rattle.std.proofs.lemmas.Bool.Decides.{Decides-eqb, Decides-not, Decides-or, Decides-like}
use Rattle.sets.specs.declared.Set.{Set}
use Rattle.sets.specs.Listed.{In, has_bit}
use Rattle.sets.specs.Member.{Has, Members, Sub, Meet, none}
use Rattle.sets.proofs.Laws.{none_has, none_or_some, same_set, union_members, intersection_members, only_members, filled_with, filled_over}

-- ---- a choice by a test; the way that is not taken is not run

abbrev pub when : {A : Type 0} → Bool → (Unit {0} → A) → (Unit {0} → A) → A
when true x y = x tt
when false x y = y tt

pub when_tells :
    {A P : Type 0} (Q : A → Type 0) {b : Bool} (x y : Unit {0} → A) →
    Decides b P →
    (P → Q (x tt)) →
    ((P → ⊥) → Q (y tt)) →
    Q (when b x y)
when_tells Q {b = true} x y tells so not = so (tells.0 refl)
when_tells Q {b = false} x y tells so not = not (λ p. cc (tells.1 p))

-- what holds of each f x holds of what is made by f of a value, if there is one
pub and_then_holds :
    {A B : Type 0} {P : A → Type 0} (Q : B → Type 0) (f : A → Option B) →
    ((a : A) → P a → IfSome (f a) Q) →
    (o : Option A) →
    IfSome o P →
    IfSome (option_and_then f o) Q
and_then_holds Q f each None h = tt
and_then_holds Q f each (Some a) h = each a h

-- ---- the lowest number below n that passes a test

-- f of that number, or none where there is none
abbrev pub at_lowest : {B : Type 0} → (ℕ → Bool) → (ℕ → B) → ℕ → (Unit {0} → B) → B
at_lowest test f zero none = none tt
at_lowest test f (suc n) none = at_lowest test f n (λ _. when (test n) (λ _. f n) none)

pub at_lowest_tells :
    {B : Type 0} (Q : B → Type 0) (P : ℕ → Type 0) (test : ℕ → Bool) →
    ((k : ℕ) → Decides (test k) (P k)) →
    (f : ℕ → B) (n : ℕ) (none : Unit {0} → B) →
    ((k : ℕ) → k < n → P k → ((j : ℕ) → j < k → P j → ⊥) → Q (f k)) →
    (((k : ℕ) → k < n → P k → ⊥) → Q (none tt)) →
    Q (at_lowest test f n none)
at_lowest_tells Q P test tells f zero none at otherwise = otherwise (λ k lt p. omega arith)
at_lowest_tells Q P test tells f (suc n) none at otherwise =
    at_lowest_tells Q P test tells f n (λ _. when (test n) (λ _. f n) none) (λ k lt. at k (omega arith))
    (λ nothing.
    when_tells Q _ _ (tells n) (λ here. at n (omega arith) here nothing)
    (λ not. otherwise (λ k lt. below_more (λ j. P j → ⊥) n nothing not k (omega arith))))

-- ---- members

pub has_tells : (s : Set) (k : ℕ) → Decides (has_bit s k) (Has s k)
unfolding Has
has_tells s k = Decides-eqb (s.bits / 2 ^ k % 2) 1

abbrev pub both : Set → Set → Set
both a b = record { bits = bit_and a.bits b.bits }

abbrev pub sub? : Set → Set → Bool
sub? a b = eqb (both a b).bits a.bits

pub sub_tells : (a b : Set) → Decides (sub? a b) (Sub a b)
sub_tells a b =
    let members = intersection_members a b in
    Decides-like _
    (λ e k y. ((members k).0 (subst (λ (n : ℕ). Has (record { bits = n }) k) (sym e) y)).1)
    (λ h. ap (λ s. s.bits) (same_set (both a b) a (λ k y. ((members k).0 y).0) (λ k y. (members k).1 (y, h k y))))
    (Decides-eqb (both a b).bits a.bits)

abbrev pub meet? : Set → Set → Bool
meet? a b = not (eqb (both a b).bits 0)

pub meet_tells : (a b : Set) → Decides (meet? a b) (Meet a b)
meet_tells a b =
    let members = intersection_members a b in
    let some = none_or_some (both a b) in
    Decides-like _
    (λ ne. let f = some.1 ne in let p = (members f.0).0 f.1 in (f.0, p.0, p.1))
    (λ m e. some.0 e m.0 ((members m.0).1 (m.1, m.2)))
    (Decides-not _ (Decides-eqb (both a b).bits 0))

-- ---- sets made of others

abbrev pub union : Set → Set → Set
union a b = record { bits = bit_or a.bits b.bits }

-- the set with k
abbrev pub with : Set → ℕ → Set
with s k = union s (record { bits = 2 ^ k })

pub with_members : (s : Set) (k : ℕ) → Members (with s k) (λ j. Has s j ⊎ (j ≡ k))
with_members s k j =
    let members = union_members s (record { bits = 2 ^ k }) j in
    let one = only_members k j in (
      λ h. ⊎_elim inl (λ y. inr (one.0 y)) (members.0 h),
      ⊎_elim (λ y. members.1 (inl y)) (λ e. members.1 (inr (one.1 e))),
    )

-- the numbers below n that pass a test
abbrev pub passing : (ℕ → Bool) → ℕ → Set
passing test zero = none
passing test (suc n) = let s = passing test n in when (test n) (λ _. with s n) (λ _. s)

pub passing_members :
    (P : ℕ → Type 0) (test : ℕ → Bool) →
    ((k : ℕ) → Decides (test k) (P k)) →
    (n : ℕ) →
    Members (passing test n) (λ k. (k < n) × P k)
passing_members P test tells zero = λ k. (λ h. absurd (none_has k h), λ p. absurd (omega (arith, p.0)))
passing_members P test tells (suc n) =
    let s = passing test n in
    let below = passing_members P test tells n in
    when_tells (λ x. Members x (λ k. (k < suc n) × P k)) _ _ (tells n)
    (λ here. filled_with P n (suc n) s (omega arith) below (with s n) here (with_members s n))
    (filled_over P n (suc n) s (omega arith) below)

-- ---- a set made of a list of numbers

abbrev pub in? : List ℕ → ℕ → Bool
in? [] k = false
in? (x ∷ xs) k = eqb k x || in? xs k

in_tells : (xs : List ℕ) (k : ℕ) → Decides (in? xs k) (In k xs)
in_tells [] k = (λ e. cc, λ h. absurd h)
in_tells (x ∷ xs) k = Decides-or _ _ (Decides-eqb k x) (in_tells xs k)

pub listed_set : (xs : List ℕ) {s : Set} → Members s (λ k. In k xs × (k < 64)) → s ≡ passing (in? xs) 64
listed_set xs {s} of =
    let run = passing_members _ _ (in_tells xs) 64 in
    same_set _ _ (λ k h. let p = (of k).0 h in (run k).1 (p.1, p.0))
    (λ k h. let p = (run k).0 h in (of k).1 (p.1, p.0))
