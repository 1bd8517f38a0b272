-- The members of a set, one after another.
use Rattle.std.proofs.Common.{◌≡◌, ℕ, List, [], ◌∷◌, map, length, None, Option, sym, refl, ap, ◌∙◌}
use Rattle.std.specs.Iterator.{Yields}
use Rattle.std.proofs.lemmas.Iterator.{YieldsList}
use Rattle.std.proofs.lemmas.Iterator.Consumers.{YieldsList-end, YieldsList-from_shown}
use Rattle.sets.specs.declared.Set.{Set}
use Rattle.sets.specs.declared.iter.SetIter.{SetIter}
use Rattle.sets.specs.Listed.{members}
use Rattle.sets.proofs.Listing.{nexts, members_next, members_none}

-- a set's members come one after another
members_yielded : (it : SetIter) → YieldsList nexts (λ i. i) it (members it.rest)
members_yielded it =
    YieldsList-from_shown nexts (λ i. i) (λ s. members s.rest) (λ s t none. ap length (members_none s.rest none.0))
    (λ s i t step. members_next s.rest t.rest i step) it

each_itself : (xs : List ℕ) → map (λ i. i) xs ≡ xs
each_itself [] = refl
each_itself (x ∷ xs) = ap (λ ys. x ∷ ys) (each_itself xs)

-- once none is left, the members have come
pub all_yielded : (it first last less : SetIter) (s : Set) (xs : List ℕ) (r : Option ℕ) →
    it ≡ first → first.rest ≡ s → Yields nexts it xs last → r ≡ None → nexts last r less → xs ≡ members s
all_yielded it first last less s xs r begun whole came none step =
    sym (each_itself xs)
    ∙ (YieldsList-end (members_yielded it) xs last came r less none step).0
    ∙ ap (λ (i : SetIter). members i.rest) begun
    ∙ ap members whole
