-- A draw has an answer: a least set exists where there is a hitting set.
use Rattle.std.proofs.Common.{◌≡◌, ℕ, zero, suc, ◌<◌, ◌⊎◌, List, Some, None, Option, sym, ap, subst, inl, inr, ⊎_elim, arith}
use native.Mathlib.Decide.{dec_lt}
use Rattle.sets.specs.declared.Set.{Set}
use Rattle.sets.specs.Member.{Meet, Sub, none}
use Rattle.sets.proofs.Laws.{meet_or_not, sub_or_not, sub_le}
use Rattle.sets.proofs.Decided.{both_decided}
use Rattle.tariff.specs.Amounts.{Scale, All}
use Rattle.tariff.proofs.Sums.{all_at}
use Rattle.chooser.specs.Least.{Hitting, Least, Draws, Determined, Precedes}
use Rattle.chooser.proofs.Trimming.{Candidates, candidates_least, candidates_none}
use Rattle.chooser.proofs.Hits.{all_or_one, draws_unique}
use Rattle.chooser.proofs.Precedence.{precedes_reflexive, precedes_transitive, precedes_total}

module _ {V : Type 0} (t : Scale V) (prices : List V) where
  -- ---- the first of the sets of which P holds

  module _ (P : Set → Type 0) (decide : (s : Set) → P s ⊎ (P s → ⊥)) where
    -- among the sets whose numbers are below n there is a first one, or none at all
    abbrev pub First : ℕ → Type 0
    First n =
        ((s : Set) × P s × ((o : Set) → o.bits < n → P o → Precedes t prices s o)) ⊎ ((o : Set) → o.bits < n → P o → ⊥)

    abbrev numbered : ℕ → Set
    numbered n = record { bits = n }

    one_more : (n : ℕ) (Q : Set → Type 0) → ((o : Set) → o.bits < n → P o → Q o) → (P (numbered n) → Q (numbered n)) →
        (o : Set) → o.bits < suc n → P o → Q o
    one_more n Q rest here o lt p =
        elim (dec_lt o.bits n) [
          | yes under ↦ rest o under p
          | no at ↦
              let e : o ≡ numbered n = ap numbered (omega arith) in subst Q (sym e) (here (subst P e p))
        ]

    next : (n : ℕ) → First n → P (numbered n) ⊎ (P (numbered n) → ⊥) → First (suc n)
    next n (inl (s, q, first)) (inl p) =
        elim (precedes_total t prices s (numbered n)) [
          | inl h ↦ inl (s, q, one_more n (Precedes t prices s) first (λ _. h))
          | inr h ↦
              let later : (o : Set) → o.bits < n → P o → Precedes t prices (numbered n) o =
              λ o lt r. precedes_transitive t prices (numbered n) s o h (first o lt r)
              in
              inl (numbered n, p, one_more n (Precedes t prices (numbered n)) later (λ _. precedes_reflexive t prices (numbered n)))
        ]
    next n (inl (s, q, first)) (inr not) = inl (s, q, one_more n (Precedes t prices s) first (λ p. absurd (not p)))
    next n (inr empty) (inl p) =
        inl (numbered n, p, one_more n (Precedes t prices (numbered n)) (λ o lt r. absurd (empty o lt r)) (λ _. precedes_reflexive t prices (numbered n)))
    next n (inr empty) (inr not) = inr (one_more n (λ _. ⊥) empty not)

    pub first_below : (n : ℕ) → First n
    first_below zero = inr (λ o lt p. omega arith)
    first_below (suc n) = next n (first_below n) (decide (numbered n))

  -- ---- the least set, where the candidates are known

  module _ (bars : Set) (kept : List Set) (free : Set) (candidates : Candidates t prices bars kept free) where
    hits_or_not : (s : Set) → (Sub s free × All (Meet s) kept) ⊎ (Sub s free × All (Meet s) kept → ⊥)
    hits_or_not s =
        both_decided (⊎_elim inl (λ f. inr (λ sub. f.2 (sub f.0 f.1))) (sub_or_not s free))
        (⊎_elim inl (λ f. inr (λ m. f.2 (all_at (Meet s) kept f.0 none f.1 m))) (all_or_one (Meet s) (meet_or_not s) none kept))

    number_below : (s : Set) → Sub s free → s.bits < suc free.bits
    number_below s h = omega (arith, sub_le s free h)

    pub least_or_none : ((s : Set) × Least t prices bars kept s) ⊎ ((o : Set) → Hitting t prices bars kept o → ⊥)
    least_or_none =
        ⊎_elim
        (λ f. inl (f.0, candidates_least t prices bars kept free candidates f.0 f.1.0 f.1.1 (λ o h m. f.2 o (number_below o h) (h, m))))
        (λ empty. inr (candidates_none t prices bars kept free candidates (λ o h m. empty o (number_below o h) (h, m))))
        (first_below (λ s. Sub s free × All (Meet s) kept) hits_or_not (suc free.bits))

    pub least_exists : (o : Set) → Hitting t prices bars kept o → (s : Set) × Least t prices bars kept s
    least_exists o h = ⊎_elim (λ f. f) (λ empty. absurd (empty o h)) least_or_none

    pub draws_exist : (r : Option Set) × Draws t prices bars kept r
    draws_exist = ⊎_elim (λ f. (Some f.0, f.1)) (λ empty. (None, empty)) least_or_none

    pub draws_determined : Determined t prices bars kept
    draws_determined = record {
      answer = draws_exist.0;
      draws = draws_exist.1;
      only = λ r d. draws_unique t prices bars kept r draws_exist.0 d draws_exist.1;
    }
