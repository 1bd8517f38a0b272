-- Facts of which it is known only that there is a proof, and what they show.
use Rattle.std.proofs.Common.{ℕ, ◌⊎◌, ◌<◌, Bool, true, false, MatchBool, List, length, get_or, refl, inl, inr, ⊎_elim, arith}
use Rattle.std.proofs.Math.Logic.{∥∥₁_elim, ∥∥₁_map}
use Rattle.std.specs.List.{AllWithin, HoldsAt}
use Rattle.sets.specs.declared.Set.{Set}
use Rattle.sets.specs.Member.{Meet, Sub, none}
use Rattle.sets.proofs.Laws.{has_or_not, meet_or_not}
use Rattle.sets.proofs.Decided.{not_decided}
use Rattle.tariff.specs.Amounts.{All, Scale}
use Rattle.tariff.proofs.Sums.{all_at}
use Rattle.chooser.specs.Least.{Precedes, SetCapped}
use Rattle.chooser.proofs.Hits.{all_of_places}
use Rattle.chooser.proofs.Precedence.{precedes_of_not, precedes_or_not, precedes_reflexive}
use Rattle.tabler.specs.Table.{Best, Earlier, Filled}

-- they show what can be decided
pub decided : {A P : Type 0} → P ⊎ (P → ⊥) → ∥ A ∥₁ → (A → P) → P
decided known some shows = ⊎_elim (λ p. p) (λ not. absurd (∥∥₁_elim some (λ x y. absurd x) (λ a. not (shows a)))) known

-- what a test of each element answers
pub all_answered :
    {X : Type 0} (P : X → Type 0) (d : X) (xs : List X) (r : Bool) →
    MatchBool r (AllWithin P xs 0 (length xs)) ((k : ℕ) × (k < length xs) × HoldsAt (λ x. P x → ⊥) xs k) →
    MatchBool r (All P xs) (All P xs → ⊥)
all_answered P d xs true h = all_of_places P d xs (λ i lt. h i d (omega arith) lt)
all_answered P d xs false h = λ all. h.2 d (all_at P xs h.0 d h.1 all)

pub met_shown : (free : Set) (sets : List Set) → ∥ All (Meet free) sets ∥₁ → All (Meet free) sets
met_shown free sets some =
    all_of_places (Meet free) none sets
    (λ i lt. decided (meet_or_not free (get_or sets i none)) some (all_at (Meet free) sets i none lt))

module _ {V : Type 0} (t : Scale V) (prices : List V) (free : Set) where
  module _ (sets : List Set) where
    pub best_shown : (subset s : Set) → ∥ Best t prices free sets subset s ∥₁ → Best t prices free sets subset s
    best_shown subset s some = record {
      inside = λ k y. decided (has_or_not free k) some (λ best. best.inside k y);
      meets = λ k y. decided (meet_or_not s (get_or sets k none)) some (λ best. best.meets k y);
      first = λ o h m. decided (precedes_or_not t prices s o) some (λ best. best.first o h m);
    }

    pub filled_shown : (table : List Set) (m : ℕ) → ∥ Filled t prices free sets table m ∥₁ → Filled t prices free sets table m
    filled_shown table m some k lt = best_shown (record { bits = k }) (get_or table k none) (∥∥₁_map some (λ filled. filled k lt))

  -- ---- the first of two sets of works of free, none of which has a price above the ceiling

  module _ (some : ∥ SetCapped t prices free ∥₁) (a b : Set) where
    capped : {P : Type 0} → P ⊎ (P → ⊥) → (SetCapped t prices a → SetCapped t prices b → P) → Sub a free → Sub b free → P
    capped known shows in-a in-b = decided known some (λ h. shows (λ w y. h w (in-a w y)) (λ w y. h w (in-b w y)))

    pub earlier_so :
        (SetCapped t prices a → SetCapped t prices b → Precedes t prices a b) → Sub a free → Sub b free → Earlier t prices a b a
    earlier_so shows in-a in-b = record {
      one = inl refl;
      before_a = precedes_reflexive t prices a;
      before_b = capped (precedes_or_not t prices a b) shows in-a in-b;
    }

    pub earlier_not :
        (SetCapped t prices a → SetCapped t prices b → Precedes t prices a b → ⊥) → Sub a free → Sub b free → Earlier t prices a b b
    earlier_not shows in-a in-b = record {
      one = inr refl;
      before_a = precedes_of_not t prices a b (capped (not_decided (precedes_or_not t prices a b)) shows in-a in-b);
      before_b = precedes_reflexive t prices b;
    }
