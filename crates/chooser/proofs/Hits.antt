-- Hitting sets, and the least of them.
use Rattle.std.proofs.Common.{◌≡◌, ℕ, suc, ◌<◌, ◌⊎◌, List, [], ◌∷◌, ◌++◌, length, get_or, Some, None, Option, refl, ap, subst, inl, inr, ⊎_elim, arith}
use Rattle.sets.specs.declared.Set.{Set}
use Rattle.sets.specs.Member.{Has, Meet, Sub, none}
use Rattle.sets.proofs.Laws.{none_has, meet_or_not}
use Rattle.sets.proofs.Decided.{same_decided}
use Rattle.sets.proofs.Parts.{less_one}
use Rattle.tariff.specs.Amounts.{Scale, All, AtMost}
use Rattle.tariff.proofs.Sums.{all_append, all_front, all_at}
use Rattle.chooser.specs.Least.{Hitting, Least, Draws, Precedes, SetCapped, set_cost}
use Rattle.chooser.proofs.Precedence.{precedes_antisymmetric, precedes_proper, cost_of_precedes}

-- P holds of every element, or there is one of which it does not
pub all_or_one : {X : Type 0} (P : X → Type 0) → ((x : X) → P x ⊎ (P x → ⊥)) → (d : X) (xs : List X) →
    All P xs ⊎ ((i : ℕ) × (i < length xs) × (P (get_or xs i d) → ⊥))
all_or_one P decide d [] = inl tt
all_or_one P decide d (x ∷ xs) =
    ⊎_elim
    (λ p. ⊎_elim (λ ps. inl (p, ps)) (λ f. inr (suc f.0, omega (arith, f.1), f.2)) (all_or_one P decide d xs))
    (λ not. inr (0, omega arith, not)) (decide x)

pub all_of_places : {X : Type 0} (P : X → Type 0) (d : X) (xs : List X) → ((i : ℕ) → i < length xs → P (get_or xs i d)) → All P xs
all_of_places P d [] h = tt
all_of_places P d (x ∷ xs) h = (h 0 (omega arith), all_of_places P d xs (λ i lt. h (suc i) (omega arith)))

module _ {V : Type 0} (t : Scale V) (prices : List V) (bars : Set) where
  pub hitting_none : Hitting t prices bars [] none
  hitting_none = record { allowed = λ w y. absurd (none_has w y); meets = tt }

  pub hitting_more :
      (kept more : List Set) (s : Set) → Hitting t prices bars kept s → All (Meet s) more → Hitting t prices bars (kept ++ more) s
  hitting_more kept more s h m = record { allowed = h.allowed; meets = all_append (Meet s) kept more h.meets m }

  pub hitting_fewer : (kept more : List Set) (s : Set) → Hitting t prices bars (kept ++ more) s → Hitting t prices bars kept s
  hitting_fewer kept more s h = record { allowed = h.allowed; meets = all_front (Meet s) kept more h.meets }

  -- the works of a hitting set have prices within the ceiling
  pub hitting_capped : (kept : List Set) (s : Set) → Hitting t prices bars kept s → SetCapped t prices s
  hitting_capped kept s h w y = (h.allowed w y).1

  pub least_unique : (kept : List Set) (s o : Set) → Least t prices bars kept s → Least t prices bars kept o → s ≡ o
  least_unique kept s o l k = precedes_antisymmetric t prices s o (l.first o k.hitting) (k.first s l.hitting)

  pub draws_unique : (kept : List Set) (r q : Option Set) → Draws t prices bars kept r → Draws t prices bars kept q → r ≡ q
  draws_unique kept (Some s) (Some o) l k = ap Some (least_unique kept s o l k)
  draws_unique kept (Some s) None l k = absurd (k s l.hitting)
  draws_unique kept None (Some o) l k = absurd (l o k.hitting)
  draws_unique kept None None l k = refl

  -- no hitting set is cheaper
  pub least_cost :
      (kept : List Set) (s o : Set) → Least t prices bars kept s → Hitting t prices bars kept o →
      AtMost t (set_cost t prices s) (set_cost t prices o)
  least_cost kept s o l h = cost_of_precedes t prices s o (l.first o h)

  -- a least set that meets more sets is least for those too
  pub least_more :
      (kept more : List Set) (s : Set) → Least t prices bars kept s → All (Meet s) more → Least t prices bars (kept ++ more) s
  least_more kept more s l m = record {
    hitting = hitting_more kept more s l.hitting m;
    first = λ o h. l.first o (hitting_fewer kept more o h);
  }

  pub least_push :
      (kept : List Set) (one s : Set) → Least t prices bars kept s → Meet s one → Least t prices bars (kept ++ (one ∷ [])) s
  least_push kept one s l m = least_more kept (one ∷ []) s l (m, tt)

  -- the least set for more sets comes no earlier
  pub least_rises :
      (kept more : List Set) (s o : Set) → Least t prices bars kept s → Least t prices bars (kept ++ more) o → Precedes t prices s o
  least_rises kept more s o l k = l.first o (hitting_fewer kept more o k.hitting)

  -- no proper part of a least set meets every kept set
  pub least_needs :
      (kept : List Set) (s x : Set) (w : ℕ) → Least t prices bars kept s → Sub x s → Has s w → (Has x w → ⊥) → All (Meet x) kept → ⊥
  least_needs kept s x w l h y out m =
      precedes_proper t prices x s h w y out
      (l.first x (record { allowed = λ k z. l.hitting.allowed k (h k z); meets = m }))

  -- for each member of a least set some kept set has no other member of it
  pub least_alone :
      (kept : List Set) (s : Set) (w : ℕ) → Least t prices bars kept s → Has s w →
      (i : ℕ) × (i < length kept) × Has (get_or kept i none) w × ((k : ℕ) → Has s k → Has (get_or kept i none) k → k ≡ w)
  least_alone kept s w l y =
      let x = less_one s w in
      ⊎_elim
      (λ m. absurd (least_needs kept s x.0 w l (λ k z. ((x.1 k).0 z).0) y (λ z. ((x.1 w).0 z).1 refl) m))
      (λ f.
      let one : Set = get_or kept f.0 none in
      let only : (k : ℕ) → Has s k → Has one k → k ≡ w = λ k in-s in_one.
      ⊎_elim (λ e. e) (λ ne. absurd (f.2 (k, (x.1 k).1 (in-s, ne), in_one))) (same_decided k w)
      in
      let met : Meet s one = all_at (Meet s) kept f.0 none f.1 l.hitting.meets in
      (f.0, f.1, subst (Has one) (only met.0 met.1 met.2) met.2, only))
      (all_or_one (Meet x.0) (meet_or_not x.0) none kept)
