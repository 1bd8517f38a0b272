-- What follows of reach.
use Rattle.std.proofs.Common.{◌≡◌, ℕ, zero, suc, ◌+◌, ◌<◌, ◌⊎◌, List, [], ◌∷◌, length, inl, inr, ⊎_elim, arith}
use Rattle.sets.specs.declared.Set.{Set}
use Rattle.sets.specs.Member.{Sub, none}
use Rattle.sets.proofs.Decided.{both_decided, not_decided}
use Rattle.sets.proofs.Laws.{same_set, sub_le, lowest_below}
use Rattle.sets.proofs.Parts.{union_of, union_larger, sub_decided}
use Rattle.scheme.specs.declared.Work.{Work}
use Rattle.scheme.specs.Task.{Task, work}
use Rattle.scheme.specs.Reach.{Closed, Reach, Sufficient}

-- the chosen works have one reach
pub reach_unique : (works : List Work) (P : ℕ → Type 0) (s r r' : Set) → Reach works P s r → Reach works P s r' → r ≡ r'
reach_unique works P s r r' h g = grind (arith, same_set)

-- with more works chosen and more items standing, the reach holds at least as much
pub reach_grows :
    {works : List Work} {P Q : ℕ → Type 0} {s s' r r' : Set} →
    ((w : ℕ) → w < length works → P w → Q w) →
    Sub s s' →
    Reach works P s r →
    Reach works Q s' r' →
    Sub r r'
reach_grows {r'} more from h g = grind arith

-- ---- sufficient works

module _ (k : Task) where
  -- works whose reach holds every wanted item are sufficient
  pub sufficient_by_reach :
      {P : ℕ → Type 0} {r : Set} →
      Reach k.works P k.standing r →
      Sub k.wanted r →
      Sufficient k P
  sufficient_by_reach h wanted x from closed i y = h.smallest x from closed i (wanted i y)

  -- the reach of sufficient works holds every wanted item
  pub reach_of_sufficient :
      {P : ℕ → Type 0} {r : Set} →
      Sufficient k P →
      Reach k.works P k.standing r →
      Sub k.wanted r
  reach_of_sufficient {r} enough h = enough r h.from h.closed

  -- works that hold sufficient ones are sufficient
  pub sufficient_grows :
      (P Q : ℕ → Type 0) →
      ((w : ℕ) → w < length k.works → P w → Q w) →
      Sufficient k P →
      Sufficient k Q
  sufficient_grows P Q more enough x from closed = enough x from (λ w held p. closed w held (more w held p))

-- ---- the reach that there is

-- some set holds the gives of every work
all_gives : (works : List Work) → (x : Set) × ((w : ℕ) → Sub (work works w).gives x)
all_gives [] = (none, λ w i y. y)
all_gives (v ∷ works) =
    let rest = all_gives works in
    let both = union_of v.gives rest.0 in
    (both.0, elim [ zero ↦ λ i y. (both.1 i).1 (inl y) | suc w ↦ λ i y. (both.1 i).1 (inr (rest.1 w i y)) ])

-- The reach is found by steps that each add the gives of a chosen work whose needs stand; a closed set bounds the steps.
module _ (works : List Work) (P : ℕ → Type 0) (decide : (w : ℕ) → P w ⊎ (P w → ⊥)) (s : Set) where
  Adds : Set → ℕ → Type 0
  Adds c w = P w × (Sub (work works w).needs c × (Sub (work works w).gives c → ⊥))

  adds_decided : (c : Set) (w : ℕ) → Adds c w ⊎ (Adds c w → ⊥)
  unfolding Adds
  adds_decided c w =
      both_decided (decide w)
      (both_decided (sub_decided (work works w).needs c) (not_decided (sub_decided (work works w).gives c)))

  -- c lies in every closed set that holds the standing items
  Within : Set → Type 0
  Within c = (x : Set) → Sub s x → Closed works P x → Sub c x

  reach_by_steps :
      (top : Set) →
      Sub s top →
      Closed works P top →
      (n : ℕ) (c : Set) →
      top.bits < c.bits + n →
      Sub s c →
      Within c →
      (r : Set) × Reach works P s r
  unfolding Adds Within
  reach_by_steps top from closed zero c room holds within =
      absurd (omega (arith, sub_le c top (within top from closed)))
  reach_by_steps top from closed (suc n) c room holds within =
      ⊎_elim
      (λ f.
      let w = f.0 in
      let more = union_of c (work works w).gives in
      let grows : Sub c more.0 = λ i y. (more.1 i).1 (inl y) in
      let larger : c.bits < more.0.bits = union_larger c (work works w).gives f.2.1.1 in
      reach_by_steps top from closed n more.0 (omega arith)
      (λ i y. grows i (holds i y))
      (λ x fx cx i y. ⊎_elim (within x fx cx i)
      (cx w f.1 f.2.0 (λ j z. within x fx cx j (f.2.1.0 j z)) i) ((more.1 i).0 y)))
      (λ nothing. (
        c,
        record {
          from = holds;
          closed = λ w held p needs.
              ⊎_elim (λ y. y) (λ not. absurd (nothing w held (p, (needs, not)))) (sub_decided (work works w).gives c);
          smallest = within;
        },
      ))
      (lowest_below (Adds c) (adds_decided c) (length works))

  -- chosen works that can be told from the others have a reach
  pub reach_exists : (r : Set) × Reach works P s r
  unfolding Within
  reach_exists =
      let gives = all_gives works in
      let top = union_of s gives.0 in
      reach_by_steps top.0 (λ i y. (top.1 i).1 (inl y)) (λ w held p needs i y. (top.1 i).1 (inr (gives.1 w i y)))
      (suc top.0.bits) s (omega arith) (λ i y. y) (λ x from closed. from)

-- works that can be told from the others are sufficient or not
pub sufficient_or_not :
    (k : Task) (P : ℕ → Type 0) → ((w : ℕ) → P w ⊎ (P w → ⊥)) → Sufficient k P ⊎ (Sufficient k P → ⊥)
sufficient_or_not k P decide =
    let r = reach_exists k.works P decide k.standing in
    ⊎_elim (λ y. inl (sufficient_by_reach k r.1 y)) (λ not. inr (λ enough. not (reach_of_sufficient k enough r.1)))
    (sub_decided k.wanted r.0)
