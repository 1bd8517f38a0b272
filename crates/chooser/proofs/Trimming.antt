-- The candidates of a draw: the works that a search for the least set need look at.
use Rattle.std.proofs.Common.{◌≡◌, ℕ, ◌^◌, ◌<◌, ◌⊎◌, List, [], ◌∷◌, ◌++◌, length, subst, inl, inr, ⊎_elim}
use native.Mathlib.Decide.{dec_lt}
use Rattle.sets.specs.declared.Set.{Set}
use Rattle.sets.specs.Member.{Has, Members, Meet, Sub, none}
use Rattle.sets.proofs.Laws.{has_or_not, has_below, none_has, set_of}
use Rattle.sets.proofs.Decided.{both_decided, not_decided}
use Rattle.sets.proofs.Parts.{part_of}
use Rattle.tariff.specs.Amounts.{Scale, All}
use Rattle.chooser.specs.Least.{Allowed, Hitting, Least, Precedes, price}
use Rattle.chooser.specs.Steps.{Gathered, Held}
use Rattle.chooser.proofs.Precedence.{precedes_sub, precedes_transitive}

-- ---- gathering from one kept set after another

held_push : (kept : List Set) (one : Set) (w : ℕ) →
    (Held (kept ++ (one ∷ [])) w → Held kept w ⊎ Has one w) × (Held kept w ⊎ Has one w → Held (kept ++ (one ∷ [])) w)
held_push [] one w = (⊎_elim inr (λ h. absurd h), ⊎_elim (λ h. absurd h) inl)
held_push (x ∷ kept) one w =
    let rest = held_push kept one w in (
      ⊎_elim (λ y. inl (inl y)) (λ h. ⊎_elim (λ k. inl (inr k)) inr (rest.0 h)),
      ⊎_elim (⊎_elim inl (λ k. inr (rest.1 (inl k)))) (λ y. inr (rest.1 (inr y))),
    )

pub gathered_none : (free found : Set) → found ≡ none → Gathered free [] found
gathered_none free found e = record {
  members = λ w. (λ y. absurd (none_has w (subst (λ (s : Set). Has s w) e y)), λ p. absurd p.1);
  low = λ w h. absurd h;
}

pub gathered_more :
    (free : Set) (kept : List Set) (one found shared more : Set) → Gathered free kept found → one.bits < 2 ^ 64 →
    Members shared (λ w. Has free w × Has one w) → Members more (λ w. Has found w ⊎ Has shared w) → Gathered free (kept ++ (one ∷ [])) more
gathered_more free kept one found shared more so_far small both union = record {
  members = λ w. (
    λ y.
        ⊎_elim (λ z. let p = (so_far.members w).0 z in (p.0, (held_push kept one w).1 (inl p.1)))
        (λ z. let p = (both w).0 z in (p.0, (held_push kept one w).1 (inr p.1))) ((union w).0 y),
    λ p.
        ⊎_elim (λ h. (union w).1 (inl ((so_far.members w).1 (p.0, h)))) (λ h. (union w).1 (inr ((both w).1 (p.0, h))))
        ((held_push kept one w).0 p.1),
  );
  low = λ w h. ⊎_elim (so_far.low w) (has_below 64 one w small) ((held_push kept one w).0 h);
}

module _ {V : Type 0} (t : Scale V) (prices : List V) where
  -- ---- the allowed works, where it can be told which prices are within the ceiling

  all_or_not : (P : V → Type 0) → ((v : V) → P v ⊎ (P v → ⊥)) → (vs : List V) → All P vs ⊎ (All P vs → ⊥)
  all_or_not P decide [] = inl tt
  all_or_not P decide (v ∷ vs) = both_decided (decide v) (all_or_not P decide vs)

  pub allowed_or_not :
      ((v : V) → t.within v ⊎ (t.within v → ⊥)) → (bars : Set) (w : ℕ) → Allowed t prices bars w ⊎ (Allowed t prices bars w → ⊥)
  allowed_or_not decide bars w =
      elim (dec_lt w (length prices)) [
        | yes lt ↦
            ⊎_elim
            (λ p. ⊎_elim (λ not. inl (lt, p, not)) (λ so. inr (λ a. so a.2)) (not_decided (has_or_not bars w)))
            (λ not. inr (λ a. not a.1)) (all_or_not t.within decide (price prices w))
        | no ge ↦ inr (λ a. ge a.0)
      ]

  pub allowed_set :
      ((v : V) → t.within v ⊎ (t.within v → ⊥)) → (bars : Set) → (free : Set) × Members free (Allowed t prices bars)
  allowed_set decide bars =
      let s = set_of (Allowed t prices bars) (allowed_or_not decide bars) (length prices) in
      (s.0, λ w. (λ y. ((s.1 w).0 y).1, λ a. (s.1 w).1 (a.0, a)))

  -- ---- the candidates

  -- the works that a draw need look at: allowed ones, and among them every allowed work of a kept set
  pub record Candidates (bars : Set) (kept : List Set) (free : Set) : Type 0 where
    pub sound : (w : ℕ) → Has free w → Allowed t prices bars w
    pub whole : All (λ one. (w : ℕ) → Allowed t prices bars w → Has one w → Has free w) kept

  -- all allowed works
  pub candidates_all : (bars : Set) (kept : List Set) (free : Set) → Members free (Allowed t prices bars) → Candidates bars kept free
  candidates_all bars kept free m = record { sound = λ w. (m w).0; whole = each kept }
    where
      each : (sets : List Set) → All (λ one. (w : ℕ) → Allowed t prices bars w → Has one w → Has free w) sets
      each [] = tt
      each (one ∷ sets) = (λ w a y. (m w).1 a, each sets)

  -- those of the kept sets' range
  pub candidates_below :
      (bars : Set) (kept : List Set) (free : Set) (n : ℕ) → All (λ one. one.bits < 2 ^ n) kept →
      Members free (λ w. Allowed t prices bars w × (w < n)) → Candidates bars kept free
  candidates_below bars kept free n low m = record { sound = λ w y. ((m w).0 y).0; whole = each kept low }
    where
      each : (sets : List Set) → All (λ one. one.bits < 2 ^ n) sets → All (λ one. (w : ℕ) → Allowed t prices bars w → Has one w → Has free w) sets
      each [] h = tt
      each (one ∷ sets) h = (λ w a y. (m w).1 (a, has_below n one w h.0 y), each sets h.1)

  -- the allowed works that some kept set has
  pub candidates_held :
      (bars : Set) (kept : List Set) (free : Set) → Members free (λ w. Allowed t prices bars w × Held kept w) →
      Candidates bars kept free
  candidates_held bars kept free m = record { sound = λ w y. ((m w).0 y).0; whole = each kept (λ w a h. (m w).1 (a, h)) }
    where
      each :
          (sets : List Set) → ((w : ℕ) → Allowed t prices bars w → Held sets w → Has free w) →
          All (λ one. (w : ℕ) → Allowed t prices bars w → Has one w → Has free w) sets
      each [] h = tt
      each (one ∷ sets) h = (λ w a y. h w a (inl y), each sets (λ w a k. h w a (inr k)))

  module _ (bars : Set) (kept : List Set) (free : Set) (candidates : Candidates bars kept free) where
    pub candidates_hit : (s : Set) → Sub s free → All (Meet s) kept → Hitting t prices bars kept s
    candidates_hit s h m = record { allowed = λ w y. candidates.sound w (h w y); meets = m }

    -- what a hitting set has of the candidates meets every kept set too
    pub hitting_trimmed : (o : Set) → Hitting t prices bars kept o → (x : Set) × Sub x free × Sub x o × All (Meet x) kept
    hitting_trimmed o h =
        let x = part_of o (Has free) (has_or_not free) in
        (x.0, λ k y. ((x.1 k).0 y).1, λ k y. ((x.1 k).0 y).0, still kept h.meets candidates.whole)
      where
        still :
            (sets : List Set) → All (Meet o) sets → All (λ one. (w : ℕ) → Allowed t prices bars w → Has one w → Has free w) sets →
            All (Meet (part_of o (Has free) (has_or_not free)).0) sets
        still [] m whole = tt
        still (one ∷ sets) m whole =
            let met = m.0 in
            let k = met.0 in (
              (k, ((part_of o (Has free) (has_or_not free)).1 k).1 (met.1, whole.0 k (h.allowed k met.1) met.2), met.2),
              still sets m.1 whole.1,
            )

    -- the first among the sets of candidates is the least
    pub candidates_least :
        (s : Set) → Sub s free → All (Meet s) kept → ((o : Set) → Sub o free → All (Meet o) kept → Precedes t prices s o) →
        Least t prices bars kept s
    candidates_least s h m first = record {
      hitting = candidates_hit s h m;
      first = λ o k.
          let x = hitting_trimmed o k in
          precedes_transitive t prices s x.0 o (first x.0 x.1 x.3) (precedes_sub t prices x.0 o x.2);
    }

    pub candidates_none : ((o : Set) → Sub o free → All (Meet o) kept → ⊥) → (o : Set) → Hitting t prices bars kept o → ⊥
    candidates_none empty o h = let x = hitting_trimmed o h in empty x.0 x.1 x.3
