-- The least set of allowed works that meets every kept set, run: a search that branches over the works of one kept set after another.
use Rattle.std.proofs.Common.{◌≡◌, ℕ, zero, suc, ◌<◌, Bool, true, not, ◌&&◌, ◌||◌, ltb, ◌⊎◌, List, [], ◌∷◌, Some, None, Decides, Option, sym, refl, subst, inl, inr, ⊎_elim, arith}
use native.Mathlib.Decide.{dec_lt}
use Rattle.std.proofs.lemmas.Bool.Decides.{Decides-ltb, Decides-and, Decides-or, Decides-not, Decides-like}
use Rattle.sets.specs.declared.Set.{Set}
use Rattle.sets.specs.Listed.{has_bit}
use Rattle.sets.specs.Member.{Has, Sub, Meet}
use Rattle.sets.proofs.Laws.{intersection_members}
use Rattle.tariff.specs.Amounts.{Scale, All}
use Rattle.tariff.proofs.Order.{less_or_equal, at_most_of_equal}
use Rattle.chooser.specs.Least.{Precedes, set_cost}
use Rattle.chooser.proofs.Precedence.{precedes_of_not, precedes_sub, precedes_transitive}
use Rattle.worked.proofs.Tests.{when, when_tells, has_tells, meet?, meet_tells, both, with, with_members}

-- tests of which amount is less, and which price within the ceiling
pub record Comparing {V : Type 0} (t : Scale V) : Type 0 where
  pub less? : t.Amount → t.Amount → Bool
  pub tells : (x y : t.Amount) → Decides (less? x y) (t.less x y)
  pub within? : V → Bool
  pub within : (v : V) → within? v ≡ true → t.within v

module _ {V : Type 0} (t : Scale V) (c : Comparing t) (prices : List V) where
  -- ---- which of two sets comes first

  abbrev pub ahead? : Set → Set → Bool
  ahead? a b =
      let x = set_cost t prices a in
      let y = set_cost t prices b in
      c.less? x y || (not (c.less? y x) && not (ltb b.bits a.bits))

  ahead_tells : (a b : Set) → Decides (ahead? a b) (Precedes t prices a b)
  ahead_tells a b =
      let x = set_cost t prices a in
      let y = set_cost t prices b in
      Decides-like _
      (⊎_elim inl (λ p. ⊎_elim inl (λ e. inr (e, omega (arith, p.1))) (less_or_equal t x y p.0)))
      (⊎_elim inl (λ p. inr (at_most_of_equal t x y p.0, omega (arith, p.1))))
      (Decides-or _ _ (c.tells x y) (Decides-and _ _ (Decides-not _ (c.tells y x)) (Decides-not _ (Decides-ltb b.bits a.bits))))

  -- ---- the first of the sets of which P holds

  abbrev pub First : (Set → Type 0) → Option Set → Type 0
  First P None = (o : Set) → P o → ⊥
  First P (Some s) = P s × ((o : Set) → P o → Precedes t prices s o)

  first_like : (P Q : Set → Type 0) → ((o : Set) → P o → Q o) → ((o : Set) → Q o → P o) → (r : Option Set) → First P r → First Q r
  first_like P Q to from None nothing = λ o q. nothing o (from o q)
  first_like P Q to from (Some s) h = (to s h.0, λ o q. h.1 o (from o q))

  abbrev pub better : Option Set → Option Set → Option Set
  better None r = r
  better (Some a) None = Some a
  better (Some a) (Some b) = when (ahead? a b) (λ _. Some a) (λ _. Some b)

  better_first : (P Q : Set → Type 0) (x y : Option Set) → First P x → First Q y → First (λ o. P o ⊎ Q o) (better x y)
  better_first P Q None None h g = λ o. ⊎_elim (h o) (g o)
  better_first P Q None (Some b) h g = (inr g.0, λ o. ⊎_elim (λ p. absurd (h o p)) (g.1 o))
  better_first P Q (Some a) None h g = (inl h.0, λ o. ⊎_elim (h.1 o) (λ q. absurd (g o q)))
  better_first P Q (Some a) (Some b) h g =
      when_tells (First (λ o. P o ⊎ Q o)) _ _ (ahead_tells a b)
      (λ before. (inl h.0, λ o. ⊎_elim (h.1 o) (λ q. precedes_transitive t prices a b o before (g.1 o q))))
      (λ not.
      let before = precedes_of_not t prices a b not in
      (inr g.0, λ o. ⊎_elim (λ p. precedes_transitive t prices b a o before (h.1 o p)) (g.1 o)))

  -- ---- the first of what each work below m that passes a test leads to

  abbrev pub best : (ℕ → Bool) → (ℕ → Option Set) → ℕ → Option Set
  best test rest zero = None
  best test rest (suc m) =
      let others = best test rest m in when (test m) (λ _. better (rest m) others) (λ _. others)

  module _ (R : ℕ → Type 0) (test : ℕ → Bool) (tells : (w : ℕ) → Decides (test w) (R w)) (rest : ℕ → Option Set) (P : ℕ → Set → Type 0)
      (each : (w : ℕ) → R w → First (P w) (rest w)) where
    abbrev Led : ℕ → Set → Type 0
    Led m o = (w : ℕ) × (w < m) × R w × P w o

    last_or_below : (m : ℕ) (o : Set) → Led (suc m) o → (R m × P m o) ⊎ Led m o
    last_or_below m o (w, lt, r, p) =
        elim (dec_lt w m) [
          | yes below ↦ inr (w, below, r, p)
          | no at ↦ let e : w ≡ m = omega arith in inl (subst (λ (v : ℕ). R v × P v o) e (r, p))
        ]

    pub best_first : (m : ℕ) → First (Led m) (best test rest m)
    best_first zero = λ o h. omega (arith, h.1)
    best_first (suc m) =
        let others = best test rest m in
        let further : (o : Set) → Led m o → Led (suc m) o = λ o h. (h.0, omega (arith, h.1), h.2, h.3) in
        when_tells (First (Led (suc m))) _ _ (tells m)
        (λ here.
        first_like (λ o. P m o ⊎ Led m o) _ (λ o. ⊎_elim (λ p. (m, omega arith, here, p)) (further o))
        (λ o h. ⊎_elim (λ p. inl p.1) inr (last_or_below m o h)) _
        (better_first _ _ (rest m) others (each m here) (best_first m)))
        (λ not.
        first_like _ _ further (λ o h. ⊎_elim (λ p. absurd (not p.0)) (λ q. q) (last_or_below m o h)) _ (best_first m))

  -- ---- the search

  module _ (free : Set) (n : ℕ) where
    -- the first set that meets the kept sets, has the works of s, and otherwise only free ones
    abbrev pub search : List Set → Set → Option Set
    search [] s = Some s
    search (l ∷ kept) s =
        when (meet? l s) (λ _. search kept s) (λ _. best (has_bit (both l free)) (λ w. search kept (with s w)) n)

    abbrev pub Within : Set → List Set → Set → Type 0
    Within s kept o = Sub s o × Sub o free × All (Meet o) kept

    pub search_first :
        ((w : ℕ) → Has free w → w < n) →
        (kept : List Set) (s : Set) →
        Sub s free →
        First (Within s kept) (search kept s)
    search_first low [] s sub = ((λ k y. y, sub, tt), λ o h. precedes_sub t prices s o h.0)
    search_first low (l ∷ kept) s sub =
        let shared = intersection_members l free in
        when_tells (First (Within s (l ∷ kept))) _ _ (meet_tells l s)
        (λ m.
        first_like (Within s kept) _ (λ o h. (h.0, h.1, ((m.0, h.0 m.0 m.2, m.1), h.2)))
        (λ o h. (h.0, h.1, h.2.1)) _ (search_first low kept s sub))
        (λ not.
        first_like (λ o. (w : ℕ) × (w < n) × Has (both l free) w × Within (with s w) kept o) _
        (λ o h.
        let adds = with_members s h.0 in
        let in-o = h.3.0 h.0 ((adds h.0).1 (inr refl)) in
        (λ k y. h.3.0 k ((adds k).1 (inl y)), h.3.1, ((h.0, in-o, ((shared h.0).0 h.2).0), h.3.2)))
        (λ o h.
        let (w, in-o, in-l) = h.2.0 in
        let grown : Sub (with s w) o = λ k y. ⊎_elim (h.0 k) (λ e. subst (Has o) (sym e) in-o) ((with_members s w k).0 y) in
        (w, low w (h.1 w in-o), (shared w).1 (in-l, h.1 w in-o), (grown, h.1, h.2.1)))
        _
        (best_first _ _ (has_tells (both l free)) _ _
        (λ w y. search_first low kept (with s w)
        (λ k z. ⊎_elim (sub k) (λ e. subst (Has free) (sym e) ((shared w).0 y).1) ((with_members s w k).0 z)))
        n))
