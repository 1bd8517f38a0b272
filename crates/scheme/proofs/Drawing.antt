-- What follows of landmarks, and of how one is drawn.
use Rattle.std.proofs.Common.{◌≡◌, ℕ, zero, suc, ◌<◌, ◌≤◌, ◌⊎◌, List, length, sym, refl, subst, inl, inr, ⊎_elim, arith}
use native.Mathlib.Decide.{dec_lt}
use Rattle.sets.specs.declared.Set.{Set}
use Rattle.sets.specs.Member.{Has, Members, Sub, Meet}
use Rattle.sets.specs.Listed.{In}
use Rattle.sets.proofs.Decided.{both_decided, either_decided, not_decided}
use Rattle.sets.proofs.Laws.{same_set, same_members, has_or_not, none_has, set_of}
use Rattle.sets.proofs.Parts.{added_if, sub_decided}
use Rattle.scheme.specs.declared.Work.{Work}
use Rattle.scheme.specs.Task.{Task, work}
use Rattle.scheme.specs.Reach.{Reach, Sufficient}
use Rattle.scheme.specs.Orders.{Carried, finished, onward}
use Rattle.scheme.specs.Landmarks.{Landmark, Trial, Grown, Drawn, Leaves}
use Rattle.scheme.proofs.Reaches.{reach_unique, reach_exists, sufficient_by_reach, sufficient_grows, sufficient_or_not}
use Rattle.scheme.proofs.Ordered.{placed_from, placed_plan, placed_exists}

-- ---- the grown set

-- the works of s and the members of g below n
abbrev Below : Set → Set → ℕ → ℕ → Type 0
Below s g n v = Has s v ⊎ (Has g v × (v < n))

module _ {k : Task} {s g : Set} (h : Grown k s g) (short : Sufficient k (Has s) → ⊥) where
  below_insufficient : (n : ℕ) → n ≤ length k.works → Sufficient k (Below s g n) → ⊥
  below_insufficient zero le enough =
      short (sufficient_grows k (Below s g zero) (Has s) (λ w held. ⊎_elim (λ y. y) (λ p. absurd (omega arith))) enough)
  below_insufficient (suc n) le enough =
      let before = below_insufficient n (omega arith) in
      ⊎_elim (λ y. before (without (λ z. y)))
      (λ not. ⊎_elim (λ y. h.lacks n le not y with_n) (λ lacking. before (without (λ y. absurd (lacking y)))) (has_or_not g n))
      (has_or_not s n)
    where
      without : (Has g n → Has s n) → Sufficient k (Below s g n)
      without known =
          sufficient_grows k (Below s g (suc n)) (Below s g n)
          (λ w held. ⊎_elim inl (λ p.
          elim (dec_lt w n) [
            | yes lt ↦ inr (p.0, lt)
            | no ge ↦
                let e : w ≡ n = omega arith in
                inl (subst (λ v. Has s v) (sym e) (known (subst (λ v. Has g v) e p.0)))
          ]))
          enough

      with_n : Sufficient k (Trial s g n)
      with_n = grind (arith, sufficient_grows)

  -- an insufficient set stays insufficient when it is grown
  pub grown_insufficient : Sufficient k (Has g) → ⊥
  grown_insufficient enough =
      below_insufficient (length k.works) (omega arith)
      (sufficient_grows k (Has g) (Below s g (length k.works)) (λ w held y. inr (y, held)) enough)

-- ---- one grown set

-- a trial rests only on the members below its work
trial_grows :
    (k : Task) (s g g' : Set) (w : ℕ) →
    ((v : ℕ) → v < w → Has g v → Has g' v) →
    Sufficient k (Trial s g w) →
    Sufficient k (Trial s g' w)
trial_grows k s g g' w more = grind (arith, sufficient_grows)

module _ {k : Task} {s : Set} where
  -- where two grown sets agree below w, a work w of the first is one of the second
  grown_next :
      {g g' : Set} →
      Grown k s g →
      Grown k s g' →
      (w : ℕ) →
      ((v : ℕ) → v < w → Has g' v → Has g v) →
      Has g w →
      Has g' w
  grown_next {g} {g'} h h' w agree y =
      ⊎_elim (h'.from w)
      (λ not. ⊎_elim (λ z. absurd (not z))
      (λ held. h'.takes w held not (λ enough. h.lacks w held not y
      (trial_grows k s g' g w agree enough)))
      (h.only w y))
      (has_or_not s w)

  grown_agree :
      {g g' : Set} →
      Grown k s g →
      Grown k s g' →
      (n v : ℕ) →
      v < n →
      (Has g v → Has g' v) × (Has g' v → Has g v)
  grown_agree h h' zero v lt = absurd (omega arith)
  grown_agree h h' (suc n) v lt =
      let before = grown_agree h h' n in (
        grown_next h h' v (λ u below. (before u (omega arith)).1),
        grown_next h' h v (λ u below. (before u (omega arith)).0),
      )

  -- a set is grown to one set
  pub grown_unique : {g g' : Set} → Grown k s g → Grown k s g' → g ≡ g'
  grown_unique {g} {g'} h h' = grind (arith, same_set, grown_agree)

-- ---- the drawn landmark

-- an order that starts in r stays in r, or has a work whose needs lie in r and whose gives do not
carried_leaves :
    {works : List Work} {s e : Set} {order : List ℕ} (r : Set) →
    Carried works s order e →
    Sub s r →
    Sub e r ⊎ ((w : ℕ) × In w order × (w < length works) × Leaves works r w)
carried_leaves r finished from = inl from
carried_leaves {works} r (onward {w} held needs adds c) from =
    ⊎_elim
    (λ gives.
    ⊎_elim inl (λ f. inr (f.0, inr f.1, f.2, f.3))
    (carried_leaves r c (λ i y. ⊎_elim (from i) (gives i) ((adds i).0 y))))
    (λ not. inr (w, inl refl, held, (λ i y. from i (needs i y), not)))
    (sub_decided (work works w).gives r)

-- a landmark is drawn from every insufficient set
pub drawn_landmark : {k : Task} {s l : Set} → Drawn k s l → (Sufficient k (Has s) → ⊥) → Landmark k l
drawn_landmark {k} d short order plan =
    ⊎_elim
    (λ inside.
    absurd (grown_insufficient d.is_grown short
    (sufficient_by_reach k d.is_reach (λ i y. inside i (plan.reached i y)))))
    (λ f. (f.0, (d.leaving f.0).1 (f.2, f.3), f.1))
    (carried_leaves d.reach plan.carried d.is_reach.from)

-- it has no work of that set
pub drawn_apart : {k : Task} {s l : Set} → Drawn k s l → (w : ℕ) → Has s w → Has l w → ⊥
drawn_apart d w y z =
    let out = (d.leaving w).0 z in
    out.1.1 (d.is_reach.closed w out.0 (d.is_grown.from w y) out.1.0)

-- one landmark is drawn from a set
pub drawn_unique : {k : Task} {s l l' : Set} → Drawn k s l → Drawn k s l' → l ≡ l'
drawn_unique {k} {l} {l'} d d' =
    let Reached : Set → Type 0 = λ g. Reach k.works (Has g) k.standing d'.reach in
    let Left : Set → Type 0 = λ r. Members l' (λ w. (w < length k.works) × Leaves k.works r w) in
    let reached = subst Reached (grown_unique d'.is_grown d.is_grown) d'.is_reach in
    let same = reach_unique k.works (Has d.grown) k.standing d'.reach d.reach reached d.is_reach in
    same_members (λ w. (w < length k.works) × Leaves k.works d.reach w) l l' d.leaving (subst Left same d'.leaving)

-- ---- every landmark

-- a sufficient set shares a work with every landmark
pub landmark_meets : (k : Task) (l s : Set) → Landmark k l → Sufficient k (Has s) → Meet l s
landmark_meets k l s mark enough =
    let p = placed_exists k.works s k.standing in
    let shared = mark p.0 (placed_plan p.1 enough (λ w y z. none_has w z)) in
    (shared.0, shared.1, placed_from p.1 shared.0 shared.2)

-- a landmark stays one where more is wanted
pub landmark_stays :
    (k k' : Task) (l : Set) →
    k.works ≡ k'.works →
    k.standing ≡ k'.standing →
    Sub k.wanted k'.wanted →
    Landmark k l →
    Landmark k' l
landmark_stays k k' l works standing more mark order plan = grind arith

-- ---- the grown set and the landmark that there are

-- the set s grown by works below n
pub record GrownTo (k : Task) (s : Set) (n : ℕ) (g : Set) : Type 0 where
  pub from : Sub s g
  pub only : (w : ℕ) → Has g w → Has s w ⊎ (w < n)
  pub lacks : (w : ℕ) → w < n → (Has s w → ⊥) → Has g w → Sufficient k (Trial s g w) → ⊥
  pub takes : (w : ℕ) → w < n → (Has s w → ⊥) → (Sufficient k (Trial s g w) → ⊥) → Has g w

module _ (k : Task) (s : Set) where
  trial_decided : (g : Set) (w v : ℕ) → Trial s g w v ⊎ (Trial s g w v → ⊥)
  trial_decided g w v = grind (arith, either_decided, has_or_not, both_decided)

  -- one step: n is added where the set stays insufficient with it
  grown_more :
      (n : ℕ) (g g' : Set) →
      GrownTo k s n g →
      Members g' (λ v. Has g v ⊎ ((v ≡ n) × (Sufficient k (Trial s g n) → ⊥))) →
      GrownTo k s (suc n) g'
  grown_more n g g' h adds =
      let same : (w : ℕ) → w < suc n → Sufficient k (Trial s g' w) → Sufficient k (Trial s g w) =
      λ w le. trial_grows k s g' g w (λ v lt y. ⊎_elim (λ z. z) (λ p. absurd (omega arith)) ((adds v).0 y))
      in
      let Short : ℕ → Type 0 = λ w. Sufficient k (Trial s g w) → ⊥ in
      record {
        from = λ w y. (adds w).1 (inl (h.from w y));
        only = λ w y.
            ⊎_elim (λ z. ⊎_elim inl (λ lt. inr (omega arith)) (h.only w z)) (λ p. inr (omega arith)) ((adds w).0 y);
        lacks = λ w le not y enough.
            ⊎_elim
            (λ z. ⊎_elim not (λ lt. h.lacks w lt not z (same w le enough)) (h.only w z))
            (λ p. subst Short (sym p.0) p.1 (same w le enough))
            ((adds w).0 y);
        takes = λ w le not short.
            let short' : Short w = λ enough. short (trial_grows k s g g' w (λ v lt y. (adds v).1 (inl y)) enough) in
            elim (dec_lt w n) [
              | yes lt ↦ (adds w).1 (inl (h.takes w lt not short'))
              | no ge ↦ let e : w ≡ n = omega arith in (adds w).1 (inr (e, subst Short e short'))
            ];
      }

  pub grown_none : GrownTo k s 0 s
  grown_none = record {
    from = λ w y. y;
    only = λ w. inl;
    lacks = λ w lt. absurd (omega arith);
    takes = λ w lt. absurd (omega arith);
  }

  pub grown_all : {g : Set} → GrownTo k s (length k.works) g → Grown k s g
  grown_all g = record { from = g.from; only = g.only; lacks = g.lacks; takes = g.takes }

  -- the grown set with n, as a trial of n
  module _ {n : ℕ} {g : Set} (more : Set) (h : GrownTo k s n g) (adds : Members more (λ v. Has g v ⊎ (v ≡ n))) where
    trial_of : Sufficient k (Has more) → Sufficient k (Trial s g n)
    trial_of =
        sufficient_grows k (Has more) (Trial s g n)
        (λ v held y. ⊎_elim (λ z. ⊎_elim inl (λ lt. inr (inl (z, lt))) (h.only v z)) (λ e. inr (inr e)) ((adds v).0 y))

    of_trial : Sufficient k (Trial s g n) → Sufficient k (Has more)
    of_trial =
        sufficient_grows k (Trial s g n) (Has more)
        (λ v held. ⊎_elim (λ y. (adds v).1 (inl (h.from v y))) (⊎_elim (λ p. (adds v).1 (inl p.0)) (λ e. (adds v).1 (inr e))))

    -- n is added, since the set stays insufficient with it
    pub grown_with : (Sufficient k (Has more) → ⊥) → GrownTo k s (suc n) more
    grown_with short =
        grown_more n g more h (λ v. (
          λ y. ⊎_elim inl (λ e. inr (e, λ enough. short (of_trial enough))) ((adds v).0 y),
          ⊎_elim (λ y. (adds v).1 (inl y)) (λ p. (adds v).1 (inr p.0)),
        ))

    -- n is left out, since the set is sufficient with it
    pub grown_over : Sufficient k (Has more) → GrownTo k s (suc n) g
    grown_over enough =
        grown_more n g g h (λ v. (inl, ⊎_elim (λ y. y) (λ p. absurd (p.1 (trial_of enough)))))

  grown_to : (n : ℕ) → (g : Set) × GrownTo k s n g
  grown_to zero = (s, grown_none)
  grown_to (suc n) =
      let g = grown_to n in
      let more =
      added_if g.0 n (Sufficient k (Trial s g.0 n) → ⊥)
      (not_decided (sufficient_or_not k (Trial s g.0 n) (trial_decided g.0 n)))
      in
      (more.0, grown_more n g.0 more.0 g.1 more.1)

  -- every set can be grown
  pub grown_exists : (g : Set) × Grown k s g
  grown_exists =
      let g = grown_to (length k.works) in (g.0, grown_all g.1)

  -- something is drawn from every set; from an insufficient one it is a landmark
  pub drawn_exists : (l : Set) × Drawn k s l
  drawn_exists =
      let g = grown_exists in
      let r = reach_exists k.works (Has g.0) (has_or_not g.0) k.standing in
      let l =
      set_of (Leaves k.works r.0)
      (λ w. both_decided (sub_decided (work k.works w).needs r.0) (not_decided (sub_decided (work k.works w).gives r.0)))
      (length k.works)
      in
      (l.0, record { grown = g.0; reach = r.0; is_grown = g.1; is_reach = r.1; leaving = l.1 })
