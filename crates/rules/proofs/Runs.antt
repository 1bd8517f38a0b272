-- Runs round by round, and how many rounds there are.
use Rattle.std.proofs.Common.{◌≡◌, ℕ, suc, ◌+◌, ◌*◌, ◌<◌, ◌≤◌, List, [], ◌∷◌, ◌++◌, length, subst, zero-le, arith, length-append}
use Rattle.sets.specs.declared.Set.{Set}
use Rattle.sets.specs.Member.{Has}
use Rattle.scheme.specs.Task.{Task}
use Rattle.scheme.specs.Reach.{Sufficient}
use Rattle.scheme.specs.Landmarks.{Landmark, Drawn}
use Rattle.tariff.specs.Amounts.{Scale, All}
use Rattle.chooser.specs.Least.{Least}
use Rattle.rules.specs.Rules.{Ending, Outcome, Run, last, full, more, Settled, at_once, from_none, anew, Asked, beyond, found, spent}
use Rattle.rules.specs.Rules.Ending.{reached, exhausted}
use Rattle.rules.specs.Rules.Outcome.{answered}
use Rattle.rules.proofs.Kept.{marks_more, fits_more, run_fits}

module _ {V : Type 0} (t : Scale V) (capacity : ℕ) (k : Task) (prices : List V) (bars : Set) where
  -- ---- a run's front

  -- After some rounds from the sets `start` the sets `kept` are kept: whatever finishes from here finishes the whole.
  pub record Onward (start : List Set) (rounds : ℕ) (kept : List Set) : Type 0 where
    pub count : rounds + length start ≡ length kept
    pub fits : length kept ≤ capacity
    pub marks : All (Landmark k) start → All (Landmark k) kept
    pub whole :
        (end : Ending) (to : List Set) (n : ℕ) →
        Run t capacity k prices bars kept end to n →
        Run t capacity k prices bars start end to (rounds + n)

  pub onward_none : (start : List Set) → length start ≤ capacity → Onward start 0 start
  onward_none start fits = record {
    count = omega arith;
    fits = fits;
    marks = λ marks. marks;
    whole = λ end to n r. let e : n ≡ 0 + n = omega arith in subst (Run t capacity k prices bars start end to) e r;
  }

  module _ {start kept : List Set} {rounds : ℕ} {s : Set} (front : Onward start rounds kept) (least : Least t prices bars kept s) where
    -- a round that draws an insufficient set keeps its landmark
    pub onward_more :
        {l : Set} →
        (Sufficient k (Has s) → ⊥) →
        length kept < capacity →
        Drawn k s l →
        Onward start (rounds + 1) (kept ++ (l ∷ []))
    onward_more {l} short place drawn = record {
      count = let e = front.count in simp length-append (omega arith);
      fits = fits_more kept l capacity place;
      marks = λ marks. marks_more kept (front.marks marks) drawn short;
      whole = λ end to n r.
          let e : rounds + suc n ≡ rounds + 1 + n = omega arith in
          subst (Run t capacity k prices bars start end to) e (front.whole end to (suc n) (more least short place drawn r));
    }

    -- the last round draws a sufficient set, or an insufficient one with no place left
    pub onward_reached : Sufficient k (Has s) → Run t capacity k prices bars start (reached s) kept (rounds + 1)
    onward_reached enough = front.whole (reached s) kept 1 (last least enough)

    pub onward_exhausted :
        (Sufficient k (Has s) → ⊥) → length kept ≡ capacity → Run t capacity k prices bars start exhausted kept (rounds + 1)
    onward_exhausted short no_place = front.whole exhausted kept 1 (full least short no_place)

-- ---- how many rounds

module _ {V : Type 0} {t : Scale V} {capacity : ℕ} {k : Task} {prices : List V} {bars : Set} where
  -- every round but the last keeps one set more
  pub run_rounds :
      {kept to : List Set} {end : Ending} {n : ℕ} →
      Run t capacity k prices bars kept end to n →
      n + length kept ≡ length to + 1
  run_rounds (last least enough) = omega arith
  run_rounds (full least short no_place) = omega arith
  run_rounds (more {kept} {l} least short place drawn r) =
      omega (arith, run_rounds r, length-append kept (l ∷ []))

  pub run_rounds_most :
      {kept to : List Set} {end : Ending} {n : ℕ} →
      Run t capacity k prices bars kept end to n →
      length kept ≤ capacity →
      n ≤ capacity + 1
  run_rounds_most r fits = omega (arith, run_rounds r, run_fits r fits)

  pub settled_rounds_most :
      {kept to : List Set} {end : Ending} {n : ℕ} →
      Settled t capacity k prices bars kept end to n →
      length kept ≤ capacity →
      n ≤ 2 * (capacity + 1)
  settled_rounds_most (at_once r) fits = omega (arith, run_rounds_most r fits)
  settled_rounds_most (from_none e r) fits = omega (arith, run_rounds_most r fits)
  settled_rounds_most (anew some r a) fits = omega (arith, run_rounds_most r fits, run_rounds_most a zero-le)

  -- the rounds of an answer
  pub asked_rounds_most :
      {kept to : List Set} {o : Outcome t.Amount} {order : List ℕ} {total : t.Amount} {rounds : ℕ} →
      Asked t capacity k prices bars kept o to →
      length kept ≤ capacity →
      o ≡ answered order total rounds →
      rounds ≤ 2 * (capacity + 1)
  asked_rounds_most (beyond short) fits e = let z : ◌≡◌ {A = ℕ} 0 1 = cc in omega arith
  asked_rounds_most {rounds} (found {n} enough r placed) fits e =
      let same : n ≡ rounds = cc in omega (arith, settled_rounds_most r fits)
  asked_rounds_most (spent enough r) fits e = let z : ◌≡◌ {A = ℕ} 0 1 = cc in omega arith
