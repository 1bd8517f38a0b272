-- The kept sets are landmarks after every list of calls, and no more than the capacity.
use Rattle.std.proofs.Common.{ℕ, ◌<◌, ◌≤◌, List, [], ◌∷◌, ◌++◌, length, refl, inl, zero-le, arith, length-append}
use Rattle.sets.specs.declared.Set.{Set}
use Rattle.sets.specs.Member.{Has}
use Rattle.scheme.specs.Task.{Task}
use Rattle.scheme.specs.Reach.{Sufficient}
use Rattle.scheme.specs.Landmarks.{Landmark, Drawn}
use Rattle.scheme.specs.Edits.{with_wanted}
use Rattle.scheme.proofs.Drawing.{drawn_landmark, landmark_stays}
use Rattle.tariff.specs.Amounts.{Scale, All}
use Rattle.tariff.proofs.Sums.{all_append}
use Rattle.rules.specs.Rules.{Ending, Outcome, Run, last, full, more, Settled, at_once, from_none, anew, Asked, beyond, found, spent}
use Rattle.rules.specs.Marks.{Marking, Marked, flawed, as_cheap, not_cheapest, undecided}
use Rattle.rules.specs.Calls.{Call, Effect, entered, not_entered, amended, not_amended, stood, not_stood, added, not_added, waived, not_waived, asked, not_asked, marked, not_marked, Since, opening, then}
use Rattle.rules.proofs.Optimal.{all_map}

-- what a round keeps more is a landmark
pub marks_more :
    {k : Task} {s l : Set} (kept : List Set) →
    All (Landmark k) kept →
    Drawn k s l →
    (Sufficient k (Has s) → ⊥) →
    All (Landmark k) (kept ++ (l ∷ []))
marks_more {k} {l} kept marks drawn short = all_append (Landmark k) kept (l ∷ []) marks (drawn_landmark drawn short, tt)

-- one more kept set, where there is a place for it
pub fits_more : (kept : List Set) (l : Set) (capacity : ℕ) → length kept < capacity → length (kept ++ (l ∷ [])) ≤ capacity
fits_more kept l capacity room = simp length-append (omega arith)

module _ {V : Type 0} {t : Scale V} {capacity : ℕ} where
  module _ {k : Task} {prices : List V} {bars : Set} where
    pub run_marks :
        {kept to : List Set} {end : Ending} {n : ℕ} →
        Run t capacity k prices bars kept end to n →
        All (Landmark k) kept →
        All (Landmark k) to
    run_marks (last least enough) marks = marks
    run_marks (full least short no_place) marks = marks
    run_marks (more {kept} least short place drawn r) marks = run_marks r (marks_more kept marks drawn short)

    pub settled_marks :
        {kept to : List Set} {end : Ending} {n : ℕ} →
        Settled t capacity k prices bars kept end to n →
        All (Landmark k) kept →
        All (Landmark k) to
    settled_marks (at_once r) marks = run_marks r marks
    settled_marks (from_none e r) marks = run_marks r marks
    settled_marks (anew some r r') marks = run_marks r' tt

    pub asked_marks :
        {kept to : List Set} {o : Outcome t.Amount} →
        Asked t capacity k prices bars kept o to →
        All (Landmark k) kept →
        All (Landmark k) to
    asked_marks (beyond short) marks = marks
    asked_marks (found enough r placed) marks = settled_marks r marks
    asked_marks (spent enough r) marks = settled_marks r marks

    pub marked_marks :
        {paper : List ℕ} {kept to : List Set} {m : Marking t.Amount} →
        Marked t capacity k prices bars paper kept m to →
        All (Landmark k) kept →
        All (Landmark k) to
    marked_marks (flawed f) marks = marks
    marked_marks (as_cheap plan a e) marks = asked_marks a marks
    marked_marks (not_cheapest plan a less) marks = asked_marks a marks
    marked_marks (undecided plan a) marks = asked_marks a marks

    pub run_fits :
        {kept to : List Set} {end : Ending} {n : ℕ} →
        Run t capacity k prices bars kept end to n →
        length kept ≤ capacity →
        length to ≤ capacity
    run_fits (last least enough) fits = fits
    run_fits (full least short no_place) fits = fits
    run_fits (more {kept} {l} least short place drawn r) fits = run_fits r (fits_more kept l capacity place)

    pub settled_fits :
        {kept to : List Set} {end : Ending} {n : ℕ} →
        Settled t capacity k prices bars kept end to n →
        length kept ≤ capacity →
        length to ≤ capacity
    settled_fits (at_once r) fits = run_fits r fits
    settled_fits (from_none e r) fits = run_fits r fits
    settled_fits (anew some r r') fits = run_fits r' zero-le

    pub asked_fits :
        {kept to : List Set} {o : Outcome t.Amount} →
        Asked t capacity k prices bars kept o to →
        length kept ≤ capacity →
        length to ≤ capacity
    asked_fits (beyond short) fits = fits
    asked_fits (found enough r placed) fits = settled_fits r fits
    asked_fits (spent enough r) fits = settled_fits r fits

    pub marked_fits :
        {paper : List ℕ} {kept to : List Set} {m : Marking t.Amount} →
        Marked t capacity k prices bars paper kept m to →
        length kept ≤ capacity →
        length to ≤ capacity
    marked_fits (flawed f) fits = fits
    marked_fits (as_cheap plan a e) fits = asked_fits a fits
    marked_fits (not_cheapest plan a less) fits = asked_fits a fits
    marked_fits (undecided plan a) fits = asked_fits a fits

  -- a call leaves landmarks of what is then held
  pub effect_marks :
      {k after : Task} {kept to : List Set} {c : Call V} →
      Effect t capacity k kept c after to →
      All (Landmark k) kept →
      All (Landmark after) to
  effect_marks (entered gives place) marks = tt
  effect_marks (not_entered why) marks = marks
  effect_marks (amended held gives) marks = tt
  effect_marks (not_amended why) marks = marks
  effect_marks (stood low new adds) marks = tt
  effect_marks (not_stood why) marks = marks
  effect_marks {k} {kept} (added {s} low new adds) marks =
      all_map (Landmark k) (Landmark (with_wanted k s))
      (λ l. landmark_stays k (with_wanted k s) l refl refl (λ i y. (adds i).1 (inl y))) kept marks
  effect_marks (not_added why) marks = marks
  effect_marks (waived has less) marks = tt
  effect_marks (not_waived why) marks = marks
  effect_marks (asked valid a) marks = asked_marks a marks
  effect_marks (not_asked why) marks = marks
  effect_marks (marked readable m) marks = marked_marks m marks
  effect_marks (not_marked why) marks = marks

  pub effect_fits :
      {k after : Task} {kept to : List Set} {c : Call V} →
      Effect t capacity k kept c after to →
      length kept ≤ capacity →
      length to ≤ capacity
  effect_fits (entered gives place) fits = zero-le
  effect_fits (not_entered why) fits = fits
  effect_fits (amended held gives) fits = zero-le
  effect_fits (not_amended why) fits = fits
  effect_fits (stood low new adds) fits = zero-le
  effect_fits (not_stood why) fits = fits
  effect_fits (added low new adds) fits = fits
  effect_fits (not_added why) fits = fits
  effect_fits (waived has less) fits = zero-le
  effect_fits (not_waived why) fits = fits
  effect_fits (asked valid a) fits = asked_fits a fits
  effect_fits (not_asked why) fits = fits
  effect_fits (marked readable m) fits = marked_fits m fits
  effect_fits (not_marked why) fits = fits

  -- after every list of calls the kept sets are landmarks
  pub since_marks : {calls : List (Call V)} {k : Task} {kept : List Set} → Since t capacity calls k kept → All (Landmark k) kept
  since_marks opening = tt
  since_marks (then before e) = effect_marks e (since_marks before)

  pub since_fits : {calls : List (Call V)} {k : Task} {kept : List Set} → Since t capacity calls k kept → length kept ≤ capacity
  since_fits opening = zero-le
  since_fits (then before e) = effect_fits e (since_fits before)
