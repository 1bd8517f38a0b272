-- The calls on a scheme since its opening, and what the scheme and its chooser hold after them.
use Rattle.std.specs.Prelude.{◌≡◌, ℕ, ◌<◌, ◌≤◌, ◌⊎◌, List, [], ◌∷◌, ◌++◌, map, length, ◌≢◌, slice_set}
use Rattle.sets.specs.declared.Set.{Set}
use Rattle.sets.specs.Member.{Has, Members, none}
use Rattle.sets.specs.Listed.{members}
use Rattle.scheme.specs.declared.Work.{Work}
use Rattle.scheme.specs.Task.{Task}
use Rattle.scheme.specs.Edits.{opened, with_works, with_standing, with_wanted}
use Rattle.tariff.specs.Amounts.{Scale, All}
use Rattle.rules.specs.Rules.{Asked, Outcome}
use Rattle.rules.specs.Marks.{Marked, Marking}

-- a call on a planner
pub data Call (V : Type 0) : Type 0 where
  enter : (needs gives : Set) → Call V
  amend : (work : ℕ) (needs gives : Set) → Call V
  stand : (item : ℕ) → Call V
  want : (item : ℕ) → Call V
  waive : (item : ℕ) → Call V
  mark : (prices : List V) (bars : Set) (paper : List ℕ) → Call V
  ask : (prices : List V) (bars : Set) (places : ℕ) → Call V

-- the entry of a work
abbrev pub entry : {V : Type 0} → Work → Call V
entry w = enter w.needs w.gives

-- the calls that fill in what a task holds: its entries, then its standings and its wants in rising number
abbrev pub filling : {V : Type 0} → Task → List (Call V)
filling k = (map entry k.works ++ map stand (members k.standing)) ++ map want (members k.wanted)

-- one price for each work, each within the ceiling
abbrev pub Fair : {V : Type 0} → Scale V → Task → List V → Type 0
Fair t k prices = (length prices ≡ length k.works) × All t.within prices

-- every work of a set is held
abbrev pub Held : Task → Set → Type 0
Held k s = (w : ℕ) → Has s w → w < length k.works

-- a question that is not refused for its arguments
abbrev pub Valid : {V : Type 0} → Scale V → Task → List V → Set → ℕ → Type 0
Valid t k prices bars places = Fair t k prices × Held k bars × (length k.works ≤ places)

-- a marking that is not refused for its arguments
abbrev pub Readable : {V : Type 0} → Scale V → Task → List V → Set → List ℕ → Type 0
Readable t k prices bars paper =
    Fair t k prices × (length paper ≤ 64) × Held k bars × All (λ w. w < length k.works) paper

-- the work of these needs and gives
abbrev pub of_parts : Set → Set → Work
of_parts n g = record { needs = n; gives = g }

module _ {V : Type 0} (t : Scale V) (capacity : ℕ) where
  -- One call: what is held and kept before it, and after it. A refused call changes neither.
  pub data Effect (k : Task) (kept : List Set) : Call V → Task → List Set → Type 0 where
    entered :
        {n g : Set} →
        (g ≢ none) →
        length k.works < 64 →
        Effect k kept (enter n g) (with_works k (k.works ++ (of_parts n g ∷ []))) []
    not_entered : {n g : Set} → (g ≡ none) ⊎ (64 ≤ length k.works) → Effect k kept (enter n g) k kept
    amended :
        {w : ℕ} {n g : Set} →
        w < length k.works →
        (g ≢ none) →
        Effect k kept (amend w n g) (with_works k (slice_set k.works w (of_parts n g))) []
    not_amended : {w : ℕ} {n g : Set} → (length k.works ≤ w) ⊎ (g ≡ none) → Effect k kept (amend w n g) k kept
    stood :
        {i : ℕ} {s : Set} →
        i < 64 →
        (Has k.standing i → ⊥) →
        Members s (λ j. Has k.standing j ⊎ (j ≡ i)) →
        Effect k kept (stand i) (with_standing k s) []
    not_stood : {i : ℕ} → (64 ≤ i) ⊎ Has k.standing i → Effect k kept (stand i) k kept
    added :
        {i : ℕ} {s : Set} →
        i < 64 →
        (Has k.wanted i → ⊥) →
        Members s (λ j. Has k.wanted j ⊎ (j ≡ i)) →
        Effect k kept (want i) (with_wanted k s) kept
    not_added : {i : ℕ} → (64 ≤ i) ⊎ Has k.wanted i → Effect k kept (want i) k kept
    waived :
        {i : ℕ} {s : Set} →
        Has k.wanted i →
        Members s (λ j. Has k.wanted j × (j ≢ i)) →
        Effect k kept (waive i) (with_wanted k s) []
    not_waived : {i : ℕ} → (Has k.wanted i → ⊥) → Effect k kept (waive i) k kept
    asked :
        {p : List V} {b : Set} {n : ℕ} {o : Outcome t.Amount} {to : List Set} →
        Valid t k p b n →
        Asked t capacity k p b kept o to →
        Effect k kept (ask p b n) k to
    not_asked : {p : List V} {b : Set} {n : ℕ} → (Valid t k p b n → ⊥) → Effect k kept (ask p b n) k kept
    marked :
        {p : List V} {b : Set} {paper : List ℕ} {m : Marking t.Amount} {to : List Set} →
        Readable t k p b paper →
        Marked t capacity k p b paper kept m to →
        Effect k kept (mark p b paper) k to
    not_marked :
        {p : List V} {b : Set} {paper : List ℕ} → (Readable t k p b paper → ⊥) → Effect k kept (mark p b paper) k kept

  -- The calls since the opening, oldest first, and what is held and kept after them.
  pub data Since : List (Call V) → Task → List Set → Type 0 where
    opening : Since [] opened []
    then :
        {calls : List (Call V)} {k after : Task} {kept to : List Set} {c : Call V} →
        Since calls k kept →
        Effect k kept c after to →
        Since (calls ++ (c ∷ [])) after to
