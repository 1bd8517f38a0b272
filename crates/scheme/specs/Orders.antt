-- Orders (plans): lists of work numbers.
use Rattle.std.specs.Prelude.{ℕ, ◌<◌, ◌⊎◌, List, [], ◌∷◌, length, ◌≢◌}
use Rattle.sets.specs.declared.Set.{Set}
use Rattle.sets.specs.Member.{Has, Sub, Members}
use Rattle.sets.specs.Listed.{In}
use Rattle.scheme.specs.declared.Work.{Work}
use Rattle.scheme.specs.Task.{Task, work}

-- An order is carried out from the items s to the items e: each work is held, its needs stand at its turn, and its gives stand from then on.
pub data Carried (works : List Work) : Set → List ℕ → Set → Type 0 where
  finished : {s : Set} → Carried works s [] s
  onward :
      {s t e : Set} {w : ℕ} {rest : List ℕ} →
      w < length works →
      Sub (work works w).needs s →
      Members t (λ i. Has s i ⊎ Has (work works w).gives i) →
      Carried works t rest e →
      Carried works s (w ∷ rest) e

-- An order that can be carried out, uses no barred work and leaves every wanted item standing.
pub record Plan (k : Task) (bars : Set) (order : List ℕ) : Type 0 where
  pub unbarred : (w : ℕ) → In w order → Has bars w → ⊥
  pub last : Set
  pub carried : Carried k.works k.standing order last
  pub reached : Sub k.wanted last

-- The order of a set of works: at each step its lowest-numbered unplaced work whose needs stand.
pub data Placed (works : List Work) : Set → Set → List ℕ → Type 0 where
  none_left :
      {left s : Set} →
      ((w : ℕ) → w < length works → Has left w → Sub (work works w).needs s → ⊥) →
      Placed works left s []
  placing :
      {left s less t : Set} {w : ℕ} {rest : List ℕ} →
      w < length works →
      Has left w →
      Sub (work works w).needs s →
      ((v : ℕ) → v < w → Has left v → Sub (work works v).needs s → ⊥) →
      Members less (λ v. Has left v × (v ≢ w)) →
      Members t (λ i. Has s i ⊎ Has (work works w).gives i) →
      Placed works less t rest →
      Placed works left s (w ∷ rest)
