-- Landmarks (disjunctive action landmarks), and how one is drawn from an insufficient set of works.
use Rattle.std.specs.Prelude.{◌≡◌, ℕ, ◌<◌, ◌⊎◌, List, length, Some, None, Option}
use Rattle.sets.specs.declared.Set.{Set}
use Rattle.sets.specs.Member.{Has, Sub, Meet, Members, none}
use Rattle.sets.specs.Listed.{In}
use Rattle.scheme.specs.declared.Work.{Work}
use Rattle.scheme.specs.Task.{Task, work}
use Rattle.scheme.specs.Reach.{Reach, Sufficient}
use Rattle.scheme.specs.Orders.{Plan}

-- A landmark: a set of works that shares a work with every order that can be carried out and leaves every wanted item standing, barred works allowed.
abbrev pub Landmark : Task → Set → Type 0
Landmark k l = (order : List ℕ) → Plan k none order → (w : ℕ) × Has l w × In w order

-- the works of s, the members of g below w, and w
abbrev pub Trial : Set → Set → ℕ → ℕ → Type 0
Trial s g w v = Has s v ⊎ ((Has g v × (v < w)) ⊎ (v ≡ w))

-- The insufficient set s grown: in rising number, each work with which the set stays insufficient.
pub record Grown (k : Task) (s g : Set) : Type 0 where
  pub from : Sub s g
  pub only : (w : ℕ) → Has g w → Has s w ⊎ (w < length k.works)
  pub lacks : (w : ℕ) → w < length k.works → (Has s w → ⊥) → Has g w → Sufficient k (Trial s g w) → ⊥
  pub takes : (w : ℕ) → w < length k.works → (Has s w → ⊥) → (Sufficient k (Trial s g w) → ⊥) → Has g w

-- the needs of the work w lie among the items r, and its gives do not
abbrev pub Leaves : List Work → Set → ℕ → Type 0
Leaves works r w = Sub (work works w).needs r × (Sub (work works w).gives r → ⊥)

-- The landmark drawn from an insufficient set: the works whose needs lie in the grown set's reach and whose gives do not.
pub record Drawn (k : Task) (s l : Set) : Type 0 where
  pub grown : Set
  pub reach : Set
  pub is_grown : Grown k s grown
  pub is_reach : Reach k.works (Has grown) k.standing reach
  pub leaving : Members l (λ w. (w < length k.works) × Leaves k.works reach w)

-- What is drawn from a set of works: nothing from a sufficient one, and from any other its landmark, which has no work of it.
abbrev pub DrawnFrom : Task → Set → Option Set → Type 0
DrawnFrom k s None = Sufficient k (Has s)
DrawnFrom k s (Some l) = (Sufficient k (Has s) → ⊥) × Drawn k s l × Landmark k l × (Meet s l → ⊥)
