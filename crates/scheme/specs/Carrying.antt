-- How far an order can be carried out.
use Rattle.std.specs.Prelude.{ℕ, ◌<◌, ◌≤◌, List, length, take, Ok, Err, Result, slice_index}
use Rattle.sets.specs.declared.Set.{Set}
use Rattle.sets.specs.Member.{Has}
use Rattle.scheme.specs.declared.Work.{Work}
use Rattle.scheme.specs.declared.Stop.{Stop}
use Rattle.scheme.specs.declared.Stop.TheVariants.{NotHeld, Lacking}
use Rattle.scheme.specs.Orders.{Carried}
use Rattle.scheme.specs.Task.{work}

-- i is the lowest member of a that b lacks
pub record LowestLacking (a b : Set) (i : ℕ) : Type 0 where
  pub member : Has a i
  pub lacked : Has b i → ⊥
  pub lowest : (j : ℕ) → j < i → Has a j → Has b j

-- The order is carried out from the items s up to a place, where the items t stand.
pub record ComesTo (works : List Work) (s : Set) (order : List ℕ) (place : ℕ) (t : Set) : Type 0 where
  pub within : place < length order
  pub front : Carried works s (take place order) t

-- What stands after an order that begins at the items s, or the first place at fault: its work is not held, or lacks what it needs.
abbrev pub Carries : List Work → Set → List ℕ → Result Set Stop → Type 0
Carries works s order (Ok e) = Carried works s order e
Carries works s order (Err (NotHeld place)) =
    (t : Set) × ComesTo works s order place t × (length works ≤ slice_index order place)
Carries works s order (Err (Lacking place item)) =
    (t : Set)
    × ComesTo works s order place t
    × (slice_index order place < length works)
    × LowestLacking (work works (slice_index order place)).needs t item
