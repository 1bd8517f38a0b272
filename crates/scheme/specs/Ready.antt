-- Works of a set that can be carried out next.
use Rattle.std.specs.Prelude.{ℕ, ◌<◌, List, length}
use Rattle.sets.specs.declared.Set.{Set}
use Rattle.sets.specs.Member.{Has, Sub}
use Rattle.scheme.specs.declared.Work.{Work}
use Rattle.scheme.specs.Task.{work}

-- no work of left below n has its needs among the items s
abbrev pub NoneReady : List Work → Set → Set → ℕ → Type 0
NoneReady works left s n = (w : ℕ) → w < n → Has left w → Sub (work works w).needs s → ⊥

-- w is the lowest-numbered work of left whose needs lie in the items s
pub record FirstReady (works : List Work) (left s : Set) (w : ℕ) : Type 0 where
  pub held : w < length works
  pub chosen : Has left w
  pub needs : Sub (work works w).needs s
  pub first : NoneReady works left s w
