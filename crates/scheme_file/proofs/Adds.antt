-- The items of a set added one after another.
use Rattle.std.proofs.Common.{◌≡◌, ℕ, subst, inl, inr, ⊎_elim}
use Rattle.sets.specs.declared.Set.{Set}
use Rattle.sets.specs.Member.{Has, none}
use Rattle.sets.proofs.Laws.{none_has, same_set}
use Rattle.scheme_file.specs.Passes.{Adding}

pub adding_none : (items held : Set) → held ≡ none → Adding items held items
adding_none items held e k = (inr, ⊎_elim (λ h. absurd (none_has k (subst (λ (s : Set). Has s k) e h))) (λ h. h))

pub adding_all : (items held rest : Set) → Adding items held rest → ((k : ℕ) → Has rest k → ⊥) → held ≡ items
adding_all items held rest a empty =
    same_set held items (λ k h. (a k).1 (inl h)) (λ k h. ⊎_elim (λ y. y) (λ y. absurd (empty k y)) ((a k).0 h))
