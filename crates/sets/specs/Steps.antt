-- One step through the members of a set in rising order.
use Rattle.std.specs.Prelude.{◌≡◌, ℕ, ◌<◌, Some, None, Option, ◌≢◌}
use Rattle.sets.specs.declared.Set.{Set}
use Rattle.sets.specs.Member.{Has, Members, Lowest}

-- From the members s still to come: none is left, or the lowest comes and t are left.
abbrev pub Next : Set → Option ℕ → Set → Type 0
Next s None t = ((k : ℕ) → Has s k → ⊥) × (t ≡ s)
Next s (Some k) t = Lowest s k × (k < 64) × Members t (λ j. Has s j × (j ≢ k))
