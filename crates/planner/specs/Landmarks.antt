-- The kept landmarks copied into a lent list of numbers.
use Rattle.std.specs.Prelude.{◌≡◌, ℕ, ◌<◌, List, map, length, take, drop, Ok, Err, Result}
use Rattle.sets.specs.declared.Set.{Set}
use Rattle.scheme.specs.declared.refusals.Refusal.{Refusal}
use Rattle.scheme.specs.Refusals.{number_of}
use Rattle.scheme.specs.Task.{Task}
use Rattle.scheme.specs.Landmarks.{Landmark}
use Rattle.tariff.specs.Amounts.{All}

-- every kept set shares a work with every order that can be carried out and leaves every wanted item standing
abbrev pub AllLandmarks : Task → List Set → Type 0
AllLandmarks k kept = ∥ All (Landmark k) kept ∥₁

abbrev pub number : Set → ℕ
number s = s.bits

-- The first places hold the numbers of the kept sets in their order, and later places stay; refused just where the list is shorter than the kept sets are many.
abbrev pub Copies : List Set → List ℕ → Result ℕ Refusal → List ℕ → Type 0
Copies kept from (Ok n) to = (n ≡ length kept) × (take n to ≡ map number kept) × (drop n to ≡ drop n from)
Copies kept from (Err e) to = (number_of e ≡ 8) × (length from < length kept) × (to ≡ from)
