-- What the steps of the shared code answer.
use Rattle.std.specs.Prelude.{◌≡◌, ℕ, ◌<◌, ◌≤◌, ◌⊎◌, List, [], ◌∷◌, length, ◌≢◌, slice_index_or}
use Rattle.std.specs.declared.cmp.Ordering.TheVariants.{Less, Equal, Greater}
use Rattle.std.specs.declared.cmp.Ordering.{Ordering}
use Rattle.sets.specs.declared.Set.{Set}
use Rattle.sets.specs.Member.{Has, Members}
use Rattle.tariff.specs.Amounts.{Scale, Joined}
use Rattle.chooser.specs.Least.{set_cost}

-- some kept set has w
abbrev pub Held : List Set → ℕ → Type 0
Held [] w = ⊥
Held (one ∷ kept) w = Has one w ⊎ Held kept w

-- r has the members of free that some kept set has; those of the kept sets are below 64
pub record Gathered (free : Set) (kept : List Set) (r : Set) : Type 0 where
  pub members : Members r (λ w. Has free w × Held kept w)
  pub low : (w : ℕ) → Held kept w → w < 64

module _ {V : Type 0} (t : Scale V) (prices : List V) where
  -- r is a total with the price of a work joined to it, or as it was where the work is past the end of the prices
  abbrev pub Charged : V → ℕ → V → Type 0
  Charged total w r =
      ((v : V) × (w < length prices) × (v ≡ slice_index_or prices w v) × Joined t total v r) ⊎ ((length prices ≤ w) × (r ≡ total))

  -- how the totals of two sets compare
  abbrev pub Compared : Set → Set → Ordering → Type 0
  Compared a b Less = t.less (set_cost t prices a) (set_cost t prices b)
  Compared a b Equal = (set_cost t prices a ≡ set_cost t prices b) × (t.less (set_cost t prices a) (set_cost t prices b) → ⊥)
  Compared a b Greater =
      t.less (set_cost t prices b) (set_cost t prices a) × (set_cost t prices a ≢ set_cost t prices b) × (t.less (set_cost t prices a) (set_cost t prices b) → ⊥)
