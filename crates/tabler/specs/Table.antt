-- What the table of a draw holds. A subset of the kept sets is the set of their places.
use Rattle.std.specs.Prelude.{◌≡◌, ℕ, ◌<◌, ◌⊎◌, List, slice_index_or}
use Rattle.sets.specs.declared.Set.{Set}
use Rattle.sets.specs.Member.{Has, Members, Meet, Sub, none}
use Rattle.tariff.specs.Amounts.{Scale}
use Rattle.chooser.specs.Least.{Precedes}

-- s meets the kept sets of a subset
abbrev pub Met : List Set → Set → Set → Type 0
Met sets subset s = (k : ℕ) → Has subset k → Meet s (slice_index_or sets k none)

-- some kept set of a subset has a work
abbrev pub Touched : List Set → Set → ℕ → Type 0
Touched sets subset w = (k : ℕ) × Has subset k × Has (slice_index_or sets k none) w

-- left are the kept sets of a subset that lack a work
abbrev pub Unmet : List Set → Set → ℕ → Set → Type 0
Unmet sets subset w left = Members left (λ k. Has subset k × (Has (slice_index_or sets k none) w → ⊥))

-- r has a work, and the table's choice for the kept sets of a subset that lack it
pub record Joins (sets table : List Set) (subset : Set) (w : ℕ) (r : Set) : Type 0 where
  pub left : Set
  pub unmet : Unmet sets subset w left
  pub members : Members r (λ k. Has (slice_index_or table left.bits none) k ⊎ (k ≡ w))

module _ {V : Type 0} (t : Scale V) (prices : List V) where
  -- r is the first of two sets
  pub record Earlier (a b r : Set) : Type 0 where
    pub one : (r ≡ a) ⊎ (r ≡ b)
    pub before_a : Precedes t prices r a
    pub before_b : Precedes t prices r b

  module _ (free : Set) (sets : List Set) where
    -- the first of the sets of works of free that meet the kept sets of a subset
    pub record Best (subset s : Set) : Type 0 where
      pub inside : Sub s free
      pub meets : Met sets subset s
      pub first : (o : Set) → Sub o free → Met sets subset o → Precedes t prices s o

    -- the table has the best choices for the subsets whose numbers are below m
    abbrev pub Filled : List Set → ℕ → Type 0
    Filled table m = (k : ℕ) → k < m → Best (record { bits = k }) (slice_index_or table k none)

    -- r is the first of a and of a set that has a work and the table's choice for the kept sets of a subset that lack it
    pub record Turn (table : List Set) (subset a : Set) (w : ℕ) (r : Set) : Type 0 where
      pub other : Set
      pub joins : w < 64 → Joins sets table subset w other
      pub earlier : Sub a free → Sub other free → Earlier a other r
