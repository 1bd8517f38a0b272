-- The least set of allowed works that meets every kept set.
use Rattle.std.specs.Prelude.{◌≡◌, ℕ, ◌/◌, ◌%◌, ◌<◌, ◌≤◌, cond, ◌⊎◌, List, [], ◌∷◌, ◌++◌, length, take, drop, Some, None, Option, ◌==◌}
use Rattle.sets.specs.declared.Set.{Set}
use Rattle.sets.specs.Member.{Has, Meet}
use Rattle.tariff.specs.Amounts.{Scale, All, sum}

-- of a list, the elements at the places whose bit is set in n
abbrev pub picked : {V : Type 0} → List V → ℕ → List V
picked [] n = []
picked (v ∷ vs) n = cond (n % 2 == 1) (v ∷ picked vs (n / 2)) (picked vs (n / 2))

-- the price of a work: a list of one, or of none past the end
abbrev pub price : {V : Type 0} → List V → ℕ → List V
price prices w = take 1 (drop w prices)

-- the prices of an order's works, one for each of its places
abbrev pub priced : {V : Type 0} → List V → List ℕ → List V
priced prices [] = []
priced prices (w ∷ rest) = price prices w ++ priced prices rest

module _ {V : Type 0} (t : Scale V) (prices : List V) where
  -- the total of a set of works
  abbrev pub set_cost : Set → t.Amount
  set_cost s = sum t (picked prices s.bits)

  -- the total of an order: a repeated work is charged each time
  abbrev pub order_cost : List ℕ → t.Amount
  order_cost order = sum t (priced prices order)

  -- a work whose price, if it has one, is within the ceiling
  abbrev pub Capped : ℕ → Type 0
  Capped w = All t.within (price prices w)

  -- no work of a set, or of an order, has a price above the ceiling
  abbrev pub SetCapped : Set → Type 0
  SetCapped s = (w : ℕ) → Has s w → Capped w

  abbrev pub OrderCapped : List ℕ → Type 0
  OrderCapped order = All Capped order

  -- a work that may be chosen: it has a price, within the ceiling, and is not barred
  abbrev pub Allowed : Set → ℕ → Type 0
  Allowed bars w = (w < length prices) × Capped w × (Has bars w → ⊥)

  -- a set of allowed works that meets every kept set
  pub record Hitting (bars : Set) (kept : List Set) (s : Set) : Type 0 where
    pub allowed : (w : ℕ) → Has s w → Allowed bars w
    pub meets : All (Meet s) kept

  -- the lower total comes first, and among equal totals the lower set number
  abbrev pub Precedes : Set → Set → Type 0
  Precedes a b = t.less (set_cost a) (set_cost b) ⊎ ((set_cost a ≡ set_cost b) × (a.bits ≤ b.bits))

  -- the first of the hitting sets
  pub record Least (bars : Set) (kept : List Set) (s : Set) : Type 0 where
    pub hitting : Hitting bars kept s
    pub first : (o : Set) → Hitting bars kept o → Precedes s o

  -- what a draw answers
  abbrev pub Draws : Set → List Set → Option Set → Type 0
  Draws bars kept (Some s) = Least bars kept s
  Draws bars kept None = (o : Set) → Hitting bars kept o → ⊥

  -- a draw has one answer
  pub record Determined (bars : Set) (kept : List Set) : Type 0 where
    pub answer : Option Set
    pub draws : Draws bars kept answer
    pub only : (r : Option Set) → Draws bars kept r → r ≡ answer
