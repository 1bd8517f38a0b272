-- The prices of works, and lower bounds on the costs and the numbers of the sets of a node.
use Rattle.std.specs.Prelude.{◌≡◌, ℕ, ◌<◌, ◌≤◌, ◌⊎◌, List}
use Rattle.sets.specs.declared.Set.{Set}
use Rattle.sets.specs.Member.{Has, Members, Meet, Sub}
use Rattle.tariff.specs.Amounts.{Scale, All, AtMost, sum}
use Rattle.chooser.specs.Least.{Capped, SetCapped, price, set_cost}
use Rattle.searcher.specs.declared.node.Node.{Node}
use Rattle.searcher.specs.Nodes.{Inside}

-- the free works of a kept set that is not met and has no free works but those of rest
pub record Own (n : Node) (rest one shared : Set) : Type 0 where
  pub members : Members shared (λ k. Has one k × Has n.free k)
  pub unmet : Meet n.chosen one → ⊥
  pub fresh : Sub shared rest

-- a work that is picked from some free works of a node, where Pick says what may be picked
abbrev pub Taken : (Set → ℕ → Type 0) → Node → ℕ → Type 0
Taken Pick n w = (shared : Set) × Sub shared n.free × Pick shared w

-- a work that is picked from some free works of a node, and any of these
abbrev pub Picked : (Set → ℕ → Type 0) → Node → ℕ → ℕ → Type 0
Picked Pick n w k = (shared : Set) × Sub shared n.free × Pick shared w × Has shared k

-- the works of a set are in another, or P ties them to works of that set: one work to one
pub data Paired (P : ℕ → ℕ → Type 0) : Set → Set → Type 0 where
  within : {a b : Set} → Sub a b → Paired P a b
  tied : {more all : Set} (a b : Set) (w k : ℕ) → Paired P a b → P w k → Has all k → Members more (λ j. Has a j ⊎ ((j ≡ w) × (w < 64))) →
      Members b (λ j. Has all j × (j ≡ k → ⊥)) → Paired P more all

-- a number that no set of a node that meets the kept ones falls below
abbrev pub Floor : List Set → Node → Set → Type 0
Floor sets n floor = (o : Set) → Inside n o → All (Meet o) sets → floor.bits ≤ o.bits

module _ {V : Type 0} (t : Scale V) (prices : List V) where
  -- what one work costs
  abbrev pub work_cost : ℕ → t.Amount
  work_cost w = sum t (price prices w)

  -- one of two works, neither of them cheaper
  pub record Cheaper (v w r : ℕ) : Type 0 where
    pub either : (r ≡ v) ⊎ (r ≡ w)
    pub least : v < 64 → w < 64 → Capped t prices v → Capped t prices w →
        AtMost t (work_cost r) (work_cost v) × AtMost t (work_cost r) (work_cost w)

  -- a work of a set, none of them cheaper
  pub record Cheapest (s : Set) (w : ℕ) : Type 0 where
    pub member : Has s w
    pub low : w < 64
    pub least : SetCapped t prices s → (k : ℕ) → Has s k → AtMost t (work_cost w) (work_cost k)

  -- works whose cost no set of a node that meets the kept ones falls below
  pub record Bounds (sets : List Set) (n : Node) (bound : Set) : Type 0 where
    pub within : (k : ℕ) → Has bound k → Has n.chosen k ⊎ Has n.free k
    pub below : (o : Set) → Inside n o → All (Meet o) sets → AtMost t (set_cost t prices bound) (set_cost t prices o)

  -- a set costs less than the bound, or no more while its number is not above that of any set of a node that meets the kept ones
  abbrev pub Outdoes : List Set → Node → Set → Set → Type 0
  Outdoes sets n s bound =
      t.less (set_cost t prices s) (set_cost t prices bound) ⊎ (AtMost t (set_cost t prices s) (set_cost t prices bound) × Floor sets n s)
