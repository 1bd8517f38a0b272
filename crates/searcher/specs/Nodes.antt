-- Nodes of the search, and what is known of the best set so far.
use Rattle.std.specs.Prelude.{◌≡◌, ℕ, ◌+◌, ◌⊎◌, List, [], ◌∷◌, Some, None, Option, count_ones}
use Rattle.std.specs.declared.ops.ControlFlow.{ControlFlow}
use Rattle.std.specs.declared.ops.ControlFlow.TheVariants.{Continue, Break}
use Rattle.sets.specs.declared.Set.{Set}
use Rattle.sets.specs.Member.{Has, Meet, Sub}
use Rattle.tariff.specs.Amounts.{Scale, All}
use Rattle.chooser.specs.Least.{Precedes}
use Rattle.searcher.specs.declared.node.Node.{Node}

-- a set of the part that a node stands for
pub record Inside (n : Node) (o : Set) : Type 0 where
  pub chosen : Sub n.chosen o
  pub rest : (k : ℕ) → Has o k → Has n.chosen k ⊎ Has n.free k

-- the works of a node are among some works
pub record Of (works : Set) (n : Node) : Type 0 where
  pub chosen : Sub n.chosen works
  pub free : Sub n.free works

-- a node in two, by a free work
pub record Halved (n a b : Node) : Type 0 where
  pub covered : (o : Set) → Inside n o → Inside a o ⊎ Inside b o
  pub fewer : (count_ones a.free.bits + 1 ≡ count_ones n.free.bits) × (count_ones b.free.bits + 1 ≡ count_ones n.free.bits)
  pub parts : (works : Set) → Of works n → Of works a × Of works b

-- one of some kept sets
abbrev pub One : List Set → Set → Type 0
One [] one = ⊥
One (x ∷ xs) one = (one ≡ x) ⊎ One xs one

-- a kept set that the chosen works do not meet, or none
abbrev pub Unmet : List Set → Set → Option Set → Type 0
Unmet sets chosen None = All (Meet chosen) sets
Unmet sets chosen (Some one) = One sets one × (Meet chosen one → ⊥)

-- the best set so far, if there is one, is of some works and meets every kept set
abbrev pub Best : Set → List Set → Option Set → Type 0
Best works sets None = Unit {0}
Best works sets (Some s) = Sub s works × All (Meet s) sets

module _ {V : Type 0} (t : Scale V) (prices : List V) where
  -- the best set so far precedes another
  abbrev pub Ahead : Option Set → Set → Type 0
  Ahead None o = ⊥
  Ahead (Some s) o = Precedes t prices s o

  -- a set precedes the best so far
  abbrev pub Better : Set → Option Set → Type 0
  Better o None = Unit {0}
  Better o (Some s) = Precedes t prices o s

  -- the best set so far precedes each set of a node that meets the kept ones
  abbrev pub Settled : List Set → Option Set → Node → Type 0
  Settled sets best n = (o : Set) → Inside n o → All (Meet o) sets → Ahead best o

  -- a node that is done, with what is then the best set
  pub record Closed (works : Set) (sets : List Set) (n : Node) (best after : Option Set) : Type 0 where
    pub settled : Settled sets after n
    pub keeps : (o : Set) → Ahead best o → Ahead after o
    pub found : Best works sets after

  -- a node that is split, or done with what is then the best set
  abbrev pub Stepped : Set → List Set → Node → Option Set → ControlFlow (Option Set) (Node × Node) → Type 0
  Stepped works sets n best (Continue parts) = Halved n parts.0 parts.1
  Stepped works sets n best (Break after) = Closed works sets n best after

  -- the first of the sets of some works that meet the kept ones
  pub record Searched (works : Set) (sets : List Set) (r : Option Set) : Type 0 where
    pub found : Best works sets r
    pub first : (o : Set) → Sub o works → All (Meet o) sets → Ahead r o
