-- The record that is printed of a scheme.
use Rattle.std.specs.Prelude.{◌≡◌, ℕ, ◌<◌, Bool, true, false, List, [], ◌∷◌, ◌++◌, length, codes, decimal}
use Rattle.std.specs.List.{flat_map}
use Rattle.sets.specs.declared.Set.{Set}
use Rattle.sets.specs.Member.{Has, Members}
use Rattle.sets.specs.Listed.{members, has_bit}
use Rattle.scheme.specs.Task.{Task}
use Rattle.scheme.specs.Reach.{Reach}
use Rattle.scheme.specs.Orders.{Placed}

-- a name behind a blank, if there is one
abbrev pub behind : List ℕ → List ℕ
behind [] = []
behind (b ∷ bs) = codes " " ++ (b ∷ bs)

-- a line with a number and a name
abbrev pub entry : ℕ → List ℕ → List ℕ
entry n name = decimal n ++ (behind name ++ codes "\n")

-- a line with a number and a name, behind a word
abbrev pub marked : List ℕ → ℕ → List ℕ → List ℕ
marked word n name = word ++ (codes " " ++ entry n name)

-- whether an item lies in the reach
abbrev pub reach_text : Bool → List ℕ
reach_text true = codes "in reach"
reach_text false = codes "out of reach"

-- a line for each of some numbers
abbrev pub lines : (ℕ → List ℕ) → List ℕ → List ℕ
lines line ns = flat_map line ns

-- The text: the works of an order, the items standing at the end of the chosen works, and the wanted items.
pub record Printed (k : Task) (works items : ℕ → List ℕ) (chosen : Set) (order text : List ℕ) : Type 0 where
  pub reach : Set
  pub reached : Reach k.works (Has chosen) k.standing reach
  pub written :
      text
      ≡ codes "works in order\n"
      ++ (lines (λ w. entry w (works w)) order
      ++ (codes "standing at the end\n"
      ++ (lines (λ i. entry i (items i)) (members reach)
      ++ (codes "wanted\n"
      ++ lines (λ i. marked (reach_text (has_bit reach i)) i (items i)) (members k.wanted)))))

-- The record of a scheme: all its works, in the order in which they are placed.
pub record Recorded (k : Task) (works items : ℕ → List ℕ) (text : List ℕ) : Type 0 where
  pub all : Set
  pub every : Members all (λ w. w < length k.works)
  pub order : List ℕ
  pub placed : Placed k.works all k.standing order
  pub printed : Printed k works items all order text
