-- What a question promises, and two questions together.
use Rattle.std.specs.Prelude.{◌≡◌, ℕ, ◌⊎◌, List}
use Rattle.sets.specs.declared.Set.{Set}
use Rattle.scheme.specs.Task.{Task}
use Rattle.scheme.specs.Orders.{Plan}
use Rattle.tariff.specs.Amounts.{Scale}
use Rattle.chooser.specs.Least.{order_cost}
use Rattle.rules.specs.Rules.{Outcome}
use Rattle.rules.specs.Rules.Outcome.{answered, out_of_reach, capacity_spent}

-- no order, however long, can be carried out with no barred work and leaves every wanted item standing
abbrev pub NoPlan : Task → Set → Type 0
NoPlan k bars = (order : List ℕ) → Plan k bars order → ⊥

module _ {V : Type 0} (t : Scale V) (k : Task) (prices : List V) (bars : Set) where
  -- The order can be carried out, uses no barred work and leaves every wanted item standing; the total is its cost; no other order that does all three, of any length, costs less.
  pub record Cheapest (order : List ℕ) (total : t.Amount) : Type 0 where
    pub plan : Plan k bars order
    pub cost : total ≡ order_cost t prices order
    pub none_cheaper :
        (other : List ℕ) →
        Plan k bars other →
        t.less total (order_cost t prices other) ⊎ (total ≡ order_cost t prices other)

  -- An answer is the cheapest; out of reach exactly when no order does all three.
  abbrev pub Right : Outcome t.Amount → Type 0
  Right (answered order total rounds) = Cheapest order total
  Right out_of_reach = NoPlan k bars
  Right capacity_spent = (order : List ℕ) × Plan k bars order

-- Two outcomes agree: the same order and total, or both out of reach, unless either was refused for capacity; that only happens where there is a plan, so that it excludes out of reach.
abbrev pub Agree : {W : Type 0} → Outcome W → Outcome W → Type 0
Agree (answered a x m) (answered b y n) = (a ≡ b) × (x ≡ y)
Agree (answered a x m) out_of_reach = ⊥
Agree (answered a x m) capacity_spent = Unit {0}
Agree out_of_reach (answered b y n) = ⊥
Agree out_of_reach out_of_reach = Unit {0}
Agree out_of_reach capacity_spent = ⊥
Agree capacity_spent (answered b y n) = Unit {0}
Agree capacity_spent out_of_reach = ⊥
Agree capacity_spent capacity_spent = Unit {0}
