-- The verdict on a candidate's order.
use Rattle.std.specs.Prelude.{◌≡◌, ℕ, ◌+◌, ◌⊎◌, List, [], ◌∷◌}
use Rattle.sets.specs.declared.Set.{Set}
use Rattle.sets.specs.Member.{Has, Sub, Members}
use Rattle.scheme.specs.Task.{Task, work}
use Rattle.scheme.specs.Orders.{Plan}
use Rattle.scheme.specs.Carrying.{LowestLacking}
use Rattle.tariff.specs.Amounts.{Scale}
use Rattle.chooser.specs.Least.{order_cost}
use Rattle.rules.specs.Rules.{Asked}
use Rattle.rules.specs.Rules.Outcome.{answered, capacity_spent}

-- what keeps an order from being a plan
pub data Flaw : Type 0 where
  barred : (place : ℕ) → Flaw
  lacking : (place item : ℕ) → Flaw
  missing : (item : ℕ) → Flaw

-- The first flaw of an order whose places count from p, the items s standing before it.
pub data Flawed (k : Task) (bars : Set) : ℕ → Set → List ℕ → Flaw → Type 0 where
  at_barred : {p w : ℕ} {s : Set} {rest : List ℕ} → Has bars w → Flawed k bars p s (w ∷ rest) (barred p)
  at_lacking :
      {p w i : ℕ} {s : Set} {rest : List ℕ} →
      (Has bars w → ⊥) →
      LowestLacking (work k.works w).needs s i →
      Flawed k bars p s (w ∷ rest) (lacking p i)
  at_end : {p i : ℕ} {s : Set} → LowestLacking k.wanted s i → Flawed k bars p s [] (missing i)
  later :
      {p w : ℕ} {s u : Set} {rest : List ℕ} {f : Flaw} →
      (Has bars w → ⊥) →
      Sub (work k.works w).needs s →
      Members u (λ i. Has s i ⊎ Has (work k.works w).gives i) →
      Flawed k bars (p + 1) u rest f →
      Flawed k bars p s (w ∷ rest) f

-- the verdicts: a flaw, or the candidate's total beside the cheapest
pub data Verdict (W : Type 0) : Type 0 where
  flaw : Flaw → Verdict W
  dearer : W → Verdict W
  cheapest : W → Verdict W

-- what a marking comes to: a verdict, or a refusal for capacity
pub data Marking (W : Type 0) : Type 0 where
  given : Verdict W → Marking W
  refused : Marking W

module _ {V : Type 0} (t : Scale V) (capacity : ℕ) (k : Task) (prices : List V) (bars : Set) where
  -- A paper marked over some kept landmarks: what it comes to and the landmarks then kept. Only a plan leads to a question.
  pub data Marked (paper : List ℕ) : List Set → Marking t.Amount → List Set → Type 0 where
    flawed :
        {kept : List Set} {f : Flaw} →
        Flawed k bars 0 k.standing paper f →
        Marked paper kept (given (flaw f)) kept
    as_cheap :
        {kept to : List Set} {order : List ℕ} {total : t.Amount} {n : ℕ} →
        Plan k bars paper →
        Asked t capacity k prices bars kept (answered order total n) to →
        total ≡ order_cost t prices paper →
        Marked paper kept (given (cheapest (order_cost t prices paper))) to
    not_cheapest :
        {kept to : List Set} {order : List ℕ} {total : t.Amount} {n : ℕ} →
        Plan k bars paper →
        Asked t capacity k prices bars kept (answered order total n) to →
        t.less total (order_cost t prices paper) →
        Marked paper kept (given (dearer (order_cost t prices paper))) to
    undecided :
        {kept to : List Set} →
        Plan k bars paper →
        Asked t capacity k prices bars kept capacity_spent to →
        Marked paper kept refused to
