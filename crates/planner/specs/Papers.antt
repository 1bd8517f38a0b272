-- What a marking promises, and what its steps answer.
use Rattle.std.specs.Prelude.{◌≡◌, ℕ, ◌≤◌, ◌⊎◌, List, length, Some, None, Ok, Err, Option, Result}
use Rattle.sets.specs.declared.Set.{Set}
use Rattle.scheme.specs.declared.refusals.Refusal.{Refusal}
use Rattle.scheme.specs.Orders.{Plan}
use Rattle.scheme.specs.Refusals.{number_of}
use Rattle.scheme.specs.Task.{Task}
use Rattle.tariff.specs.Amounts.{Scale}
use Rattle.chooser.specs.Least.{OrderCapped, SetCapped, order_cost, set_cost}
use Rattle.rules.specs.Calls.{Call, Readable, Since}
use Rattle.rules.specs.Marks.{Marking, Marked, Flawed}
use Rattle.rules.specs.Marks.Marking.{given, refused}
use Rattle.rules.specs.Marks.Flaw.{barred, lacking, missing}
use Rattle.rules.specs.Marks.Verdict.{flaw, dearer, cheapest}
use Rattle.rules.specs.Marks as rules
use Rattle.rules.specs.Calls.Call.{mark}
use Rattle.rounds.specs.Checks.{Illegible}
use Rattle.planner.specs.Asks.{Leads}
use Rattle.planner.specs.declared.marking.Flaw.{Flaw}
use Rattle.planner.specs.declared.marking.Flaw.TheVariants.{Barred, Lacking, Missing}
use Rattle.planner.specs.declared.marking.Verdict.{Verdict}
use Rattle.planner.specs.declared.marking.Verdict.TheVariants.{Flawed as Faulty, Dearer, Cheapest}

abbrev pub flaw_of : Flaw → rules.Flaw
flaw_of (Barred place) = barred place
flaw_of (Lacking place item) = lacking place item
flaw_of (Missing item) = missing item

-- the first flaw of a paper, or that it is a plan
abbrev pub FirstFlaw : Task → Set → List ℕ → Option Flaw → Type 0
FirstFlaw k bars paper (Some f) = Flawed k bars 0 k.standing paper (flaw_of f)
FirstFlaw k bars paper None = Plan k bars paper

module _ {V : Type 0} (t : Scale V) where
  abbrev pub verdict_of : Verdict V → rules.Verdict t.Amount
  verdict_of (Faulty f) = flaw (flaw_of f)
  verdict_of (Dearer v) = dearer (t.amount v)
  verdict_of (Cheapest v) = cheapest (t.amount v)

  -- a total beside that of a set
  abbrev pub Beside : List V → Set → List ℕ → Verdict V → Type 0
  Beside prices s paper (Faulty f) = ⊥
  Beside prices s paper (Dearer v) =
      (t.amount v ≡ order_cost t prices paper) × t.less (set_cost t prices s) (order_cost t prices paper)
  Beside prices s paper (Cheapest v) =
      (t.amount v ≡ order_cost t prices paper) × (t.less (set_cost t prices s) (order_cost t prices paper) → ⊥)

  -- wherever no price is above the ceiling
  abbrev pub Compares : List V → Set → List ℕ → Verdict V → Type 0
  Compares prices s paper v =
      length paper ≤ 64 → OrderCapped t prices paper → SetCapped t prices s → Beside prices s paper v

  -- a result of the code says a marking of the rules
  abbrev pub SaysMarking : Result (Verdict V) Refusal → Marking t.Amount → Type 0
  SaysMarking (Ok v) m = m ≡ given (verdict_of v)
  SaysMarking (Err e) m = (number_of e ≡ 10) × (m ≡ refused)

  -- A flaw comes just from an order that is no plan. A total is that of the order, a plan; no plan costs less than the cheapest, and some plan less than a dearer one.
  abbrev pub Judged : Task → List V → Set → List ℕ → Marking t.Amount → Type 0
  Judged k prices bars paper (given (flaw f)) = Plan k bars paper → ⊥
  Judged k prices bars paper (given (dearer total)) =
      Plan k bars paper
      × (total ≡ order_cost t prices paper)
      × ((order : List ℕ) × Plan k bars order × t.less (order_cost t prices order) total)
  Judged k prices bars paper (given (cheapest total)) =
      Plan k bars paper
      × (total ≡ order_cost t prices paper)
      × ((order : List ℕ) → Plan k bars order → t.less (order_cost t prices order) total → ⊥)
  Judged k prices bars paper refused = Plan k bars paper

  -- what a verdict says of the paper alone: its first flaw, or the total of a plan
  abbrev pub Stated : Task → List V → Set → List ℕ → Verdict V → Type 0
  Stated k prices bars paper (Faulty f) = Flawed k bars 0 k.standing paper (flaw_of f)
  Stated k prices bars paper (Dearer v) = Plan k bars paper × (t.amount v ≡ order_cost t prices paper)
  Stated k prices bars paper (Cheapest v) = Plan k bars paper × (t.amount v ≡ order_cost t prices paper)

  -- what a result says of the paper alone, where it is a verdict
  abbrev pub StatedBy : Task → List V → Set → List ℕ → Result (Verdict V) Refusal → Type 0
  StatedBy k prices bars paper (Ok v) = Stated k prices bars paper v
  StatedBy k prices bars paper (Err e) = Unit {0}

  -- A verdict comes just from a readable paper; and which refusal comes when.
  abbrev pub MarkNumbers : Task → List V → Set → List ℕ → Result (Verdict V) Refusal → Type 0
  MarkNumbers k prices bars paper (Ok v) = Readable t k prices bars paper
  MarkNumbers k prices bars paper (Err e) =
      Illegible t k prices bars paper e ⊎ ((number_of e ≡ 10) × Readable t k prices bars paper × Plan k bars paper)

-- the kept sets stay where no question is put, and on a refusal, unless the capacity is spent
abbrev pub Unasked : {V : Type 0} → Result (Verdict V) Refusal → List Set → List Set → Type 0
Unasked (Ok (Faulty f)) kept to = to ≡ kept
Unasked (Ok (Dearer v)) kept to = Unit {0}
Unasked (Ok (Cheapest v)) kept to = Unit {0}
Unasked (Err e) kept to = (number_of e ≡ 10) ⊎ (to ≡ kept)

module _ {V : Type 0} (t : Scale V) (capacity : ℕ) where
  -- what a readable paper comes to: a marking of the rules, which the result says, and which is right
  pub record ComesToMarking (k : Task) (prices : List V) (bars : Set) (paper : List ℕ) (kept : List Set) (r : Result (Verdict V) Refusal) (to : List Set) : Type 0 where
    pub marking : Marking t.Amount
    pub said : SaysMarking t r marking
    pub ruled : Marked t capacity k prices bars paper kept marking to
    pub right : Judged t k prices bars paper marking

  -- for every list of calls that led here
  abbrev pub MarksPromised : Task → List V → Set → List ℕ → List Set → Result (Verdict V) Refusal → List Set → Type 0
  MarksPromised k prices bars paper kept r to =
      (calls : List (Call V)) →
      Since t capacity calls k kept →
      Readable t k prices bars paper →
      ComesToMarking k prices bars paper kept r to

  -- a readable paper comes to a marking, whatever calls led here
  abbrev pub AssuredMarking : Task → List V → Set → List ℕ → List Set → Result (Verdict V) Refusal → List Set → Type 0
  AssuredMarking k prices bars paper kept r to =
      Readable t k prices bars paper → ∥ ComesToMarking k prices bars paper kept r to ∥₁

  -- whatever the rules give, the result says it: there is one marking
  abbrev pub MarksPromisedAlone : Task → List V → Set → List ℕ → List Set → Result (Verdict V) Refusal → List Set → Type 0
  MarksPromisedAlone k prices bars paper kept r to =
      (calls : List (Call V)) →
      Since t capacity calls k kept →
      Readable t k prices bars paper →
      (m : Marking t.Amount) (other : List Set) →
      Marked t capacity k prices bars paper kept m other →
      SaysMarking t r m × (other ≡ to)

  -- What a marking promises of its result, and of what is held and kept before and after it.
  pub record Marks (k : Task) (kept : List Set) (prices : List V) (bars : Set) (paper : List ℕ) (r : Result (Verdict V) Refusal) (after : Task) (to : List Set) : Type 0 where
    pub same : after ≡ k
    pub numbers : MarkNumbers t k prices bars paper r
    pub stated : StatedBy t k prices bars paper r
    pub unmoved : Unasked r kept to
    pub since : Leads t capacity k kept (mark prices bars paper) after to
    pub promised : MarksPromised k prices bars paper kept r to
    pub alone : MarksPromisedAlone k prices bars paper kept r to
