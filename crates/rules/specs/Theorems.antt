-- What holds of all questions, markings and lists of calls.
use Rattle.std.specs.Prelude.{◌≡◌, ℕ, ◌+◌, ◌*◌, ◌<◌, ◌≤◌, List, length}
use Rattle.sets.specs.declared.Set.{Set}
use Rattle.scheme.specs.Task.{Task}
use Rattle.scheme.specs.Reach.{Sufficient}
use Rattle.scheme.specs.Orders.{Plan}
use Rattle.scheme.specs.Landmarks.{Landmark}
use Rattle.tariff.specs.Amounts.{Scale, All}
use Rattle.rules.specs.Rules.{Outcome, Unbarred, Asked}
use Rattle.rules.specs.Rules.Outcome.{answered}
use Rattle.rules.specs.Marks.{Marking, Marked}
use Rattle.rules.specs.Calls.{Call, Fair, Since}
use Rattle.rules.specs.Promises.{Right, Agree, NoPlan}

-- the unbarred works are sufficient where an order does what is asked, and only there
pub record ReachTells (k : Task) (bars : Set) : Type 0 where
  pub within : Sufficient k (Unbarred bars) → (order : List ℕ) × Plan k bars order
  pub beyond : (Sufficient k (Unbarred bars) → ⊥) → NoPlan k bars
  pub sufficient : (order : List ℕ) → Plan k bars order → Sufficient k (Unbarred bars)

module _ {V : Type 0} (t : Scale V) where
  -- what a question comes to: one outcome and one list of kept landmarks; it is right, and the rounds are bounded
  pub record ComesToOne (capacity : ℕ) (k : Task) (prices : List V) (bars : Set) (kept : List Set) : Type 0 where
    pub outcome : Outcome t.Amount
    pub to : List Set
    pub ruled : Asked t capacity k prices bars kept outcome to
    pub right : Right t k prices bars outcome
    pub only :
        (o : Outcome t.Amount) (after : List Set) →
        Asked t capacity k prices bars kept o after →
        (o ≡ outcome) × (after ≡ to)
    pub rounds_most :
        (order : List ℕ) (total : t.Amount) (rounds : ℕ) →
        outcome ≡ answered order total rounds →
        rounds ≤ 2 * (capacity + 1)

  -- a question at one price for each work, over kept landmarks, comes to one outcome
  abbrev pub QuestionsSettled : Type 0
  QuestionsSettled =
      (capacity : ℕ) (k : Task) (prices : List V) (bars : Set) (kept : List Set) →
      Fair t k prices →
      All (Landmark k) kept →
      length kept ≤ capacity →
      ComesToOne capacity k prices bars kept

  -- two questions over landmarks agree, whatever landmarks and capacities they have
  abbrev pub QuestionsAgree : Type 0
  QuestionsAgree =
      (capacity capacity' : ℕ) (k : Task) (prices : List V) (bars : Set) (kept kept' to to' : List Set) (o o' : Outcome t.Amount) →
      Fair t k prices →
      All (Landmark k) kept →
      All (Landmark k) kept' →
      Asked t capacity k prices bars kept o to →
      Asked t capacity' k prices bars kept' o' to' →
      Agree o o'

  -- what a marking comes to: one verdict and one list of kept landmarks
  pub record MarkedAsOne (capacity : ℕ) (k : Task) (prices : List V) (bars : Set) (paper : List ℕ) (kept : List Set) : Type 0 where
    pub marking : Marking t.Amount
    pub to : List Set
    pub ruled : Marked t capacity k prices bars paper kept marking to
    pub only :
        (m : Marking t.Amount) (after : List Set) →
        Marked t capacity k prices bars paper kept m after →
        (m ≡ marking) × (after ≡ to)

  -- a paper of held works, marked over kept landmarks, gets one verdict
  abbrev pub MarkingsSettled : Type 0
  MarkingsSettled =
      (capacity : ℕ) (k : Task) (prices : List V) (bars : Set) (paper : List ℕ) (kept : List Set) →
      Fair t k prices →
      All (λ w. w < length k.works) paper →
      All (Landmark k) kept →
      length kept ≤ capacity →
      MarkedAsOne capacity k prices bars paper kept

  -- after every list of calls the kept sets are landmarks, and no more than the capacity
  abbrev pub LandmarksKept : Type 0
  LandmarksKept =
      (capacity : ℕ) (calls : List (Call V)) (k : Task) (kept : List Set) →
      Since t capacity calls k kept →
      All (Landmark k) kept × (length kept ≤ capacity)

  -- a list of calls leads to one task and one list of kept sets
  abbrev pub CallsDetermined : Type 0
  CallsDetermined =
      (capacity : ℕ) (calls : List (Call V)) (k k' : Task) (kept kept' : List Set) →
      Since t capacity calls k kept →
      Since t capacity calls k' kept' →
      (k ≡ k') × (kept ≡ kept')
