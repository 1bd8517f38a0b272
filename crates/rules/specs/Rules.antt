-- How a question is answered: rounds, runs and outcomes.
use Rattle.std.specs.Prelude.{◌≡◌, ℕ, suc, ◌+◌, ◌<◌, List, [], ◌∷◌, ◌++◌, length, ◌≢◌}
use Rattle.sets.specs.declared.Set.{Set}
use Rattle.sets.specs.Member.{Has}
use Rattle.scheme.specs.Task.{Task}
use Rattle.scheme.specs.Reach.{Sufficient}
use Rattle.scheme.specs.Orders.{Placed}
use Rattle.scheme.specs.Landmarks.{Drawn}
use Rattle.tariff.specs.Amounts.{Scale}
use Rattle.chooser.specs.Least.{Least, set_cost}

-- how a run ends: with a drawn set that is sufficient, or with the capacity spent
pub data Ending : Type 0 where
  reached : Set → Ending
  exhausted : Ending

-- what a valid question comes to: an order with its total and the number of rounds, or a refusal
pub data Outcome (W : Type 0) : Type 0 where
  answered : (order : List ℕ) (total : W) (rounds : ℕ) → Outcome W
  out_of_reach : Outcome W
  capacity_spent : Outcome W

-- a work that is not barred
abbrev pub Unbarred : Set → ℕ → Type 0
Unbarred bars w = Has bars w → ⊥

module _ {V : Type 0} (t : Scale V) (capacity : ℕ) (k : Task) (prices : List V) (bars : Set) where
  -- A run from some kept landmarks: how it ends, the landmarks then kept and the number of its rounds. A round makes one draw.
  pub data Run : List Set → Ending → List Set → ℕ → Type 0 where
    last :
        {kept : List Set} {s : Set} → Least t prices bars kept s → Sufficient k (Has s) → Run kept (reached s) kept 1
    full :
        {kept : List Set} {s : Set} →
        Least t prices bars kept s →
        (Sufficient k (Has s) → ⊥) →
        length kept ≡ capacity →
        Run kept exhausted kept 1
    more :
        {kept to : List Set} {s l : Set} {n : ℕ} {end : Ending} →
        Least t prices bars kept s →
        (Sufficient k (Has s) → ⊥) →
        length kept < capacity →
        Drawn k s l →
        Run (kept ++ (l ∷ [])) end to n →
        Run kept end to (suc n)

  -- One run, or two: a run that spends the capacity over kept landmarks is followed by one from none. How the last ends, the landmarks then kept and the number of all rounds.
  pub data Settled : List Set → Ending → List Set → ℕ → Type 0 where
    at_once : {kept to : List Set} {s : Set} {n : ℕ} → Run kept (reached s) to n → Settled kept (reached s) to n
    from_none : {kept to : List Set} {n : ℕ} → kept ≡ [] → Run kept exhausted to n → Settled kept exhausted to n
    anew :
        {kept mid to : List Set} {end : Ending} {m n : ℕ} →
        (kept ≢ []) →
        Run kept exhausted mid m →
        Run [] end to n →
        Settled kept end to (m + n)

  -- A question put over some kept landmarks: its outcome and the landmarks then kept. One that is out of reach makes no draw.
  pub data Asked : List Set → Outcome t.Amount → List Set → Type 0 where
    beyond : {kept : List Set} → (Sufficient k (Unbarred bars) → ⊥) → Asked kept out_of_reach kept
    found :
        {kept to : List Set} {order : List ℕ} {s : Set} {n : ℕ} →
        Sufficient k (Unbarred bars) →
        Settled kept (reached s) to n →
        Placed k.works s k.standing order →
        Asked kept (answered order (set_cost t prices s) n) to
    spent :
        {kept to : List Set} {n : ℕ} →
        Sufficient k (Unbarred bars) →
        Settled kept exhausted to n →
        Asked kept capacity_spent to
