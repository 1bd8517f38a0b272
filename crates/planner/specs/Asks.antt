-- What the public calls promise, in the words of the rules.
use Rattle.std.specs.Prelude.{◌≡◌, ℕ, ◌≤◌, ◌⊎◌, List, [], ◌∷◌, ◌++◌, length, drop, Ok, Err, Result}
use Rattle.sets.specs.declared.Set.{Set}
use Rattle.scheme.specs.Task.{Task}
use Rattle.scheme.specs.Reach.{Sufficient}
use Rattle.scheme.specs.declared.refusals.Refusal.{Refusal}
use Rattle.scheme.specs.Refusals.{number_of}
use Rattle.tariff.specs.Amounts.{Scale}
use Rattle.rules.specs.Rules.{Outcome, Unbarred, Asked}
use Rattle.rules.specs.Calls.{Call, Valid, Since}
use Rattle.rules.specs.Calls.Call.{ask}
use Rattle.rules.specs.Promises.{Right, Agree}
use Rattle.rounds.specs.Checks.{Misput}
use Rattle.planner.specs.Views.{Says}
use Rattle.planner.specs.declared.types.Answer.{Answer}

-- places behind the answer stay, and all stay on a refusal
abbrev pub Later : {V : Type 0} → Result (Answer V) Refusal → List ℕ → List ℕ → Type 0
Later (Ok a) from to = drop a.length to ≡ drop a.length from
Later (Err e) from to = to ≡ from

-- the order has as many places as the answer says
abbrev pub Within : {V : Type 0} → Result (Answer V) Refusal → List ℕ → Type 0
Within (Ok a) to = a.length ≤ length to
Within (Err e) to = Unit {0}

-- the kept sets stay on a refusal, unless the capacity is spent
abbrev pub Unmoved : {X : Type 0} → Result X Refusal → List Set → List Set → Type 0
Unmoved (Ok a) kept to = Unit {0}
Unmoved (Err e) kept to = (number_of e ≡ 10) ⊎ (to ≡ kept)

module _ {V : Type 0} (t : Scale V) where
  -- An answer comes just from a valid question in reach; and which refusal comes when.
  abbrev pub Numbers : Task → List V → Set → ℕ → Result (Answer V) Refusal → Type 0
  Numbers k prices bars places (Ok a) = Valid t k prices bars places × Sufficient k (Unbarred bars)
  Numbers k prices bars places (Err e) =
      Misput t k prices bars places e
      ⊎ (((number_of e ≡ 9) × Valid t k prices bars places × (Sufficient k (Unbarred bars) → ⊥))
      ⊎ ((number_of e ≡ 10) × Valid t k prices bars places × Sufficient k (Unbarred bars)))

module _ {V : Type 0} (t : Scale V) (capacity : ℕ) where
  -- the calls that led here, with one call more, lead there
  abbrev pub Leads : Task → List Set → Call V → Task → List Set → Type 0
  Leads k kept c after to =
      (calls : List (Call V)) → Since t capacity calls k kept → Since t capacity (calls ++ (c ∷ [])) after to

  -- What a valid question comes to: an outcome of the rules, which the result and the order list say, and which is right.
  pub record ComesTo (k : Task) (prices : List V) (bars : Set) (kept : List Set) (r : Result (Answer V) Refusal) (order : List ℕ) (to : List Set) : Type 0 where
    pub outcome : Outcome t.Amount
    pub said : Says t r order outcome
    pub ruled : Asked t capacity k prices bars kept outcome to
    pub right : Right t k prices bars outcome

  -- for every list of calls that led here
  abbrev pub Promised : Task → List V → Set → ℕ → List Set → Result (Answer V) Refusal → List ℕ → List Set → Type 0
  Promised k prices bars places kept r order to =
      (calls : List (Call V)) →
      Since t capacity calls k kept →
      Valid t k prices bars places →
      ComesTo k prices bars kept r order to

  -- a valid question comes to an outcome, whatever calls led here
  abbrev pub Assured : Task → List V → Set → ℕ → List Set → Result (Answer V) Refusal → List ℕ → List Set → Type 0
  Assured k prices bars places kept r order to = Valid t k prices bars places → ∥ ComesTo k prices bars kept r order to ∥₁

  -- whatever the rules give, the result says it: there is one outcome
  abbrev pub PromisedAlone : Task → List V → Set → ℕ → List Set → Result (Answer V) Refusal → List ℕ → List Set → Type 0
  PromisedAlone k prices bars places kept r order to =
      (calls : List (Call V)) →
      Since t capacity calls k kept →
      Valid t k prices bars places →
      (o : Outcome t.Amount) (other : List Set) →
      Asked t capacity k prices bars kept o other →
      Says t r order o × (other ≡ to)

  -- What a question promises of its result, of the order list before and after it, and of what is held and kept before and after it.
  pub record Asks (k : Task) (kept : List Set) (prices : List V) (bars : Set) (from : List ℕ) (r : Result (Answer V) Refusal) (order : List ℕ) (after : Task) (to : List Set) : Type 0 where
    pub same : after ≡ k
    pub numbers : Numbers t k prices bars (length from) r
    pub later : Later r from order
    pub within : Within r order
    pub unmoved : Unmoved r kept to
    pub since : Leads k kept (ask prices bars (length from)) after to
    pub promised : Promised k prices bars (length from) kept r order to
    pub alone : PromisedAlone k prices bars (length from) kept r order to

  -- After a list of calls, a question: no premise is left.
  pub record Conducted (calls : List (Call V)) (prices : List V) (bars : Set) (places : ℕ) (r : Result (Answer V) Refusal) (order : List ℕ) (after : Task) (to : List Set) : Type 0 where
    pub k : Task
    pub kept : List Set
    pub since : Since t capacity calls k kept
    pub numbers : Numbers t k prices bars places r
    pub promised : Valid t k prices bars places → ComesTo k prices bars kept r order to
    pub later : Since t capacity (calls ++ (ask prices bars places ∷ [])) after to

  -- After a list of calls, a question: what was held and kept before it is what the calls lead to, and nothing else is.
  pub record ConductedAlone (calls : List (Call V)) (prices : List V) (bars : Set) (from : List ℕ) (r : Result (Answer V) Refusal) (order : List ℕ) (after : Task) (to : List Set) : Type 0 where
    pub k : Task
    pub kept : List Set
    pub since : Since t capacity calls k kept
    pub alone : (held : Task) (other : List Set) → Since t capacity calls held other → (held ≡ k) × (other ≡ kept)
    pub asks : Asks k kept prices bars from r order after to
    pub comes_to : Valid t k prices bars (length from) → ComesTo k prices bars kept r order to
    pub after_all : Since t capacity (calls ++ (ask prices bars (length from) ∷ [])) after to

-- Two planners alike in what they hold, asked alike, whatever calls led there: what they say agrees.
abbrev pub Alike : {V : Type 0} (t : Scale V) → Task → Task → List V → Set → ℕ → ℕ → Result (Answer V) Refusal → List ℕ → Result (Answer V) Refusal → List ℕ → Type 0
Alike t k k' prices bars places places' r order r' order' =
    k ≡ k' →
    Valid t k prices bars places →
    Valid t k prices bars places' →
    (o o' : Outcome t.Amount) →
    Says t r order o →
    Says t r' order' o' →
    ∥ Agree o o' ∥₁

-- Two planners, each come about by calls of its own, above choosers of any capacities, alike in what they hold, asked alike: what they say agrees.
abbrev pub Agreed : {V : Type 0} (t : Scale V) → (capacity capacity' : ℕ) → Task → Task → List Set → List Set → List V → Set → ℕ → ℕ → Result (Answer V) Refusal → List ℕ → Result (Answer V) Refusal → List ℕ → Type 0
Agreed {V} t capacity capacity' k k' kept kept' prices bars places places' r order r' order' =
    (calls calls' : List (Call V)) →
    Since t capacity calls k kept →
    Since t capacity' calls' k' kept' →
    k ≡ k' →
    Valid t k prices bars places →
    Valid t k prices bars places' →
    (o o' : Outcome t.Amount) →
    Says t r order o →
    Says t r' order' o' →
    Agree o o'
