-- The order of a set, written into a list of places.
use Rattle.std.specs.Prelude.{◌≡◌, ℕ, ◌<◌, ◌≤◌, List, length, take, drop, Ok, Err, Result}
use Rattle.sets.specs.declared.Set.{Set}
use Rattle.sets.specs.Member.{Has, none}
use Rattle.scheme.specs.declared.Work.{Work}
use Rattle.scheme.specs.declared.refusals.Refusal.{Refusal}
use Rattle.scheme.specs.declared.refusals.Refusal.TheVariants.{ListTooShort}
use Rattle.scheme.specs.Orders.{Carried, Placed, Plan}
use Rattle.scheme.specs.Reach.{Reach, Sufficient}
use Rattle.scheme.specs.Task.{Task}

-- The first n places hold the order of the chosen works; later places stay.
pub record Filled (works : List Work) (chosen standing : Set) (from : List ℕ) (n : ℕ) (to : List ℕ) : Type 0 where
  pub within : n ≤ length to
  pub placed : Placed works chosen standing (take n to)
  pub later : drop n to ≡ drop n from

-- The order of a set can be carried out, and its last items are the set's reach; where the set is sufficient it is a plan.
pub record Serves (k : Task) (chosen : Set) (order : List ℕ) : Type 0 where
  pub last : Set
  pub carried : Carried k.works k.standing order last
  pub reach : Reach k.works (Has chosen) k.standing last
  pub plan : Sufficient k (Has chosen) → Plan k none order

-- What a call for the order of a set answers, and what the places hold then.
abbrev pub Orders : Task → Set → List ℕ → Result ℕ Refusal → List ℕ → Type 0
Orders k chosen from (Ok n) to =
    (length k.works ≤ length from) × Filled k.works chosen k.standing from n to × Serves k chosen (take n to)
Orders k chosen from (Err e) to = (e ≡ ListTooShort) × (length from < length k.works) × (to ≡ from)
