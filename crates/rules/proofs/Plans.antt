-- A question is out of reach exactly when no order does what it asks.
use Rattle.std.proofs.Common.{ℕ, ◌<◌, ◌⊎◌, List, length}
use Rattle.sets.specs.declared.Set.{Set}
use Rattle.sets.specs.Member.{Has, Members}
use Rattle.sets.proofs.Laws.{has_or_not, set_of}
use Rattle.sets.proofs.Decided.{not_decided}
use Rattle.scheme.specs.Task.{Task}
use Rattle.scheme.specs.Reach.{Sufficient}
use Rattle.scheme.specs.Orders.{Plan}
use Rattle.scheme.proofs.Reaches.{sufficient_grows, sufficient_or_not}
use Rattle.scheme.proofs.Ordered.{placed_exists, placed_plan, sufficient_by_plan}
use Rattle.rules.specs.Rules.{Unbarred}
use Rattle.rules.specs.Promises.{NoPlan}

module _ (k : Task) (bars : Set) where
  -- the held works that are not barred
  pub free_works : (s : Set) × Members s (λ w. (w < length k.works) × Unbarred bars w)
  free_works = set_of (Unbarred bars) (λ w. not_decided (has_or_not bars w)) (length k.works)

  -- they are sufficient where the unbarred works are
  pub free_sufficient : Sufficient k (Unbarred bars) → Sufficient k (Has free_works.0)
  free_sufficient = sufficient_grows k (Unbarred bars) (Has free_works.0) (λ w held not. (free_works.1 w).1 (held, not))

  -- sufficient unbarred works have a plan
  pub plan_of_sufficient : Sufficient k (Unbarred bars) → (order : List ℕ) × Plan k bars order
  plan_of_sufficient enough =
      let p = placed_exists k.works free_works.0 k.standing in
      (p.0, placed_plan p.1 (free_sufficient enough) (λ w y. ((free_works.1 w).0 y).1))

  -- where there is a plan, the unbarred works are sufficient
  pub sufficient_of_plan : {order : List ℕ} → Plan k bars order → Sufficient k (Unbarred bars)
  sufficient_of_plan plan = sufficient_by_plan (Unbarred bars) plan plan.unbarred

  pub no_plan_of_insufficient : (Sufficient k (Unbarred bars) → ⊥) → NoPlan k bars
  no_plan_of_insufficient short order plan = short (sufficient_of_plan plan)

  pub insufficient_of_no_plan : NoPlan k bars → Sufficient k (Unbarred bars) → ⊥
  insufficient_of_no_plan no-plan enough = let p = plan_of_sufficient enough in no-plan p.0 p.1

  pub unbarred_sufficient_or_not : Sufficient k (Unbarred bars) ⊎ (Sufficient k (Unbarred bars) → ⊥)
  unbarred_sufficient_or_not = sufficient_or_not k (Unbarred bars) (λ w. not_decided (has_or_not bars w))
