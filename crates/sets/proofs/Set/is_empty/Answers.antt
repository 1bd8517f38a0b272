use Rattle.std.proofs.Common.{◌≡◌, ℕ, Bool, true, false, MatchBool, nat_eq, rules}
use Rattle.sets.specs.declared.Set.{Set}
use Rattle.sets.specs.Member.{Has}
use Rattle.sets.proofs.Laws.{none_or_some}
use Rattle.sets.proofs.Set.is_empty.Goals as goal

members_by : (s : Set) (b : Bool) → MatchBool b (s.bits ≡ 0) (s.bits ≡ 0 → ⊥) → MatchBool b ((k : ℕ) → Has s k → ⊥) ((k : ℕ) × Has s k)
members_by s true e = (none_or_some s).0 e
members_by s false ne = (none_or_some s).1 ne

pub returns-clause-members : goal.returns-clause-members
returns-clause-members c = members_by c.args.self (nat_eq c.args.self.bits 0) (search rules)
