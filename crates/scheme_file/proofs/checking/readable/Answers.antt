use Rattle.std.proofs.Common.{ℕ, ◌≤◌, rules}
use Rattle.std.proofs.lemmas.Iterator.{YieldsList-from_slice, cases_from_all}
use Rattle.std.proofs.lemmas.List.Elements.{All-from_all_within, recursion_from_All}
use borrow.Author.Tests.{tests}
use Rattle.scheme_file.proofs.checking.readable.Goals as goal

-- a byte of a name, and another byte
abbrev Fits : ℕ → Type 0
Fits b = (32 ≤ b) × (b ≤ 126)

abbrev Misfits : ℕ → Type 0
Misfits b = Fits b → ⊥

pub returns-then-all : goal.returns-then-all
returns-then-all c =
    let name = c.args.name.now in
    let cases = cases_from_all _ _ _ Fits Misfits c.all.ensures.ran (YieldsList-from_slice name (cc)) (λ x q k. search (rules, tests)) (λ x q k. search (rules, tests)) in
    recursion_from_All Fits name (All-from_all_within Fits name (rw c.if-all.true at cases))
