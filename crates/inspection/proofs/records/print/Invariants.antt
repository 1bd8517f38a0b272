use Rattle.std.proofs.Common.{◌≡◌, ◌++◌, codes, take}
use Rattle.sets.specs.Listed.{has_bit}
use Rattle.inspection.specs.Record.{entry, marked, lines, reach_text}
use Rattle.inspection.proofs.records.print.Given as goal

abbrev pub invariant-loop-number : goal.invariant-loop-number
invariant-loop-number g l =
    l.text.items ≡ codes "works in order\n" ++ lines (λ w. entry w (g.N.Names.works l.names w)) (take l.number-index l.order)

abbrev pub invariant-loop-i : goal.invariant-loop-i
invariant-loop-i g l = l.text.items ≡ l.initial.text.items ++ lines (λ i. entry i (g.N.Names.items l.names i)) l.yielded

abbrev pub invariant-loop-i-2 : goal.invariant-loop-i-2
invariant-loop-i-2 g l =
    l.text.items ≡ l.initial.text.items ++ lines (λ i. marked (reach_text (has_bit l.reach i)) i (g.N.Names.items l.names i)) l.yielded
