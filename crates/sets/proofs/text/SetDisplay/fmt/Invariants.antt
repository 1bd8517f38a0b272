use denote.Text.{Utf8}
use denote.Shadow.{shadow}
use Rattle.sets.proofs.Commas.{Going}
use Rattle.sets.proofs.text.SetDisplay.fmt.Given as goal

-- what is written so far, and what is still to come
abbrev pub invariant-loop-k : goal.invariant-loop-k
invariant-loop-k g l =
    (goal.iterator-loop-k g).can_next l.k-iterator ×
    (goal.iterator-loop-k g).is_finite l.k-iterator ×
    shadow (Utf8 l.between) ×
    Going g.W.Write.write_str_gives l.initial.f l.f l.between l.k-iterator.rest l.initial.k-iterator.rest
