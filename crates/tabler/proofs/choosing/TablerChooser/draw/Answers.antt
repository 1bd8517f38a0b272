use Rattle.tabler.proofs.Drawing.{least_of_best, none_of_unmet}
use Rattle.tabler.proofs.choosing.TablerChooser.draw.Goals as goal

pub returns-then-meets_all : goal.returns-then-meets_all
returns-then-meets_all g c =
    rw (← c.as_slice-sets.ensures.value) (least_of_best _ _ _ _ _ c.candidates-free.ensures _ c.least.ensures)

pub returns-else-meets_all : goal.returns-else-meets_all
returns-else-meets_all g c =
    rw (← c.as_slice-sets.ensures.value) (none_of_unmet _ _ _ _ _ c.candidates-free.ensures c.if-meets_all.ensures)
