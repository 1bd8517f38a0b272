use Rattle.std.proofs.Common.{◌++◌, codes, decimal, ap, subst}
use Rattle.page.specs.declared.pages.Page.{Page}
use Rattle.page.specs.Adds.{Adds}
use Rattle.page.proofs.Laws.{adds_as, adds_more}
use Rattle.report.specs.Refused.{place}
use Rattle.report.proofs.refusals.RefusalLineText.put.Goals as goal
use Rattle.report.proofs.refusals.RefusalLineText.put.Goals.{in-Some, in_default}

pub returns : goal.returns
returns c =
    let Ends : Page → Type 0 = λ p. Adds p (codes "\n") c.put-2.new.self in
    let tail : Adds c.put_number.new.self (place c.args.self.now.offset ++ codes "\n") c.put-2.new.self =
    elim c.match-self.branch [
      | in-Some w ↦ rw w.in-Some.is (adds_more w.put-in-Some.ensures (adds_more w.put_number-in-Some.ensures (subst Ends w.page-is c.put-2.ensures)))
      | in_default w ↦ rw w.in_default.is (subst Ends w.page-is c.put-2.ensures)
    ] in
    adds_more c.put.ensures (adds_more (adds_as (ap decimal c.number.ensures) c.put_number.ensures) tail)
