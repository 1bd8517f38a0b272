use Rattle.std.proofs.Common.{add-one, arith}
use Rattle.sets.proofs.Laws.{added_member}
use Rattle.scheme.specs.Task.{task_of}
use Rattle.scheme.proofs.Drawing.{grown_with, grown_over}
use Rattle.scheme.proofs.Scheme.grown.Goals as goal
use Rattle.scheme.proofs.Scheme.grown.Goals.{then-not-is_sufficient, else-not-is_sufficient}

pub loop-w-preserved : goal.loop-w-preserved
loop-w-preserved c =
    let k = task_of c.args.self.now in
    let more = c.with-more.result in
    let adds = added_member c.loop-w.grown more c.loop-w.w (omega arith) c.with-more.ensures in
    elim c.if-not-is_sufficient.branch [
      | then-not-is_sufficient w ↦
          rw (w.grown-is, add-one) (grown_with k c.args.chosen more c.loop-w.invariant adds w.if-not-is_sufficient.ensures)
      | else-not-is_sufficient w ↦
          rw (w.grown-is, add-one) (grown_over k c.args.chosen more c.loop-w.invariant adds w.if-not-is_sufficient.ensures)
    ]
