use Rattle.std.proofs.Common.{refl}
use Rattle.std.proofs.lemmas.Result.{err_from_is_err_and}
use Rattle.planner.proofs.Opening.{opens}
use Rattle.planner.proofs.Leading.{led_by, led_same}
use Rattle.planner.proofs.types.Planner.read.Goals as goal

pub returns-in_err-counts : goal.returns-in_err-counts
returns-in_err-counts g c =
    let p = err_from_is_err_and c.from_residual.result c.from_residual.ensures.1 in
    let read = c.in_err-counts.ensures in
    rw (p.1, p.2)
    (record { answer = (read.answer.0, read.answer.1, refl, read.answer.2, read.answer.3); only = read.only; short = read.short; sole = read.sole })

pub returns : goal.returns
returns g c =
    let read = c.in_ok-counts.ensures in
    record {
      answer = (read.answer, opens _ _ _ _ _ _ _ c.clear.ensures read.answer.reads);
      only = read.only;
      short = read.short;
      sole = read.sole;
    }

pub invariant_of-self : goal.invariant_of-self
invariant_of-self g c = record { led = led_same _ _ c.in_err-counts.ensures.answer.1 c.args.self.now.led }

pub invariant_of-self-2 : goal.invariant_of-self-2
invariant_of-self-2 g c = record { led = led_by _ _ (opens _ _ _ _ _ _ _ c.clear.ensures c.in_ok-counts.ensures.answer.reads).since }
