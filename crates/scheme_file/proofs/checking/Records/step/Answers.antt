use Rattle.std.proofs.Common.{◌≡◌, ℕ, ◌+◌, List, ◌++◌, length, drop, sym, ap, subst, arith, length-append}
use Rattle.scheme_file.specs.Format.{encode}
use Rattle.scheme_file.proofs.Frames.{framed}
use Rattle.scheme_file.proofs.checking.Records.step.Goals as goal

pub returns : goal.returns
returns c =
    let rest = c.args.rest.now in
    let kind = c.in_ok-kind.kind in
    let body = c.in_ok-kind.body.now in
    let frame = c.in_ok-kind.ensures in
    let admitted = c.in_ok-next.ensures in
    let P : List ℕ → Type 0 = λ b. rest ≡ encode (record { kind = kind; body = b }) ++ drop (4 + length b) rest in
    let front : P body =
    subst P (sym frame.1.1) (framed rest kind (λ i. omega (arith, c.type_inv.rest i)) frame.0 frame.1.0)
    in
    record {
      next = record { kind = kind; body = body };
      kept = admitted.0;
      place = admitted.1;
      front = front;
      long = omega arith;
      some = omega arith;
      within = omega (arith, ap length front, length-append body (drop (4 + length body) rest));
    }
