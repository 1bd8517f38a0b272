use Rattle.std.proofs.Common.{◌≡◌, ℕ, ◌-◌, length, take, vec_items, sym, ap, subst, arith}
use native.Mathlib.Nat.{sub-zero}
use Rattle.std.proofs.lemmas.Result.{IfOk-weaker}
use Rattle.scheme.specs.Orders.{Placed}
use Rattle.scheme.specs.Task.{task_of}
use Rattle.inspection.specs.Record.{Printed, Recorded}
use Rattle.inspection.proofs.records.record.Goals as goal

pub returns : goal.returns
returns g c =
    let k = task_of c.args.scheme.now in
    let works = g.N.Names.works c.args.names.now in
    let items = g.N.Names.items c.args.names.now in
    let order = take (c.unwrap-placed.result - 0) c.order.new.places in
    let First : ℕ → Type 0 = λ n. Placed k.works c.below-all.result k.standing (take n c.order.new.places) in
    let long : length c.works.result.now ≡ length k.works = ap length c.works.ensures.value in
    let bound = c.works.ensures.bound in
    let u = c.unwrap-placed.ensures in
    let o = rw u at c.order.ensures in
    IfOk-weaker c.print.result (λ v. Printed k works items c.below-all.result order (vec_items v)) (λ v. Recorded k works items (vec_items v))
    (λ v printed. record {
      all = c.below-all.result;
      every = λ w. (
        λ y. omega (arith, ((c.below-all.ensures w).0 y).0),
        λ lt. (c.below-all.ensures w).1 (omega arith, omega arith),
      );
      order = order;
      placed = subst First (sym (sub-zero c.unwrap-placed.result)) o.1.placed;
      printed = printed;
    })
    c.print.ensures
