use Rattle.std.proofs.Common.{◌^◌, ◌≤◌, length, arith, pow_pos, pow_mono}
use Rattle.std.proofs.lemmas.Nat.{one_shl}
use Rattle.tabler.specs.declared.TheConstants.{ROOM}
use Rattle.tabler.proofs.table.Draw.subsets.Goals as goal

pub returns-clause-bounds : goal.returns-clause-bounds
returns-clause-bounds g c =
    let n = length c.args.self.now.sets.now in
    let e = one_shl n 64 (omega arith) in
    let top : 2 ^ n ≤ 2 ^ ROOM = pow_mono c.args.self.now.few in
    (omega (arith, e, pow_pos n), omega (arith, e, top))
