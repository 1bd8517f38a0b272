use Rattle.std.proofs.Common.{◌≡◌, ◌+◌, take, drop, ap, ◌∙◌, arith}
use Rattle.std.proofs.lemmas.Grind.{common_steps}
use Rattle.std.proofs.lemmas.List.{length-drop, get_or-drop}
use Rattle.scheme_file.specs.Bytes.{le, value}
use Rattle.scheme_file.proofs.Digits.{le_value}
use Rattle.scheme_file.proofs.numbers.number_at.Goals as goal

pub returns-clause-bytes : goal.returns-clause-bytes
returns-clause-bytes g c =
    let n = g.row.N in
    let bytes = c.args.bytes.now in
    let at = c.args.at in
    let e : g.T.Number.amount c.from_bytes.result ≡ value (take n (drop at bytes)) = grind (arith, common_steps) in
    ap (le n) e ∙ le_value n (drop at bytes) (simp length-drop (omega arith)) (λ i. rw get_or-drop (omega (arith, c.type_inv.bytes (at + i))))
