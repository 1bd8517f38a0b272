use Rattle.std.proofs.Common.{◌≡◌, is_some, Some, None, refl, sym, ap, ◌∙◌, inl, inr, rules}
use Rattle.std.proofs.lemmas.Result.{err_from_is_err_and}
use Rattle.scheme_file.specs.Kinds.{named}
use Rattle.scheme_file.specs.Rules.{code}
use Rattle.scheme_file.proofs.Frames.{frame_cut}
use Rattle.scheme_file.proofs.checking.frame.Goals as goal

pub returns-in_err-kind : goal.returns-in_err-kind
returns-in_err-kind c =
    let cut = frame_cut c.args.rest.now c.in_ok-record.record.now c.from_bytes-size.result (search rules) c.from_bytes-size.ensures
    (search rules) (search rules) (search rules)
    in
    let p = err_from_is_err_and c.from_residual-in_err-kind.result c.from_residual-in_err-kind.ensures.1 in
    let none : named (code c.args.rest.now) ≡ None = ap named (cut.2 ∙ sym c.from_bytes.ensures) ∙ c.in_err-kind.ensures in
    rw (p.1, p.2) (inr (cut.0, inl (λ kept. let some = rw none at kept.1 in cc, refl)))

pub returns : goal.returns
returns c =
    let cut = frame_cut c.args.rest.now c.in_ok-record.record.now c.from_bytes-size.result (search rules) c.from_bytes-size.ensures
    (search rules) (search rules) (search rules)
    in
    let known : named (code c.args.rest.now) ≡ Some c.in_ok-kind.kind = ap named (cut.2 ∙ sym c.from_bytes.ensures) ∙ c.in_ok-kind.ensures in
    ((cut.0, ((cut.1, ap is_some known), tt)), (known, cut.3))
