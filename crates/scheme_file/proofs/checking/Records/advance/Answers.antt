use Rattle.std.proofs.Common.{refl, arith}
use Rattle.std.proofs.lemmas.List.{take_rest}
use Rattle.scheme_file.proofs.Goings.{upto_more}
use Rattle.scheme_file.proofs.checking.Records.advance.Goals as goal

pub returns-in-Ok : goal.returns-in-Ok
returns-in-Ok c =
    let stepped = rw take_rest at c.in-Ok.ensures in
    (refl, (upto_more c.requires.0 stepped, omega (arith, stepped.some)))
