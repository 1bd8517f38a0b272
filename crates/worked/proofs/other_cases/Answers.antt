use Rattle.std.proofs.Common.{[], ◌∷◌, replicate, refl}
use Rattle.worked.specs.Junctions.{pounds, unwanting, pair, twins, circle, apart}
use Rattle.worked.proofs.Tariffs.{by_pounds, asked_afresh}
use Rattle.worked.proofs.other_cases.Goals as goal

pub returns : goal.returns
returns c = record {
  idle = asked_afresh by_pounds 64 unwanting pounds refl;
  free = asked_afresh by_pounds 64 pair (0 ∷ 0 ∷ 0 ∷ []) refl;
  equal = asked_afresh by_pounds 64 twins (5 ∷ 5 ∷ []) refl;
  twelve = asked_afresh by_pounds 12 (apart 12) (replicate 12 1) refl;
  spent = asked_afresh by_pounds 12 (apart 13) (replicate 13 1) refl;
  thirteen = asked_afresh by_pounds 64 (apart 13) (replicate 13 1) refl;
  circular = asked_afresh by_pounds 64 circle (1 ∷ 1 ∷ []) refl;
}
