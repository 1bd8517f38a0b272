use Rattle.std.proofs.Common.{[], ◌∷◌, ◌++◌, map, refl, arith}
use Rattle.sets.specs.Member.{none}
use Rattle.inspection.specs.Sample.{sample}
use Rattle.worked.specs.Junctions.{these, pounds, hours_and_pounds, entries, questions}
use Rattle.worked.proofs.Tests.{listed_set}
use Rattle.worked.proofs.Tariffs.{by_pounds, by_hours, since_by, asked_by, asked_afresh, marked_afresh}
use Rattle.worked.proofs.sample_cases.Goals as goal

pub returns : goal.returns
returns c =
    let ask = asked_by by_pounds 64 sample pounds refl in
    let mark = marked_afresh by_pounds 64 sample pounds refl in
    let kept = map these ((6 ∷ []) ∷ (4 ∷ 5 ∷ []) ∷ (3 ∷ []) ∷ (0 ∷ 2 ∷ []) ∷ (0 ∷ 1 ∷ []) ∷ []) in
    rw (
      listed_set (6 ∷ []) c.of.ensures,
      listed_set (4 ∷ 5 ∷ []) c.of-2.ensures,
      listed_set (3 ∷ []) c.of-3.ensures,
      listed_set (0 ∷ 2 ∷ []) c.of-4.ensures,
      listed_set (0 ∷ 1 ∷ []) c.of-5.ensures,
    ) (record {
      entered = since_by by_pounds 64 entries;
      entered_by_hours = since_by by_hours 64 entries;
      first = ask none [] (omega arith);
      again = ask none kept (omega arith);
      radarless = ask (these (5 ∷ [])) kept (omega arith);
      ductless = ask (these (1 ∷ [])) kept (omega arith);
      asked = since_by by_pounds 64 (entries ++ questions);
      priorityless = ask (these (6 ∷ [])) [] (omega arith);
      hours = asked_afresh by_hours 64 sample hours_and_pounds refl;
      dear_paper = (_, refl, refl, mark (0 ∷ 3 ∷ 5 ∷ 6 ∷ []) (omega arith));
      lacking_paper = (_, refl, refl, mark (3 ∷ []) (omega arith));
      missing_paper = (_, refl, refl, mark (1 ∷ 2 ∷ 3 ∷ []) (omega arith));
    })
