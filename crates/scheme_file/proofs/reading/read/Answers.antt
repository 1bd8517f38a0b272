use Rattle.std.proofs.Common.{◌≡◌, List, length, drop, Err, refl, sym, ap, subst₂, inl, inr, ⊎_elim, arith}
use Rattle.std.proofs.lemmas.List.{drop_at, length-take-le, take_at}
use Rattle.std.proofs.lemmas.Result.{err_from_is_err_and}
use Rattle.scheme.specs.Task.{task_of}
use Rattle.scheme_file.specs.declared.rows.ItemRow.{ItemRow}
use Rattle.scheme_file.specs.declared.rows.WorkRow.{WorkRow}
use Rattle.scheme_file.specs.Contents.{Reads}
use Rattle.scheme_file.proofs.OneFault.{amiss_alone, none_lacks, short_alone}
use Rattle.scheme_file.proofs.Uniques.{file_faultless, reads_only}
use Rattle.scheme_file.proofs.Wholes.{reads_bound, whole_itemed, whole_short, whole_some}
use Rattle.scheme_file.proofs.reading.read.Goals as goal

pub overflow_sub-result-then-works-counts : goal.overflow_sub-result-then-works-counts
overflow_sub-result-then-works-counts c = omega (arith, (whole_some c.in_ok-end.ensures).1)

pub returns-then-works-counts-clause-answer : goal.returns-then-works-counts-clause-answer
returns-then-works-counts-clause-answer c =
    let some = whole_some c.in_ok-end.ensures in (
      inr (whole_short c.in_ok-end.ensures _ _ (⊎_elim inl (λ h. inr h.1) c.then-works-counts.either) _ (omega (arith, some.0)) (omega (arith, some.1)) refl),
      refl,
      refl,
      refl,
    )

pub returns-then-works-counts-clause-sole : goal.returns-then-works-counts-clause-sole
returns-then-works-counts-clause-sole c g faulty =
    let some = whole_some c.in_ok-end.ensures in
    ap Err (short_alone _ _ _ c.in_ok-end.ensures (omega (arith, some.0)) (omega (arith, some.1)) refl g faulty)

pub returns-in_err-end : goal.returns-in_err-end
returns-in_err-end c =
    let p = err_from_is_err_and c.from_residual.result c.from_residual.ensures.1 in
    let amiss = c.in_err-end.ensures in
    rw (p.1, p.2) (record {
      answer = (inl amiss, refl, refl, refl);
      only = λ contents readable same. absurd (file_faultless c.args.bytes.now contents _ readable same amiss);
      short = λ contents readable same. absurd (file_faultless c.args.bytes.now contents _ readable same amiss);
      sole = λ g faulty. ap Err (amiss_alone _ _ _ amiss g faulty);
    })

pub fill-requires : goal.fill-requires
fill-requires c =
    let items = length-take-le c.in_ok-end.end.place.items c.args.items.now c.if-items-counts.false in
    let works = length-take-le c.in_ok-end.end.place.works c.args.works.now c.if-works-counts.false in
    rw (items, works) (whole_itemed c.in_ok-end.ensures)

pub returns : goal.returns
returns c =
    let n = c.in_ok-end.end.place.works in
    let m = c.in_ok-end.end.place.items in
    let works = c.fill.new.works in
    let items = c.fill.new.items in
    let long : length works ≡ n = omega (arith, c.fill.auto.works, length-take-le n c.args.works.now c.if-works-counts.false) in
    let many : length items ≡ m = omega (arith, c.fill.auto.items, length-take-le m c.args.items.now c.if-items-counts.false) in
    let w = take_at works (drop n c.args.works.now) n long in
    let i = take_at items (drop m c.args.items.now) m many in
    let R : List WorkRow → List ItemRow → Type 0 = λ a b. Reads c.args.bytes.now (task_of c.fill.new.scheme) a b in
    let reads = subst₂ R (sym w) (sym i) c.fill.ensures in
    record {
      answer = record {
        reads = reads;
        works_room = c.if-works-counts.false;
        items_room = c.if-items-counts.false;
        later_works = drop_at works (drop n c.args.works.now) n long;
        later_items = drop_at items (drop m c.args.items.now) m many;
        bound = reads_bound reads;
      };
      only = reads_only reads;
      short = λ contents readable same. tt;
      sole = λ g faulty.
          absurd (none_lacks _ _ c.in_ok-end.ensures c.if-works-counts.false c.if-items-counts.false g faulty);
    }
