use Rattle.std.proofs.Common.{◌≡◌, ℕ, ◌≤◌, List, map, length, refl, ap, ◌∙◌, ap₂, inr, arith, rules}
use Rattle.sets.specs.declared.Set.{Set}
use Rattle.scheme.specs.Task.{Task, task_of}
use Rattle.scheme_file.specs.declared.kinds.Kind.TheVariants.{Standing, Wanted}
use Rattle.scheme_file.specs.declared.rows.ItemRow.{ItemRow}
use Rattle.scheme_file.specs.declared.rows.WorkRow.{WorkRow}
use Rattle.scheme_file.specs.Contents.{Written, contents, entries, item_in}
use Rattle.scheme_file.specs.Format.{bytes_of, encode, item_record, set_record, work_record}
use Rattle.scheme_file.proofs.Puts.{put_as, put_more, wrote_all, wrote_as}
use Rattle.scheme_file.proofs.Vets.{fit_of}
use Rattle.scheme_file.proofs.Wholes.{file_bound, file_length, file_parts}
use Rattle.scheme_file.proofs.writing.write.Goals as goal

pub returns-then-out-len : goal.returns-then-out-len
returns-then-out-len c =
    let k = task_of c.args.scheme.now in
    let rows = c.args.works.now in
    let text = c.args.text.now in
    let few : length k.works ≤ 64 = search rules in
    let works = rw c.works.ensures.value at c.in_ok-works_len.ensures in
    let items = c.in_ok-items_len.ensures in (
      inr (
        refl,
        fit_of k rows c.args.items.now text items.0 works.0 few,
        omega (arith, file_length (contents k rows c.args.items.now text), items.1, works.1),
      ),
      refl,
    )

-- what is written, told of the same bytes
written_as :
    {k : Task} {rows : List WorkRow} {items : List ItemRow} {text was out out' : List ℕ} {n n' : ℕ} →
    Written k rows items text was out n →
    out' ≡ out →
    n' ≡ n →
    Written k rows items text was out' n'
written_as {k} {rows} {items} {text} {was} w e f = rw (e, f) w

pub returns : goal.returns
returns c =
    let k = task_of c.args.scheme.now in
    let rows = c.args.works.now in
    let text = c.args.text.now in
    let few : length k.works ≤ 64 = search rules in
    let works = rw c.works.ensures.value at c.in_ok-works_len.ensures in
    let items = c.in_ok-items_len.ensures in
    let fit = fit_of k rows c.args.items.now text items.0 works.0 few in
    let all = contents k rows c.args.items.now text in
    let start = c.new-output.ensures.fresh in
    let head = c.mark.ensures in
    let first = put_more head (put_as (ap (λ t. bytes_of (map item_record (map (item_in t) c.args.items.now))) (head.text ∙ start.2)) c.items.ensures) in
    let second = put_more first
    (put_as (ap₂ (λ t w. bytes_of (map work_record (entries t w rows))) (first.text ∙ start.2) c.works-2.ensures.value) c.works-3.ensures)
    in
    let third = put_more second (put_as (ap (λ (s : Set). encode (set_record Standing s)) c.standing.ensures) c.set.ensures) in
    let fourth = put_more third (put_as (ap (λ (s : Set). encode (set_record Wanted s)) c.wanted.ensures) c.set-2.ensures) in
    let last = put_more fourth c.mark-2.ensures in
    let w = wrote_all (wrote_as (file_parts all) (rw (start.0, start.1) at last.wrote)) in
    let lent = last.lent ∙ c.new-output.ensures.lent in
    written_as (record { fit = fit; same = w.0; later = w.1; long = w.3; bound = omega (arith, w.2, file_bound all fit.1) })
    (search rules)
    (omega (arith, w.2, file_length all, items.1, works.1))
