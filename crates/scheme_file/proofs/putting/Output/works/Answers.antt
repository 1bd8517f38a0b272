use Rattle.std.proofs.Common.{◌≡◌, ℕ, ◌<◌, List, map, length, get_or, sym, ap, ap₂, ◌∙◌, arith}
use lib.ListN.{length-map}
use Rattle.std.proofs.lemmas.List.{get_or-map, length_push, take_all}
use Rattle.std.proofs.lemmas.Slice.Zip.{zip_end, zip_turn}
use Rattle.scheme.specs.declared.Work.{Work}
use Rattle.scheme.specs.Task.{idle}
use Rattle.scheme_file.specs.declared.rows.WorkRow.{WorkRow}
use Rattle.scheme_file.specs.Contents.{entries, entry_in}
use Rattle.scheme_file.specs.Format.{Record, bytes_of, encode, work_record}
use Rattle.scheme_file.proofs.Fills.{length_entries}
use Rattle.scheme_file.proofs.Puts.{get_or_entries, put_as, record_room, record_step}
use Rattle.scheme_file.proofs.Vets.{name_size, works_at}
use Rattle.scheme_file.proofs.putting.Output.works.Goals as goal

abbrev none : WorkRow
none = record { pounds = 0; hours = 0; name = record { at = 0; len = 0 } }

-- the records to be put
abbrev all : List Work → List WorkRow → List ℕ → List Record
all works rows text = map work_record (entries text works rows)

-- each is that of its work and row
at_row : (works : List Work) (rows : List WorkRow) (text : List ℕ) (i : ℕ) → length rows ≡ length works → i < length rows →
    (i < length (all works rows text))
    × (work_record (entry_in text (get_or works i idle) (get_or rows i none)) ≡ get_or (all works rows text) i (work_record (entry_in text idle none)))
at_row works rows text i level lt =
    let xs = entries text works rows in
    let l = length_entries text works rows (sym level) in (
      omega (arith, l, length-map xs work_record),
      sym (get_or-map work_record xs i (entry_in text idle none) (work_record (entry_in text idle none)) (omega arith)
          ∙ ap work_record (get_or_entries text works rows i idle none level)),
    )

pub work-requires : goal.work-requires
work-requires c =
    let works = c.args.works.now in
    let rows = c.args.rows.now in
    let text = c.args.self.now.text.now in
    let i = length c.loop-work.yielded in
    let put = c.loop-work.invariant.2 in
    let turn = zip_turn works rows c.loop-work.yielded c.into_iter-work-iterator.result c.loop-work.work-iterator c.next.new.self c.next.result (cc) (cc) c.loop-work.yielded_by
    (c.in-Some.work, c.in-Some.row) c.in-Some.is c.next.ensures.steps
    in
    let row = get_or rows i none in
    let fits = works_at works rows text i none turn.1 c.requires.0 in
    let long = name_size text row.name fits.lies in
    let r = at_row works rows text i c.requires.0.level turn.1 in
    let room = record_room (all works rows text) i (work_record (entry_in text idle none)) r.0 put c.requires.1 in
    rw (put.text, turn.3 none) (fits, omega (arith, fits.name.short), omega (arith, room, ap (λ x. length (encode x)) r.1))

pub loop-work-preserved : goal.loop-work-preserved
loop-work-preserved c =
    let works = c.args.works.now in
    let rows = c.args.rows.now in
    let text = c.args.self.now.text.now in
    let i = length c.loop-work.yielded in
    let put = c.loop-work.invariant.2 in
    let turn = zip_turn works rows c.loop-work.yielded c.into_iter-work-iterator.result c.loop-work.work-iterator c.next.new.self c.next.result (cc) (cc) c.loop-work.yielded_by
    (c.in-Some.work, c.in-Some.row) c.in-Some.is c.next.ensures.steps
    in
    let r = at_row works rows text i c.requires.0.level turn.1 in
    let here = ap₂ (λ w q. encode (work_record (entry_in text w q))) (turn.2 idle) (turn.3 none) in
    let same = ap (λ t. encode (work_record (entry_in t c.in-Some.work.now c.in-Some.row.now))) put.text ∙ here ∙ ap encode r.1 in
    let more = length_push c.loop-work.yielded (c.in-Some.work, c.in-Some.row) in
    ((tt, tt), tt, rw more (record_step (all works rows text) i (work_record (entry_in text idle none)) r.0 put (put_as same c.work.ensures)))

pub returns : goal.returns
returns c =
    let works = c.args.works.now in
    let rows = c.args.rows.now in
    let text = c.args.self.now.text.now in
    let done = zip_end works rows c.loop-work.yielded c.into_iter-work-iterator.result c.loop-work.work-iterator c.next.new.self c.next.result (cc) (cc) c.loop-work.yielded_by c.in-None.is c.next.ensures.steps in
    let l = length_entries text works rows (sym c.requires.0.level) in
    put_as (ap bytes_of (take_all (length c.loop-work.yielded) (all works rows text) (omega (arith, done, l, c.requires.0.level, length-map (entries text works rows) work_record)))) c.loop-work.invariant.2
