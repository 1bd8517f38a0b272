use Rattle.std.proofs.Common.{length, sym, ap, ◌∙◌, subst, arith}
use Rattle.scheme.specs.Edits.{with_wanted}
use Rattle.scheme.specs.Task.{Task}
use Rattle.scheme_file.specs.Bytes.{le}
use Rattle.scheme_file.specs.Contents.{Reads}
use Rattle.scheme_file.proofs.Fills.{whole_read, works_begin, works_end}
use Rattle.scheme_file.proofs.filling.fill.Goals as goal

pub fill_works-at-requires : goal.fill_works-at-requires
fill_works-at-requires c =
    let items = c.fill_items-at.new.rows in
    (ap (λ (k : Task). k.works) c.open.ensures, works_begin items _ (length c.args.items.now) _ (omega arith) (c.fill_items-at.ensures _ c.requires))

pub returns : goal.returns
returns c =
    let rows = c.fill_works-at.new.rows in
    let works = c.fill_works-at.ensures.filled in
    let t = works_end rows _ _ (length c.args.works.now) (omega arith) works in
    let listed = c.fill_items-at.ensures _ c.requires in
    let s = c.from_bits-standing.result in
    let w = c.from_bits-wanted.result in
    let k = c.add_all-2.ensures ∙ ap (λ (x : Task). with_wanted x w) c.add_all.ensures in
    subst (λ (x : Task). Reads c.args.bytes.now x rows c.fill_items-at.new.rows) (sym k)
    (whole_read listed.4 works.4 t s w
    (ap (le 8) c.from_bits-standing.ensures ∙ c.number_at.ensures.bytes ∙ t.first)
    (ap (le 8) c.from_bits-wanted.ensures ∙ c.number_at-2.ensures.bytes ∙ t.second)
    (omega (arith, c.from_bits-standing.ensures)) (omega (arith, c.from_bits-wanted.ensures)))
