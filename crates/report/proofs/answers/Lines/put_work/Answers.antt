use Rattle.std.proofs.Common.{◌≡◌, get_or, ap, ◌∙◌, rules}
use Rattle.scheme_file.specs.declared.rows.WorkRow.{WorkRow}
use Rattle.scheme_file.specs.Contents.{bytes_at}
use Rattle.page.proofs.Laws.{adds_as, adds_more}
use Rattle.report.specs.Lines.{line}
use Rattle.report.specs.Rows.{blank_row}
use Rattle.report.proofs.answers.Lines.put_work.Goals as goal

pub returns : goal.returns
returns c =
    let self = c.args.self.now in
    let w = c.args.w in
    let row = c.unwrap_or_default-row.result in
    let found : row ≡ get_or self.rows.now w blank_row =
    search rules
    in
    adds_as
    (ap (line w row.pounds) c.in_text.ensures ∙ ap (λ (r : WorkRow). line w r.pounds (bytes_at self.bytes.now r.name)) found)
    (adds_more c.put_number.ensures
    (adds_more c.put.ensures (adds_more c.put_number-2.ensures (adds_more c.put-2.ensures (adds_more c.put-3.ensures c.put-4.ensures)))))
