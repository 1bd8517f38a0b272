use Rattle.std.proofs.Common.{◌≡◌, ◌+◌, ap, arith}
use Rattle.scheme_file.specs.declared.kinds.Kind.TheVariants.{Work}
use Rattle.scheme_file.specs.Bytes.{le}
use Rattle.scheme_file.specs.Contents.{bytes_at, entry_in}
use Rattle.scheme_file.specs.Format.{work_record}
use Rattle.scheme_file.proofs.Puts.{frame_body, put_as, put_more}
use Rattle.scheme_file.proofs.Vets.{name_size}
use Rattle.scheme_file.proofs.putting.Output.work.Goals as goal

pub returns : goal.returns
returns c =
    let row = c.args.row in
    let text = c.args.self.now.text.now in
    let body = (work_record (entry_in text c.args.work row)).body in
    let same : c.number-4.new.self.text.now ≡ text =
    cc (c.number-4.ensures.text, c.number-3.ensures.text, c.number-2.ensures.text, c.number.ensures.text, c.frame.ensures.text)
    in
    put_as (frame_body Work (20 + row.name.len) body (omega (arith, name_size text row.name c.requires.0.lies)))
    (put_more c.frame.ensures
    (put_more (put_as (ap (le 8) c.bits.ensures) c.number.ensures)
    (put_more (put_as (ap (le 8) c.bits-2.ensures) c.number-2.ensures)
    (put_more c.number-3.ensures
    (put_more c.number-4.ensures (put_as (ap (λ t. bytes_at t row.name) same) c.name.ensures))))))
