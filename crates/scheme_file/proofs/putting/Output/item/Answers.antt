use Rattle.std.proofs.Common.{◌≡◌, ◌+◌, ◌∷◌, ap, arith}
use Rattle.scheme_file.specs.declared.kinds.Kind.TheVariants.{Item}
use Rattle.scheme_file.specs.Contents.{bytes_at}
use Rattle.scheme_file.proofs.Puts.{frame_body, put_as, put_more}
use Rattle.scheme_file.proofs.Vets.{name_size}
use Rattle.scheme_file.proofs.putting.Output.item.Goals as goal

pub returns : goal.returns
returns c =
    let row = c.args.row in
    let text = c.args.self.now.text.now in
    let same : c.put.new.self.text.now ≡ text = cc (c.put.ensures.text, c.frame.ensures.text) in
    put_as (frame_body Item (1 + row.name.len) (row.number ∷ bytes_at text row.name) (omega (arith, name_size text row.name c.requires.0)))
    (put_more c.frame.ensures (put_more c.put.ensures (put_as (ap (λ t. bytes_at t row.name) same) c.name.ensures)))
