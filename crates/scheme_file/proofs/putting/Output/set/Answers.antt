use Rattle.std.proofs.Common.{ap}
use Rattle.scheme_file.specs.Bytes.{le}
use Rattle.scheme_file.proofs.Puts.{put_as, put_more}
use Rattle.scheme_file.proofs.putting.Output.set.Goals as goal

pub returns : goal.returns
returns c = put_more c.frame.ensures (put_as (ap (le 8) c.bits.ensures) c.number.ensures)
