use Rattle.std.proofs.Common.{ap}
use Rattle.scheme_file.specs.Bytes.{le}
use Rattle.scheme_file.proofs.Puts.{put_as, put_more}
use Rattle.scheme_file.proofs.putting.Output.frame.Goals as goal

pub returns : goal.returns
returns c = put_more c.number.ensures (put_as (ap (le 2) c.from.ensures) c.number-2.ensures)
