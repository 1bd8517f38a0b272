use Rattle.std.proofs.Common.{arith}
use Rattle.sets.specs.Listed.{members}
use Rattle.sets.proofs.Listing.{members_listed, count_members}
use Rattle.sets.proofs.Set.len.Goals as goal

pub returns : goal.returns
returns c = (members c.args.self, members_listed c.args.self (omega arith), count_members c.args.self (omega arith))
