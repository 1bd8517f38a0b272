use Rattle.std.proofs.Common.{◌≡◌, ◌-◌, length}
use Rattle.scheme_file.specs.Passes.{Upto}
use Rattle.scheme_file.proofs.checking.check.Given as goal

-- the records before are good
abbrev pub invariant-loop-records : goal.invariant-loop-records
invariant-loop-records l = (l.records.bytes.now ≡ l.bytes) × Upto l.bytes l.records.place l.records.at l.records.index

abbrev pub decreases-loop-records : goal.decreases-loop-records
decreases-loop-records l = length l.bytes - l.records.at
