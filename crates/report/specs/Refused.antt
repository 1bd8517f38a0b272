-- The line that is printed of a refusal or a fault.
use Rattle.std.specs.Prelude.{ℕ, List, [], ◌++◌, codes, decimal, Some, None, Option}
use Rattle.scheme_file.specs.Causes.{cause_number}
use Rattle.report.specs.declared.refusals.RefusalLine.{RefusalLine}

-- the offset in a file, if there is one
abbrev pub place : Option ℕ → List ℕ
place None = []
place (Some n) = codes " at " ++ decimal n

-- the number of the cause, and the offset
abbrev pub refused_text : RefusalLine → List ℕ
refused_text r = codes "refused " ++ (decimal (cause_number r.cause) ++ (place r.offset ++ codes "\n"))
