-- The causes and their numbers.
use Rattle.std.specs.Prelude.{ℕ}
use Rattle.scheme.specs.Refusals.{number_of}
use Rattle.scheme_file.specs.declared.causes.Cause.{Cause}
use Rattle.scheme_file.specs.declared.causes.Cause.TheVariants.{Refused, CutShort, WrongLength, UnknownKind, OutOfOrder, NameByte, Rows, OutputShort}

abbrev pub cause_number : Cause → ℕ
cause_number (Refused refusal) = number_of refusal
cause_number CutShort = 12
cause_number WrongLength = 13
cause_number UnknownKind = 14
cause_number OutOfOrder = 15
cause_number NameByte = 16
cause_number Rows = 17
cause_number OutputShort = 18
