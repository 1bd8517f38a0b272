-- Which fault a byte string has: good records up to the first at which a rule is broken, and there the first broken rule.
use Rattle.std.specs.Prelude.{◌≡◌, ℕ, ◌<◌, ◌⊎◌, List, ◌++◌, length, IfErr, Result, MatchResult, ◌≢◌}
use Rattle.scheme_file.specs.declared.kinds.Kind.TheVariants.{End}
use Rattle.scheme_file.specs.declared.stages.Stage.TheVariants.{Closing, Closed}
use Rattle.scheme_file.specs.declared.places.Place.{Place}
use Rattle.scheme_file.specs.declared.causes.Cause.{Cause}
use Rattle.scheme_file.specs.declared.causes.Cause.TheVariants.{OutOfOrder, Rows}
use Rattle.scheme_file.specs.declared.causes.Fault.{Fault}
use Rattle.scheme_file.specs.declared.rows.Counts.{Counts}
use Rattle.scheme_file.specs.Contents.{Readable}
use Rattle.scheme_file.specs.Format.{Contents, Record, bytes_of, encode, file, mark}
use Rattle.scheme_file.specs.Rules.{Broken, Goes, rules, start}

-- Good records come before the fault's place, and there `Why` holds of the place, of what is left and of the cause.
pub record At (Why : Place → List ℕ → Cause → Type 0) (bytes : List ℕ) (f : Fault) : Type 0 where
  pub before : List Record
  pub place : Place
  pub rest : List ℕ
  pub good : Goes start before place
  pub split : bytes ≡ bytes_of before ++ rest
  pub index : f.index ≡ length before
  pub offset : f.offset ≡ length (bytes_of before)
  pub why : Why place rest f.cause

-- before the end record the first broken rule tells, and past it any byte is one too many
abbrev pub Breaks : Place → List ℕ → Cause → Type 0
Breaks p rest c =
    ((p.stage ≢ Closed) × Broken (rules p rest) c) ⊎ ((p.stage ≡ Closed) × (0 < length rest) × (c ≡ OutOfOrder))

-- a fault of the bytes alone
abbrev pub Amiss : List ℕ → Fault → Type 0
Amiss = At Breaks

-- at the end record of a file, row lists that are shorter than the file's rows
abbrev pub Short : ℕ → ℕ → Place → List ℕ → Cause → Type 0
Short works items p rest c =
    (p.stage ≡ Closing) × (rest ≡ encode (mark End)) × ((works < p.works) ⊎ (items < p.items)) × (c ≡ Rows)

-- a fault of the bytes, or else of row lists of those lengths
abbrev pub Faulty : List ℕ → ℕ → ℕ → Fault → Type 0
Faulty bytes works items f = Amiss bytes f ⊎ At (Short works items) bytes f

-- A file has one reading: the contents of which bytes are the file are those that were filled in, and only too few rows refuse them.
abbrev pub OnlyReading : List ℕ → Result Counts Fault → (Counts → Contents) → Type 0
OnlyReading bytes r filled = (c : Contents) → Readable c → bytes ≡ file c → MatchResult r (λ n. c ≡ filled n) (λ f. f.cause ≡ Rows)

-- Only row lists of which one has fewer than 64 rows can refuse a file.
abbrev pub RowsShort : List ℕ → ℕ → ℕ → Result Counts Fault → Type 0
RowsShort bytes works items r =
    (c : Contents) → Readable c → bytes ≡ file c → IfErr r (λ f. (works < 64) ⊎ (items < 64))
