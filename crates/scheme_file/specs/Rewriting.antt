-- Reading a file and writing it back.
use Rattle.std.specs.Prelude.{◌≡◌, ℕ, ◌<◌, List, length, take, drop, Ok, Err, Result}
use Rattle.scheme_file.specs.declared.causes.Cause.TheVariants.{OutputShort}
use Rattle.scheme_file.specs.declared.rewriting.Failure.{Failure}
use Rattle.scheme_file.specs.declared.rewriting.Failure.TheVariants.{Read, Write}
use Rattle.scheme_file.specs.Faults.{Faulty}

-- The same bytes are written, and the later ones stay.
pub record Copied (bytes was out : List ℕ) (n : ℕ) : Type 0 where
  pub all : n ≡ length bytes
  pub same : take n out ≡ bytes
  pub later : drop n out ≡ drop n was

-- Why not: the file's fault, or room for less than the file.
abbrev pub Failed : List ℕ → ℕ → ℕ → List ℕ → Failure → Type 0
Failed bytes works items was (Read f) = Faulty bytes works items f
Failed bytes works items was (Write c) = (c ≡ OutputShort) × (length was < length bytes)

-- What is left behind: all as it was where the file is refused, else what was filled in.
abbrev pub Left : Result ℕ Failure → Type 0 → Type 0 → Type 0
Left (Ok n) same filled = filled
Left (Err (Read f)) same filled = same
Left (Err (Write c)) same filled = filled
