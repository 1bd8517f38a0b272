-- Bytes put into a page.
use Rattle.std.specs.Prelude.{◌≡◌, ℕ, ◌+◌, ◌-◌, ◌^◌, ◌<◌, ◌≤◌, min, List, length, take, drop, Ok, Err, Result}
use Rattle.scheme_file.specs.declared.causes.Cause.{Cause}
use Rattle.scheme_file.specs.declared.causes.Cause.TheVariants.{OutputShort}
use Rattle.scheme_file.specs.Passes.{Wrote}

-- The bytes xs are put at an offset: the offset after them is counted, up to the largest number, and where the page is long enough for them they are written over those that were there.
pub record Puts (from : List ℕ) (at : ℕ) (xs to : List ℕ) (next : ℕ) : Type 0 where
  pub count : next ≡ min (at + length xs) (2 ^ 64 - 1)
  pub written : at + length xs ≤ length from → Wrote from at xs to (at + length xs)

-- A text is put at the start of a page, and later bytes stay; or the page is shorter than the text, and stays as it was.
abbrev pub Published : List ℕ → List ℕ → Result ℕ Cause → List ℕ → Type 0
Published text from (Ok n) to = (n ≡ length text) × (n ≤ length to) × (take n to ≡ text) × (drop n to ≡ drop n from)
Published text from (Err c) to = (c ≡ OutputShort) × (length from < length text) × (to ≡ from)
