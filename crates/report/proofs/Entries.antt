-- What a file tells of its works, by their rows.
use Rattle.std.proofs.Common.{◌≡◌, ℕ, zero, suc, ◌≤◌, List, [], ◌∷◌, ◌++◌, map, length, get_or, refl, ap, ap₂, arith}
use Rattle.std.specs.List.{AllByRecursion}
use Rattle.std.specs.List.{flat_map}
use Rattle.scheme.specs.declared.Work.{Work}
use Rattle.scheme_file.specs.declared.rows.WorkRow.{WorkRow}
use Rattle.scheme_file.specs.Contents.{SoundEntry, bytes_at, entries}
use Rattle.tariff.specs.Amounts.{All}
use Rattle.report.specs.Lines.{blank, line, work_line}
use Rattle.report.specs.Report.{pounds_of, work_of}
use Rattle.report.specs.Rows.{blank_row, row_line, row_pounds}

module _ (bytes : List ℕ) where
  pub entries_works : (works : List Work) (rows : List WorkRow) → length rows ≡ length works → map work_of (entries bytes works rows) ≡ works
  entries_works [] rows e = refl
  entries_works (w ∷ works) [] e = absurd (omega arith)
  entries_works (w ∷ works) (r ∷ rows) e = ap (λ rest. w ∷ rest) (entries_works works rows (omega arith))

  pub entries_pounds :
      (works : List Work) (rows : List WorkRow) → length rows ≡ length works → map pounds_of (entries bytes works rows) ≡ map row_pounds rows
  entries_pounds [] [] e = refl
  entries_pounds [] (r ∷ rows) e = absurd (omega arith)
  entries_pounds (w ∷ works) [] e = absurd (omega arith)
  entries_pounds (w ∷ works) (r ∷ rows) e = ap (λ rest. r.pounds ∷ rest) (entries_pounds works rows (omega arith))

  pub entries_within :
      (works : List Work) (rows : List WorkRow) →
      length rows ≡ length works →
      AllByRecursion SoundEntry (entries bytes works rows) →
      All (λ p. p ≤ 65535) (map row_pounds rows)
  entries_within [] [] e h = tt
  entries_within [] (r ∷ rows) e h = absurd (omega arith)
  entries_within (w ∷ works) [] e h = absurd (omega arith)
  entries_within (w ∷ works) (r ∷ rows) e h = (omega (arith, h.0.pounds), entries_within works rows (omega arith) h.1)

  -- the line of the work w, under the number n
  line_at :
      (works : List Work) (rows : List WorkRow) →
      length rows ≡ length works →
      (n w : ℕ) →
      line n (get_or rows w blank_row).pounds (bytes_at bytes (get_or rows w blank_row).name)
      ≡ line n (get_or (entries bytes works rows) w blank).pounds (get_or (entries bytes works rows) w blank).name
  line_at [] [] e n w = refl
  line_at [] (r ∷ rows) e n w = absurd (omega arith)
  line_at (x ∷ works) [] e n w = absurd (omega arith)
  line_at (x ∷ works) (r ∷ rows) e n zero = refl
  line_at (x ∷ works) (r ∷ rows) e n (suc w) = line_at works rows (omega arith) n w

  pub lines_same :
      (works : List Work) (rows : List WorkRow) →
      length rows ≡ length works →
      (order : List ℕ) →
      flat_map (row_line bytes rows) order ≡ flat_map (work_line (entries bytes works rows)) order
  lines_same works rows e [] = refl
  lines_same works rows e (w ∷ order) = ap₂ ◌++◌ (line_at works rows e w w) (lines_same works rows e order)
