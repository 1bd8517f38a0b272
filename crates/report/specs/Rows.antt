-- The line of a work by its row.
use Rattle.std.specs.Prelude.{ℕ, List, slice_index_or}
use Rattle.scheme_file.specs.declared.rows.WorkRow.{WorkRow}
use Rattle.scheme_file.specs.Contents.{bytes_at}
use Rattle.report.specs.Lines.{line}

-- what is read past the last row
abbrev pub blank_row : WorkRow
blank_row = record { pounds = 0; hours = 0; name = record { at = 0; len = 0 } }

abbrev pub row_line : List ℕ → List WorkRow → ℕ → List ℕ
row_line bytes rows w = line w (slice_index_or rows w blank_row).pounds (bytes_at bytes (slice_index_or rows w blank_row).name)

abbrev pub row_pounds : WorkRow → ℕ
row_pounds r = r.pounds
