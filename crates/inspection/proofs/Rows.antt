-- Names by rows.
use Rattle.std.proofs.Common.{◌≡◌, ℕ, zero, suc, ◌<◌, ◌≤◌, ◌==◌, cond, Bool, true, false, List, [], ◌∷◌, length, get_or, find, None, Some, Option, refl, arith}
use Rattle.scheme_file.specs.declared.rows.WorkRow.{WorkRow}
use Rattle.scheme_file.specs.declared.rows.ItemRow.{ItemRow}
use Rattle.scheme_file.specs.Contents.{bytes_at}
use Rattle.inspection.specs.Files.{work_in, item_in}

pub work_in_at : (bytes : List ℕ) (rows : List WorkRow) (w : ℕ) (d : WorkRow) → w < length rows →
    work_in bytes rows w ≡ bytes_at bytes (get_or rows w d).name
work_in_at bytes [] w d lt = absurd (omega arith)
work_in_at bytes (r ∷ rows) zero d lt = refl
work_in_at bytes (r ∷ rows) (suc w) d lt = work_in_at bytes rows w d (omega arith)

pub work_in_past : (bytes : List ℕ) (rows : List WorkRow) (w : ℕ) → length rows ≤ w → work_in bytes rows w ≡ []
work_in_past bytes [] w le = refl
work_in_past bytes (r ∷ rows) zero le = absurd (omega arith)
work_in_past bytes (r ∷ rows) (suc w) le = work_in_past bytes rows w (omega arith)

-- the name in a row, if there is one
abbrev pub name_in : List ℕ → Option ItemRow → List ℕ
name_in bytes None = []
name_in bytes (Some r) = bytes_at bytes r.name

pub item_in_found : (bytes : List ℕ) (rows : List ItemRow) (i : ℕ) → item_in bytes rows i ≡ name_in bytes (find (λ r. r.number == i) rows)
item_in_found bytes [] i = refl
item_in_found bytes (r ∷ rows) i = same (r.number == i) (item_in_found bytes rows i)
  where
    same : (b : Bool) → item_in bytes rows i ≡ name_in bytes (find (λ q. q.number == i) rows) →
        cond b (bytes_at bytes r.name) (item_in bytes rows i) ≡ name_in bytes (cond b (Some r) (find (λ q. q.number == i) rows))
    same true later = refl
    same false later = later
