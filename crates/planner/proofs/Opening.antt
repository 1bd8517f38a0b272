-- An accepted reading is an opening and then the file's entries, standings and wants.
use Rattle.std.proofs.Common.{◌≡◌, ℕ, ◌≤◌, List, [], ◌∷◌, length, sym, refl, subst, arith}
use Rattle.std.specs.List.{AllByRecursion}
use Rattle.sets.specs.declared.Set.{Set}
use Rattle.sets.specs.Member.{none}
use Rattle.scheme.specs.declared.Work.{Work}
use Rattle.scheme.specs.Task.{Task}
use Rattle.scheme_file.specs.declared.rows.ItemRow.{ItemRow}
use Rattle.scheme_file.specs.declared.rows.WorkRow.{WorkRow}
use Rattle.scheme_file.specs.Contents.{Giving, Reads, entries}
use Rattle.tariff.specs.Amounts.{All, Scale}
use Rattle.rules.specs.Calls.{Since, filling}
use Rattle.rules.proofs.Filling.{since_filled}
use Rattle.planner.specs.Files.{Opens}

module _ (text : List ℕ) where
  pub entries_many : (works : List Work) (rows : List WorkRow) → length rows ≡ length works → length (entries text works rows) ≡ length works
  entries_many [] rows e = refl
  entries_many (w ∷ works) [] e = absurd (omega arith)
  entries_many (w ∷ works) (r ∷ rows) e = let tail = entries_many works rows (omega arith) in omega arith

  entries_give :
      (works : List Work) (rows : List WorkRow) →
      length rows ≡ length works →
      AllByRecursion Giving (entries text works rows) →
      All (λ (w : Work). w.gives ≡ none → ⊥) works
  entries_give [] rows e h = tt
  entries_give (w ∷ works) [] e h = absurd (omega arith)
  entries_give (w ∷ works) (r ∷ rows) e h = (h.0.some, entries_give works rows (omega arith) h.1)

pub opens :
    {V : Type 0} (t : Scale V) (capacity : ℕ) (bytes : List ℕ) (k : Task) (kept : List Set) (rows : List WorkRow) (items : List ItemRow) →
    kept ≡ [] →
    Reads bytes k rows items →
    Opens t capacity k kept
opens t capacity bytes k kept rows items e reads =
    let level = reads.rowed.level in
    let few : length k.works ≤ 64 = omega (arith, reads.readable.sound.few, entries_many bytes k.works rows level) in
    let Led : List Set → Type 0 = Since t capacity (filling k) k in
    record {
      none_kept = e;
      since = subst Led (sym e)
          (since_filled t capacity k few (entries_give bytes k.works rows level reads.readable.giving) reads.readable.standing
          reads.readable.wanted);
    }
