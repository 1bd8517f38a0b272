-- What a planner holds and keeps once it has read a file.
use Rattle.std.specs.Prelude.{◌≡◌, ℕ, List, [], length, take, Err, Result, MatchResult}
use Rattle.sets.specs.declared.Set.{Set}
use Rattle.scheme.specs.declared.Scheme.{Scheme}
use Rattle.scheme.specs.Task.{Task, task_of}
use Rattle.scheme_file.specs.declared.causes.Fault.{Fault}
use Rattle.scheme_file.specs.declared.rows.Counts.{Counts}
use Rattle.scheme_file.specs.declared.rows.ItemRow.{ItemRow}
use Rattle.scheme_file.specs.declared.rows.WorkRow.{WorkRow}
use Rattle.scheme_file.specs.Contents.{Filled, contents}
use Rattle.scheme_file.specs.Faults.{Faulty, OnlyReading, RowsShort}
use Rattle.tariff.specs.Amounts.{Scale}
use Rattle.rules.specs.Calls.{Since, filling}

-- An accepted reading is an opening and then the file's entries, standings and wants: no landmark is kept, and the calls since the opening are those that fill in what is held.
pub record Opens {V : Type 0} (t : Scale V) (capacity : ℕ) (k : Task) (kept : List Set) : Type 0 where
  pub none_kept : kept ≡ []
  pub since : Since t capacity (filling k) k kept

-- What a reading answers, and what scheme, kept sets and rows hold before and after it. A fault changes none of them. A file has one reading, and what is no file has one fault.
pub record ReadsFile {V : Type 0} (t : Scale V) (capacity : ℕ) (bytes : List ℕ) (before after : Scheme) (kept to : List Set) (was works : List WorkRow) (had items : List ItemRow) (r : Result Counts Fault) : Type 0 where
  pub answer :
      MatchResult r (λ n. Filled bytes (task_of after) was works had items n × Opens t capacity (task_of after) to)
      (λ f. Faulty bytes (length was) (length had) f × (after ≡ before) × (to ≡ kept) × (works ≡ was) × (items ≡ had))
  pub only : OnlyReading bytes r (λ n. contents (task_of after) (take n.works works) (take n.items items) bytes)
  pub short : RowsShort bytes (length was) (length had) r
  pub sole : (f : Fault) → Faulty bytes (length was) (length had) f → r ≡ Err f
