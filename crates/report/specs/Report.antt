-- From a file's bytes to the bytes printed.
use Rattle.std.specs.Prelude.{◌≡◌, ℕ, ◌⊎◌, List, [], map, Result}
use Rattle.sets.specs.declared.Set.{Set}
use Rattle.sets.specs.Member.{none}
use Rattle.scheme.specs.declared.Scheme.{Scheme}
use Rattle.scheme.specs.declared.Work.{Work}
use Rattle.scheme.specs.Task.{Task, task_of}
use Rattle.scheme_file.specs.declared.causes.Cause.{Cause}
use Rattle.scheme_file.specs.declared.causes.Fault.{Fault}
use Rattle.scheme_file.specs.Contents.{Readable}
use Rattle.scheme_file.specs.Faults.{Faulty}
use Rattle.scheme_file.specs.Format.{Contents, Entry, file}
use Rattle.tariff.specs.PoundsScale.{pounds_scale}
use Rattle.rules.specs.Rules.{Asked, Outcome}
use Rattle.rules.specs.Promises.{Right}
use Rattle.page.specs.Puts.{Published}
use Rattle.report.specs.Lines.{fault_text, outcome_text}

abbrev pub work_of : Entry → Work
work_of e = e.work

abbrev pub pounds_of : Entry → ℕ
pounds_of e = e.pounds

-- the scheme that a file holds, and the prices of its works
abbrev pub task_in : Contents → Task
task_in c = record { works = map work_of c.works; standing = c.standing; wanted = c.wanted }

abbrev pub pounds_in : Contents → List ℕ
pounds_in c = map pounds_of c.works

-- The bytes are a file, the question in pounds without bars on the scheme that it holds comes to an outcome by the rules, which is right, and the text is what is printed of it.
pub record Answered (capacity : ℕ) (bytes text : List ℕ) (held : Task) (kept : List Set) : Type 0 where
  pub contents : Contents
  pub readable : Readable contents
  pub same : bytes ≡ file contents
  pub holds : held ≡ task_in contents
  pub outcome : Outcome ℕ
  pub ruled : Asked pounds_scale capacity (task_in contents) (pounds_in contents) none [] outcome kept
  pub right : Right pounds_scale (task_in contents) (pounds_in contents) none outcome
  pub written : text ≡ outcome_text contents.works outcome

-- What is printed of a file that is read, and what the page holds then.
pub record Tells (capacity : ℕ) (bytes from : List ℕ) (held : Task) (kept : List Set) (r : Result ℕ Cause) (page : List ℕ) : Type 0 where
  pub text : List ℕ
  pub answered : Answered capacity bytes text held kept
  pub published : Published text from r page

-- The bytes are no file, and the text is what is printed of the fault.
pub record Refused (bytes text : List ℕ) : Type 0 where
  pub fault : Fault
  pub faulty : Faulty bytes 64 64 fault
  pub written : text ≡ fault_text fault

-- The text that is printed of some bytes.
abbrev pub Printed : ℕ → List ℕ → List ℕ → Type 0
Printed capacity bytes text = ((held : Task) × (kept : List Set) × Answered capacity bytes text held kept) ⊎ Refused bytes text

-- What is printed of a file, and what the page, the scheme and the kept sets hold before and after it. Bytes have one text.
pub record Reported (capacity : ℕ) (bytes from : List ℕ) (before after : Scheme) (kept to : List Set) (r : Result ℕ Cause) (page : List ℕ) : Type 0 where
  pub text : List ℕ
  pub told : Answered capacity bytes text (task_of after) to ⊎ (Refused bytes text × (after ≡ before) × (to ≡ kept))
  pub only : (other : List ℕ) → Printed capacity bytes other → other ≡ text
  pub published : Published text from r page
