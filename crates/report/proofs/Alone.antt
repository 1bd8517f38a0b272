-- Bytes have one text.
use Rattle.std.proofs.Common.{◌≡◌, ℕ, List, [], Ok, Err, Result, sym, ap, ◌∙◌, subst, ap₂, inl, inr, ⊎_elim, arith}
use Rattle.sets.specs.declared.Set.{Set}
use Rattle.sets.specs.Member.{none}
use Rattle.scheme.specs.Task.{Task}
use Rattle.scheme_file.specs.declared.causes.Fault.{Fault}
use Rattle.scheme_file.specs.declared.rows.Counts.{Counts}
use Rattle.scheme_file.specs.Faults.{Faulty, OnlyReading, RowsShort}
use Rattle.scheme_file.specs.Format.{Contents}
use Rattle.tariff.specs.PoundsScale.{pounds_scale}
use Rattle.rules.specs.Rules.{Asked}
use Rattle.rules.proofs.Unique.{asked_unique}
use Rattle.report.specs.Lines.{fault_text, outcome_text}
use Rattle.report.specs.Report.{Answered, Printed, pounds_in, task_in}

module _ (capacity : ℕ) (bytes : List ℕ) (filled : Counts → Contents) where
  pub answered_only :
      (n : Counts) {text : List ℕ} {held : Task} {kept : List Set} →
      OnlyReading bytes (Ok n) filled →
      ((f : Fault) → Faulty bytes 64 64 f → ◌≡◌ {A = Result Counts Fault} (Ok n) (Err f)) →
      Answered capacity bytes text held kept →
      (other : List ℕ) →
      Printed capacity bytes other →
      other ≡ text
  answered_only n only sole a other (inl (held', kept', b)) =
      let same : b.contents ≡ a.contents = only b.contents b.readable b.same ∙ sym (only a.contents a.readable a.same) in
      let Ruled : Contents → Type 0 = λ c. Asked pounds_scale capacity (task_in c) (pounds_in c) none [] b.outcome kept' in
      let outcome = (asked_unique (subst Ruled same b.ruled) a.ruled).0 in
      b.written ∙ ap₂ (λ (c : Contents) o. outcome_text c.works o) same outcome ∙ sym a.written
  answered_only n only sole a other (inr b) =
      let clash = sole b.fault b.faulty in
      let z : ◌≡◌ {A = ℕ} 0 1 = cc in
      absurd (omega arith)

  pub refused_only :
      (f : Fault) →
      RowsShort bytes 64 64 (Err f) →
      ((g : Fault) → Faulty bytes 64 64 g → ◌≡◌ {A = Result Counts Fault} (Err f) (Err g)) →
      (other : List ℕ) →
      Printed capacity bytes other →
      other ≡ fault_text f
  refused_only f short sole other (inl (held', kept', b)) =
      absurd (⊎_elim (λ h. omega arith) (λ h. omega arith) (short b.contents b.readable b.same))
  refused_only f short sole other (inr b) =
      let same = sole b.fault b.faulty in
      let alike : b.fault ≡ f = cc in
      b.written ∙ ap fault_text alike
