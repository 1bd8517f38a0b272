-- The question on a scheme that was read from a file, and what is printed of its answer.
use Rattle.std.proofs.Common.{◌≡◌, ℕ, ◌≤◌, List, [], ◌++◌, map, length, take, Ok, Err, codes, decimal, Result, sym, ap, ◌∙◌, subst, subst₂, inl, inr, arith}
use lib.ListN.{length-map}
use Rattle.std.specs.List.{flat_map}
use Rattle.sets.specs.declared.Set.{Set}
use Rattle.sets.specs.Member.{none}
use Rattle.sets.proofs.Laws.{none_has}
use Rattle.scheme.specs.declared.Work.{Work}
use Rattle.scheme.specs.declared.refusals.Refusal.{Refusal}
use Rattle.scheme.specs.Task.{Task}
use Rattle.scheme_file.specs.declared.rows.ItemRow.{ItemRow}
use Rattle.scheme_file.specs.declared.rows.WorkRow.{WorkRow}
use Rattle.scheme_file.specs.Contents.{Reads, contents, entries}
use Rattle.tariff.specs.Amounts.{All}
use Rattle.tariff.specs.PoundsScale.{pounds_scale}
use Rattle.rules.specs.Calls.{Valid, filling}
use Rattle.rules.specs.Promises.{Right}
use Rattle.rules.specs.Rules.{Asked, Outcome}
use Rattle.planner.specs.declared.types.Answer.{Answer}
use Rattle.planner.specs.Asks.{Promised}
use Rattle.planner.specs.Files.{Opens}
use Rattle.planner.specs.Views.{Says}
use Rattle.planner.proofs.Opening.{entries_many}
use Rattle.report.specs.Lines.{outcome_text, refusal_text, total_line}
use Rattle.report.specs.Report.{Answered, task_in}
use Rattle.report.specs.Rows.{row_line, row_pounds}
use Rattle.report.proofs.Entries.{entries_pounds, entries_within, entries_works, lines_same}

module _ (bytes : List ℕ) (k : Task) (rows : List WorkRow) (items : List ItemRow) (reads : Reads bytes k rows items) where
  level : length rows ≡ length k.works
  level = reads.rowed.level

  pub rows_few : length rows ≤ 64
  rows_few = omega (arith, reads.readable.sound.few, entries_many bytes k.works rows level, level)

  same_task : task_in (contents k rows items bytes) ≡ k
  same_task =
      ap (λ (works : List Work). let t : Task = record { works = works; standing = k.standing; wanted = k.wanted } in t)
      (entries_works bytes k.works rows level)

  -- what is printed of a result of the question
  abbrev pub printed : Result (Answer ℕ) Refusal → List ℕ → List ℕ
  printed (Ok a) order = flat_map (row_line bytes rows) (take a.length order) ++ total_line a.total
  printed (Err e) order = refusal_text e

  says_printed :
      (r : Result (Answer ℕ) Refusal) (order : List ℕ) (o : Outcome ℕ) →
      Says pounds_scale r order o →
      printed r order ≡ outcome_text (entries bytes k.works rows) o
  says_printed (Ok a) order o e =
      ap (λ lines. lines ++ total_line a.total) (lines_same bytes k.works rows level (take a.length order))
      ∙ sym (ap (outcome_text (entries bytes k.works rows)) e)
  says_printed (Err e) order o (inl p) =
      ap (λ n. codes "refused " ++ (decimal n ++ codes "\n")) p.0 ∙ sym (ap (outcome_text (entries bytes k.works rows)) p.1)
  says_printed (Err e) order o (inr p) =
      ap (λ n. codes "refused " ++ (decimal n ++ codes "\n")) p.0 ∙ sym (ap (outcome_text (entries bytes k.works rows)) p.1)

  module _ (prices : List ℕ) (listed : prices ≡ map row_pounds rows) where
    valid : Valid pounds_scale k prices none 64
    valid =
        let within = entries_within bytes k.works rows level reads.readable.sound.works in (
          (ap length listed ∙ length-map rows row_pounds ∙ level, subst (All (λ p. p ≤ 65535)) (sym listed) within),
          λ w y. absurd (none_has w y),
          omega (arith, rows_few, level),
        )

    pub tells :
        (capacity : ℕ) (kept : List Set) (bars : Set) (r : Result (Answer ℕ) Refusal) (order : List ℕ) (after : Task) (to : List Set) →
        Opens pounds_scale capacity k kept →
        bars ≡ none →
        after ≡ k →
        Promised pounds_scale capacity k prices bars 64 kept r order to →
        Answered capacity bytes (printed r order) after to
    tells capacity kept bars r order after to opens unbarred same promised =
        let Barred : Set → Type 0 = λ b. Promised pounds_scale capacity k prices b 64 kept r order to in
        let comes = subst Barred unbarred promised (filling k) opens.since valid in
        let same-pounds = listed ∙ sym (entries_pounds bytes k.works rows level) in
        let Ruled : Task → List ℕ → Type 0 = λ t p. Asked pounds_scale capacity t p none [] comes.outcome to in
        let From : List Set → Type 0 = λ x. Asked pounds_scale capacity k prices none x comes.outcome to in
        let Fits : Task → List ℕ → Type 0 = λ t p. Right pounds_scale t p none comes.outcome in
        record {
          contents = contents k rows items bytes;
          readable = reads.readable;
          same = reads.same;
          holds = same ∙ sym same_task;
          outcome = comes.outcome;
          ruled = subst₂ Ruled (sym same_task) same-pounds (subst From opens.none_kept comes.ruled);
          right = subst₂ Fits (sym same_task) same-pounds comes.right;
          written = says_printed r order comes.outcome comes.said;
        }
