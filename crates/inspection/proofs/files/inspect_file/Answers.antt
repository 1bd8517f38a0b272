use Rattle.std.proofs.Common.{ℕ, ◌-◌, take, vec_items, sym, subst₂, inl}
use native.Mathlib.Nat.{sub-zero}
use Rattle.std.proofs.lemmas.Result.{IfOk-weaker}
use Rattle.scheme.specs.Task.{task_of}
use Rattle.scheme_file.specs.Contents.{Reads}
use Rattle.inspection.specs.Files.{work_in, item_in, Inspected}
use Rattle.inspection.specs.Record.{Recorded}
use Rattle.inspection.proofs.files.inspect_file.Goals as goal

pub returns-in-Ok : goal.returns-in-Ok
returns-in-Ok c =
    let bytes = c.args.bytes.now in
    let k = task_of c.read.new.scheme in
    let n = c.in-Ok.counts in
    let rows = take (n.works - 0) c.read.new.works in
    let items = take (n.items - 0) c.read.new.items in
    let Held : ℕ → ℕ → Type 0 = λ w i. Reads bytes k (take w c.read.new.works) (take i c.read.new.items) in
    IfOk-weaker c.record.result (λ v. Recorded k (work_in bytes rows) (item_in bytes items) (vec_items v)) (λ v. Inspected bytes 64 64 (vec_items v))
    (λ v recorded. inl (record {
      task = k;
      rows = rows;
      items = items;
      reads = subst₂ Held (sym (sub-zero n.works)) (sym (sub-zero n.items)) c.in-Ok.ensures.answer.reads;
      recorded = recorded;
    }))
    c.record.ensures
