use Rattle.std.proofs.Common.{ℕ, ◌∙◌, take, sym, subst, inl, inr}
use native.Mathlib.Nat.{sub-zero}
use Rattle.scheme.specs.Task.{task_of}
use Rattle.scheme_file.specs.declared.rows.Counts.{Counts}
use Rattle.scheme_file.specs.Contents.{Reads, contents}
use Rattle.scheme_file.specs.Format.{Contents}
use Rattle.planner.specs.Parts.{scheme_of}
use Rattle.report.specs.Refused.{refused_text}
use Rattle.report.proofs.Alone.{answered_only, refused_only}
use Rattle.report.proofs.reporting.report_cheapest.Goals as goal

pub report_scheme-requires : goal.report_scheme-requires
report_scheme-requires g c =
    let n = c.in-Ok.counts in
    let read = c.in-Ok.ensures.answer in
    let items = take n.items c.read.new.items in
    let Held : ℕ → Type 0 = λ count. Reads c.args.bytes.now (task_of (scheme_of c.read.new.self)) (take count c.read.new.works) items in
    record { reads = (items, subst Held (sym (sub-zero n.works)) read.0.reads); opens = read.1 }

pub returns-in-Ok : goal.returns-in-Ok
returns-in-Ok g c =
    let read = c.in-Ok.ensures in
    let told = c.report_scheme.ensures in
    let filled : Counts → Contents = λ n.
    contents (task_of (scheme_of c.read.new.self)) (take n.works c.read.new.works) (take n.items c.read.new.items) c.args.bytes.now
    in
    record {
      text = told.text;
      told = inl told.answered;
      only = answered_only g.C.Chooser.room c.args.bytes.now filled c.in-Ok.counts read.only read.sole told.answered;
      published = told.published;
    }

pub returns-in-Err : goal.returns-in-Err
returns-in-Err g c =
    let reading = c.in-Err.ensures in
    let read = reading.answer in
    let filled : Counts → Contents = λ n.
    contents (task_of (scheme_of c.read.new.self)) (take n.works c.read.new.works) (take n.items c.read.new.items) c.args.bytes.now
    in
    record {
      text = refused_text c.from.result;
      told = inr (record { fault = c.in-Err.fault; faulty = read.0; written = c.from.ensures }, read.1, read.2);
      only = λ other p. refused_only g.C.Chooser.room c.args.bytes.now filled c.in-Err.fault reading.short reading.sole other p ∙ sym c.from.ensures;
      published = c.publish.ensures;
    }
