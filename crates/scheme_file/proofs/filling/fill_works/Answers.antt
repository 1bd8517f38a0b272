use Rattle.std.proofs.Common.{◌≡◌, ℕ, ◌+◌, ◌<◌, ◌≤◌, List, [], ◌∷◌, ◌++◌, length, take, set, sym, ap, ◌∙◌, subst, arith}
use Rattle.std.proofs.lemmas.List.{take_all, take_more_set}
use Rattle.scheme.specs.declared.Work as scheme
use Rattle.scheme.specs.Edits.{with_works}
use Rattle.scheme.specs.Task.{Task, task_of}
use Rattle.scheme_file.specs.declared.kinds.Kind.TheVariants.{Work}
use Rattle.scheme_file.specs.declared.rows.WorkRow.{WorkRow}
use Rattle.scheme_file.specs.Passes.{Ahead, Worked}
use Rattle.scheme_file.specs.Rules.{after}
use Rattle.scheme_file.proofs.Fills.{entered, room_here, size_here, work_at, work_step, works_end}
use Rattle.scheme_file.proofs.filling.fill_works.Goals as goal

pub work_at-requires : goal.work_at-requires
work_at-requires c =
    let n = work_at c.loop-row.rows c.args.from c.loop-row.row-index c.loop-row.at (length c.args.rows.now) (omega arith) c.loop-row-test.true c.loop-row.invariant.0 in
    omega (arith, room_here n, n.kept.0)

pub work_row-requires : goal.work_row-requires
work_row-requires c =
    let n = work_at c.loop-row.rows c.args.from c.loop-row.row-index c.loop-row.at (length c.args.rows.now) (omega arith) c.loop-row-test.true c.loop-row.invariant.0 in
    (omega (arith, room_here n, n.kept.0), omega (arith, size_here n, n.kept.0))

pub overflow_add-at : goal.overflow_add-at
overflow_add-at c =
    let n = work_at c.loop-row.rows c.args.from c.loop-row.row-index c.loop-row.at (length c.args.rows.now) (omega arith) c.loop-row-test.true c.loop-row.invariant.0 in
    omega (arith, size_here n, room_here n, c.work_row.ensures.len, c.work_row.ensures.start, c.well_formed)

pub loop-row-preserved : goal.loop-row-preserved
loop-row-preserved c =
    let made = c.work_row.ensures in
    let row = c.work_row.result in
    let w = c.work_at.result in
    let bytes = c.args.bytes.now in
    let i = c.loop-row.row-index in
    let rows = c.loop-row.rows in
    let works = (task_of c.loop-row.scheme).works in
    let t = c.loop-row.invariant.0 in
    let n = work_at rows c.args.from i c.loop-row.at (length c.args.rows.now) (omega arith) c.loop-row-test.true t in
    let at' = row.name.at + row.name.len in
    let e : at' ≡ c.loop-row.at + (4 + length n.body) = omega (arith, size_here n, made.len, made.start) in
    let q = after t.0 Work n.body in
    let step = work_step w row n t.4 c.work_at.ensures made at' e in
    let few : length works < 64 = omega (arith, t.4.level, t.4.count, n.kept.1.1.1.1.1.1.0) in
    let k : task_of c.enter.new.self ≡ with_works (task_of c.loop-row.scheme) (works ++ w ∷ []) = entered _ w _ _ c.enter.ensures step.0 few in
    let grown : works ++ w ∷ [] ≡ (task_of c.enter.new.self).works = sym (ap (λ (x : Task). x.works) k) in
    let A : ℕ → Type 0 = λ x. Ahead bytes x q t.1 in
    let R : List WorkRow → Type 0 = λ x. Worked bytes c.args.from (works ++ w ∷ []) x at' q in
    let W : List scheme.Work → Type 0 = λ x. Worked bytes c.args.from x (take (i + 1) (set rows i row)) at' q in (
      (
        q,
        t.1,
        subst A (sym e) n.ahead,
        record { low = omega arith; high = omega arith },
        subst W grown (subst R (sym (take_more_set rows i row (omega arith))) step.1),
        t.5,
        t.6,
      ),
      k ∙ ap (λ (x : Task). with_works x (works ++ w ∷ [])) c.loop-row.invariant.1 ∙ ap (with_works (task_of c.args.scheme.now)) grown,
    )

pub returns-clause-room : goal.returns-clause-room
returns-clause-room c =
    let all : length c.loop-row.rows ≤ c.loop-row.row-index = omega arith in
    let filled = rw take_all at c.loop-row.invariant.0 in
    (works_end c.loop-row.rows c.args.from c.loop-row.at (length c.args.rows.now) (omega arith) filled).room
