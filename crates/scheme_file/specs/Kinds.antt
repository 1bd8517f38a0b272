-- The kinds of record: their codes, their lengths and their order.
use Rattle.std.specs.Prelude.{◌≡◌, ℕ, ◌≤◌, cond, Some, None, Option, ◌==◌}
use Rattle.scheme_file.specs.declared.kinds.Kind.{Kind}
use Rattle.scheme_file.specs.declared.kinds.Kind.TheVariants.{Head, Item, Work, Standing, Wanted, End}
use Rattle.scheme_file.specs.declared.stages.Stage.{Stage}
use Rattle.scheme_file.specs.declared.stages.Stage.TheVariants.{Opening, Items, Works, Wants, Closing, Closed}

abbrev pub code_of : Kind → ℕ
code_of Head = 1
code_of Item = 2
code_of Work = 3
code_of Standing = 4
code_of Wanted = 5
code_of End = 6

-- the kind of a code
abbrev pub named : ℕ → Option Kind
named n =
    cond (n == 1) (Some Head) (cond (n == 2) (Some Item) (cond (n == 3) (Some Work)
    (cond (n == 4) (Some Standing) (cond (n == 5) (Some Wanted) (cond (n == 6) (Some End) None)))))

-- the lengths that a record of a kind can have
abbrev pub Allowed : Kind → ℕ → Type 0
Allowed Head n = n ≡ 2
Allowed Item n = (4 ≤ n) × (n ≤ 43)
Allowed Work n = (23 ≤ n) × (n ≤ 62)
Allowed Standing n = n ≡ 10
Allowed Wanted n = n ≡ 10
Allowed End n = n ≡ 2

-- the codes that can come next are those from the lowest to the highest
abbrev pub lowest : Stage → ℕ
lowest Opening = 1
lowest Items = 2
lowest Works = 3
lowest Wants = 5
lowest Closing = 6
lowest Closed = 7

abbrev pub highest : Stage → ℕ
highest Opening = 1
highest Items = 4
highest Works = 4
highest Wants = 5
highest Closing = 6
highest Closed = 6

abbrev pub Next : Stage → Kind → Type 0
Next s k = (lowest s ≤ code_of k) × (code_of k ≤ highest s)

-- the stage after a record of a kind
abbrev pub stage_after : Kind → Stage
stage_after Head = Items
stage_after Item = Items
stage_after Work = Works
stage_after Standing = Wants
stage_after Wanted = Closing
stage_after End = Closed
