-- The rules that a file keeps, record by record, in the order in which they are tested.
use Rattle.std.specs.Prelude.{◌≡◌, ℕ, ◌+◌, ◌-◌, ◌<◌, ◌≤◌, true, ◌⊎◌, List, [], ◌∷◌, ◌++◌, length, take, drop, is_some, Some, None, Option, Result, MatchResult, ◌≢◌, slice_index}
use Rattle.std.specs.List.{AllByRecursion}
use Rattle.scheme.specs.declared.refusals.Refusal.TheVariants.{ItemTooHigh, GivesNothing, SchemeFull}
use Rattle.scheme_file.specs.declared.kinds.Kind.{Kind}
use Rattle.scheme_file.specs.declared.kinds.Kind.TheVariants.{Head, Item, Work, Standing, Wanted, End}
use Rattle.scheme_file.specs.declared.stages.Stage.{Stage}
use Rattle.scheme_file.specs.declared.stages.Stage.TheVariants.{Opening}
use Rattle.scheme_file.specs.declared.places.Place.{Place}
use Rattle.scheme_file.specs.declared.causes.Cause.{Cause}
use Rattle.scheme_file.specs.declared.causes.Cause.TheVariants.{Refused, CutShort, WrongLength, UnknownKind, OutOfOrder, NameByte}
use Rattle.scheme_file.specs.Bytes.{value}
use Rattle.scheme_file.specs.Kinds.{named, Allowed, Next, stage_after}
use Rattle.scheme_file.specs.Format.{Record}

-- ---- lists of rules

-- what must hold, and the cause to name where it does not
pub record Rule : Type 1 where
  pub cause : Cause
  pub holds : Type 0

-- every rule holds
abbrev pub Kept : List Rule → Type 0
Kept [] = Unit {0}
Kept (r ∷ rules) = r.holds × Kept rules

-- c is the cause of the first rule that does not hold
abbrev pub Broken : List Rule → Cause → Type 0
Broken [] c = ⊥
Broken (r ∷ rules) c = ((r.holds → ⊥) × (c ≡ r.cause)) ⊎ (r.holds × Broken rules c)

-- A call answers by rules: with what P holds of where all are kept, else with the cause of the first that is broken.
abbrev pub ByRules : {A : Type 0} → List Rule → Result A Cause → (A → Type 0) → Type 0
ByRules rules r P = MatchResult r (λ x. Kept rules × P x) (λ c. Broken rules c)

abbrev pub rule : Cause → Type 0 → Rule
rule c holds = record { cause = c; holds = holds }

-- ---- the rules of a record

-- the bytes of a name
abbrev pub Text : List ℕ → Type 0
Text name = AllByRecursion (λ b. (32 ≤ b) × (b ≤ 126)) name

abbrev pub name_in : Kind → List ℕ → List ℕ
name_in Head body = []
name_in Item body = drop 1 body
name_in Work body = drop 20 body
name_in Standing body = []
name_in Wanted body = []
name_in End body = []

-- what is asked of items alone, and of works alone
abbrev pub OfItem : Kind → Type 0 → Type 0
OfItem Head P = Unit {0}
OfItem Item P = P
OfItem Work P = Unit {0}
OfItem Standing P = Unit {0}
OfItem Wanted P = Unit {0}
OfItem End P = Unit {0}

abbrev pub OfWork : Kind → Type 0 → Type 0
OfWork Head P = Unit {0}
OfWork Item P = Unit {0}
OfWork Work P = P
OfWork Standing P = Unit {0}
OfWork Wanted P = Unit {0}
OfWork End P = Unit {0}

-- the rules of what a body tells: an item's number above those before, the bytes of a name, and what the scheme refuses
abbrev pub field_rules : Place → Kind → List ℕ → List Rule
field_rules p k body =
    rule OutOfOrder (OfItem k (p.least ≤ slice_index body 0))
    ∷ rule NameByte (Text (name_in k body))
    ∷ rule (Refused ItemTooHigh) (OfItem k (slice_index body 0 ≤ 63))
    ∷ rule (Refused GivesNothing) (OfWork k (value (take 8 (drop 8 body)) ≢ 0))
    ∷ rule (Refused SchemeFull) (OfWork k (p.works < 64))
    ∷ []

abbrev pub record_rules : Place → Kind → List ℕ → List Rule
record_rules p k body =
    rule WrongLength (Allowed k (2 + length body)) ∷ rule OutOfOrder (Next p.stage k) ∷ field_rules p k body

-- ---- the rules at a place in the bytes: `rest` are those from the record's start on

-- the length that the first two bytes tell
abbrev pub size : List ℕ → ℕ
size rest = value (take 2 rest)

abbrev pub Complete : List ℕ → Type 0
Complete rest = (2 ≤ length rest) × (2 + size rest ≤ length rest)

abbrev pub code : List ℕ → ℕ
code rest = value (take 2 (drop 2 rest))

abbrev pub body_in : List ℕ → List ℕ
body_in rest = take (size rest - 2) (drop 4 rest)

abbrev pub frame_rules : List ℕ → List Rule
frame_rules rest =
    rule CutShort (Complete rest) ∷ rule UnknownKind ((2 ≤ size rest) × (is_some (named (code rest)) ≡ true)) ∷ []

abbrev pub rules_for : Place → Option Kind → List ℕ → List Rule
rules_for p None body = []
rules_for p (Some k) body = record_rules p k body

abbrev pub rules : Place → List ℕ → List Rule
rules p rest = frame_rules rest ++ rules_for p (named (code rest)) (body_in rest)

-- ---- one record after another

abbrev pub start : Place
start = record { stage = Opening; least = 0; items = 0; works = 0 }

-- the place at another stage, and the place after a record
abbrev pub moved : Place → Stage → Place
moved p s = record { stage = s; least = p.least; items = p.items; works = p.works }

abbrev pub after : Place → Kind → List ℕ → Place
after p Head body = moved p (stage_after Head)
after p Item body = record { stage = stage_after Item; least = slice_index body 0 + 1; items = p.items + 1; works = p.works }
after p Work body = record { stage = stage_after Work; least = p.least; items = p.items; works = p.works + 1 }
after p Standing body = moved p (stage_after Standing)
after p Wanted body = moved p (stage_after Wanted)
after p End body = moved p (stage_after End)

-- from p records go on to q, and each keeps the rules in its place
abbrev pub Goes : Place → List Record → Place → Type 0
Goes p [] q = p ≡ q
Goes p (r ∷ rs) q = Kept (record_rules p r.kind r.body) × Goes (after p r.kind r.body) rs q
