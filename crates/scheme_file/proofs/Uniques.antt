-- A file has one reading: bytes have one list of records, and records one contents.
use Rattle.std.proofs.Common.{◌≡◌, ℕ, ◌≤◌, List, [], ◌∷◌, ◌++◌, map, length, get_or, take, drop, sym, refl, ap, ◌∙◌, subst, ap₂, inl, inr, arith}
use Rattle.std.specs.List.{AllByRecursion}
use Rattle.std.proofs.lemmas.List.{append_assoc, append-nil, drop_at}
use Rattle.sets.specs.declared.Set.{Set}
use Rattle.sets.specs.Member.{none}
use Rattle.scheme.specs.Task.{Task}
use Rattle.scheme_file.specs.declared.causes.Fault.{Fault}
use Rattle.scheme_file.specs.declared.kinds.Kind.{Kind}
use Rattle.scheme_file.specs.declared.kinds.Kind.TheVariants.{Head, Item, Work, Standing, Wanted, End}
use Rattle.scheme_file.specs.declared.places.Place.{Place}
use Rattle.scheme_file.specs.declared.stages.Stage.TheVariants.{Closed}
use Rattle.scheme_file.specs.declared.rows.ItemRow.{ItemRow}
use Rattle.scheme_file.specs.declared.rows.WorkRow.{WorkRow}
use Rattle.scheme_file.specs.Bytes.{le, value}
use Rattle.scheme_file.specs.Contents.{Giving, Readable, Reads, SoundEntry, contents}
use Rattle.scheme_file.specs.Faults.{Amiss, Breaks}
use Rattle.scheme_file.specs.Format.{Contents, Entry, Named, Record, bytes_of, encode, file, item_record, mark, records, set_record, work_record}
use Rattle.scheme_file.specs.Kinds.{highest, lowest}
use Rattle.scheme_file.specs.Rules.{Goes, Kept, after, body_in, code, rules, start}
use Rattle.scheme_file.proofs.Comings.{same_code}
use Rattle.scheme_file.proofs.Digits.{value_le}
use Rattle.scheme_file.proofs.Fills.{short_body}
use Rattle.scheme_file.proofs.Keeping.{body_encode, code_encode, goes_records, kept_rules, kept_unbroken}

-- ---- bytes have one list of records

pub goes_short : (rs : List Record) (p q : Place) → Goes p rs q → AllByRecursion (λ r. length r.body ≤ 60) rs
goes_short [] p q e = tt
goes_short (r ∷ rs) p q good =
    (short_body r.kind (length r.body) good.0.0, goes_short rs (after p r.kind r.body) q good.1)

-- bytes begin with one record
pub encode_same : (r q : Record) (s t : List ℕ) → length r.body ≤ 60 → length q.body ≤ 60 → encode r ++ s ≡ encode q ++ t → (r ≡ q) × (s ≡ t)
encode_same r q s t r-short q-short e =
    let kinds : r.kind ≡ q.kind = same_code r.kind q.kind (sym (code_encode r s) ∙ ap code e ∙ code_encode q t) in
    let bodies : r.body ≡ q.body = sym (body_encode r s r-short) ∙ ap body_in e ∙ body_encode q t q-short in
    let rest : s ≡ t =
    sym (drop_at r.body s (length r.body) refl) ∙ ap (λ l. drop (length r.body) (drop 4 l)) e
    ∙ drop_at q.body t (length r.body) (ap length (sym bodies))
    in
    (ap₂ (λ k b. record { kind = k; body = b }) kinds bodies, rest)

-- records among the first of a list's bytes are the first of the list
prefix : (rs before : List Record) (rest : List ℕ) → AllByRecursion (λ r. length r.body ≤ 60) rs → AllByRecursion (λ r. length r.body ≤ 60) before →
    bytes_of rs ≡ bytes_of before ++ rest → (left : List Record) × (rs ≡ before ++ left) × (rest ≡ bytes_of left)
prefix rs [] rest s b e = (rs, refl, sym e)
prefix [] (q ∷ before) rest s b e = absurd (omega (arith, ap length e))
prefix (r ∷ rs) (q ∷ before) rest s b e =
    let same = encode_same r q (bytes_of rs) (bytes_of before ++ rest) s.0 b.0 (e ∙ append_assoc (encode q) (bytes_of before) rest) in
    let d = prefix rs before rest s.1 b.1 same.1 in
    (d.0, ap₂ ◌∷◌ same.0 d.1, d.2)

-- ---- a file has no fault of its bytes

pub goes_split : (xs ys : List Record) (p m q : Place) → Goes p xs m → Goes p (xs ++ ys) q → Goes m ys q
goes_split [] ys p m q e good = subst (λ (x : Place). Goes x ys q) e good
goes_split (x ∷ xs) ys p m q first good = goes_split xs ys (after p x.kind x.body) m q first.1 good.1

fault_none : (left : List Record) (p q : Place) (rest : List ℕ) (f : Fault) → Goes p left q → q.stage ≡ Closed → rest ≡ bytes_of left →
    Breaks p rest f.cause → ⊥
fault_none [] p q rest f e closed same (inl b) = b.0 (ap (λ (x : Place). x.stage) e ∙ closed)
fault_none [] p q rest f e closed same (inr b) = omega (arith, ap length same, b.1)
fault_none (r ∷ left) p q rest f good closed same (inl b) =
    let kept = kept_rules p r (bytes_of left) (short_body r.kind (length r.body) good.0.0) good.0 in
    kept_unbroken (rules p rest) f.cause (subst (λ (x : List ℕ). Kept (rules p x)) (sym same) kept) b.1
fault_none (r ∷ left) p q rest f good closed same (inr b) = omega (arith, ap lowest b.0, ap highest b.0, good.0.1.0)

-- good records up to the end record leave no fault
pub whole_faultless : (bytes : List ℕ) (rs : List Record) (q : Place) (f : Fault) → Goes start rs q → q.stage ≡ Closed → bytes ≡ bytes_of rs →
    Amiss bytes f → ⊥
whole_faultless bytes rs q f good closed e a =
    let d = prefix rs a.before a.rest (goes_short rs start q good) (goes_short a.before start a.place a.good) (sym e ∙ a.split) in
    fault_none d.0 a.place q a.rest f
    (goes_split a.before d.0 start a.place q a.good (subst (λ (x : List Record). Goes start x q) d.1 good)) closed d.2 a.why

pub file_faultless : (bytes : List ℕ) (c : Contents) (f : Fault) → Readable c → bytes ≡ file c → Amiss bytes f → ⊥
file_faultless bytes c f r e a = let g = goes_records c r in whole_faultless bytes (records c) g.0 f g.1 g.2 e a

none_left : (rs : List Record) → [] ≡ bytes_of rs → rs ≡ []
none_left [] e = refl
none_left (r ∷ rs) e = absurd (omega (arith, ap length e))

-- good records have bytes of their own
pub same_records : (rs qs : List Record) (p q : Place) → Goes start rs p → Goes start qs q → bytes_of rs ≡ bytes_of qs → rs ≡ qs
same_records rs qs p q g h e =
    let d = prefix rs qs [] (goes_short rs start p g) (goes_short qs start q h) (e ∙ sym (append-nil (bytes_of qs))) in
    d.1 ∙ ap (λ l. qs ++ l) (none_left d.0 d.2) ∙ append-nil qs

-- ---- records have one contents

abbrev Parts : Type 0
Parts = List Named × List Entry × List Set

abbrev add : Kind → List ℕ → Parts → Parts
add Head body d = d
add Item body d = (record { number = get_or body 0 0; name = drop 1 body } ∷ d.0, d.1, d.2)
add Work body d = (
  d.0,
  record {
    work = record { needs = record { bits = value (take 8 body) }; gives = record { bits = value (take 8 (drop 8 body)) } };
    pounds = value (take 2 (drop 16 body));
    hours = value (take 2 (drop 18 body));
    name = drop 20 body;
  } ∷ d.1,
  d.2,
)
add Standing body d = (d.0, d.1, record { bits = value body } ∷ d.2)
add Wanted body d = (d.0, d.1, record { bits = value body } ∷ d.2)
add End body d = d

abbrev parts_of : List Record → Parts
parts_of [] = ([], [], [])
parts_of (r ∷ rs) = add r.kind r.body (parts_of rs)

items_back : (xs : List Named) (rest : List Record) →
    parts_of (map item_record xs ++ rest) ≡ (xs ++ (parts_of rest).0, (parts_of rest).1, (parts_of rest).2)
items_back [] rest = refl
items_back (x ∷ xs) rest = ap (λ (d : Parts). (x ∷ d.0, d.1, d.2)) (items_back xs rest)

entry_back : (e : Entry) (d : Parts) → SoundEntry e → Giving e → add Work (work_record e).body d ≡ (d.0, e ∷ d.1, d.2)
entry_back e d s g =
    let x = e.work.needs.bits in
    let y = e.work.gives.bits in
    let Made : ℕ → ℕ → ℕ → ℕ → Parts = λ a b p h.
    (d.0, record { work = record { needs = record { bits = a }; gives = record { bits = b } }; pounds = p; hours = h; name = e.name } ∷ d.1, d.2)
    in
    ap (λ a. Made a (value (le 8 y)) (value (le 2 e.pounds)) (value (le 2 e.hours))) (value_le 8 x g.needs)
    ∙ ap (λ b. Made x b (value (le 2 e.pounds)) (value (le 2 e.hours))) (value_le 8 y g.gives)
    ∙ ap (λ p. Made x y p (value (le 2 e.hours))) (value_le 2 e.pounds s.pounds)
    ∙ ap (λ h. Made x y e.pounds h) (value_le 2 e.hours s.hours)

works_back : (es : List Entry) (rest : List Record) → AllByRecursion SoundEntry es → AllByRecursion Giving es →
    parts_of (map work_record es ++ rest) ≡ ((parts_of rest).0, es ++ (parts_of rest).1, (parts_of rest).2)
works_back [] rest s g = refl
works_back (e ∷ es) rest s g =
    ap (add Work (work_record e).body) (works_back es rest s.1 g.1) ∙ entry_back e _ s.0 g.0

contents_of : Parts → Contents
contents_of d = record { items = d.0; works = d.1; standing = get_or d.2 0 none; wanted = get_or d.2 1 none }

contents_back : (c : Contents) → Readable c → contents_of (parts_of (records c)) ≡ c
unfolding contents_of
contents_back c r =
    let last = set_record Standing c.standing ∷ set_record Wanted c.wanted ∷ mark End ∷ [] in
    let x = c.standing.bits in
    let y = c.wanted.bits in
    let Made : List Named → List Entry → ℕ → ℕ → Contents = λ i w a b.
    record { items = i; works = w; standing = record { bits = a }; wanted = record { bits = b } }
    in
    ap contents_of (items_back c.items (map work_record c.works ++ last))
    ∙ ap (λ (d : Parts). contents_of (c.items ++ d.0, d.1, d.2)) (works_back c.works last r.sound.works r.giving)
    ∙ ap₂ (λ i w. Made i w (value (le 8 x)) (value (le 8 y))) (append-nil c.items) (append-nil c.works)
    ∙ ap₂ (Made c.items c.works) (value_le 8 x r.standing) (value_le 8 y r.wanted)

pub one_reading : (c d : Contents) → Readable c → Readable d → file c ≡ file d → c ≡ d
one_reading c d rc rd e =
    let gc = goes_records c rc in
    let gd = goes_records d rd in
    let all = same_records (records c) (records d) gc.0 gd.0 gc.1 gd.1 e in
    sym (contents_back c rc) ∙ ap (λ rs. contents_of (parts_of rs)) all ∙ contents_back d rd

pub reads_only : {bytes : List ℕ} {k : Task} {rows : List WorkRow} {items : List ItemRow} → Reads bytes k rows items →
    (c : Contents) → Readable c → bytes ≡ file c → c ≡ contents k rows items bytes
reads_only {bytes} {k} {rows} {items} r c readable e =
    one_reading c (contents k rows items bytes) readable r.readable (sym e ∙ r.same)
