-- Files as a whole: their first and last records, and their size.
use Rattle.std.proofs.Common.{◌≡◌, ℕ, ◌+◌, ◌*◌, ◌<◌, ◌≤◌, ◌⊎◌, List, [], ◌∷◌, ◌++◌, map, length, drop, sym, refl, ap, ◌∙◌, subst, ap₂, inl, inr, ⊎_elim, mul-suc, arith}
use Rattle.std.specs.List.{AllByRecursion}
use Rattle.std.proofs.ByRecursion.{All-map, All-weaker}
use Rattle.std.proofs.lemmas.List.{append_assoc, length-append, length-map, length_push}
use Rattle.scheme.specs.Task.{Task}
use Rattle.scheme_file.specs.declared.kinds.Kind.{Kind}
use Rattle.scheme_file.specs.declared.kinds.Kind.TheVariants.{Head, Item, Work, Standing, Wanted, End}
use Rattle.scheme_file.specs.declared.causes.Cause.TheVariants.{Rows}
use Rattle.scheme_file.specs.declared.causes.Fault.{Fault}
use Rattle.scheme_file.specs.declared.stages.Stage.{Stage}
use Rattle.scheme_file.specs.declared.stages.Stage.TheVariants.{Opening, Items, Works, Wants, Closing, Closed}
use Rattle.scheme_file.specs.declared.places.Place.{Place}
use Rattle.scheme_file.specs.declared.rows.ItemRow.{ItemRow}
use Rattle.scheme_file.specs.declared.rows.WorkRow.{WorkRow}
use Rattle.scheme_file.specs.Contents.{Reads, Rises, Sound, SoundEntry, SoundItem, contents}
use Rattle.scheme_file.specs.Faults.{At, Short}
use Rattle.scheme_file.specs.Format.{Contents, Named, Record, bytes_of, encode, file, item_record, mark, set_record, work_record}
use Rattle.scheme_file.specs.Kinds.{Next, lowest}
use Rattle.scheme_file.specs.Passes.{Ahead, Itemed, Whole}
use Rattle.scheme_file.specs.Rules.{Goes, Kept, after, moved, record_rules, start}
use Rattle.scheme_file.proofs.Comings.{only_comes}
use Rattle.scheme_file.proofs.Fills.{empty}
use Rattle.scheme_file.proofs.Goings.{bytes_append, bytes_more}

-- ---- the size of a file

size_bound : (b : ℕ) (rs : List Record) → AllByRecursion (λ r. length r.body + 4 ≤ b) rs → length (bytes_of rs) ≤ b * length rs
size_bound b [] h = omega arith
size_bound b (r ∷ rs) h =
    omega (arith, size_bound b rs h.1, h.0, mul-suc b (length rs), length-append r.body (bytes_of rs))

rises_few : (n : ℕ) (xs : List Named) → n ≤ 64 → Rises n xs → AllByRecursion SoundItem xs → n + length xs ≤ 64
rises_few n [] small rise sound = omega arith
rises_few n (x ∷ xs) small rise sound =
    omega (arith, rises_few (x.number + 1) xs (omega (arith, sound.0.low)) rise.1 sound.1, rise.0)

pub file_bound : (c : Contents) → Sound c → length (file c) ≤ 7008
file_bound c sound =
    let items = map item_record c.items in
    let works = map work_record c.works in
    let last = set_record Standing c.standing ∷ set_record Wanted c.wanted ∷ mark End ∷ [] in
    let i = size_bound 45 items (All-map (λ r. length r.body + 4 ≤ 45) item_record c.items
    (All-weaker SoundItem (λ x. length (item_record x).body + 4 ≤ 45) (λ x s. omega (arith, s.name.short)) c.items sound.items))
    in
    let w = size_bound 64 works (All-map (λ r. length r.body + 4 ≤ 64) work_record c.works
    (All-weaker SoundEntry (λ x. length (work_record x).body + 4 ≤ 64) (λ x s. omega (arith, s.name.short)) c.works sound.works))
    in
    let few = rises_few 0 c.items (omega arith) sound.rising sound.items in
    omega (
      arith,
      i,
      w,
      few,
      sound.few,
      length-map c.items item_record,
      length-map c.works work_record,
      ap length (bytes_append items (works ++ last)),
      ap length (bytes_append works last),
      length-append (bytes_of items) (bytes_of (works ++ last)),
      length-append (bytes_of works) (bytes_of last),
    )

pub reads_bound : {bytes : List ℕ} {k : Task} {rows : List WorkRow} {items : List ItemRow} → Reads bytes k rows items → length bytes ≤ 7008
reads_bound {bytes} {k} {rows} {items} r =
    let c = contents k rows items bytes in
    omega (arith, ap length {y = file c} r.same, file_bound c r.readable.sound)

-- ---- the first and the last record

-- a file begins with its head
pub whole_itemed : {bytes : List ℕ} {p : Place} {n : ℕ} → Whole bytes p n → Itemed bytes [] 4 p.items p.works
whole_itemed {bytes} {p} w =
    let a : Ahead bytes 0 start p = record { left = w.all; good = w.good; closed = w.closed; same = w.same } in
    let h = only_comes Head a (λ e. omega (arith, ap lowest e)) (omega arith) (omega arith) in
    let none : h.body ≡ [] = empty h.body h.kept.0 in
    let four : 0 + (4 + length h.body) ≡ 4 = omega (arith, h.kept.0) in
    let A : ℕ → Type 0 = λ x. Ahead bytes x (moved start Items) p in (
      moved start Items,
      p,
      subst A four h.ahead,
      record { low = omega arith; high = omega arith },
      record {
        front = h.same ∙ ap₂ (λ b i. encode (record { kind = Head; body = b }) ++ drop i bytes) none four;
        rising = tt;
        least = refl;
        sound = tt;
        lie = tt;
        items = refl;
        works = refl;
      },
      refl,
      refl,
    )

closed_or_not : (s : Stage) → (s ≡ Closed) ⊎ (s ≡ Closed → ⊥)
closed_or_not Opening = inr (λ e. omega (arith, ap lowest e))
closed_or_not Items = inr (λ e. omega (arith, ap lowest e))
closed_or_not Works = inr (λ e. omega (arith, ap lowest e))
closed_or_not Wants = inr (λ e. omega (arith, ap lowest e))
closed_or_not Closing = inr (λ e. omega (arith, ap lowest e))
closed_or_not Closed = inl refl

before_end : (s : Stage) → Next s End → s ≡ Closing
before_end Opening h = absurd (omega arith)
before_end Items h = absurd (omega arith)
before_end Works h = absurd (omega arith)
before_end Wants h = absurd (omega arith)
before_end Closing h = refl
before_end Closed h = absurd (omega arith)

-- the records before the end record, and their place
record Ended (p : Place) (rs : List Record) (q : Place) : Type 0 where
  pub before : List Record
  pub place : Place
  pub good : Goes p before place
  pub closing : place.stage ≡ Closing
  pub works : place.works ≡ q.works
  pub items : place.items ≡ q.items
  pub all : rs ≡ before ++ mark End ∷ []

end_record : (p q : Place) (k : Kind) (body : List ℕ) (rs : List Record) → Kept (record_rules p k body) → (after p k body).stage ≡ Closed →
    Goes (after p k body) rs q → Ended p (record { kind = k; body = body } ∷ rs) q
end_record p q Head body rs kept closed on = absurd (omega (arith, ap lowest closed))
end_record p q Item body rs kept closed on = absurd (omega (arith, ap lowest closed))
end_record p q Work body rs kept closed on = absurd (omega (arith, ap lowest closed))
end_record p q Standing body rs kept closed on = absurd (omega (arith, ap lowest closed))
end_record p q Wanted body rs kept closed on = absurd (omega (arith, ap lowest closed))
end_record p q End body (r ∷ rs) kept closed on = absurd (omega (arith, on.0.1.0))
end_record p q End body [] kept closed on = record {
  before = [];
  place = p;
  good = refl;
  closing = before_end p.stage kept.1.0;
  works = ap (λ (s : Place). s.works) on;
  items = ap (λ (s : Place). s.items) on;
  all = ap (λ b. record { kind = End; body = b } ∷ []) (empty body kept.0);
}

ended : (rs : List Record) (p q : Place) → Goes p rs q → q.stage ≡ Closed → (p.stage ≡ Closed → ⊥) → Ended p rs q
ended [] p q e closed open-yet = absurd (open-yet (ap (λ (s : Place). s.stage) e ∙ closed))
ended (r ∷ rs) p q good closed open-yet =
    ⊎_elim (λ e. end_record p q r.kind r.body rs good.0 e good.1)
    (λ still.
    let d = ended rs (after p r.kind r.body) q good.1 closed still in
    record {
      before = r ∷ d.before;
      place = d.place;
      good = (good.0, d.good);
      closing = d.closing;
      works = d.works;
      items = d.items;
      all = ap (λ l. r ∷ l) d.all;
    })
    (closed_or_not (after p r.kind r.body).stage)

-- a file ends with its end record, at which short rows are told
pub whole_short : {bytes : List ℕ} {p : Place} {n : ℕ} → Whole bytes p n → (works items : ℕ) → (works < p.works) ⊎ (items < p.items) → (f : Fault) →
    f.index + 1 ≡ n → f.offset + 4 ≡ length bytes → f.cause ≡ Rows → At (Short works items) bytes f
whole_short {bytes} {p} {n} w works items short f number offset cause =
    let d = ended w.all start p w.good w.closed (λ e. omega (arith, ap lowest e)) in
    let split : bytes ≡ bytes_of d.before ++ encode (mark End) = w.same ∙ ap bytes_of d.all ∙ bytes_more d.before (mark End) in
    record {
      before = d.before;
      place = d.place;
      rest = encode (mark End);
      good = d.good;
      split = split;
      index = omega (arith, w.number, ap length d.all, length_push d.before (mark End));
      offset = omega (arith, ap length split, length-append (bytes_of d.before) (encode (mark End)));
      why = (d.closing, refl, ⊎_elim (λ h. inl (omega (arith, d.works))) (λ h. inr (omega (arith, d.items))) short, cause);
    }

pub whole_some : {bytes : List ℕ} {p : Place} {n : ℕ} → Whole bytes p n → (1 ≤ n) × (4 ≤ length bytes)
whole_some {bytes} {p} w =
    let d = ended w.all start p w.good w.closed (λ e. omega (arith, ap lowest e)) in
    let split : bytes ≡ bytes_of d.before ++ encode (mark End) = w.same ∙ ap bytes_of d.all ∙ bytes_more d.before (mark End) in (
      omega (arith, w.number, ap length d.all, length_push d.before (mark End)),
      omega (arith, ap length split, length-append (bytes_of d.before) (encode (mark End))),
    )

-- ---- a file from its parts

in_turn : (a b c d e f : List ℕ) → ((((a ++ b) ++ c) ++ d) ++ e) ++ f ≡ a ++ (b ++ (c ++ (d ++ (e ++ f))))
in_turn a b c d e f = simp append_assoc

pub file_parts : (c : Contents) →
    ((((encode (mark Head) ++ bytes_of (map item_record c.items)) ++ bytes_of (map work_record c.works))
    ++ encode (set_record Standing c.standing)) ++ encode (set_record Wanted c.wanted)) ++ encode (mark End) ≡ file c
file_parts c =
    let items = map item_record c.items in
    let works = map work_record c.works in
    let last = set_record Standing c.standing ∷ set_record Wanted c.wanted ∷ mark End ∷ [] in
    in_turn (encode (mark Head)) (bytes_of items) (bytes_of works) (encode (set_record Standing c.standing)) (encode (set_record Wanted c.wanted)) (encode (mark End))
    ∙ sym (ap (λ l. encode (mark Head) ++ l) (bytes_append items (works ++ last) ∙ ap (λ l. bytes_of items ++ l) (bytes_append works last)))

pub file_length : (c : Contents) → length (file c) ≡ 32 + length (bytes_of (map item_record c.items)) + length (bytes_of (map work_record c.works))
file_length c =
    let items = map item_record c.items in
    let works = map work_record c.works in
    let last = set_record Standing c.standing ∷ set_record Wanted c.wanted ∷ mark End ∷ [] in
    omega (
      arith,
      ap length (bytes_append items (works ++ last)),
      ap length (bytes_append works last),
      length-append (bytes_of items) (bytes_of (works ++ last)),
      length-append (bytes_of works) (bytes_of last),
    )
