-- The filling pass: what one more record adds.
use Rattle.std.proofs.Common.{◌≡◌, ℕ, suc, ◌+◌, ◌^◌, ◌<◌, ◌≤◌, List, [], ◌∷◌, ◌++◌, map, length, get_or, take, drop, Ok, Err, Result, sym, refl, ap, ◌∙◌, subst, ap₂, ⊎_elim, add-zero, arith}
use Rattle.std.specs.List.{AllByRecursion}
use Rattle.std.proofs.ByRecursion.{All-push}
use Rattle.std.proofs.lemmas.List.{append_assoc, drop-drop, take_at, get_or-drop, length-append, length-drop, length_push, length-take-le, map_push, drop-append-le, take_all, take-append-drop, take-append-le}
use Rattle.sets.specs.declared.Set.{Set}
use Rattle.sets.specs.Member.{none}
use Rattle.scheme.specs.declared.refusals.Refusal.{Refusal}
use Rattle.scheme.specs.declared.Work.{Work}
use Rattle.scheme.specs.Edits.{Entered, with_works}
use Rattle.scheme.specs.Task.{Task}
use Rattle.scheme_file.specs.declared.kinds.Kind.{Kind}
use Rattle.scheme_file.specs.declared.places.Place.{Place}
use Rattle.scheme_file.specs.declared.rows.ItemRow.{ItemRow}
use Rattle.scheme_file.specs.declared.rows.WorkRow.{WorkRow}
use Rattle.scheme_file.specs.Bytes.{le, value}
use Rattle.scheme_file.specs.Contents.{Giving, Lies, Rises, SoundEntry, SoundItem, Reads, bytes_at, entries, entry_in, item_in}
use Rattle.scheme_file.specs.Format.{Named, Record, bytes_of, encode, item_record, mark, set_record, work_record}
use Rattle.scheme_file.specs.Kinds.{Allowed, lowest}
use Rattle.scheme_file.specs.Passes.{Entering, Itemed, Listed, RowAt, WorkAt, Worked, above}
use Rattle.scheme_file.specs.Rules.{Text, after, size}
use Rattle.scheme_file.proofs.Comings.{Coming, item_comes, none_comes, only_comes, standing_comes, work_comes}
use Rattle.scheme_file.proofs.Goings.{bytes_append, bytes_more}

-- ---- a record where it stands

-- its length
pub size_encode : (r : Record) (t : List ℕ) → length r.body < 65534 → size (encode r ++ t) ≡ 2 + length r.body
size_encode r t short = omega arith

pub short_body : (k : Kind) (n : ℕ) → Allowed k (2 + n) → n ≤ 60
short_body Kind.Head n h = omega arith
short_body Kind.Item n h = omega arith
short_body Kind.Work n h = omega arith
short_body Kind.Standing n h = omega arith
short_body Kind.Wanted n h = omega arith
short_body Kind.End n h = omega arith

module _ {k : Kind} {bytes : List ℕ} {at : ℕ} {p last : Place} where
  pub size_here : (c : Coming k bytes at p last) → size (drop at bytes) ≡ 2 + length c.body
  size_here c =
      ap size c.same
      ∙ size_encode (record { kind = k; body = c.body }) (drop (at + (4 + length c.body)) bytes)
      (omega (arith, short_body k (length c.body) c.kept.0))

  pub room_here : (c : Coming k bytes at p last) → at + (4 + length c.body) ≤ length bytes
  room_here c =
      let t = drop (at + (4 + length c.body)) bytes in
      omega (arith, ap length c.same, length-append c.body t, length-drop at bytes)

  -- its body, and the bytes after it
  pub body_here : (c : Coming k bytes at p last) → drop (at + 4) bytes ≡ c.body ++ drop (at + (4 + length c.body)) bytes
  body_here c = sym (drop-drop 4 at bytes) ∙ ap (drop 4) c.same

-- one more record behind those before it
pub front_more :
    {k : Kind} {bytes : List ℕ} {at : ℕ} {p last : Place} (all : List ℕ) (rs : List Record) (r : Record) (next : ℕ) (c : Coming k bytes at p last) →
    all ≡ bytes_of rs ++ drop at bytes →
    r ≡ record { kind = k; body = c.body } →
    next ≡ at + (4 + length c.body) →
    all ≡ bytes_of (rs ++ r ∷ []) ++ drop next bytes
front_more {bytes} all rs r next c before is e =
    before ∙ ap (λ l. bytes_of rs ++ l) (c.same ∙ ap₂ (λ x i. encode x ++ drop i bytes) (sym is) (sym e))
    ∙ sym (append_assoc (bytes_of rs) (encode r) (drop next bytes)) ∙ ap (λ l. l ++ drop next bytes) (sym (bytes_more rs r))

-- ---- items

pub rises_more : (n : ℕ) (xs : List Named) (x : Named) → Rises n xs → above n xs ≤ x.number → Rises n (xs ++ x ∷ [])
rises_more n [] x h more = (more, tt)
rises_more n (y ∷ xs) x h more = (h.0, rises_more (y.number + 1) xs x h.1 more)

pub above_more : (n : ℕ) (xs : List Named) (x : Named) → above n (xs ++ x ∷ []) ≡ x.number + 1
above_more n [] x = refl
above_more n (y ∷ xs) x = above_more (y.number + 1) xs x

-- an item's row is the item's record
pub item_is :
    {bytes : List ℕ} {at : ℕ} {p last : Place} (row : ItemRow) (c : Coming Kind.Item bytes at p last) →
    row.number ≡ get_or bytes (at + 4) 0 →
    row.name.at ≡ at + 5 →
    row.name.len + 3 ≡ size (drop at bytes) →
    ((item_in bytes row).number ∷ (item_in bytes row).name ≡ c.body) × (row.name.len + 1 ≡ length c.body)
item_is {bytes} {at} row c number start len =
    go c.body c.kept.0.0 (body_here c) (size_here c)
  where
    go : (body : List ℕ) → 4 ≤ 2 + length body → drop (at + 4) bytes ≡ body ++ drop (at + (4 + length c.body)) bytes →
        size (drop at bytes) ≡ 2 + length body →
        ((item_in bytes row).number ∷ (item_in bytes row).name ≡ body) × (row.name.len + 1 ≡ length body)
    go [] room e sized = absurd (omega arith)
    go (b ∷ name) room e sized =
        let t = drop (at + (4 + length c.body)) bytes in
        let first : get_or bytes (at + 4) 0 ≡ b = sym (rw add-zero at (get_or-drop (at + 4) bytes 0 0)) ∙ ap (λ l. get_or l 0 0) e in
        let long : row.name.len ≡ length name = omega arith in
        let five : at + 5 ≡ (at + 4) + 1 = omega arith in
        let tail : drop (at + 5) bytes ≡ name ++ t =
        ap (λ i. drop i bytes) five ∙ sym (drop-drop 1 (at + 4) bytes) ∙ ap (drop 1) e
        in (
          ap₂ ◌∷◌ (number ∙ first)
              (ap₂ (λ n i. take n (drop i bytes)) long start ∙ ap (take (length name)) tail ∙ take_at name t (length name) refl),
          omega arith,
        )

-- one more item
pub item_step :
    {bytes : List ℕ} {at : ℕ} {p last : Place} (rows : List ItemRow) (row : ItemRow) (c : Coming Kind.Item bytes at p last) →
    Listed bytes rows at p →
    row.number ≡ get_or bytes (at + 4) 0 →
    row.name.at ≡ at + 5 →
    row.name.len + 3 ≡ size (drop at bytes) →
    (next : ℕ) →
    next ≡ at + (4 + length c.body) →
    Listed bytes (rows ++ row ∷ []) next (after p Kind.Item c.body)
item_step {bytes} {at} {p} rows row c l number start len next e =
    let is = item_is row c number start len in
    let x = item_in bytes row in
    let xs = map (item_in bytes) rows in
    let names : xs ++ x ∷ [] ≡ map (item_in bytes) (rows ++ row ∷ []) = sym (map_push (item_in bytes) rows row) in
    let Front : List Record → Type 0 = λ rs. bytes ≡ bytes_of (mark Kind.Head ∷ rs) ++ drop next bytes in
    let number_is : x.number ≡ get_or c.body 0 0 = ap (λ l. get_or l 0 0) is.0 in
    let name_is : x.name ≡ drop 1 c.body = ap (drop 1) is.0 in
    let kept = c.kept in
    let long : suc (length x.name) ≡ length c.body = ap length is.0 in
    record {
      front = subst Front (sym (map_push item_record xs x) ∙ ap (map item_record) names)
          (front_more bytes (mark Kind.Head ∷ map item_record xs) (item_record x) next c l.front (ap (λ b. record { kind = Kind.Item; body = b }) is.0) e);
      rising = subst (Rises 0) names (rises_more 0 xs x l.rising (omega (arith, l.least, kept.1.1.0)));
      least = ap (λ n. n + 1) (sym number_is) ∙ sym (above_more 0 xs x) ∙ ap (above 0) names;
      sound = subst (AllByRecursion SoundItem) names (All-push SoundItem xs x l.sound (record {
        low = omega (arith, kept.1.1.1.1.0);
        name = record { some = omega (arith, kept.0); short = omega (arith, kept.0); text = subst Text (sym name_is) kept.1.1.1.0 };
      }));
      lie = All-push (λ (r : ItemRow). Lies bytes r.name) rows row l.lie (omega (arith, room_here c));
      items = ap (λ n. n + 1) l.items ∙ sym (length_push rows row);
      works = l.works;
    }

-- the next item of a file that has n of them
pub item_at : {bytes : List ℕ} (rows : List ItemRow) (i at n m : ℕ) → i ≤ length rows → i < n → (t : Itemed bytes (take i rows) at n m) →
    Coming Kind.Item bytes at t.0 t.1
item_at rows i at n m few more t = item_comes t.2 t.3 (omega (arith, t.4.items, t.5, length-take-le i rows few))

-- ---- works

-- a part of a body where it stands
pub part_here : {k : Kind} {bytes : List ℕ} {at : ℕ} {p last : Place} (c : Coming k bytes at p last) (i n : ℕ) → i + n ≤ length c.body →
    take n (drop (at + (4 + i)) bytes) ≡ take n (drop i c.body)
part_here {bytes} {at} c i n room =
    let t = drop (at + (4 + length c.body)) bytes in
    let e : at + (4 + i) ≡ (at + 4) + i = omega arith in
    ap (λ j. take n (drop j bytes)) e ∙ ap (take n) (sym (drop-drop i (at + 4) bytes) ∙ ap (drop i) (body_here c) ∙ drop-append-le i c.body t (omega arith))
    ∙ take-append-le n (drop i c.body) t (simp length-drop (omega arith))

-- a list in five parts
five_parts : (xs : List ℕ) → take 8 xs ++ (take 8 (drop 8 xs) ++ (take 2 (drop 16 xs) ++ (take 2 (drop 18 xs) ++ drop 20 xs))) ≡ xs
five_parts xs =
    rw (
      ← drop-drop 2 18 xs,
      take-append-drop 2 (drop 18 xs),
      ← drop-drop 2 16 xs,
      take-append-drop 2 (drop 16 xs),
      ← drop-drop 8 8 xs,
      take-append-drop 8 (drop 8 xs),
      take-append-drop 8 xs,
    ) refl

-- a work with its row is the work's record
pub work_is :
    {bytes : List ℕ} {at : ℕ} {p last : Place} (w : Work) (row : WorkRow) (c : Coming Kind.Work bytes at p last) →
    WorkAt bytes at w →
    RowAt bytes at row →
    ((work_record (entry_in bytes w row)).body ≡ c.body) × (bytes_at bytes row.name ≡ drop 20 c.body) × (row.name.len + 20 ≡ length c.body)
work_is {bytes} {at} w row c h r =
    let long : row.name.len + 20 ≡ length c.body = omega (arith, size_here c, r.len) in
    let room = c.kept.0 in
    let name : bytes_at bytes row.name ≡ drop 20 c.body =
    ap (λ i. take row.name.len (drop i bytes)) r.start ∙ part_here c 20 row.name.len (omega arith)
    ∙ take_all row.name.len (drop 20 c.body) (simp length-drop (omega arith))
    in
    let needs = h.needs ∙ part_here c 0 8 (omega arith) in
    let gives = h.gives ∙ part_here c 8 8 (omega arith) in
    let pounds = r.pounds ∙ part_here c 16 2 (omega arith) in
    let hours = r.hours ∙ part_here c 18 2 (omega arith) in
    (ap₂ ◌++◌ needs (ap₂ ◌++◌ gives (ap₂ ◌++◌ pounds (ap₂ ◌++◌ hours name))) ∙ five_parts c.body, name, long)

pub entries_more : (text : List ℕ) (works : List Work) (rows : List WorkRow) (w : Work) (r : WorkRow) → length works ≡ length rows →
    entries text (works ++ w ∷ []) (rows ++ r ∷ []) ≡ entries text works rows ++ entry_in text w r ∷ []
entries_more text [] [] w r e = refl
entries_more text [] (x ∷ rows) w r e = absurd (omega arith)
entries_more text (x ∷ works) [] w r e = absurd (omega arith)
entries_more text (x ∷ works) (y ∷ rows) w r e = ap (λ l. entry_in text x y ∷ l) (entries_more text works rows w r (omega arith))

-- one more work
pub work_step :
    {bytes : List ℕ} {from at : ℕ} {p last : Place} {works : List Work} {rows : List WorkRow} (w : Work) (row : WorkRow) (c : Coming Kind.Work bytes at p last) →
    Worked bytes from works rows at p →
    WorkAt bytes at w →
    RowAt bytes at row →
    (next : ℕ) →
    next ≡ at + (4 + length c.body) →
    (w.gives ≡ none → ⊥) × Worked bytes from (works ++ w ∷ []) (rows ++ row ∷ []) next (after p Kind.Work c.body)
work_step {bytes} {from} {works} {rows} w row c l h r next e =
    let is = work_is w row c h r in
    let x = entry_in bytes w row in
    let xs = entries bytes works rows in
    let same : xs ++ x ∷ [] ≡ entries bytes (works ++ w ∷ []) (rows ++ row ∷ []) = sym (entries_more bytes works rows w row l.level) in
    let Front : List Record → Type 0 = λ rs. drop from bytes ≡ bytes_of rs ++ drop next bytes in
    let kept = c.kept in
    let some : w.gives ≡ none → ⊥ =
    λ empty. kept.1.1.1.1.1.0 (ap value (sym (part_here c 8 8 (omega (arith, kept.0)))) ∙ sym h.given ∙ ap (λ (s : Set). s.bits) empty)
    in
    let long = ap length is.1 ∙ length-drop 20 c.body in (
      some,
      record {
        front = subst Front (sym (map_push work_record xs x) ∙ ap (map work_record) same)
            (front_more (drop from bytes) (map work_record xs) (work_record x) next c l.front (ap (λ b. record { kind = Kind.Work; body = b }) is.0) e);
        sound = subst (AllByRecursion SoundEntry) same (All-push SoundEntry xs x l.sound (record {
          pounds = r.pounds_fit;
          hours = r.hours_fit;
          name = record { some = omega (arith, long, kept.0); short = omega (arith, long, kept.0); text = subst Text (sym is.1) kept.1.1.1.0 };
        }));
        giving = subst (AllByRecursion Giving) same (All-push Giving xs x l.giving (record { needs = h.needs_fit; gives = h.gives_fit; some = some }));
        lie = All-push (λ (q : WorkRow). Lies bytes q.name) rows row l.lie (omega (arith, room_here c, is.2, r.start));
        level = length_push works w ∙ ap (λ n. n + 1) l.level ∙ sym (length_push rows row);
        count = ap (λ n. n + 1) l.count ∙ sym (length_push rows row);
        few = omega (arith, length_push rows row, l.count, kept.1.1.1.1.1.1.0);
      },
    )

-- the next work of a file that has m of them
pub work_at : {bytes : List ℕ} {works : List Work} (rows : List WorkRow) (from i at m : ℕ) → i ≤ length rows → i < m →
    (t : Entering bytes from works (take i rows) at m) → Coming Kind.Work bytes at t.0 t.1
work_at rows from i at m few more t =
    work_comes t.2 t.3 t.5 (omega (arith, t.4.count, t.6, length-take-le i rows few))

-- a work that gives something is entered where there is room
pub entered : (k : Task) (w : Work) (r : Result ℕ Refusal) (next : Task) → Entered k w r next → (w.gives ≡ none → ⊥) → length k.works < 64 →
    next ≡ with_works k (k.works ++ w ∷ [])
entered k w (Ok n) next h some room = h.3
entered k w (Err x) next h some room = ⊎_elim (λ f. absurd (some f.1)) (λ f. absurd (omega (arith, f.2))) h.0

-- ---- the last three records

pub record Tail (bytes : List ℕ) (at : ℕ) : Type 0 where
  pub standing : List ℕ
  pub wanted : List ℕ
  pub same : drop at bytes ≡ bytes_of (record { kind = Kind.Standing; body = standing } ∷ record { kind = Kind.Wanted; body = wanted } ∷ mark Kind.End ∷ [])
  pub first : take 8 (drop (at + 4) bytes) ≡ standing
  pub second : take 8 (drop (at + 16) bytes) ≡ wanted
  pub room : at + 28 ≤ length bytes

eight : (xs : List ℕ) → 2 + length xs ≡ 10 → take 8 xs ≡ xs
eight xs e = take_all 8 xs (omega arith)

pub empty : (xs : List ℕ) → 2 + length xs ≡ 2 → xs ≡ []
empty [] e = refl
empty (x ∷ xs) e = absurd (omega arith)

pub tail_here : {bytes : List ℕ} {at : ℕ} {p last : Place} → Coming Kind.Standing bytes at p last → Tail bytes at
tail_here {bytes} {at} s =
    let w = only_comes Kind.Wanted s.ahead (λ e. omega (arith, ap lowest e)) (omega arith) (omega arith) in
    let f = only_comes Kind.End w.ahead (λ e. omega (arith, ap lowest e)) (omega arith) (omega arith) in
    let at₁ = at + (4 + length s.body) in
    let at₂ = at₁ + (4 + length w.body) in
    let rest = none_comes f.ahead refl in
    let end_is : f.body ≡ [] = empty f.body f.kept.0 in
    let third : drop at₂ bytes ≡ encode (mark Kind.End) ++ [] =
    f.same ∙ ap₂ (λ b l. encode (record { kind = Kind.End; body = b }) ++ l) end_is rest
    in
    let twelve : at + 16 ≡ at₁ + (4 + 0) = omega (arith, s.kept.0) in
    record {
      standing = s.body;
      wanted = w.body;
      same =
          s.same ∙ ap (λ l. encode (record { kind = Kind.Standing; body = s.body }) ++ l)
          (w.same ∙ ap (λ l. encode (record { kind = Kind.Wanted; body = w.body }) ++ l) third);
      first = part_here s 0 8 (omega (arith, s.kept.0)) ∙ eight s.body s.kept.0;
      second = ap (λ i. take 8 (drop i bytes)) twelve ∙ part_here w 0 8 (omega (arith, w.kept.0)) ∙ eight w.body w.kept.0;
      room = omega (arith, room_here f, s.kept.0, w.kept.0);
    }

-- ---- the whole file

-- where all items have come, the works begin
pub works_begin : {bytes : List ℕ} (rows : List ItemRow) (at n m : ℕ) → length rows ≡ n → Itemed bytes rows at n m → Entering bytes at [] [] at m
works_begin rows at n m e t = (
  t.0,
  t.1,
  t.2,
  t.3,
  record { front = refl; sound = tt; giving = tt; lie = tt; level = refl; count = t.4.works; few = omega arith },
  t.5 ∙ sym e ∙ sym t.4.items,
  t.6,
)

-- where all works have come, the last three records begin
pub works_end : {bytes : List ℕ} {works : List Work} (rows : List WorkRow) (from at m : ℕ) → length rows ≡ m → Entering bytes from works rows at m →
    Tail bytes at
works_end rows from at m e t = tail_here (standing_comes t.2 t.3 t.5 (t.6 ∙ sym e ∙ sym t.4.count))

pub length_entries : (text : List ℕ) (works : List Work) (rows : List WorkRow) → length works ≡ length rows → length (entries text works rows) ≡ length rows
length_entries text [] [] e = refl
length_entries text [] (r ∷ rows) e = absurd (omega arith)
length_entries text (w ∷ works) [] e = absurd (omega arith)
length_entries text (w ∷ works) (r ∷ rows) e = ap suc (length_entries text works rows (omega arith))

pub whole_read :
    {bytes : List ℕ} {from at : ℕ} {p q : Place} {works : List Work} {rows : List WorkRow} {items : List ItemRow} →
    Listed bytes items from p →
    Worked bytes from works rows at q →
    (t : Tail bytes at) (s w : Set) →
    le 8 s.bits ≡ t.standing →
    le 8 w.bits ≡ t.wanted →
    s.bits < 2 ^ 64 →
    w.bits < 2 ^ 64 →
    Reads bytes (record { works = works; standing = s; wanted = w }) rows items
whole_read {bytes} {from} {at} {works} {rows} {items} l m t s w s-is w-is s-fit w-fit =
    let heads = mark Kind.Head ∷ map item_record (map (item_in bytes) items) in
    let middle = map work_record (entries bytes works rows) in
    let last = set_record Kind.Standing s ∷ set_record Kind.Wanted w ∷ mark Kind.End ∷ [] in
    let end_is : drop at bytes ≡ bytes_of last =
    t.same ∙ ap₂ (λ a b. bytes_of (record { kind = Kind.Standing; body = a } ∷ record { kind = Kind.Wanted; body = b } ∷ mark Kind.End ∷ []))
    (sym s-is) (sym w-is)
    in
    record {
      same =
          l.front ∙ ap (λ x. bytes_of heads ++ x) (m.front ∙ ap (λ x. bytes_of middle ++ x) end_is ∙ sym (bytes_append middle last))
          ∙ sym (bytes_append heads (middle ++ last));
      readable = record {
        sound = record { rising = l.rising; items = l.sound; works = m.sound; few = omega (arith, length_entries bytes works rows m.level, m.few) };
        giving = m.giving;
        standing = s-fit;
        wanted = w-fit;
      };
      rowed = record { level = sym m.level; work_names = m.lie; item_names = l.lie };
    }
