-- Rows to be written: one more of them, and what holds of each.
use Rattle.std.proofs.Common.{◌≡◌, ℕ, zero, suc, ◌+◌, ◌<◌, ◌≤◌, List, [], ◌∷◌, ◌++◌, map, length, get_or, take, drop, sym, ap, ◌∙◌, subst, arith}
use Rattle.std.specs.List.{AllByRecursion}
use Rattle.std.proofs.ByRecursion.{All-get_or, All-push}
use Rattle.std.proofs.lemmas.List.{get_or-map, length-append, length-drop, length-map, length_push, length-take-le, map_push}
use Rattle.scheme.specs.declared.Work.{Work}
use Rattle.scheme.specs.Task.{Task}
use Rattle.scheme_file.specs.declared.rows.ItemRow.{ItemRow}
use Rattle.scheme_file.specs.declared.rows.Name.{Name}
use Rattle.scheme_file.specs.declared.rows.WorkRow.{WorkRow}
use Rattle.scheme_file.specs.Contents.{Fit, Lies, Rises, SoundEntry, SoundItem, bytes_at, entries, entry_in, item_in}
use Rattle.scheme_file.specs.Format.{Record, bytes_of, encode, item_record, work_record}
use Rattle.scheme_file.specs.Passes.{ItemFits, ItemsFit, WorkFits, WorksFit, above}
use Rattle.scheme_file.proofs.Fills.{above_more, entries_more, length_entries, rises_more}
use Rattle.scheme_file.proofs.Goings.{bytes_more}

pub name_size : (text : List ℕ) (n : Name) → Lies text n → length (bytes_at text n) ≡ n.len
name_size text n lies = length-take-le n.len (drop n.at text) (simp length-drop (omega arith))

size_more : (rs : List Record) (r : Record) → length (bytes_of (rs ++ r ∷ [])) ≡ length (bytes_of rs) + length (encode r)
size_more rs r = ap length (bytes_more rs r) ∙ length-append (bytes_of rs) (encode r)

-- ---- items

pub items_push :
    (rows : List ItemRow) (text : List ℕ) (least : ℕ) (r : ItemRow) →
    ItemsFit rows text →
    least ≡ above 0 (map (item_in text) rows) →
    ItemFits text least r →
    ItemsFit (rows ++ r ∷ []) text
    × (r.number + 1 ≡ above 0 (map (item_in text) (rows ++ r ∷ [])))
    × (length (bytes_of (map item_record (map (item_in text) rows))) + (5 + r.name.len)
    ≡ length (bytes_of (map item_record (map (item_in text) (rows ++ r ∷ [])))))
items_push rows text least r fit e one =
    let x = item_in text r in
    let xs = map (item_in text) rows in
    let names : xs ++ x ∷ [] ≡ map (item_in text) (rows ++ r ∷ []) = sym (map_push (item_in text) rows r) in
    let recs : map item_record xs ++ item_record x ∷ [] ≡ map item_record (map (item_in text) (rows ++ r ∷ [])) =
    sym (map_push item_record xs x) ∙ ap (map item_record) names
    in (
      record {
        lie = All-push (λ (q : ItemRow). Lies text q.name) rows r fit.lie one.lies;
        rising = subst (Rises 0) names (rises_more 0 xs x fit.rising (omega (arith, one.above)));
        sound = subst (AllByRecursion SoundItem) names (All-push SoundItem xs x fit.sound (record { low = one.low; name = one.name }));
      },
      sym (above_more 0 xs x) ∙ ap (above 0) names,
      omega (arith, size_more (map item_record xs) (item_record x), ap (λ l. length (bytes_of l)) recs, name_size text r.name one.lies),
    )

rises_at : (n : ℕ) (items : List ItemRow) (text : List ℕ) (i : ℕ) (d : ItemRow) → i < length items → Rises n (map (item_in text) items) →
    above n (map (item_in text) (take i items)) ≤ (get_or items i d).number
rises_at n [] text i d lt h = absurd (omega arith)
rises_at n (x ∷ items) text zero d lt h = h.0
rises_at n (x ∷ items) text (suc i) d lt h = rises_at (x.number + 1) items text i d (omega arith) h.1

pub items_at : (items : List ItemRow) (text : List ℕ) (i : ℕ) (d : ItemRow) → i < length items → ItemsFit items text →
    ItemFits text (above 0 (map (item_in text) (take i items))) (get_or items i d)
items_at items text i d lt fit =
    let one = subst SoundItem (get_or-map (item_in text) items i d (item_in text d) lt)
    (All-get_or SoundItem (map (item_in text) items) i (item_in text d) (omega (arith, length-map items (item_in text))) fit.sound)
    in
    record {
      above = rises_at 0 items text i d lt fit.rising;
      low = one.low;
      lies = All-get_or (λ (q : ItemRow). Lies text q.name) items i d lt fit.lie;
      name = one.name;
    }

-- ---- works

pub works_push :
    (works : List Work) (rows : List WorkRow) (text : List ℕ) (w : Work) (r : WorkRow) →
    WorksFit works rows text →
    WorkFits text r →
    WorksFit (works ++ w ∷ []) (rows ++ r ∷ []) text
    × (length (bytes_of (map work_record (entries text works rows))) + (24 + r.name.len)
    ≡ length (bytes_of (map work_record (entries text (works ++ w ∷ []) (rows ++ r ∷ [])))))
works_push works rows text w r fit one =
    let x = entry_in text w r in
    let xs = entries text works rows in
    let same : xs ++ x ∷ [] ≡ entries text (works ++ w ∷ []) (rows ++ r ∷ []) = sym (entries_more text works rows w r (sym fit.level)) in
    let recs : map work_record xs ++ work_record x ∷ [] ≡ map work_record (entries text (works ++ w ∷ []) (rows ++ r ∷ [])) =
    sym (map_push work_record xs x) ∙ ap (map work_record) same
    in (
      record {
        level = length_push rows r ∙ ap (λ n. n + 1) fit.level ∙ sym (length_push works w);
        lie = All-push (λ (q : WorkRow). Lies text q.name) rows r fit.lie one.lies;
        sound = subst (AllByRecursion SoundEntry) same (All-push SoundEntry xs x fit.sound (record { pounds = one.pounds; hours = one.hours; name = one.name }));
      },
      omega (arith, size_more (map work_record xs) (work_record x), ap (λ l. length (bytes_of l)) recs, name_size text r.name one.lies),
    )

entry_at : (works : List Work) (rows : List WorkRow) (text : List ℕ) (i : ℕ) (d : WorkRow) → i < length rows → length rows ≡ length works →
    AllByRecursion SoundEntry (entries text works rows) → (w : Work) × SoundEntry (entry_in text w (get_or rows i d))
entry_at works [] text i d lt level all = absurd (omega arith)
entry_at [] (r ∷ rows) text i d lt level all = absurd (omega arith)
entry_at (w ∷ works) (r ∷ rows) text zero d lt level all = (w, all.0)
entry_at (w ∷ works) (r ∷ rows) text (suc i) d lt level all = entry_at works rows text i d (omega arith) (omega arith) all.1

pub works_at : (works : List Work) (rows : List WorkRow) (text : List ℕ) (i : ℕ) (d : WorkRow) → i < length rows → WorksFit works rows text →
    WorkFits text (get_or rows i d)
works_at works rows text i d lt fit =
    let one = (entry_at works rows text i d lt fit.level fit.sound).1 in
    record {
      pounds = one.pounds;
      hours = one.hours;
      lies = All-get_or (λ (q : WorkRow). Lies text q.name) rows i d lt fit.lie;
      name = one.name;
    }

-- ---- all rows

pub fit_of : (k : Task) (rows : List WorkRow) (items : List ItemRow) (text : List ℕ) → ItemsFit items text → WorksFit k.works rows text →
    length k.works ≤ 64 → Fit k rows items text
fit_of k rows items text i w few = (
  record { level = w.level; work_names = w.lie; item_names = i.lie },
  record {
    rising = i.rising;
    items = i.sound;
    works = w.sound;
    few = omega (arith, length_entries text k.works rows (sym w.level), w.level);
  },
)
