-- Bytes put one after another.
use Rattle.std.proofs.Common.{◌≡◌, ℕ, zero, suc, ◌+◌, ◌<◌, ◌≤◌, List, [], ◌∷◌, ◌++◌, length, get_or, take, drop, sym, refl, ap, ◌∙◌, subst, ap₂, add-zero, arith}
use Rattle.std.proofs.lemmas.List.{append_assoc, drop_at, drop-drop, length-append, length-drop, length-take-le, take-append-drop, take_at, take_more}
use Rattle.scheme.specs.declared.Work.{Work}
use Rattle.scheme_file.specs.declared.kinds.Kind.{Kind}
use Rattle.scheme_file.specs.declared.putting.Output.{Output}
use Rattle.scheme_file.specs.declared.rows.WorkRow.{WorkRow}
use Rattle.scheme_file.specs.Bytes.{le}
use Rattle.scheme_file.specs.Contents.{entries, entry_in}
use Rattle.scheme_file.specs.Format.{Record, bytes_of, encode}
use Rattle.scheme_file.specs.Kinds.{code_of}
use Rattle.scheme_file.specs.Passes.{Put, Room, Wrote}
use Rattle.scheme_file.proofs.Goings.{bytes_more}

pub wrote_length : {was xs out : List ℕ} {at next : ℕ} → Wrote was at xs out next → length out ≡ length was
wrote_length {was} {xs} {out} {at} w =
    omega (
      arith,
      ap length w.same,
      length-append (take at was) (xs ++ drop (at + length xs) was),
      length-append xs (drop (at + length xs) was),
      length-take-le at was (omega (arith, w.room)),
      length-drop (at + length xs) was,
      w.room,
    )

-- what is put behind
pub wrote_more : {was xs out ys then : List ℕ} {at next end : ℕ} → Wrote was at xs out next → Wrote out next ys then end → Wrote was at (xs ++ ys) then end
wrote_more {was} {xs} {out} {ys} {then} {at} {next} {end} w v =
    let front = take at was ++ xs in
    let back = drop (at + length xs) was in
    let n = length ys in
    let cut : out ≡ front ++ back = w.same ∙ sym (append_assoc (take at was) xs back) in
    let long : length front ≡ next =
    length-append (take at was) xs ∙ ap (λ k. k + length xs) (length-take-le at was (omega (arith, w.room))) ∙ sym w.end
    in
    let both = length-append xs ys in
    let all : (at + length xs) + n ≡ at + length (xs ++ ys) = omega arith in
    let before : take next out ≡ front = ap (take next) cut ∙ take_at front back next long in
    let behind : drop (next + n) out ≡ drop (at + length (xs ++ ys)) was =
    sym (drop-drop n next out) ∙ ap (λ l. drop n (drop next l)) cut ∙ ap (drop n) (drop_at front back next long)
    ∙ drop-drop n (at + length xs) was ∙ ap (λ k. drop k was) all
    in
    let rest = drop (at + length (xs ++ ys)) was in
    record {
      same =
          v.same ∙ ap₂ (λ a b. a ++ (ys ++ b)) before behind ∙ append_assoc (take at was) xs (ys ++ rest)
          ∙ ap (λ l. take at was ++ l) (sym (append_assoc xs ys rest));
      end = omega (arith, v.end, w.end);
      room = omega (arith, v.room, w.end, wrote_length w);
    }

pub wrote_as : {was xs ys out : List ℕ} {at next : ℕ} → xs ≡ ys → Wrote was at xs out next → Wrote was at ys out next
wrote_as {was} {out} {at} {next} e w = subst (λ (l : List ℕ). Wrote was at l out next) e w

pub wrote_none : (was : List ℕ) (at : ℕ) → at ≤ length was → Wrote was at [] was at
wrote_none was at h = record { same = sym (rw add-zero (take-append-drop at was)); end = sym (add-zero at); room = omega arith }

-- ---- what an output holds

pub put_more : {was out then : Output} {xs ys : List ℕ} → Put was xs out → Put out ys then → Put was (xs ++ ys) then
put_more p q = record { wrote = wrote_more p.wrote q.wrote; lent = q.lent ∙ p.lent; text = q.text ∙ p.text }

pub put_as : {was out : Output} {xs ys : List ℕ} → xs ≡ ys → Put was xs out → Put was ys out
put_as {was} {out} e p = subst (λ (l : List ℕ). Put was l out) e p

-- ---- records one after another

-- a record's frame, and then its body
pub frame_body : (k : Kind) (len : ℕ) (body : List ℕ) → len ≡ length body →
    (le 2 (2 + len) ++ le 2 (code_of k)) ++ body ≡ encode (record { kind = k; body = body })
frame_body k len body e = ap (λ n. (le 2 (2 + n) ++ le 2 (code_of k)) ++ body) e

prefix_size : (rs : List Record) (n : ℕ) → length (bytes_of (take n rs)) ≤ length (bytes_of rs)
prefix_size rs zero = omega arith
prefix_size [] (suc n) = omega arith
prefix_size (r ∷ rs) (suc n) =
    omega (arith, prefix_size rs n, length-append r.body (bytes_of (take n rs)), length-append r.body (bytes_of rs))

module _ (rs : List Record) (i : ℕ) (d : Record) (here : i < length rs) where
  one_more : bytes_of (take (i + 1) rs) ≡ bytes_of (take i rs) ++ encode (get_or rs i d)
  one_more = ap bytes_of (take_more rs i d here) ∙ bytes_more (take i rs) (get_or rs i d)

  -- there is room for the next record
  pub record_room : {was out : Output} → Put was (bytes_of (take i rs)) out → Room was (length (bytes_of rs)) → Room out (length (encode (get_or rs i d)))
  record_room p all =
      omega (arith, p.wrote.end, wrote_length p.wrote, prefix_size rs (i + 1), ap length one_more, length-append (bytes_of (take i rs)) (encode (get_or rs i d)))

  -- the next record is put
  pub record_step : {was out then : Output} → Put was (bytes_of (take i rs)) out → Put out (encode (get_or rs i d)) then → Put was (bytes_of (take (i + 1) rs)) then
  record_step p q = put_as (sym one_more) (put_more p q)

pub get_or_entries : (text : List ℕ) (works : List Work) (rows : List WorkRow) (i : ℕ) (w : Work) (r : WorkRow) → length rows ≡ length works →
    get_or (entries text works rows) i (entry_in text w r) ≡ entry_in text (get_or works i w) (get_or rows i r)
get_or_entries text [] [] i w r e = refl
get_or_entries text [] (y ∷ rows) i w r e = absurd (omega arith)
get_or_entries text (x ∷ works) [] i w r e = absurd (omega arith)
get_or_entries text (x ∷ works) (y ∷ rows) zero w r e = refl
get_or_entries text (x ∷ works) (y ∷ rows) (suc i) w r e = get_or_entries text works rows i w r (omega arith)

-- bytes put from the start on
pub wrote_all : {was xs out : List ℕ} {n : ℕ} → Wrote was 0 xs out n → (take n out ≡ xs) × (drop n out ≡ drop n was) × (n ≡ length xs) × (n ≤ length out)
wrote_all {was} {xs} {out} {n} w =
    let long : n ≡ length xs = omega (arith, w.end) in
    let rest : 0 + length xs ≡ n = omega (arith, w.end) in
    let cut : out ≡ xs ++ drop n was = w.same ∙ ap (λ k. xs ++ drop k was) rest in
    (ap (take n) cut ∙ take_at xs (drop n was) n (sym long), ap (drop n) cut ∙ drop_at xs (drop n was) n (sym long), long, omega (arith, w.room, wrote_length w))
