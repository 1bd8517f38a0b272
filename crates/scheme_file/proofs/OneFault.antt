-- Bytes, with rows of given lengths, have at most one fault.
use Rattle.std.proofs.Common.{◌≡◌, ℕ, ◌+◌, ◌<◌, ◌≤◌, ◌⊎◌, List, [], ◌∷◌, ◌++◌, length, sym, refl, ap, ◌∙◌, subst, ap₂, inl, inr, ⊎_elim, arith}
use Rattle.std.specs.List.{AllByRecursion}
use Rattle.std.proofs.lemmas.List.{append_assoc, length-append, length_push}
use Rattle.scheme_file.specs.declared.causes.Cause.{Cause}
use Rattle.scheme_file.specs.declared.causes.Cause.TheVariants.{Rows}
use Rattle.scheme_file.specs.declared.causes.Fault.{Fault}
use Rattle.scheme_file.specs.declared.kinds.Kind.TheVariants.{End}
use Rattle.scheme_file.specs.declared.places.Place.{Place}
use Rattle.scheme_file.specs.Faults.{Amiss, At, Breaks, Faulty, Short}
use Rattle.scheme_file.specs.Format.{Record, bytes_of, encode, mark}
use Rattle.scheme_file.specs.Kinds.{highest, lowest}
use Rattle.scheme_file.specs.Passes.{Whole}
use Rattle.scheme_file.specs.Rules.{Broken, Goes, Kept, Rule, after, record_rules, rules, start}
use Rattle.scheme_file.proofs.Fills.{short_body}
use Rattle.scheme_file.proofs.Goings.{bytes_more, goes_more}
use Rattle.scheme_file.proofs.Keeping.{kept_rules, kept_unbroken}
use Rattle.scheme_file.proofs.Uniques.{encode_same, goes_short, goes_split, same_records, whole_faultless}

-- the first list goes on where the second ends
record Longer (xs ys : List Record) (t : List ℕ) : Type 0 where
  pub next : Record
  pub more : List Record
  pub rest : List ℕ
  pub all : xs ≡ ys ++ next ∷ more
  pub here : t ≡ encode next ++ rest

longer_more : {xs ys : List Record} {t : List ℕ} (r : Record) → Longer xs ys t → Longer (r ∷ xs) (r ∷ ys) t
longer_more r l = record { next = l.next; more = l.more; rest = l.rest; all = ap (λ x. r ∷ x) l.all; here = l.here }

-- of two lists of records that begin the same bytes one begins the other
fork : (xs ys : List Record) (s t : List ℕ) → AllByRecursion (λ r. length r.body ≤ 60) xs → AllByRecursion (λ r. length r.body ≤ 60) ys →
    bytes_of xs ++ s ≡ bytes_of ys ++ t → Longer xs ys t ⊎ (Longer ys xs s ⊎ ((xs ≡ ys) × (s ≡ t)))
fork [] [] s t a b e = inr (inr (refl, e))
fork (x ∷ xs) [] s t a b e =
    inl (record { next = x; more = xs; rest = bytes_of xs ++ s; all = refl; here = sym e ∙ append_assoc (encode x) (bytes_of xs) s })
fork [] (y ∷ ys) s t a b e =
    inr (inl (record { next = y; more = ys; rest = bytes_of ys ++ t; all = refl; here = e ∙ append_assoc (encode y) (bytes_of ys) t }))
fork (x ∷ xs) (y ∷ ys) s t a b e =
    let same = encode_same x y (bytes_of xs ++ s) (bytes_of ys ++ t) a.0 b.0
    (sym (append_assoc (encode x) (bytes_of xs) s) ∙ e ∙ append_assoc (encode y) (bytes_of ys) t)
    in
    ⊎_elim (λ l. inl (subst (λ r. Longer (r ∷ xs) (y ∷ ys) t) (sym same.0) (longer_more y l)))
    (⊎_elim (λ l. inr (inl (subst (λ r. Longer (y ∷ ys) (r ∷ xs) s) (sym same.0) (longer_more y l))))
    (λ p. inr (inr (ap₂ ◌∷◌ same.0 p.0, p.1))))
    (fork xs ys s t a.1 b.1 same.1)

-- no good record comes where a rule is broken
no_longer : (xs ys : List Record) (p q : Place) (t : List ℕ) (c : Cause) → Goes start xs p → Goes start ys q → Longer xs ys t → Breaks q t c → ⊥
no_longer xs ys p q t c gx gy l =
    let on = goes_split ys (l.next ∷ l.more) start q p gy (subst (λ (x : List Record). Goes start x p) l.all gx) in
    let kept = kept_rules q l.next l.rest (short_body l.next.kind (length l.next.body) on.0.0) on.0 in
    ⊎_elim (λ b. kept_unbroken (rules q t) c (subst (λ (x : List ℕ). Kept (rules q x)) (sym l.here) kept) b.1)
    (λ b. omega (arith, ap lowest b.0, ap highest b.0, on.0.1.0))

goes_same : (rs : List Record) (p q m : Place) → Goes p rs q → Goes p rs m → q ≡ m
goes_same [] p q m e f = sym e ∙ f
goes_same (r ∷ rs) p q m g h = goes_same rs (after p r.kind r.body) q m g.1 h.1

broken_same : (rs : List Rule) (c d : Cause) → Broken rs c → Broken rs d → c ≡ d
broken_same [] c d b e = absurd b
broken_same (r ∷ rs) c d (inl b) (inl e) = b.1 ∙ sym e.1
broken_same (r ∷ rs) c d (inl b) (inr e) = absurd (b.0 e.0)
broken_same (r ∷ rs) c d (inr b) (inl e) = absurd (e.0 b.0)
broken_same (r ∷ rs) c d (inr b) (inr e) = broken_same rs c d b.1 e.1

breaks_same : (p : Place) (t : List ℕ) (c d : Cause) → Breaks p t c → Breaks p t d → c ≡ d
breaks_same p t c d (inl b) (inl e) = broken_same (rules p t) c d b.1 e.1
breaks_same p t c d (inl b) (inr e) = absurd (b.0 e.0)
breaks_same p t c d (inr b) (inl e) = absurd (e.0 b.0)
breaks_same p t c d (inr b) (inr e) = b.2 ∙ sym e.2

pub same_fault : {f g : Fault} → f.index ≡ g.index → f.offset ≡ g.offset → f.cause ≡ g.cause → f ≡ g
same_fault {f} {g} index offset cause =
    ap₂ (λ i o. record { index = i; offset = o; cause = f.cause }) index offset
    ∙ ap (λ (x : Cause). record { index = g.index; offset = g.offset; cause = x }) cause

pub one_fault : (bytes : List ℕ) (f g : Fault) → Amiss bytes f → Amiss bytes g → f ≡ g
one_fault bytes f g a b =
    ⊎_elim (λ l. absurd (no_longer a.before b.before a.place b.place b.rest g.cause a.good b.good l b.why))
    (⊎_elim (λ l. absurd (no_longer b.before a.before b.place a.place a.rest f.cause b.good a.good l a.why))
    (λ p.
    let place : b.place ≡ a.place =
    goes_same b.before start b.place a.place b.good (subst (λ (x : List Record). Goes start x a.place) p.0 a.good)
    in
    let why = subst (λ (x : Place). Breaks x a.rest g.cause) place (subst (λ (x : List ℕ). Breaks b.place x g.cause) (sym p.1) b.why) in
    let cause = breaks_same a.place a.rest f.cause g.cause a.why why in
    let index : f.index ≡ g.index = a.index ∙ ap length p.0 ∙ sym b.index in
    let offset : f.offset ≡ g.offset = a.offset ∙ ap (λ x. length (bytes_of x)) p.0 ∙ sym b.offset in
    same_fault index offset cause))
    (fork a.before b.before a.rest b.rest (goes_short a.before start a.place a.good) (goes_short b.before start b.place b.good)
    (sym a.split ∙ b.split))

-- ---- too few rows

-- the whole file behind such a fault
record Ending (bytes : List ℕ) (works items : ℕ) (g : Fault) : Type 0 where
  pub before : List Record
  pub place : Place
  pub good : Goes start (before ++ mark End ∷ []) (after place End [])
  pub same : bytes ≡ bytes_of (before ++ mark End ∷ [])
  pub rows : (works < place.works) ⊎ (items < place.items)
  pub index : g.index ≡ length before
  pub offset : g.offset + 4 ≡ length bytes
  pub cause : g.cause ≡ Rows

ending : {bytes : List ℕ} {g : Fault} (works items : ℕ) → At (Short works items) bytes g → Ending bytes works items g
ending {bytes} works items a =
    let h = a.why in
    let kept : Kept (record_rules a.place End []) =
    (refl, ((omega (arith, ap lowest h.0), omega (arith, ap highest h.0)), (tt, (tt, (tt, (tt, (tt, tt)))))))
    in
    let more = bytes_more a.before (mark End) in
    let same : bytes ≡ bytes_of (a.before ++ mark End ∷ []) = a.split ∙ ap (λ l. bytes_of a.before ++ l) h.1 ∙ sym more in
    record {
      before = a.before;
      place = a.place;
      good = goes_more a.before start a.place (mark End) a.good kept;
      same = same;
      rows = h.2;
      index = a.index;
      offset = omega (arith, a.offset, ap length same, ap length more, length-append (bytes_of a.before) (encode (mark End)));
      cause = h.3;
    }

-- a file for which there are too few rows
pub record Lacking (bytes : List ℕ) (p : Place) (n works items : ℕ) (g : Fault) : Type 0 where
  pub rows : (works < p.works) ⊎ (items < p.items)
  pub index : g.index + 1 ≡ n
  pub offset : g.offset + 4 ≡ length bytes
  pub cause : g.cause ≡ Rows

pub short_lacks : {bytes : List ℕ} {p : Place} {n : ℕ} {g : Fault} (works items : ℕ) → Whole bytes p n → At (Short works items) bytes g →
    Lacking bytes p n works items g
short_lacks {bytes} {p} {n} works items w a =
    let d = ending works items a in
    let all = d.before ++ mark End ∷ [] in
    let q = after d.place End [] in
    let same = same_records w.all all p q w.good d.good (sym w.same ∙ d.same) in
    let place : p ≡ q = goes_same all start p q (subst (λ (x : List Record). Goes start x p) same w.good) d.good in
    record {
      rows = ⊎_elim (λ l. inl (omega (arith, l, ap (λ (x : Place). x.works) place))) (λ l. inr (omega (arith, l, ap (λ (x : Place). x.items) place))) d.rows;
      index = omega (arith, d.index, w.number, ap length same, length_push d.before (mark End));
      offset = d.offset;
      cause = d.cause;
    }

-- ---- the answer of a reading

-- where rows are too few, no other fault
pub short_alone : {bytes : List ℕ} {p : Place} {n : ℕ} (works items : ℕ) (f : Fault) → Whole bytes p n → f.index + 1 ≡ n → f.offset + 4 ≡ length bytes →
    f.cause ≡ Rows → (g : Fault) → Faulty bytes works items g → f ≡ g
short_alone {bytes} {p} works items f w index offset cause g =
    ⊎_elim (λ a. absurd (whole_faultless bytes w.all p g w.good w.closed w.same a))
    (λ a.
    let l = short_lacks works items w a in
    same_fault (omega (arith, l.index)) (omega (arith, l.offset)) (cause ∙ sym l.cause))

-- where rows are many enough, none
pub none_lacks : {bytes : List ℕ} {p : Place} {n : ℕ} (works items : ℕ) → Whole bytes p n → p.works ≤ works → p.items ≤ items →
    (g : Fault) → Faulty bytes works items g → ⊥
none_lacks {bytes} {p} works items w enough many g =
    ⊎_elim (λ a. whole_faultless bytes w.all p g w.good w.closed w.same a)
    (λ a. ⊎_elim (λ l. omega arith) (λ l. omega arith) (short_lacks works items w a).rows)

-- where a rule of the bytes is broken, that fault alone
pub amiss_alone : {bytes : List ℕ} (works items : ℕ) (f : Fault) → Amiss bytes f → (g : Fault) → Faulty bytes works items g → f ≡ g
amiss_alone {bytes} works items f a g =
    ⊎_elim (one_fault bytes f g a)
    (λ b.
    let d = ending works items b in
    absurd (whole_faultless bytes (d.before ++ mark End ∷ []) (after d.place End []) f d.good refl d.same a))
