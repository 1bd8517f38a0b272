-- Records one after another, and the places between them.
use Rattle.std.proofs.Common.{◌≡◌, ℕ, ◌+◌, List, [], ◌∷◌, ◌++◌, length, drop, sym, refl, ap, ◌∙◌, subst, ap₂, arith}
use Rattle.std.proofs.lemmas.List.{append_assoc, drop-drop, length-append, length-drop, length_push, flat_map_more}
use Rattle.scheme_file.specs.declared.kinds.Kind.{Kind}
use Rattle.scheme_file.specs.declared.kinds.Kind.TheVariants.{Head, Item, Work, Standing, Wanted, End}
use Rattle.scheme_file.specs.declared.places.Place.{Place}
use Rattle.scheme_file.specs.Format.{Record, bytes_of, encode}
use Rattle.scheme_file.specs.Passes.{Sane, Stepped, Upto}
use Rattle.scheme_file.specs.Rules.{Goes, Kept, after, record_rules, start}

-- one more record at the end
pub goes_more : (rs : List Record) (p q : Place) (r : Record) → Goes p rs q → Kept (record_rules q r.kind r.body) →
    Goes p (rs ++ r ∷ []) (after q r.kind r.body)
goes_more [] p q r e kept =
    (subst (λ s. Kept (record_rules s r.kind r.body)) (sym e) kept, ap (λ s. after s r.kind r.body) e)
goes_more (x ∷ rs) p q r good kept = (good.0, goes_more rs (after p x.kind x.body) q r good.1 kept)

pub bytes_more : (rs : List Record) (r : Record) → bytes_of (rs ++ r ∷ []) ≡ bytes_of rs ++ encode r
bytes_more rs r = sym (flat_map_more encode [] rs r)

pub bytes_append : (rs qs : List Record) → bytes_of (rs ++ qs) ≡ bytes_of rs ++ bytes_of qs
bytes_append [] qs = refl
bytes_append (r ∷ rs) qs = ap (λ l. encode r ++ l) (bytes_append rs qs) ∙ sym (append_assoc (encode r) (bytes_of rs) (bytes_of qs))

-- a good record keeps a sane place sane
pub sane_after : (p : Place) (k : Kind) (body : List ℕ) → Sane p → Kept (record_rules p k body) → Sane (after p k body)
sane_after p Head body sane kept = record { items = sane.items; least = sane.least; works = sane.works }
sane_after p Item body sane kept = record { items = omega arith; least = omega arith; works = sane.works }
sane_after p Work body sane kept = record { items = sane.items; least = sane.least; works = omega arith }
sane_after p Standing body sane kept = record { items = sane.items; least = sane.least; works = sane.works }
sane_after p Wanted body sane kept = record { items = sane.items; least = sane.least; works = sane.works }
sane_after p End body sane kept = record { items = sane.items; least = sane.least; works = sane.works }

-- the checking pass goes on by a record
pub upto_more : {bytes : List ℕ} {p q : Place} {at n s : ℕ} → Upto bytes p at n → Stepped p (drop at bytes) q s →
    Upto bytes q (at + s) (n + 1)
upto_more {bytes} {p} {q} {at} {n} {s} u t =
    let r = t.next in
    let seen = bytes_more u.before r in
    let left = drop-drop s at bytes in
    let P : Place → Type 0 = λ x. Sane x in
    let G : Place → Type 0 = λ x. Goes start (u.before ++ r ∷ []) x in
    record {
      before = u.before ++ r ∷ [];
      good = subst G (sym t.place) (goes_more u.before start p r u.good t.kept);
      split =
          u.split ∙ ap (λ l. bytes_of u.before ++ l) (t.front ∙ ap (λ l. encode r ++ l) left)
          ∙ sym (append_assoc (bytes_of u.before) (encode r) (drop (at + s) bytes))
          ∙ ap (λ l. l ++ drop (at + s) bytes) (sym seen);
      offset = ap₂ ◌+◌ u.offset t.long ∙ sym (ap length seen ∙ length-append (bytes_of u.before) (encode r));
      number = ap (λ k. k + 1) u.number ∙ sym (length_push u.before r);
      sane = subst P (sym t.place) (sane_after p r.kind r.body u.sane t.kept);
      within = omega (arith, t.within, length-drop at bytes);
      fewer = omega (arith, u.fewer, t.some);
    }
