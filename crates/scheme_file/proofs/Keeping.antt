-- Readable contents keep every rule.
use Rattle.std.proofs.Common.{◌≡◌, ℕ, ◌+◌, ◌-◌, ◌≤◌, List, [], ◌∷◌, ◌++◌, map, length, take, drop, is_some, Some, Option, sym, refl, ap, ◌∙◌, subst₂, inl, inr, arith}
use Rattle.std.specs.List.{AllByRecursion}
use Rattle.std.proofs.lemmas.List.{length-append, take_at}
use Rattle.scheme_file.specs.declared.causes.Cause.{Cause}
use Rattle.scheme_file.specs.declared.kinds.Kind.{Kind}
use Rattle.scheme_file.specs.declared.kinds.Kind.TheVariants.{Head, Item, Work, Standing, Wanted, End}
use Rattle.scheme_file.specs.declared.places.Place.{Place}
use Rattle.scheme_file.specs.declared.stages.Stage.TheVariants.{Items, Closed}
use Rattle.scheme_file.specs.Bytes.{value}
use Rattle.scheme_file.specs.Contents.{Giving, Readable, Rises, SoundEntry, SoundItem}
use Rattle.scheme_file.specs.Format.{Contents, Entry, Named, Record, encode, item_record, records, set_record, work_record}
use Rattle.scheme_file.specs.Kinds.{code_of, highest, lowest, named}
use Rattle.scheme_file.specs.Rules.{Broken, Goes, Kept, Rule, after, body_in, code, moved, record_rules, rules, rules_for, size, start}
use Rattle.scheme_file.proofs.Comings.{named_code}
use Rattle.scheme_file.proofs.Digits.{value_le}
use Rattle.scheme_file.proofs.Fills.{size_encode}

-- ---- a record behind its own bytes

code_small : (k : Kind) → code_of k ≤ 6
code_small Head = omega arith
code_small Item = omega arith
code_small Work = omega arith
code_small Standing = omega arith
code_small Wanted = omega arith
code_small End = omega arith

pub code_encode : (r : Record) (t : List ℕ) → code (encode r ++ t) ≡ code_of r.kind
code_encode r t = omega (arith, code_small r.kind)

pub body_encode : (r : Record) (t : List ℕ) → length r.body ≤ 60 → body_in (encode r ++ t) ≡ r.body
body_encode r t short = take_at r.body t (size (encode r ++ t) - 2) (omega (arith, size_encode r t (omega arith)))

-- a record that keeps the rules of its place keeps them in bytes
pub kept_rules : (p : Place) (r : Record) (t : List ℕ) → length r.body ≤ 60 → Kept (record_rules p r.kind r.body) → Kept (rules p (encode r ++ t))
kept_rules p r t short kept =
    let known : named (code (encode r ++ t)) ≡ Some r.kind = ap named (code_encode r t) ∙ named_code r.kind in
    let sized = size_encode r t (omega arith) in (
      (omega arith, omega (arith, length-append r.body t)),
      (
        (omega arith, ap is_some known),
        subst₂ (λ (o : Option Kind) (b : List ℕ). Kept (rules_for p o b)) (sym known) (sym (body_encode r t short)) kept,
      ),
    )

pub kept_unbroken : (rs : List Rule) (c : Cause) → Kept rs → Broken rs c → ⊥
kept_unbroken [] c kept broken = broken
kept_unbroken (r ∷ rs) c kept (inl b) = b.0 kept.0
kept_unbroken (r ∷ rs) c kept (inr b) = kept_unbroken rs c kept.1 b.1

-- ---- the records of contents

-- from p some records lead to q, whatever follows
record Leads (p : Place) (rs : List Record) (q : Place) : Type 0 where
  pub on : (rest : List Record) (last : Place) → Goes q rest last → Goes p (rs ++ rest) last

leads_items : (xs : List Named) (p : Place) → p.stage ≡ Items → Rises p.least xs → AllByRecursion SoundItem xs →
    (q : Place) × (q.stage ≡ Items) × (q.works ≡ p.works) × Leads p (map item_record xs) q
leads_items [] p stage rise sound = (p, stage, refl, record { on = λ rest last h. h })
leads_items (x ∷ xs) p stage rise sound =
    let s = sound.0 in
    let kept : Kept (record_rules p Item (x.number ∷ x.name)) = (
      (omega (arith, s.name.some), omega (arith, s.name.short)),
      (
        (omega (arith, ap lowest stage), omega (arith, ap highest stage)),
        (rise.0, (s.name.text, (s.low, (tt, (tt, tt))))),
      ),
    )
    in
    let d = leads_items xs (after p Item (x.number ∷ x.name)) refl rise.1 sound.1 in
    (d.0, d.1, d.2, record { on = λ rest last h. (kept, d.3.on rest last h) })

leads_works : (es : List Entry) (p : Place) → lowest p.stage ≤ 3 → 4 ≤ highest p.stage → p.works + length es ≤ 64 →
    AllByRecursion SoundEntry es → AllByRecursion Giving es →
    (q : Place) × (lowest q.stage ≤ 3) × (4 ≤ highest q.stage) × Leads p (map work_record es) q
leads_works [] p low high few sound giving = (p, low, high, record { on = λ rest last h. h })
leads_works (e ∷ es) p low high few sound giving =
    let s = sound.0 in
    let g = giving.0 in
    let some : value (take 8 (drop 8 (work_record e).body)) ≡ 0 → ⊥ =
    λ none. g.some (ap (λ n. record { bits = n }) (sym (value_le 8 e.work.gives.bits g.gives) ∙ none))
    in
    let kept : Kept (record_rules p Work (work_record e).body) = (
      (omega (arith, s.name.some), omega (arith, s.name.short)),
      ((omega arith, omega arith), (tt, (s.name.text, (tt, (some, (omega arith, tt)))))),
    )
    in
    let d = leads_works es (after p Work (work_record e).body) (omega arith) (omega arith) (omega arith) sound.1 giving.1 in
    (d.0, d.1, d.2, record { on = λ rest last h. (kept, d.3.on rest last h) })

pub goes_records : (c : Contents) → Readable c → (q : Place) × Goes start (records c) q × (q.stage ≡ Closed)
goes_records c r =
    let first = moved start Items in
    let i = leads_items c.items first refl r.sound.rising r.sound.items in
    let w = leads_works c.works i.0 (omega (arith, ap lowest i.1)) (omega (arith, ap highest i.1)) (omega (arith, i.2, r.sound.few))
    r.sound.works r.giving
    in
    let m = w.0 in
    let p₁ = after m Standing (set_record Standing c.standing).body in
    let p₂ = after p₁ Wanted (set_record Wanted c.wanted).body in
    let q = after p₂ End [] in (
      q,
      (
        (refl, ((omega arith, omega arith), (tt, (tt, (tt, (tt, (tt, tt))))))),
        i.3.on _ q (w.3.on _ q (
          (refl, ((omega (arith, w.1), omega (arith, w.2)), (tt, (tt, (tt, (tt, (tt, tt))))))),
          (
            (refl, ((omega arith, omega arith), (tt, (tt, (tt, (tt, (tt, tt))))))),
            ((refl, ((omega arith, omega arith), (tt, (tt, (tt, (tt, (tt, tt))))))), refl),
          ),
        )),
      ),
      refl,
    )
