-- Which record comes next in a file that is known to be good.
use Rattle.std.proofs.Common.{◌≡◌, ℕ, ◌+◌, ◌<◌, ◌≤◌, List, [], ◌∷◌, ◌++◌, length, drop, Some, sym, refl, ap, ◌∙◌, subst, arith}
use Rattle.std.proofs.lemmas.List.{drop-drop, drop_at}
use Rattle.scheme_file.specs.declared.kinds.Kind.{Kind}
use Rattle.scheme_file.specs.declared.kinds.Kind.TheVariants.{Head, Item, Work, Standing, Wanted, End}
use Rattle.scheme_file.specs.declared.stages.Stage.TheVariants.{Closed}
use Rattle.scheme_file.specs.declared.places.Place.{Place}
use Rattle.scheme_file.specs.Format.{Record, bytes_of, encode}
use Rattle.scheme_file.specs.Kinds.{Next, code_of, highest, lowest, named}
use Rattle.scheme_file.specs.Passes.{Ahead, Between}
use Rattle.scheme_file.specs.Rules.{Goes, Kept, after, record_rules}

-- ---- the counts of a place

-- items and works are counted up
pub goes_items : (rs : List Record) (p q : Place) → Goes p rs q → p.items ≤ q.items
goes_items [] p q e = omega (arith, ap (λ (s : Place). s.items) e)
goes_items (r ∷ rs) p q good =
    omega (arith, counted r.kind r.body, goes_items rs (after p r.kind r.body) q good.1)
  where
    counted : (k : Kind) (body : List ℕ) → p.items ≤ (after p k body).items
    counted Head body = omega arith
    counted Item body = omega arith
    counted Work body = omega arith
    counted Standing body = omega arith
    counted Wanted body = omega arith
    counted End body = omega arith

pub goes_works : (rs : List Record) (p q : Place) → Goes p rs q → p.works ≤ q.works
goes_works [] p q e = omega (arith, ap (λ (s : Place). s.works) e)
goes_works (r ∷ rs) p q good =
    omega (arith, counted r.kind r.body, goes_works rs (after p r.kind r.body) q good.1)
  where
    counted : (k : Kind) (body : List ℕ) → p.works ≤ (after p k body).works
    counted Head body = omega arith
    counted Item body = omega arith
    counted Work body = omega arith
    counted Standing body = omega arith
    counted Wanted body = omega arith
    counted End body = omega arith

-- past the items no item comes, and past the works no work
past_items : (p : Place) (k : Kind) (body : List ℕ) → 3 ≤ lowest p.stage → Next p.stage k →
    ((after p k body).items ≡ p.items) × (3 ≤ lowest (after p k body).stage)
past_items p Head body low next = absurd (omega arith)
past_items p Item body low next = absurd (omega arith)
past_items p Work body low next = (refl, omega arith)
past_items p Standing body low next = (refl, omega arith)
past_items p Wanted body low next = (refl, omega arith)
past_items p End body low next = (refl, omega arith)

past_works : (p : Place) (k : Kind) (body : List ℕ) → 5 ≤ lowest p.stage → Next p.stage k →
    ((after p k body).works ≡ p.works) × (5 ≤ lowest (after p k body).stage)
past_works p Head body low next = absurd (omega arith)
past_works p Item body low next = absurd (omega arith)
past_works p Work body low next = absurd (omega arith)
past_works p Standing body low next = absurd (omega arith)
past_works p Wanted body low next = (refl, omega arith)
past_works p End body low next = (refl, omega arith)

pub items_fixed : (rs : List Record) (p q : Place) → 3 ≤ lowest p.stage → Goes p rs q → q.items ≡ p.items
items_fixed [] p q low e = sym (ap (λ (s : Place). s.items) e)
items_fixed (r ∷ rs) p q low good =
    let past = past_items p r.kind r.body low good.0.1.0 in
    items_fixed rs (after p r.kind r.body) q past.1 good.1 ∙ past.0

pub works_fixed : (rs : List Record) (p q : Place) → 5 ≤ lowest p.stage → Goes p rs q → q.works ≡ p.works
works_fixed [] p q low e = sym (ap (λ (s : Place). s.works) e)
works_fixed (r ∷ rs) p q low good =
    let past = past_works p r.kind r.body low good.0.1.0 in
    works_fixed rs (after p r.kind r.body) q past.1 good.1 ∙ past.0

-- ---- the next record

-- a record of kind k comes at `at`, and the file goes on after it
pub record Coming (k : Kind) (bytes : List ℕ) (at : ℕ) (p last : Place) : Type 0 where
  pub body : List ℕ
  pub kept : Kept (record_rules p k body)
  pub same : drop at bytes ≡ encode (record { kind = k; body = body }) ++ drop (at + (4 + length body)) bytes
  pub ahead : Ahead bytes (at + (4 + length body)) (after p k body) last

pub coming : {bytes : List ℕ} {at : ℕ} {p last : Place} → Ahead bytes at p last → (p.stage ≡ Closed → ⊥) →
    (k : Kind) × Coming k bytes at p last
coming {bytes} {at} {p} {last} a open-yet = go a.left a.good a.same
  where
    go : (rs : List Record) → Goes p rs last → drop at bytes ≡ bytes_of rs → (k : Kind) × Coming k bytes at p last
    go [] e same = absurd (open-yet (ap (λ (s : Place). s.stage) e ∙ a.closed))
    go (r ∷ rs) good same =
        let n = 4 + length r.body in
        let rest : drop (at + n) bytes ≡ bytes_of rs =
        sym (drop-drop n at bytes) ∙ ap (drop n) same ∙ drop_at (encode r) (bytes_of rs) n (omega arith)
        in (
          r.kind,
          record {
            body = r.body;
            kept = good.0;
            same = same ∙ ap (λ l. encode r ++ l) (sym rest);
            ahead = record { left = rs; good = good.1; closed = a.closed; same = rest };
          },
        )

open_between : {p : Place} → Between p → p.stage ≡ Closed → ⊥
open_between b e = omega (arith, ap highest e, b.high)

module _ {bytes : List ℕ} {at : ℕ} {p last : Place} where
  -- an item comes while not all have come
  pub item_comes : Ahead bytes at p last → Between p → p.items < last.items → Coming Item bytes at p last
  item_comes a b more = let c = coming a (open_between b) in go c.0 c.1
    where
      go : (k : Kind) → Coming k bytes at p last → Coming Item bytes at p last
      go Head c = absurd (omega (arith, b.low, c.kept.1.0))
      go Item c = c
      go Work c = absurd (omega (arith, items_fixed c.ahead.left (after p Work c.body) last (omega arith) c.ahead.good))
      go Standing c = absurd (omega (arith, items_fixed c.ahead.left (after p Standing c.body) last (omega arith) c.ahead.good))
      go Wanted c = absurd (omega (arith, b.high, c.kept.1.0))
      go End c = absurd (omega (arith, b.high, c.kept.1.0))

  -- a work comes where all items have come, and not all works
  pub work_comes : Ahead bytes at p last → Between p → last.items ≡ p.items → p.works < last.works → Coming Work bytes at p last
  work_comes a b all more = let c = coming a (open_between b) in go c.0 c.1
    where
      go : (k : Kind) → Coming k bytes at p last → Coming Work bytes at p last
      go Head c = absurd (omega (arith, b.low, c.kept.1.0))
      go Item c = absurd (omega (arith, goes_items c.ahead.left (after p Item c.body) last c.ahead.good))
      go Work c = c
      go Standing c = absurd (omega (arith, works_fixed c.ahead.left (after p Standing c.body) last (omega arith) c.ahead.good))
      go Wanted c = absurd (omega (arith, b.high, c.kept.1.0))
      go End c = absurd (omega (arith, b.high, c.kept.1.0))

  -- the standing set comes where all items and works have come
  pub standing_comes : Ahead bytes at p last → Between p → last.items ≡ p.items → last.works ≡ p.works → Coming Standing bytes at p last
  standing_comes a b items works = let c = coming a (open_between b) in go c.0 c.1
    where
      go : (k : Kind) → Coming k bytes at p last → Coming Standing bytes at p last
      go Head c = absurd (omega (arith, b.low, c.kept.1.0))
      go Item c = absurd (omega (arith, goes_items c.ahead.left (after p Item c.body) last c.ahead.good))
      go Work c = absurd (omega (arith, goes_works c.ahead.left (after p Work c.body) last c.ahead.good))
      go Standing c = c
      go Wanted c = absurd (omega (arith, b.high, c.kept.1.0))
      go End c = absurd (omega (arith, b.high, c.kept.1.0))

-- ---- the ends of a file

pub named_code : (k : Kind) → named (code_of k) ≡ Some k
named_code Head = refl
named_code Item = refl
named_code Work = refl
named_code Standing = refl
named_code Wanted = refl
named_code End = refl

pub same_code : (j k : Kind) → code_of j ≡ code_of k → j ≡ k
same_code j k e = let same : Some j ≡ Some k = sym (named_code j) ∙ ap named e ∙ named_code k in cc

-- where one kind alone can come, it comes
pub only_comes : {bytes : List ℕ} {at : ℕ} {p last : Place} (k : Kind) → Ahead bytes at p last → (p.stage ≡ Closed → ⊥) →
    code_of k ≤ lowest p.stage → highest p.stage ≤ code_of k → Coming k bytes at p last
only_comes {bytes} {at} {p} {last} k a open-yet low high =
    let c = coming a open-yet in
    subst (λ (j : Kind). Coming j bytes at p last) (same_code c.0 k (omega (arith, c.1.kept.1.0))) c.1

-- after the end record nothing comes
pub none_comes : {bytes : List ℕ} {at : ℕ} {p last : Place} → Ahead bytes at p last → p.stage ≡ Closed → drop at bytes ≡ []
none_comes {bytes} {at} {p} {last} a e = go a.left a.good a.same
  where
    go : (rs : List Record) → Goes p rs last → drop at bytes ≡ bytes_of rs → drop at bytes ≡ []
    go [] good same = same
    go (r ∷ rs) good same = absurd (omega (arith, ap lowest e, ap highest e, good.0.1.0))
