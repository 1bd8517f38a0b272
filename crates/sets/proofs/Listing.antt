-- The members of a set as a list.
use Rattle.std.proofs.Common.{◌≡◌, ℕ, zero, suc, ◌+◌, ◌^◌, ◌<◌, ◌≤◌, Bool, true, false, cond, List, [], ◌∷◌, length, Some, filter, sym, refl, ap, ◌∙◌, inl, inr, ⊎_elim, arith, eq-eqb, Option}
use native.Mathlib.Decide.{dec_lt}
use lib.Count.{ones}
use Rattle.std.proofs.lemmas.Bool.{eqb-true}
use Rattle.std.specs.List.{range_with_len}
use Rattle.sets.specs.declared.Set.{Set}
use Rattle.sets.specs.Listed.{In, Rising, Listed, has_bit, members}
use Rattle.sets.specs.Member.{Has}
use Rattle.sets.specs.declared.iter.SetIter.{SetIter}
use Rattle.sets.specs.Steps.{Next}
use Rattle.sets.proofs.Laws.{has_below, proper_lt, lowest_or_none, count_within, count_without}
use Rattle.sets.proofs.Parts.{less_one}

-- ---- what a test keeps of a list

kept_sound : (t : ℕ → Bool) (xs : List ℕ) (k : ℕ) → In k (filter t xs) → In k xs × (t k ≡ true)
kept_sound t [] k h = absurd h
kept_sound t (x ∷ xs) k h = go (t x) refl (kept_sound t xs k) h
  where
    go : (b : Bool) → t x ≡ b → (In k (filter t xs) → In k xs × (t k ≡ true)) →
        In k (cond b (x ∷ filter t xs) (filter t xs)) → In k (x ∷ xs) × (t k ≡ true)
    go true e rest (inl p) = (inl p, ap t p ∙ e)
    go true e rest (inr p) = (inr (rest p).0, (rest p).1)
    go false e rest p = (inr (rest p).0, (rest p).1)

kept_whole : (t : ℕ → Bool) (xs : List ℕ) (k : ℕ) → t k ≡ true → In k xs → In k (filter t xs)
kept_whole t [] k y h = absurd h
kept_whole t (x ∷ xs) k y h = go (t x) refl (kept_whole t xs k y) h
  where
    go : (b : Bool) → t x ≡ b → (In k xs → In k (filter t xs)) →
        In k (x ∷ xs) → In k (cond b (x ∷ filter t xs) (filter t xs))
    go true e rest (inl p) = inl p
    go true e rest (inr p) = inr (rest p)
    go false e rest (inl p) = let q : t k ≡ t x = ap t p in let z : ◌≡◌ {A = ℕ} 0 1 = cc in absurd (omega arith)
    go false e rest (inr p) = rest p

kept_rising : (t : ℕ → Bool) (xs : List ℕ) → Rising xs → Rising (filter t xs)
kept_rising t [] r = tt
kept_rising t (x ∷ xs) r = go (t x) (kept_rising t xs r.1)
  where
    go : (b : Bool) → Rising (filter t xs) → Rising (cond b (x ∷ filter t xs) (filter t xs))
    go true rest = (λ k h. r.0 k (kept_sound t xs k h).0, rest)
    go false rest = rest

-- ---- the n numbers from a on

counted_sound : (n a k : ℕ) → In k (range_with_len a n) → (a ≤ k) × (k < a + n)
counted_sound zero a k h = absurd h
counted_sound (suc n) a k (inl e) = (omega arith, omega arith)
counted_sound (suc n) a k (inr h) =
    let q = counted_sound n (a + 1) k h in (omega (arith, q.0), omega (arith, q.1))

counted_whole : (n a k : ℕ) → a ≤ k → k < a + n → In k (range_with_len a n)
counted_whole zero a k low high = absurd (omega arith)
counted_whole (suc n) a k low high =
    elim (dec_lt a k) [ yes lt ↦ inr (counted_whole n (a + 1) k (omega arith) (omega arith)) | no ge ↦ inl (omega arith) ]

counted_rising : (n a : ℕ) → Rising (range_with_len a n)
counted_rising zero a = tt
counted_rising (suc n) a = (λ k h. omega (arith, (counted_sound n (a + 1) k h).0), counted_rising n (a + 1))

-- ---- rising lists

-- rising lists of the same elements are the same
pub rising_same : (xs ys : List ℕ) → Rising xs → Rising ys → ((k : ℕ) → In k xs → In k ys) → ((k : ℕ) → In k ys → In k xs) → xs ≡ ys
rising_same [] [] rx ry f g = refl
rising_same [] (y ∷ ys) rx ry f g = absurd (g y (inl refl))
rising_same (x ∷ xs) [] rx ry f g = absurd (f x (inl refl))
rising_same (x ∷ xs) (y ∷ ys) rx ry f g =
    let heads : x ≡ y =
    ⊎_elim (λ e. e) (λ p. ⊎_elim (λ e. sym e) (λ q. absurd (omega (arith, ry.0 x p, rx.0 y q))) (g y (inl refl))) (f x (inl refl))
    in
    let tails : xs ≡ ys =
    rising_same xs ys rx.1 ry.1
    (λ k h. ⊎_elim (λ e. absurd (omega (arith, rx.0 k h))) (λ p. p) (f k (inr h)))
    (λ k h. ⊎_elim (λ e. absurd (omega (arith, ry.0 k h))) (λ p. p) (g k (inr h)))
    in
    cc

-- a set is listed in one way
pub listed_same : (s : Set) (xs ys : List ℕ) → Listed s xs → Listed s ys → xs ≡ ys
listed_same s xs ys h g =
    rising_same xs ys h.rising g.rising (λ k y. (g.members k).0 ((h.members k).1 y)) (λ k y. (h.members k).0 ((g.members k).1 y))

-- ---- the members

pub members_sound : (s : Set) (k : ℕ) → In k (members s) → Has s k × (k < 64)
unfolding members Has
members_sound s k h =
    let q = kept_sound (has_bit s) (range_with_len 0 64) k h in
    (eqb-true _ _ q.1, omega (arith, (counted_sound 64 0 k q.0).1))

pub members_whole : (s : Set) (k : ℕ) → Has s k → k < 64 → In k (members s)
unfolding members Has
members_whole s k y lt =
    kept_whole (has_bit s) (range_with_len 0 64) k (eq-eqb _ _ y) (counted_whole 64 0 k (omega arith) (omega arith))

pub members_rising : (s : Set) → Rising (members s)
unfolding members
members_rising s = kept_rising (has_bit s) (range_with_len 0 64) (counted_rising 64 0)

pub members_listed : (s : Set) → s.bits < 2 ^ 64 → Listed s (members s)
members_listed s h = record {
  members = λ k. (λ y. members_whole s k y (has_below 64 s k h y), λ y. (members_sound s k y).0);
  rising = members_rising s;
}

-- a set with no members has an empty list
pub members_none : (s : Set) → ((k : ℕ) → Has s k → ⊥) → members s ≡ []
members_none s none =
    rising_same (members s) [] (members_rising s) tt (λ k y. absurd (none k (members_sound s k y).0)) (λ k y. absurd y)

-- the steps of a run over the members of a set
abbrev pub nexts : SetIter → Option ℕ → SetIter → Type 0
nexts i r j = Next i.rest r j.rest

-- the lowest member comes first, and then the others
pub members_next : (s t : Set) (k : ℕ) → Next s (Some k) t → members s ≡ k ∷ members t
members_next s t k (low, lt, others) =
    rising_same (members s) (k ∷ members t) (members_rising s) (above, members_rising t) into from
  where
    above : (j : ℕ) → In j (members t) → k < j
    above j y =
        let p = (others j).0 (members_sound t j y).0 in
        elim (dec_lt k j) [
          | yes gt ↦ gt
          | no le ↦ elim (dec_lt j k) [ yes less ↦ absurd (low.first j less p.0) | no ge ↦ absurd (p.1 (omega arith)) ]
        ]

    into : (j : ℕ) → In j (members s) → In j (k ∷ members t)
    into j y =
        let p = members_sound s j y in
        elim (dec_lt j k) [
          | yes less ↦ absurd (low.first j less p.0)
          | no ge ↦ elim (dec_lt k j)
              [ yes gt ↦ inr (members_whole t j ((others j).1 (p.0, λ e. omega arith)) p.1) | no le ↦ inl (omega arith) ]
        ]

    from : (j : ℕ) → In j (k ∷ members t) → In j (members s)
    from j (inl e) = rw e (members_whole s k low.member lt)
    from j (inr y) = let p = members_sound t j y in members_whole s j ((others j).0 p.0).0 p.1

-- a set has as many members as its number has ones
pub count_members : (s : Set) → s.bits < 2 ^ 64 → ones s.bits ≡ length (members s)
count_members s h = go (suc s.bits) s h (omega arith)
  where
    go : (n : ℕ) (s : Set) → s.bits < 2 ^ 64 → s.bits < n → ones s.bits ≡ length (members s)
    go zero s h room = absurd (omega arith)
    go (suc n) s h room =
        ⊎_elim
        (λ f.
        let t = less_one s f.0 in
        let smaller : t.0.bits < s.bits = proper_lt t.0 s (λ j y. ((t.1 j).0 y).0) f.0 f.1 (λ y. ((t.1 f.0).0 y).1 refl) in
        let next = members_next s t.0 f.0 (record { member = f.1; first = f.2 }, has_below 64 s f.0 h f.1, t.1) in
        omega (arith, count_without s t.0 f.0 f.1 t.1, go n t.0 (omega arith) (omega arith), ap length next))
        (λ none. omega (arith, count_within 0 s (λ k y. absurd (none k y)), ap length (members_none s none)))
        (lowest_or_none s)
