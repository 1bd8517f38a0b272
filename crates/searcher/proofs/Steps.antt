-- What a step at one node leaves.
use Rattle.std.proofs.Common.{◌≡◌, ℕ, zero, suc, ◌+◌, ◌<◌, Bool, true, false, not, filter, MatchBool, ◌⊎◌, List, [], ◌∷◌, length, get_or, Some, None, Option, option_map, IsSomeAnd, MatchOption, Bor, sym, refl, ap, ◌∙◌, subst, inl, inr, ⊎_elim, arith, count_ones}
use Rattle.std.proofs.lemmas.List.{nil_from_length}
use Rattle.std.specs.Iterator.{ActsAsAt}
use Rattle.std.specs.Iterator.Runs.{Run, WholeRun, SomeRun, EachRunFrom, AnyItem, IsFilterRun}
use denote.Param.Members.{Mut}
use Rattle.sets.specs.declared.Set.{Set}
use Rattle.sets.specs.Member.{Has, Members, Meet, Sub}
use Rattle.sets.proofs.Laws.{has_or_not, meet_or_not, count_without}
use Rattle.sets.proofs.Decided.{same_decided}
use Rattle.tariff.specs.Amounts.{Scale, All}
use Rattle.chooser.specs.Least.{Precedes}
use Rattle.chooser.proofs.Precedence.{precedes_sub, precedes_transitive, precedes_of_not}
use Rattle.searcher.specs.declared.node.Node.{Node}
use Rattle.searcher.specs.Nodes.{Inside, Of, One, Unmet, Best, Ahead, Better, Settled, Halved, Closed}

-- ---- one of the kept sets

pub one_at : (sets : List Set) (i : ℕ) (d : Set) → i < length sets → One sets (get_or sets i d)
one_at [] i d lt = absurd (omega arith)
one_at (x ∷ xs) zero d lt = inl refl
one_at (x ∷ xs) (suc i) d lt = inr (one_at xs i d (omega arith))

pub one_met : (o : Set) (sets : List Set) (one : Set) → One sets one → All (Meet o) sets → Meet o one
one_met o [] one h m = absurd h
one_met o (x ∷ xs) one (inl e) m = subst (Meet o) (sym e) m.0
one_met o (x ∷ xs) one (inr h) m = one_met o xs one h m.1

-- ---- the kept sets that are not met

abbrev pub apart : Set → Set → Bool
apart a b = ⊎_elim (λ _. false) (λ _. true) (meet_or_not a b)

apart_cases : (a b : Set) → ((apart a b ≡ true) × (Meet a b → ⊥)) ⊎ ((apart a b ≡ false) × Meet a b)
apart_cases a b = go (meet_or_not a b)
  where
    go : (c : Meet a b ⊎ (Meet a b → ⊥)) →
        ((⊎_elim (λ _. false) (λ _. true) c ≡ true) × (Meet a b → ⊥)) ⊎ ((⊎_elim (λ _. false) (λ _. true) c ≡ false) × Meet a b)
    go (inl m) = inr (refl, m)
    go (inr not) = inl (refl, not)

pub apart_is : (a b : Set) (r : Bool) → MatchBool r (Meet a b) (Meet a b → ⊥) → not r ≡ apart a b
apart_is a b true m = ⊎_elim (λ c. absurd (c.1 m)) (λ c. sym c.0) (apart_cases a b)
apart_is a b false out = ⊎_elim (λ c. sym c.0) (λ c. absurd (out c.1)) (apart_cases a b)

unmet_none : (chosen : Set) (sets : List Set) → filter (apart chosen) sets ≡ [] → All (Meet chosen) sets
unmet_none chosen [] e = tt
unmet_none chosen (x ∷ xs) e =
    ⊎_elim
    (λ c. let kept : filter (apart chosen) (x ∷ xs) ≡ x ∷ filter (apart chosen) xs = rw c.0 refl in absurd (cc))
    (λ c. (c.1, unmet_none chosen xs (rw c.0 at e)))
    (apart_cases chosen x)

item_read : (o : Option Set) (m y : Set) → IsSomeAnd o (λ x. x ≡ m) → option_map (λ x. x) o ≡ Some y → m ≡ y
item_read None m y h e = absurd h
item_read (Some x) m y h e = sym h ∙ (cc)

unmet_one :
    (chosen : Set) (sets : List Set) (one : Set) → One (filter (apart chosen) sets) one → One sets one × (Meet chosen one → ⊥)
unmet_one chosen [] one h = absurd h
unmet_one chosen (x ∷ xs) one h =
    ⊎_elim
    (λ c.
    ⊎_elim (λ e. (inl e, λ m. c.1 (subst (Meet chosen) e m)))
    (λ z. let rest = unmet_one chosen xs one z in (inr rest.0, rest.1)) (rw c.0 at h))
    (λ c. let rest = unmet_one chosen xs one (rw c.0 at h) in (inr rest.0, rest.1))
    (apart_cases chosen x)

-- what the narrowest of the kept sets that pass a test is
pub narrowest :
    {S T F : Type 0} {steps : S → Option Set → S → Type 0} {source : T → Option Set → T → Type 0} (g : Mut F (Bor Set × Unit {0}) Bool) (f : F)
    (chosen : Set) (sets : List Set) (s : S) (it : T) (r : Option Set) (Rest : Run steps → Set → Type 0) →
    WholeRun steps s (λ p. MatchOption r (p.len ≡ 0) (λ m. AnyItem p (λ x. x ≡ m) × Rest p m)) →
    EachRunFrom steps s (λ p. SomeRun source it (λ q. IsFilterRun p q g f)) →
    EachRunFrom source it (λ q. q.whole ≡ true → q.items ≡ sets) → ActsAsAt g f (apart chosen) → Unmet sets chosen r
narrowest g f chosen sets s it r Rest (p, from, whole, picks) filtered all test =
    let run = filtered p p.seen from in
    let q = run.0 in
    let same : p.items ≡ filter (apart chosen) sets =
    run.2.4 (apart chosen) test ∙ ap (filter (apart chosen)) (all q q.seen run.1 (run.2.0 ∙ whole))
    in
    go r picks same
  where
    go : (r : Option Set) → MatchOption r (p.len ≡ 0) (λ m. AnyItem p (λ x. x ≡ m) × Rest p m) → p.items ≡ filter (apart chosen) sets →
        Unmet sets chosen r
    go None none same = unmet_none chosen sets (sym same ∙ nil_from_length p.items (sym p.long ∙ none))
    go (Some m) ((k, lt, at), rest) same =
        let read : m ≡ get_or p.items k m = item_read (p.at k) m (get_or p.items k m) at (p.reads k m lt) in
        unmet_one chosen sets m
        (subst (λ (xs : List Set). One xs m) same (subst (One p.items) (sym read) (one_at p.items k m (omega (arith, p.long, lt)))))

-- ---- a split

module _ (n a : Node) (w : ℕ) (y : Has n.free w) (fewer : Members a.free (λ k. Has n.free k × (k ≡ w → ⊥))) where
  -- a part has a free work less
  part_fewer : count_ones a.free.bits + 1 ≡ count_ones n.free.bits
  part_fewer = omega (arith, count_without n.free a.free w y fewer)

  part_free : (works : Set) → Of works n → Sub a.free works
  part_free works of k h = of.free k ((fewer k).0 h).0

  -- its works are among those that the node's are
  part_with : Members a.chosen (λ k. Has n.chosen k ⊎ ((k ≡ w) × (w < 64))) → (works : Set) → Of works n → Of works a
  part_with more works of = record {
    chosen = λ k h. ⊎_elim (of.chosen k) (λ e. subst (Has works) (sym e.0) (of.free w y)) ((more k).0 h);
    free = part_free works of;
  }

  part_without : a.chosen ≡ n.chosen → (works : Set) → Of works n → Of works a
  part_without same works of = record { chosen = λ k h. of.chosen k (subst (λ (s : Set). Has s k) same h); free = part_free works of }

-- each set of a node is in one of its parts
covered :
    (n a b : Node) (w : ℕ) → w < 64 → Members a.chosen (λ k. Has n.chosen k ⊎ ((k ≡ w) × (w < 64))) →
    Members a.free (λ k. Has n.free k × (k ≡ w → ⊥)) → b.chosen ≡ n.chosen → Members b.free (λ k. Has n.free k × (k ≡ w → ⊥)) →
    (o : Set) → Inside n o → Inside a o ⊎ Inside b o
covered n a b w lt more fewer same others o inside =
    ⊎_elim
    (λ held. inl (record {
      chosen = λ k h. ⊎_elim (inside.chosen k) (λ e. subst (Has o) (sym e.0) held) ((more k).0 h);
      rest = λ k h.
          ⊎_elim (λ e. inl ((more k).1 (inr (e, lt))))
          (λ ne. ⊎_elim (λ z. inl ((more k).1 (inl z))) (λ z. inr ((fewer k).1 (z, ne))) (inside.rest k h)) (same_decided k w);
    }))
    (λ out. inr (record {
      chosen = λ k h. inside.chosen k (subst (λ (s : Set). Has s k) same h);
      rest = λ k h.
          ⊎_elim (λ z. inl (subst (λ (s : Set). Has s k) (sym same) z)) (λ z. inr ((others k).1 (z, λ e. out (subst (Has o) e h))))
          (inside.rest k h);
    }))
    (has_or_not o w)

pub halved :
    (n a b : Node) (w : ℕ) → Has n.free w → w < 64 → Members a.chosen (λ k. Has n.chosen k ⊎ ((k ≡ w) × (w < 64))) →
    Members a.free (λ k. Has n.free k × (k ≡ w → ⊥)) → b.chosen ≡ n.chosen → Members b.free (λ k. Has n.free k × (k ≡ w → ⊥)) → Halved n a b
halved n a b w y lt more fewer same others = record {
  covered = covered n a b w lt more fewer same others;
  fewer = (part_fewer n a w y fewer, part_fewer n b w y others);
  parts = λ works of. (part_with n a w y fewer more works of, part_without n b w y others same works of);
}

module _ {V : Type 0} (t : Scale V) (prices : List V) (sets : List Set) (n : Node) where
  -- ---- a node that cannot better the best set

  pub beaten : (s : Set) → Precedes t prices s n.chosen → Settled t prices sets (Some s) n
  beaten s h o inside m = precedes_transitive t prices s n.chosen o h (precedes_sub t prices n.chosen o inside.chosen)

  pub better : (s : Set) → (Precedes t prices s n.chosen → ⊥) → Better t prices n.chosen (Some s)
  better s not = precedes_of_not t prices s n.chosen not

  -- ---- a node that is done

  -- it leaves the best set as it was
  pub closed_same : (works : Set) (best : Option Set) → Settled t prices sets best n → Best works sets best → Closed t prices works sets n best best
  closed_same works best settled found = record { settled = settled; keeps = λ o h. h; found = found }

  -- what is chosen meets every kept set, and is better
  pub closed_chosen :
      (works : Set) (best : Option Set) → Of works n → All (Meet n.chosen) sets → Better t prices n.chosen best →
      Closed t prices works sets n best (Some n.chosen)
  closed_chosen works best of met better = record {
    settled = λ o inside m. precedes_sub t prices n.chosen o inside.chosen;
    keeps = go best better;
    found = (of.chosen, met);
  }
    where
      go : (best : Option Set) → Better t prices n.chosen best → (o : Set) → Ahead t prices best o → Ahead t prices (Some n.chosen) o
      go None better o h = absurd h
      go (Some s) better o h = precedes_transitive t prices n.chosen s o better h

  -- a kept set is met by nothing that is chosen or free
  pub dead :
      (best : Option Set) (one both : Set) → One sets one → (Meet n.chosen one → ⊥) → Members both (λ k. Has one k × Has n.free k) →
      ((k : ℕ) → Has both k → ⊥) → Settled t prices sets best n
  dead best one both kept unmet shared empty o inside m =
      let met = one_met o sets one kept m in
      let k = met.0 in
      absurd (⊎_elim (λ y. unmet (k, y, met.2)) (λ y. empty k ((shared k).1 (met.2, y))) (inside.rest k met.1))
