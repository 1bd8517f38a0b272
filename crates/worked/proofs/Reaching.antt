-- The reach of some works, run, and whether they are sufficient.
use Rattle.std.proofs.Common.{ℕ, zero, suc, ◌+◌, ◌<◌, Bool, not, ◌&&◌, List, [], ◌∷◌, length, Decides, subst, inl, inr, ⊎_elim, arith}
use Rattle.std.proofs.lemmas.Bool.Decides.{Decides-and, Decides-not, Decides-like}
use Rattle.sets.specs.declared.Set.{Set}
use Rattle.sets.specs.Listed.{has_bit}
use Rattle.sets.specs.Member.{Has, Sub, none}
use Rattle.sets.proofs.Laws.{same_members, sub_le, union_members}
use Rattle.sets.proofs.Parts.{sub_decided, union_larger, union_of}
use Rattle.scheme.specs.declared.Work.{Work}
use Rattle.scheme.specs.Task.{Task, work}
use Rattle.scheme.specs.Reach.{Closed, Reach, Sufficient}
use Rattle.scheme.proofs.Reaches.{sufficient_by_reach, reach_of_sufficient}
use Rattle.worked.proofs.Tests.{at_lowest, at_lowest_tells, has_tells, sub?, sub_tells, union}

module _ (works : List Work) (chosen : Set) where
  -- whether a chosen work whose needs are among the items c adds to them
  abbrev pub adds? : Set → ℕ → Bool
  adds? c w = has_bit chosen w && (sub? (work works w).needs c && not (sub? (work works w).gives c))

  -- steps that each add the gives of one work, until none adds
  abbrev pub steps : ℕ → Set → Set
  steps zero c = c
  steps (suc fuel) c = at_lowest (adds? c) (λ w. steps fuel (union c (work works w).gives)) (length works) (λ _. c)

  -- the number of a closed set bounds the steps, since each adds to the number
  steps_hold :
      (standing top : Set) →
      Sub standing top →
      Closed works (Has chosen) top →
      (fuel : ℕ) (c : Set) →
      top.bits < c.bits + fuel →
      Sub standing c →
      ((x : Set) → Sub standing x → Closed works (Has chosen) x → Sub c x) →
      Reach works (Has chosen) standing (steps fuel c)
  steps_hold standing top from closed zero c bound holds within =
      absurd (omega (arith, sub_le c top (within top from closed)))
  steps_hold standing top from closed (suc fuel) c bound holds within =
      at_lowest_tells (Reach works (Has chosen) standing) _ _
      (λ w.
      Decides-and _ _ (has_tells chosen w)
      (Decides-and _ _ (sub_tells (work works w).needs c) (Decides-not _ (sub_tells (work works w).gives c))))
      _ _ _
      (λ w lt h first.
      let gives = (work works w).gives in
      let adds = union_members c gives in
      let same = same_members _ _ _ (union_of c gives).1 adds in
      let larger = subst (λ (s : Set). c.bits < s.bits) same (union_larger c gives h.1.1) in
      steps_hold standing top from closed fuel (union c gives) (omega (arith, larger))
      (λ i y. (adds i).1 (inl (holds i y)))
      (λ x fx cx i y.
      ⊎_elim (within x fx cx i) (cx w lt h.0 (λ j z. within x fx cx j (h.1.0 j z)) i) ((adds i).0 y)))
      (λ nothing. record {
        from = holds;
        closed = λ w lt y needs.
            ⊎_elim (λ z. z) (λ not. absurd (nothing w lt (y, (needs, not)))) (sub_decided (work works w).gives c);
        smallest = within;
      })

-- ---- the reach

abbrev pub all_gives : List Work → Set
all_gives [] = none
all_gives (w ∷ works) = union w.gives (all_gives works)

all_gives_hold : (works : List Work) (w : ℕ) → Sub (work works w).gives (all_gives works)
all_gives_hold [] w i y = y
all_gives_hold (v ∷ works) zero i y = (union_members v.gives (all_gives works) i).1 (inl y)
all_gives_hold (v ∷ works) (suc w) i y = (union_members v.gives (all_gives works) i).1 (inr (all_gives_hold works w i y))

module _ (k : Task) (chosen : Set) where
  -- a closed set
  abbrev top : Set
  top = union k.standing (all_gives k.works)

  abbrev pub reach : Set
  reach = steps k.works chosen (suc top.bits) k.standing

  pub reach_holds : Reach k.works (Has chosen) k.standing reach
  reach_holds =
      let members = union_members k.standing (all_gives k.works) in
      steps_hold k.works chosen k.standing top (λ i y. (members i).1 (inl y))
      (λ w held y needs i z. (members i).1 (inr (all_gives_hold k.works w i z))) (suc top.bits) k.standing (omega arith) (λ i y. y)
      (λ x from closed. from)

  abbrev pub sufficient? : Bool
  sufficient? = sub? k.wanted reach

  pub sufficient_tells : Decides sufficient? (Sufficient k (Has chosen))
  sufficient_tells =
      Decides-like _ (sufficient_by_reach k reach_holds) (λ enough. reach_of_sufficient k enough reach_holds)
      (sub_tells k.wanted reach)
