-- The prices of works.
use Rattle.std.proofs.Common.{◌≡◌, ℕ, ◌<◌, ◌⊎◌, List, [], ◌∷◌, Some, None, Option, MatchOption, sym, refl, ap, ◌∙◌, subst, inl, inr, ⊎_elim, arith}
use Rattle.std.specs.Fn.{Called}
use Rattle.std.specs.Iterator.{Yields, ReducesItems, FoldTurn}
use Rattle.std.specs.List.{FoldsTo}
use denote.Param.Members.{Mut}
use Rattle.sets.specs.declared.iter.SetIter.{SetIter}
use Rattle.sets.specs.Steps.{Next}
use Rattle.sets.specs.declared.Set.{Set}
use Rattle.sets.specs.Member.{Has, Members, Sub}
use Rattle.sets.proofs.Decided.{same_decided}
use Rattle.sets.proofs.Listing.{nexts}
use Rattle.tariff.specs.Amounts.{Scale, AtMost}
use Rattle.tariff.proofs.Order.{at_most_reflexive, at_most_of_less, at_most_chained}
use Rattle.chooser.specs.Least.{Capped, SetCapped, set_cost}
use Rattle.chooser.proofs.SetCosts.{cost_only}
use Rattle.searcher.specs.Costs.{Cheaper, Cheapest, work_cost}

module _ {V : Type 0} (t : Scale V) (prices : List V) where
  module _ (one : Set) (w : ℕ) (m : Members one (λ k. (k ≡ w) × (w < 64))) where
    -- a value that is the cost of a set is that of its only work
    pub only_cost :
        (x : V) → (SetCapped t prices one → t.amount x ≡ set_cost t prices one) → w < 64 → Capped t prices w → t.amount x ≡ work_cost t prices w
    only_cost x costs lt capped =
        costs (λ k h. subst (Capped t prices) (sym ((m k).0 h).0) capped) ∙ cost_only t prices one w (λ k. (λ h. ((m k).0 h).0, λ e. (m k).1 (e, lt)))

  module _ (v w : ℕ) (x y : V) (costs-v : v < 64 → Capped t prices v → t.amount x ≡ work_cost t prices v)
      (costs-w : w < 64 → Capped t prices w → t.amount y ≡ work_cost t prices w) where
    pub cheaper_new : t.less (t.amount y) (t.amount x) → Cheaper t prices v w w
    cheaper_new less = record {
      either = inr refl;
      least = λ lv lw cv cw.
          let under : t.less (work_cost t prices w) (work_cost t prices v) =
          subst (λ (a : t.Amount). t.less a (work_cost t prices v)) (costs-w lw cw) (subst (t.less (t.amount y)) (costs-v lv cv) less)
          in
          (at_most_of_less t _ _ under, at_most_reflexive t (work_cost t prices w));
    }

  -- the cheapest of the members that came so far
  pub record Tried (s rest : Set) (w : ℕ) : Type 0 where
    pub inside : Sub rest s
    pub member : Has s w
    pub low : w < 64
    pub least : SetCapped t prices s → (k : ℕ) → Has s k → Has rest k ⊎ AtMost t (work_cost t prices w) (work_cost t prices k)

  pub tried_first : (s left : Set) (w : ℕ) → Has s w → w < 64 → Members left (λ k. Has s k × (k ≡ w → ⊥)) → Tried s left w
  tried_first s left w h lt m = record {
    inside = λ k y. ((m k).0 y).0;
    member = h;
    low = lt;
    least = λ capped k y.
        ⊎_elim (λ e. inr (subst (λ (j : ℕ). AtMost t (work_cost t prices w) (work_cost t prices j)) (sym e) (at_most_reflexive t (work_cost t prices w))))
        (λ ne. inl ((m k).1 (y, ne))) (same_decided k w);
  }

  pub tried_more :
      (s rest left : Set) (v w r : ℕ) → Tried s rest v → Has rest w → w < 64 → Members left (λ k. Has rest k × (k ≡ w → ⊥)) →
      Cheaper t prices v w r → Tried s left r
  tried_more s rest left v w r so_far h lt m cheaper = record {
    inside = λ k y. so_far.inside k ((m k).0 y).0;
    member = ⊎_elim (λ e. subst (Has s) (sym e) so_far.member) (λ e. subst (Has s) (sym e) (so_far.inside w h)) cheaper.either;
    low = ⊎_elim (λ e. omega (arith, so_far.low, e)) (λ e. omega (arith, e)) cheaper.either;
    least = λ capped k y.
        let both = cheaper.least so_far.low lt (capped v so_far.member) (capped w (so_far.inside w h)) in
        ⊎_elim
        (λ z.
        ⊎_elim (λ e. inr (subst (λ (j : ℕ). AtMost t (work_cost t prices r) (work_cost t prices j)) (sym e) both.1))
        (λ ne. inl ((m k).1 (z, ne))) (same_decided k w))
        (λ le. inr (at_most_chained t _ _ _ both.0 le)) (so_far.least capped k y);
  }

  pub tried_all : (s rest : Set) (w : ℕ) → Tried s rest w → ((k : ℕ) → Has rest k → ⊥) → Cheapest t prices s w
  tried_all s rest w so_far empty = record {
    member = so_far.member;
    low = so_far.low;
    least = λ capped k y. ⊎_elim (λ z. absurd (empty k z)) (λ le. le) (so_far.least capped k y);
  }

  -- ---- the cheapest of all that come

  module _ {F : Type 0} (g : Mut F (ℕ × (ℕ × Unit {0})) ℕ) (f : F)
      (turn : (v w r : ℕ) (h : F) → Called g f (v, (w, tt)) r h → Cheaper t prices v w r × (h ≡ f)) (s : Set) where
    reduced_more :
        (xs : List ℕ) (it u end : SetIter) (v y : ℕ) (h : F) → Tried s it.rest v → Yields nexts it xs u → Next u.rest None end.rest →
        FoldsTo {P = F × ℕ} (FoldTurn g) (f, v) xs (h, y) → Cheapest t prices s y
    reduced_more [] it u end v y h so_far same last folds =
        let none : (k : ℕ) → Has it.rest k → ⊥ = λ k z. last.0 k (subst (λ (i : SetIter). Has i.rest k) same z) in
        subst (Cheapest t prices s) (ap (λ (p : F × ℕ). p.1) folds) (tried_all s it.rest v so_far none)
    reduced_more (x ∷ xs) it u end v y h so_far (j, step, yields) last (p, called, folds) =
        let cheaper = turn v x p.1 p.0 called in
        reduced_more xs j u end p.1 y h
        (tried_more s it.rest j.rest v x p.1 so_far step.0.member step.1 step.2 cheaper.0) yields last
        (subst (λ (q : F). FoldsTo {P = F × ℕ} (FoldTurn g) (q, p.1) xs (h, y)) cheaper.1 folds)

    pub reduced :
        (it : SetIter) (r : Option ℕ) → it.rest ≡ s → ReducesItems nexts g it f r →
        MatchOption r ((k : ℕ) → Has s k → ⊥) (Cheapest t prices s)
    reduced it None same (end, (u, none, last)) = λ k h.
        last.0 k (subst (λ (i : SetIter). Has i.rest k) none (subst (λ (z : Set). Has z k) (sym same) h))
    reduced it (Some y) same (x, xs, h, (end, (u, (j, step, yields), last)), folds) =
        let first : Tried s j.rest x =
        subst (λ (z : Set). Tried z j.rest x) same (tried_first it.rest j.rest x step.0.member step.1 step.2)
        in
        reduced_more xs j u end x y h first yields last folds
