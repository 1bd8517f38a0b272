-- Reading a paper place by place.
use Rattle.std.proofs.Common.{ℕ, ◌+◌, ◌<◌, ◌⊎◌, List, [], ◌∷◌, length, subst, ⊎_elim}
use Rattle.sets.specs.declared.Set.{Set}
use Rattle.sets.specs.Member.{Has, Sub, Members, Lowest}
use Rattle.sets.proofs.Laws.{has_or_not}
use Rattle.scheme.specs.Carrying.{LowestLacking}
use Rattle.scheme.specs.Task.{Task, work}
use Rattle.scheme.specs.Orders.{Plan, finished, onward}
use Rattle.rules.specs.Marks.{Flaw, Flawed, later}
use Rattle.rules.proofs.Flaws.{EndsWell}

module _ (k : Task) (bars : Set) (paper : List ℕ) where
  -- The paper is read up to a place, where the items s stand and the works `rest` are left: whatever ends from here ends the whole.
  pub record Front (p : ℕ) (s : Set) (rest : List ℕ) : Type 0 where
    pub flaw : (f : Flaw) → Flawed k bars p s rest f → Flawed k bars 0 k.standing paper f
    pub well : EndsWell k bars s rest → EndsWell k bars k.standing paper

  pub front_more :
      {p w : ℕ} {s u : Set} {rest : List ℕ} →
      Front p s (w ∷ rest) →
      w < length k.works →
      (Has bars w → ⊥) →
      Sub (work k.works w).needs s →
      Members u (λ i. Has s i ⊎ Has (work k.works w).gives i) →
      Front (p + 1) u rest
  front_more front held not needs adds = record {
    flaw = λ f h. front.flaw f (later not needs adds h);
    well = λ h. front.well (record {
      unbarred = λ v. ⊎_elim (λ e y. not (subst (Has bars) e y)) (h.unbarred v);
      end = h.end;
      carried = onward held needs adds h.carried;
      reached = h.reached;
    });
  }

  pub front_plan : {p : ℕ} {s : Set} → Front p s [] → Sub k.wanted s → Plan k bars paper
  front_plan {s} front ends =
      let well = front.well (record { unbarred = λ w y. absurd y; end = s; carried = finished; reached = ends }) in
      record { unbarred = well.unbarred; last = well.end; carried = well.carried; reached = well.reached }

-- ---- what is lacked

module _ (a b d : Set) (over : Members d (λ j. Has a j × (Has b j → ⊥))) where
  pub lowest_lacked : (i : ℕ) → Lowest d i → LowestLacking a b i
  lowest_lacked i low = record {
    member = ((over i).0 low.member).0;
    lacked = ((over i).0 low.member).1;
    lowest = λ j lt y. ⊎_elim (λ z. z) (λ not. absurd (low.first j lt ((over j).1 (y, not)))) (has_or_not b j);
  }

  pub none_lacked : ((j : ℕ) → Has d j → ⊥) → Sub a b
  none_lacked nothing j y = ⊎_elim (λ z. z) (λ not. absurd (nothing j ((over j).1 (y, not)))) (has_or_not b j)
