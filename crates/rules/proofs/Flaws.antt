-- An order has one flaw, or it is a plan.
use Rattle.std.proofs.Common.{◌≡◌, ℕ, ◌+◌, ◌<◌, ◌⊎◌, List, [], ◌∷◌, length, refl, ap, subst, inl, inr, ⊎_elim, arith}
use native.Mathlib.Decide.{dec_lt}
use Rattle.sets.specs.declared.Set.{Set}
use Rattle.sets.specs.Member.{Has, Sub}
use Rattle.sets.specs.Listed.{In}
use Rattle.sets.proofs.Laws.{has_or_not, same_members, sub_or_not}
use Rattle.sets.proofs.Parts.{union_of}
use Rattle.scheme.specs.Task.{Task, work}
use Rattle.scheme.specs.Orders.{Carried, finished, onward, Plan}
use Rattle.scheme.specs.Carrying.{LowestLacking}
use Rattle.tariff.specs.Amounts.{All}
use Rattle.rules.specs.Rules.{Unbarred}
use Rattle.rules.specs.Marks.{Flaw, Flawed, at_barred, at_lacking, at_end, later}
use Rattle.rules.specs.Marks.Flaw.{lacking, missing}

-- ---- the lowest item that is lacked

pub lowest_lacking_unique : {a b : Set} {i j : ℕ} → LowestLacking a b i → LowestLacking a b j → i ≡ j
lowest_lacking_unique {i} {j} h g =
    elim (dec_lt i j) [
      | yes lt ↦ absurd (h.lacked (g.lowest i lt h.member))
      | no ge ↦ elim (dec_lt j i) [ yes gt ↦ absurd (g.lacked (h.lowest j gt g.member)) | no le ↦ omega arith ]
    ]

pub lowest_lacking_or_sub : (a b : Set) → ((i : ℕ) × LowestLacking a b i) ⊎ Sub a b
lowest_lacking_or_sub a b =
    ⊎_elim inr (λ f. inl (f.0, record { member = f.1; lacked = f.2; lowest = f.3 })) (sub_or_not a b)

lacking_not_sub : {a b : Set} {i : ℕ} → LowestLacking a b i → Sub a b → ⊥
lacking_not_sub {i} h sub = h.lacked (sub i h.member)

module _ (k : Task) (bars : Set) where
  -- ---- flaws

  -- an order has one first flaw
  pub flawed_unique :
      {p : ℕ} {s : Set} {order : List ℕ} {f : Flaw} →
      Flawed k bars p s order f →
      {f' : Flaw} →
      Flawed k bars p s order f' →
      f ≡ f'
  flawed_unique (at_barred y) (at_barred y') = refl
  flawed_unique (at_barred y) (at_lacking not' low') = absurd (not' y)
  flawed_unique (at_barred y) (later not' needs' adds' f') = absurd (not' y)
  flawed_unique (at_lacking not low) (at_barred y') = absurd (not y')
  flawed_unique (at_lacking {p} not low) (at_lacking not' low') = ap (lacking p) (lowest_lacking_unique low low')
  flawed_unique (at_lacking not low) (later not' needs' adds' f') = absurd (lacking_not_sub low needs')
  flawed_unique (at_end low) (at_end low') = ap missing (lowest_lacking_unique low low')
  flawed_unique (later not needs adds f) (at_barred y') = absurd (not y')
  flawed_unique (later not needs adds f) (at_lacking not' low') = absurd (lacking_not_sub low' needs)
  flawed_unique (later {p} {w} {s} {u} {rest} not needs adds f) {f'} (later {u = u'} not' needs' adds' g) =
      let P : Set → Type 0 = λ x. Flawed k bars (p + 1) x rest f' in
      flawed_unique f (subst P (same_members (λ i. Has s i ⊎ Has (work k.works w).gives i) u' u adds' adds) g)

  -- what a plan needs of an order from some items on
  pub record EndsWell (s : Set) (order : List ℕ) : Type 0 where
    pub unbarred : (w : ℕ) → In w order → Unbarred bars w
    pub end : Set
    pub carried : Carried k.works s order end
    pub reached : Sub k.wanted end

  ends_badly :
      {p : ℕ} {s e : Set} {order : List ℕ} {f : Flaw} →
      Flawed k bars p s order f →
      Carried k.works s order e →
      ((w : ℕ) → In w order → Unbarred bars w) →
      Sub k.wanted e →
      ⊥
  ends_badly (at_barred {w} y) (onward held needs adds c) free ends = free w (inl refl) y
  ends_badly (at_lacking not low) (onward held needs adds c) free ends = lacking_not_sub low needs
  ends_badly (at_end low) finished free ends = lacking_not_sub low ends
  ends_badly {e} (later {w} {s} {u} {rest} not needs adds f) (onward {t} held needs' adds' c) free ends =
      let P : Set → Type 0 = λ x. Carried k.works x rest e in
      ends_badly f (subst P (same_members (λ i. Has s i ⊎ Has (work k.works w).gives i) t u adds' adds) c)
      (λ v y. free v (inr y)) ends

  -- an order with a flaw is no plan
  pub flawed_no_plan : {p : ℕ} {order : List ℕ} {f : Flaw} → Flawed k bars p k.standing order f → Plan k bars order → ⊥
  flawed_no_plan f plan = ends_badly f plan.carried plan.unbarred plan.reached

  flawed_or_well :
      (p : ℕ) (s : Set) (order : List ℕ) →
      All (λ w. w < length k.works) order →
      ((f : Flaw) × Flawed k bars p s order f) ⊎ EndsWell s order
  flawed_or_well p s [] held =
      ⊎_elim (λ low. inl (missing low.0, at_end low.1))
      (λ ends. inr (record { unbarred = λ w y. absurd y; end = s; carried = finished; reached = ends }))
      (lowest_lacking_or_sub k.wanted s)
  flawed_or_well p s (w ∷ rest) held =
      let next = union_of s (work k.works w).gives in
      let after = flawed_or_well (p + 1) next.0 rest held.1 in
      ⊎_elim (λ y. inl (_, at_barred y))
      (λ not.
      ⊎_elim (λ low. inl (_, at_lacking not low.1))
      (λ needs.
      ⊎_elim (λ f. inl (f.0, later not needs next.1 f.1))
      (λ well. inr (record {
        unbarred = λ v. ⊎_elim (λ e y. not (subst (Has bars) e y)) (well.unbarred v);
        end = well.end;
        carried = onward held.0 needs next.1 well.carried;
        reached = well.reached;
      }))
      after)
      (lowest_lacking_or_sub (work k.works w).needs s))
      (has_or_not bars w)

  -- an order of held works has a flaw, or it is a plan
  pub flawed_or_plan :
      (order : List ℕ) →
      All (λ w. w < length k.works) order →
      ((f : Flaw) × Flawed k bars 0 k.standing order f) ⊎ Plan k bars order
  flawed_or_plan order held =
      ⊎_elim inl
      (λ well. inr (record { unbarred = well.unbarred; last = well.end; carried = well.carried; reached = well.reached }))
      (flawed_or_well 0 k.standing order held)
