-- Papers and their verdicts, run.
use Rattle.std.proofs.Common.{ℕ, ◌+◌, ◌<◌, ◌≤◌, not, ◌&&◌, List, [], ◌∷◌, length, Some, None, Option, subst, ⊎_elim}
use Rattle.std.specs.Option.{IfSome, MatchOption, option_and_then}
use Rattle.std.proofs.lemmas.Bool.Decides.{Decides-and, Decides-not}
use Rattle.sets.specs.declared.Set.{Set}
use Rattle.sets.specs.Listed.{has_bit}
use Rattle.sets.specs.Member.{Has, Sub}
use Rattle.sets.proofs.Laws.{has_or_not, members_end, union_members}
use Rattle.scheme.specs.Task.{Task, work}
use Rattle.scheme.specs.Orders.{Plan, finished, onward}
use Rattle.scheme.specs.Carrying.{LowestLacking}
use Rattle.tariff.specs.Amounts.{Scale, All}
use Rattle.tariff.proofs.Order.{at_most_antisymmetric}
use Rattle.chooser.specs.Least.{order_cost}
use Rattle.rules.specs.Rules.{Outcome, Asked}
use Rattle.rules.specs.Rules.Outcome.{answered, out_of_reach, capacity_spent}
use Rattle.rules.specs.Calls.{Fair}
use Rattle.rules.specs.Marks.{Flaw, Flawed, at_barred, at_lacking, at_end, later, Marking, Marked, flawed, as_cheap, not_cheapest, undecided}
use Rattle.rules.specs.Marks.Flaw.{barred, lacking, missing}
use Rattle.rules.specs.Marks.Verdict.{flaw, dearer, cheapest}
use Rattle.rules.specs.Marks.Marking.{given, refused}
use Rattle.rules.proofs.Flaws.{EndsWell}
use Rattle.worked.proofs.Tests.{when, when_tells, and_then_holds, at_lowest, at_lowest_tells, has_tells, union}
use Rattle.worked.proofs.Searching.{Comparing}
use Rattle.worked.proofs.Asking.{question, question_holds}

-- ---- the lowest item of a that b lacks

abbrev pub unless_lacking : {B : Type 0} → Set → Set → (ℕ → B) → (Unit {0} → B) → B
unless_lacking a b found rest = at_lowest (λ i. has_bit a i && not (has_bit b i)) found a.bits rest

unless_lacking_holds :
    {B : Type 0} (Q : B → Type 0) (a b : Set) (found : ℕ → B) (rest : Unit {0} → B) →
    ((i : ℕ) → LowestLacking a b i → Q (found i)) →
    (Sub a b → Q (rest tt)) →
    Q (unless_lacking a b found rest)
unless_lacking_holds Q a b found rest at otherwise =
    at_lowest_tells Q _ _ (λ i. Decides-and _ _ (has_tells a i) (Decides-not _ (has_tells b i))) _ _ _
    (λ i lt h first.
    at i (record {
      member = h.0;
      lacked = h.1;
      lowest = λ j below y. ⊎_elim (λ z. z) (λ not. absurd (first j below (y, not))) (has_or_not b j);
    }))
    (λ nothing.
    otherwise (λ i y. ⊎_elim (λ z. z) (λ not. absurd (nothing i (members_end a i y) (y, not))) (has_or_not b i)))

-- ---- an order: its first flaw, if there is one

module _ (k : Task) (bars : Set) where
  abbrev pub read : List ℕ → ℕ → Set → Option Flaw
  read [] p s = unless_lacking k.wanted s (λ i. Some (missing i)) (λ _. None)
  read (w ∷ rest) p s =
      when (has_bit bars w) (λ _. Some (barred p))
      (λ _. unless_lacking (work k.works w).needs s (λ i. Some (lacking p i))
      (λ _. read rest (p + 1) (union s (work k.works w).gives)))

  abbrev Reads : List ℕ → ℕ → Set → Option Flaw → Type 0
  Reads order p s r = MatchOption r (EndsWell k bars s order) (Flawed k bars p s order)

  later_reads :
      (w : ℕ) (rest : List ℕ) (p : ℕ) (s : Set) →
      w < length k.works →
      (Has bars w → ⊥) →
      Sub (work k.works w).needs s →
      (r : Option Flaw) →
      Reads rest (p + 1) (union s (work k.works w).gives) r →
      Reads (w ∷ rest) p s r
  later_reads w rest p s held not needs (Some f) h = later not needs (union_members s (work k.works w).gives) h
  later_reads w rest p s held not needs None h = record {
    unbarred = λ v. ⊎_elim (λ e y. not (subst (Has bars) e y)) (h.unbarred v);
    end = h.end;
    carried = onward held needs (union_members s (work k.works w).gives) h.carried;
    reached = h.reached;
  }

  read_holds :
      (order : List ℕ) (p : ℕ) (s : Set) →
      All (λ w. w < length k.works) order →
      Reads order p s (read order p s)
  read_holds [] p s held =
      unless_lacking_holds (Reads [] p s) k.wanted _ _ _ (λ i low. at_end low)
      (λ ends. record { unbarred = λ w y. absurd y; end = s; carried = finished; reached = ends })
  read_holds (w ∷ rest) p s held =
      let next = union s (work k.works w).gives in
      when_tells (Reads (w ∷ rest) p s) _ _ (has_tells bars w) (λ y. at_barred y)
      (λ not.
      unless_lacking_holds (Reads (w ∷ rest) p s) (work k.works w).needs _ _ _ (λ i low. at_lacking not low)
      (λ needs. later_reads w rest p s held.0 not needs (read rest (p + 1) next) (read_holds rest (p + 1) next held.1)))

-- ---- the verdict

-- a verdict and the landmarks then kept; None where a draw answered none
abbrev pub Mark : Type 0 → Type 0
Mark W = Option (Marking W × List Set)

module _ {V : Type 0} (t : Scale V) (c : Comparing t) (capacity : ℕ) (k : Task) (prices : List V) (bars : Set) where
  abbrev pub weigh : List ℕ → Outcome t.Amount × List Set → Mark t.Amount
  weigh paper (answered order total n, to) =
      let cost = order_cost t prices paper in
      when (c.less? total cost) (λ _. Some (given (dearer cost), to))
      (λ _. when (c.less? cost total) (λ _. None) (λ _. Some (given (cheapest cost), to)))
  weigh paper (out_of_reach, to) = None
  weigh paper (capacity_spent, to) = Some (refused, to)

  abbrev pub judge : List ℕ → List Set → Option Flaw → Mark t.Amount
  judge paper kept (Some f) = Some (given (flaw f), kept)
  judge paper kept None = option_and_then (weigh paper) (question t c capacity k prices bars kept)

  abbrev pub verdict : List ℕ → List Set → Mark t.Amount
  verdict order kept = judge order kept (read k bars order 0 k.standing)

  abbrev pub Marks : List ℕ → List Set → Mark t.Amount → Type 0
  Marks paper kept r = IfSome r (λ m. Marked t capacity k prices bars paper kept m.0 m.1)

  weigh_holds :
      (paper : List ℕ) (kept : List Set) →
      Plan k bars paper →
      (a : Outcome t.Amount × List Set) →
      Asked t capacity k prices bars kept a.0 a.1 →
      Marks paper kept (weigh paper a)
  weigh_holds paper kept plan (answered order total n, to) h =
      let cost = order_cost t prices paper in
      when_tells (Marks paper kept) _ _ (c.tells total cost) (λ less. not_cheapest plan h less)
      (λ not. when_tells (Marks paper kept) _ _ (c.tells cost total) (λ _. tt)
      (λ nor. as_cheap plan h (at_most_antisymmetric t total cost nor not)))
  weigh_holds paper kept plan (out_of_reach, to) h = tt
  weigh_holds paper kept plan (capacity_spent, to) h = undecided plan h

  judge_holds :
      Fair t k prices →
      (order : List ℕ) (kept : List Set) →
      length kept ≤ capacity →
      (r : Option Flaw) →
      Reads k bars order 0 k.standing r →
      Marks order kept (judge order kept r)
  judge_holds fair order kept fits (Some f) h = flawed h
  judge_holds fair order kept fits None h =
      and_then_holds _ (weigh order)
      (weigh_holds order kept (record { unbarred = h.unbarred; last = h.end; carried = h.carried; reached = h.reached }))
      _ (question_holds t c capacity k prices bars fair kept fits)

  pub verdict_holds :
      Fair t k prices →
      (order : List ℕ) (kept : List Set) →
      All (λ w. w < length k.works) order →
      length kept ≤ capacity →
      Marks order kept (verdict order kept)
  verdict_holds fair order kept held fits =
      judge_holds fair order kept fits (read k bars order 0 k.standing) (read_holds k bars order 0 k.standing held)
