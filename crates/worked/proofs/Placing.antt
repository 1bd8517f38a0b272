-- The order of a set of works, run.
use Rattle.std.proofs.Common.{◌≡◌, ℕ, zero, suc, ◌+◌, ◌-◌, ◌^◌, ◌<◌, Bool, ◌&&◌, List, [], ◌∷◌, length, subst, inl, inr, ⊎_elim, arith, pow_pos}
use Rattle.std.proofs.lemmas.Bool.Decides.{Decides-and}
use Rattle.sets.specs.declared.Set.{Set}
use Rattle.sets.specs.Listed.{has_bit}
use Rattle.sets.specs.Member.{Has, Members}
use Rattle.sets.proofs.Laws.{only_members, union_members}
use Rattle.sets.proofs.Parts.{less_one}
use Rattle.scheme.specs.declared.Work.{Work}
use Rattle.scheme.specs.Task.{work}
use Rattle.scheme.specs.Orders.{Placed, none_left, placing}
use Rattle.chooser.proofs.Parts.{put_back}
use Rattle.chooser.proofs.UnionNumbers.{number_union}
use Rattle.worked.proofs.Tests.{at_lowest, at_lowest_tells, has_tells, sub?, sub_tells, union}

-- ---- the set without a member

abbrev pub without : Set → ℕ → Set
without s k = record { bits = s.bits - 2 ^ k }

module _ (s : Set) (k : ℕ) (has : Has s k) where
  -- what is left, and the member
  parted : s.bits ≡ (less_one s k).0.bits + 2 ^ k
  parted =
      let x = less_one s k in
      let is-k = only_members k in
      let back = put_back s x.0 k has x.1 in
      number_union x.0 (record { bits = 2 ^ k }) s
      (λ j. (
        λ y. ⊎_elim inl (λ e. inr ((is-k j).1 e)) ((back j).0 y),
        ⊎_elim (λ y. (back j).1 (inl y)) (λ y. (back j).1 (inr ((is-k j).0 y))),
      ))
      (λ j y z. ((x.1 j).0 y).1 ((is-k j).0 z))

  pub without_members : Members (without s k) (λ j. Has s j × (j ≡ k → ⊥))
  without_members =
      let Fewer : ℕ → Type 0 = λ n. Members (record { bits = n }) (λ j. Has s j × (j ≡ k → ⊥)) in
      subst Fewer (omega (arith, parted)) (less_one s k).1

  pub without_less : (without s k).bits < s.bits
  without_less = omega (arith, pow_pos k, parted)

-- ---- the order

module _ (works : List Work) where
  abbrev pub ready? : Set → Set → ℕ → Bool
  ready? left s w = has_bit left w && sub? (work works w).needs s

  abbrev pub place : ℕ → Set → Set → List ℕ
  place zero left s = []
  place (suc fuel) left s =
      at_lowest (ready? left s) (λ w. w ∷ place fuel (without left w) (union s (work works w).gives)) (length works) (λ _. [])

  pub place_holds : (fuel : ℕ) (left s : Set) → left.bits < fuel → Placed works left s (place fuel left s)
  place_holds zero left s bound = absurd (omega arith)
  place_holds (suc fuel) left s bound =
      at_lowest_tells (Placed works left s) _ _ (λ w. Decides-and _ _ (has_tells left w) (sub_tells (work works w).needs s)) _ _ _
      (λ w lt h first.
      placing lt h.0 h.1 (λ v below y needs. first v below (y, needs)) (without_members left w h.0)
      (union_members s (work works w).gives)
      (place_holds fuel (without left w) (union s (work works w).gives) (omega (arith, without_less left w h.0))))
      (λ nothing. none_left (λ w lt y needs. nothing w lt (y, needs)))
