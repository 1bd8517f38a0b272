-- The bound on the numbers.
use Rattle.std.proofs.Common.{◌≡◌, ℕ, ◌+◌, ◌^◌, ◌<◌, ◌≤◌, ◌⊎◌, List, inl, inr, ⊎_elim, arith, pow_mono}
use native.Mathlib.Decide.{dec_lt}
use Rattle.sets.specs.declared.Set.{Set}
use Rattle.sets.specs.Member.{Has, Members, Meet, Lowest}
use Rattle.sets.proofs.Laws.{only_members, sub_le}
use Rattle.sets.proofs.Parts.{union_of}
use Rattle.tariff.specs.Amounts.{All}
use Rattle.chooser.proofs.Parts.{put_back}
use Rattle.chooser.proofs.UnionNumbers.{number_union, number_union_at_most}
use Rattle.searcher.specs.declared.node.Node.{Node}
use Rattle.searcher.specs.Costs.{Floor, Paired, within, tied, Picked}
use Rattle.searcher.specs.Nodes.{Inside}

-- a set with a work more has at most its number and the work's weight
number_with : (s u : Set) (w : ℕ) → Members u (λ k. Has s k ⊎ ((k ≡ w) × (w < 64))) → u.bits ≤ 2 ^ w + s.bits
number_with s u w m =
    let only : Set = record { bits = 2 ^ w } in
    let all = union_of only s in
    omega (arith, sub_le u all.0 (λ k h. (all.1 k).1 (⊎_elim inr (λ e. inl ((only_members w k).1 e.0)) ((m k).0 h))), number_union_at_most only s all.0 all.1)

-- and a set with a work fewer has its number less the work's weight
number_without : (s x : Set) (w : ℕ) → Has s w → Members x (λ k. Has s k × (k ≡ w → ⊥)) → s.bits ≡ 2 ^ w + x.bits
number_without s x w h m =
    let only : Set = record { bits = 2 ^ w } in
    let back = put_back s x w h m in
    let is-w = only_members w in
    number_union only x s
    (λ k. (
      λ y. ⊎_elim inr (λ e. inl ((is-w k).1 e)) ((back k).0 y),
      ⊎_elim (λ y. (back k).1 (inr ((is-w k).0 y))) (λ y. (back k).1 (inl y)),
    ))
    (λ k y z. ((m k).0 z).1 ((is-w k).0 y))

lowest_le : (s : Set) (w k : ℕ) → Lowest s w → Has s k → w ≤ k
lowest_le s w k low h = elim (dec_lt k w) [ yes lt ↦ absurd (low.first k lt h) | no ge ↦ omega arith ]

-- where each work is tied to one that is not lower, the number is not higher
paired_number : (P : ℕ → ℕ → Type 0) → ((w k : ℕ) → P w k → w ≤ k) → (a b : Set) → Paired P a b → a.bits ≤ b.bits
paired_number P lower a b (within sub) = sub_le a b sub
paired_number P lower more all (tied a b w k so_far p has adds takes) =
    let weights : 2 ^ w ≤ 2 ^ k = pow_mono (lower w k p) in
    let before = paired_number P lower a b so_far in
    let whole = number_without all b k has takes in
    let up = number_with a more w adds in
    omega arith

-- what is picked is the lowest of some free works
pub floor_picked :
    (Pick : Set → ℕ → Type 0) (sets : List Set) (n : Node) (bound : Set) →
    ((o : Set) → Inside n o → All (Meet o) sets → Paired (Picked Pick n) bound o) →
    ((shared : Set) (w : ℕ) → Pick shared w → Lowest shared w) → Floor sets n bound
floor_picked Pick sets n bound paired low o inside m =
    paired_number (Picked Pick n) (λ w k p. lowest_le p.0 w k (low p.0 w p.2) p.3) bound o (paired o inside m)
