-- The works that the iterator of a set yields.
use Rattle.std.proofs.Common.{◌≡◌, ℕ, ◌^◌, ◌<◌, ◌≤◌, List, [], ◌∷◌, length, None, sym, refl, ap, ◌∙◌, inl, inr, arith}
use lib.Count.{ones-le}
use Rattle.std.specs.Iterator.{Yields, Drains}
use Rattle.sets.specs.declared.Set.{Set}
use Rattle.sets.specs.declared.iter.SetIter.{SetIter}
use Rattle.sets.specs.Listed.{In, members}
use Rattle.sets.proofs.Listing.{nexts, members_sound, members_listed, members_none, members_next, count_members}
use Rattle.tariff.specs.Amounts.{Scale, All}
use Rattle.chooser.specs.Least.{Capped, SetCapped, OrderCapped, set_cost, order_cost}
use Rattle.chooser.proofs.OrderCosts.{cost_listed}

-- the members, in rising order
members_drained : (xs : List ℕ) (s t u : SetIter) → Yields nexts s xs t → nexts t None u → xs ≡ members s.rest
members_drained [] s t u same none = sym (members_none s.rest (rw same none.0))
members_drained (x ∷ xs) s t u (j, step, came) none =
    ap (λ ys. x ∷ ys) (members_drained xs j t u came none) ∙ sym (members_next s.rest j.rest x step)

all_listed : (P : ℕ → Type 0) (xs : List ℕ) → ((k : ℕ) → In k xs → P k) → All P xs
all_listed P [] h = tt
all_listed P (x ∷ xs) h = (h x (inl refl), all_listed P xs (λ k y. h k (inr y)))

-- what they cost together
pub set_drained :
    {V : Type 0} (t : Scale V) (prices : List V) (s : Set) (it : SetIter) (xs : List ℕ) (total : t.Amount) → s.bits < 2 ^ 64 → it.rest ≡ s → Drains nexts it xs →
    (length xs ≤ 64 → OrderCapped t prices xs → total ≡ order_cost t prices xs) → SetCapped t prices s → total ≡ set_cost t prices s
set_drained t prices s it xs total small whole (u, (last, came, none)) sums capped =
    let same : xs ≡ members s = members_drained xs it last u came none ∙ ap members whole in
    let few : length xs ≤ 64 = omega (arith, ap length same, count_members s small, ones-le 64 s.bits small) in
    let each : OrderCapped t prices xs =
    rw same (all_listed (Capped t prices) (members s) (λ k y. capped k (members_sound s k y).0))
    in
    sums few each ∙ ap (order_cost t prices) same ∙ cost_listed t prices s (members s) (members_listed s small)
