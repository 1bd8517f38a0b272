-- Subsets of the kept sets, as sets of places.
use Rattle.std.proofs.Common.{◌≡◌, ℕ, ◌+◌, ◌-◌, ◌^◌, ◌<◌, ◌≤◌, List, length, get_or, sym, subst, arith}
use native.Mathlib.Decide.{dec_lt}
use lib.ListN.{get_or-eq_default}
use Rattle.sets.specs.declared.Set.{Set}
use Rattle.sets.specs.Member.{Has, Members, Meet, none}
use Rattle.sets.proofs.Laws.{below_members, has_below, none_has, proper_lt, sub_le}
use Rattle.tariff.specs.Amounts.{All}
use Rattle.tariff.proofs.Sums.{all_at}
use Rattle.chooser.proofs.Hits.{all_of_places}
use Rattle.tabler.specs.Table.{Met, Touched, Unmet}

-- ---- a set that meets the kept sets of a subset

pub met_of_all : (sets : List Set) (subset s : Set) → subset.bits < 2 ^ length sets → All (Meet s) sets → Met sets subset s
met_of_all sets subset s lt all k y = all_at (Meet s) sets k none (has_below (length sets) subset k lt y) all

-- the subset of all
pub all_of_met : (sets : List Set) (s : Set) → Met sets (record { bits = 2 ^ length sets - 1 }) s → All (Meet s) sets
all_of_met sets s met = all_of_places (Meet s) none sets (λ i lt. met i ((below_members (length sets) i).1 lt))

-- ---- the places of a subset at which the set lacks a work, found at one place after another

module _ (sets : List Set) (w : ℕ) (subset : Set) where
  -- the places of a subset but for those below n at which the set has w
  pub record Lacking (n : ℕ) (left : Set) : Type 0 where
    pub members : Members left (λ k. Has subset k × (k < n → Has (get_or sets k none) w → ⊥))

  pub lacking_none : Lacking 0 subset
  lacking_none = record { members = λ k. (λ y. (y, λ lt. absurd (omega arith)), λ p. p.0) }

  module _ (n : ℕ) (left : Set) (so_far : Lacking n left) where
    pub lacking_less :
        (x : Set) → Has (get_or sets n none) w → Members x (λ k. Has left k × (k ≡ n → ⊥)) → Lacking (n + 1) x
    lacking_less x has m = record {
      members = λ k. (
        λ y.
            let p = (m k).0 y in
            let q = (so_far.members k).0 p.0 in
            (q.0, λ lt h. q.1 (omega (arith, p.1)) h),
        λ p. (m k).1 (
          (so_far.members k).1 (p.0, λ lt. p.1 (omega arith)),
          λ e. p.1 (omega arith) (subst (λ (j : ℕ). Has (get_or sets j none) w) (sym e) has),
        ),
      );
    }

    pub lacking_over : (Has (get_or sets n none) w → ⊥) → Lacking (n + 1) left
    lacking_over lacks = record {
      members = λ k. (
        λ y.
            let q = (so_far.members k).0 y in (
              q.0,
              λ lt h. elim (dec_lt k n) [
                | yes under ↦ q.1 under h
                | no at ↦ let e : k ≡ n = omega arith in lacks (subst (λ (j : ℕ). Has (get_or sets j none) w) e h)
              ],
            ),
        λ p. (so_far.members k).1 (p.0, λ lt. p.1 (omega arith)),
      );
    }

    pub lacking_all : length sets ≤ n → Unmet sets subset w left
    lacking_all end k = (
      λ y.
          let q = (so_far.members k).0 y in (
            q.0,
            λ h. elim (dec_lt k n) [
              | yes under ↦ q.1 under h
              | no past ↦
                  let e : get_or sets k none ≡ none = get_or-eq_default sets none (omega arith) in
                  none_has w (subst (λ (s : Set). Has s w) e h)
            ],
          ),
      λ p. (so_far.members k).1 (p.0, λ lt. p.1),
    )

    -- their number is at most the subset's
    pub lacking_within : left.bits ≤ subset.bits
    lacking_within = sub_le left subset (λ k y. ((so_far.members k).0 y).0)

-- they are a lower number than the subset, where some set of it has the work
pub unmet_lower : (sets : List Set) (subset left : Set) (w : ℕ) → Touched sets subset w → Unmet sets subset w left → left.bits < subset.bits
unmet_lower sets subset left w some m =
    proper_lt left subset (λ k y. ((m k).0 y).0) some.0 some.1 (λ y. ((m some.0).0 y).1 some.2)
