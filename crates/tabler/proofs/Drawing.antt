-- What the last entry of the table says of a draw.
use Rattle.std.proofs.Common.{◌-◌, ◌^◌, ◌<◌, List, [], ◌∷◌, length, arith, pow_pos}
use Rattle.sets.specs.declared.Set.{Set}
use Rattle.sets.specs.Member.{Members, Meet, Sub}
use Rattle.tariff.specs.Amounts.{All, Scale}
use Rattle.chooser.specs.Least.{Allowed, Hitting, Least}
use Rattle.chooser.specs.Steps.{Held}
use Rattle.chooser.proofs.Trimming.{candidates_held, candidates_least, candidates_none}
use Rattle.tabler.specs.Table.{Best}
use Rattle.tabler.proofs.Subsets.{met_of_all, all_of_met}

-- a larger set meets what a smaller one meets
meet_larger : (a b : Set) → Sub a b → (sets : List Set) → All (Meet a) sets → All (Meet b) sets
meet_larger a b h [] m = tt
meet_larger a b h (one ∷ sets) m =
    let met = m.0 in ((met.0, h met.0 met.1, met.2), meet_larger a b h sets m.1)

module _
    {V : Type 0} (t : Scale V) (prices : List V) (bars : Set) (sets : List Set) (free : Set)
    (members : Members free (λ w. Allowed t prices bars w × Held sets w)) where
  pub least_of_best : (s : Set) → Best t prices free sets (record { bits = 2 ^ length sets - 1 }) s → Least t prices bars sets s
  least_of_best s best =
      let all : Set = record { bits = 2 ^ length sets - 1 } in
      let in_range : all.bits < 2 ^ length sets = omega (arith, pow_pos (length sets)) in
      candidates_least t prices bars sets free (candidates_held t prices bars sets free members) s best.inside
      (all_of_met sets s best.meets) (λ o h m. best.first o h (met_of_all sets all o in_range m))

  pub none_of_unmet : (All (Meet free) sets → ⊥) → (o : Set) → Hitting t prices bars sets o → ⊥
  none_of_unmet unmet =
      candidates_none t prices bars sets free (candidates_held t prices bars sets free members)
      (λ o h m. unmet (meet_larger o free h sets m))
