-- The worked junctions, their prices, and the calls that lead to the sample junction.
use Rattle.std.specs.Prelude.{ℕ, zero, suc, ◌+◌, ◌^◌, List, [], ◌∷◌, ◌++◌, map}
use Rattle.std.specs.List.{range_with_len}
use Rattle.sets.specs.declared.Set.{Set}
use Rattle.sets.specs.Member.{none}
use Rattle.scheme.specs.declared.Work.{Work}
use Rattle.scheme.specs.Task.{Task}
use Rattle.scheme.specs.Edits.{with_wanted}
use Rattle.tariff.specs.declared.hours_first.HoursAndPounds.{HoursAndPounds}
use Rattle.inspection.specs.Sample.{set_of, table, sample}
use Rattle.rules.specs.Calls.{Call, of_parts}
use Rattle.rules.specs.Calls.Call.{enter, want, ask}

-- the set of these members, each listed once
abbrev pub these : List ℕ → Set
these [] = none
these (k ∷ rest) = set_of (2 ^ k + (these rest).bits)

-- a work that needs nothing
abbrev pub giving : List ℕ → Work
giving items = of_parts none (these items)

-- the junction of these works: nothing stands, and these items are wanted
abbrev pub junction : List Work → List ℕ → Task
junction works items = record { works = works; standing = none; wanted = these items }

-- ---- the sample junction: the prices of Trench, Duct, Supply, Controller, Loops, Radar and Priority

abbrev pub pounds : List ℕ
pounds = 900 ∷ 500 ∷ 300 ∷ 700 ∷ 400 ∷ 150 ∷ 200 ∷ []

abbrev pub priced_at : ℕ × ℕ → HoursAndPounds
priced_at p = record { hours = p.0; pounds = p.1 }

abbrev pub hours_and_pounds : List HoursAndPounds
hours_and_pounds =
    map priced_at ((10, 900) ∷ (6, 500) ∷ (6, 300) ∷ (2, 700) ∷ (8, 400) ∷ (0, 150) ∷ (0, 200) ∷ [])

abbrev pub entry : {V : Type 0} → ℕ × ℕ → Call V
entry p = enter (set_of p.0) (set_of p.1)

-- its seven works are entered, and item 4 is wanted
abbrev pub entries : {V : Type 0} → List (Call V)
entries = map entry table ++ (want 4 ∷ [])

-- and then it is asked about in pounds: twice with nothing barred, then with Radar barred, then with Duct barred
abbrev pub questions : List (Call ℕ)
questions = ask pounds none 7 ∷ ask pounds none 7 ∷ ask pounds (these (5 ∷ [])) 7 ∷ ask pounds (these (1 ∷ [])) 7 ∷ []

-- ---- other junctions

-- the works of the sample junction, and nothing wanted
abbrev pub unwanting : Task
unwanting = with_wanted sample none

-- three works that give 0, 1 and both; both items are wanted
abbrev pub pair : Task
pair = junction (giving (0 ∷ []) ∷ giving (1 ∷ []) ∷ giving (0 ∷ 1 ∷ []) ∷ []) (0 ∷ 1 ∷ [])

-- two works that each give the wanted item
abbrev pub twins : Task
twins = junction (giving (0 ∷ []) ∷ giving (0 ∷ []) ∷ []) (0 ∷ [])

-- work 0 needs item 1 and gives 0, work 1 needs 0 and gives 1; 0 is wanted
abbrev pub circle : Task
circle =
    junction (of_parts (these (1 ∷ [])) (these (0 ∷ [])) ∷ of_parts (these (0 ∷ [])) (these (1 ∷ [])) ∷ []) (0 ∷ [])

-- n works that each give an item of its own, all of them wanted
abbrev pub apart : ℕ → Task
apart n = junction (map (λ i. giving (i ∷ [])) (range_with_len 0 n)) (range_with_len 0 n)

-- the sets of the one member n - 1, .., 1, 0
abbrev pub singles : ℕ → List Set
singles zero = []
singles (suc n) = these (n ∷ []) ∷ singles n
