-- What a planner is made of, and what a call does to it.
use Rattle.std.specs.Prelude.{ℕ, List}
use Rattle.sets.specs.declared.Set.{Set}
use Rattle.scheme.specs.declared.Scheme.{Scheme}
use Rattle.scheme.specs.Task.{task_of}
use Rattle.tariff.specs.Amounts.{Scale}
use Rattle.rules.specs.Calls.{Call, Effect}
use Rattle.planner.specs.Asks.{Leads}
use Rattle.std.specs.declared.fmt.Debug as Debug
use Rattle.tariff.specs.declared.domain.Tariff as Tariff
use Rattle.chooser.specs.declared.interface.Chooser as Chooser
use Rattle.planner.specs.declared.types.Planner.{Planner}

module _ {T C V : Type 0} {tariff : Tariff.Ghosts T V} {debug : Debug.Ghosts V} {chooser : Chooser.Ghosts C} where
  abbrev pub scheme_of : Planner T C V tariff debug chooser → Scheme
  scheme_of p = p.scheme

  abbrev pub chooser_of : Planner T C V tariff debug chooser → C
  chooser_of p = p.chooser

  module _ (t : Scale V) (capacity : ℕ) (kept : C → List Set) (before : Planner T C V tariff debug chooser) (c : Call V) (after : Planner T C V tariff debug chooser) where
    -- the call has its effect on what the planner holds and keeps
    abbrev pub Does : Type 0
    Does = Effect t capacity (task_of before.scheme) (kept before.chooser) c (task_of after.scheme) (kept after.chooser)

    -- the calls that led to what the planner held and kept, with the call, lead to what it then holds and keeps
    abbrev pub LeadsTo : Type 0
    LeadsTo = Leads t capacity (task_of before.scheme) (kept before.chooser) c (task_of after.scheme) (kept after.chooser)
