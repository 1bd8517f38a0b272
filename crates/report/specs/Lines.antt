-- The lines that are printed.
use Rattle.std.specs.Prelude.{ℕ, List, [], ◌++◌, codes, decimal, slice_index_or}
use Rattle.std.specs.List.{flat_map}
use Rattle.scheme.specs.Task.{idle}
use Rattle.scheme.specs.Refusals.{number_of}
use Rattle.scheme.specs.declared.refusals.Refusal.{Refusal}
use Rattle.scheme.specs.declared.refusals.Refusal.TheVariants.{OutOfReach, CapacitySpent}
use Rattle.scheme_file.specs.declared.causes.Fault.{Fault}
use Rattle.scheme_file.specs.Causes.{cause_number}
use Rattle.scheme_file.specs.Format.{Entry}
use Rattle.rules.specs.Rules.{Outcome}
use Rattle.rules.specs.Rules.Outcome.{answered, out_of_reach, capacity_spent}

-- a work's number, its pounds and its name
abbrev pub line : ℕ → ℕ → List ℕ → List ℕ
line w pounds name = decimal w ++ (codes " " ++ (decimal pounds ++ (codes " " ++ (name ++ codes "\n"))))

-- what is read past the last work
abbrev pub blank : Entry
blank = record { work = idle; pounds = 0; hours = 0; name = [] }

-- the line of a work, by what the file tells of it
abbrev pub work_line : List Entry → ℕ → List ℕ
work_line works w = line w (slice_index_or works w blank).pounds (slice_index_or works w blank).name

-- the sum
abbrev pub total_line : ℕ → List ℕ
total_line total = codes "total " ++ (decimal total ++ codes "\n")

-- a line for each work of an order, and the sum
abbrev pub answer_text : List Entry → List ℕ → ℕ → List ℕ
answer_text works order total = flat_map (work_line works) order ++ total_line total

-- the number of a refusal
abbrev pub refusal_text : Refusal → List ℕ
refusal_text e = codes "refused " ++ (decimal (number_of e) ++ codes "\n")

-- the number of a fault's cause, and its offset
abbrev pub fault_text : Fault → List ℕ
fault_text f = codes "refused " ++ (decimal (cause_number f.cause) ++ (codes " at " ++ (decimal f.offset ++ codes "\n")))

-- what is printed of an outcome in pounds
abbrev pub outcome_text : List Entry → Outcome ℕ → List ℕ
outcome_text works (answered order total rounds) = answer_text works order total
outcome_text works out_of_reach = refusal_text OutOfReach
outcome_text works capacity_spent = refusal_text CapacitySpent
