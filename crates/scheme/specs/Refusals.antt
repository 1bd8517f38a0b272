-- The refusals, their numbers and their reasons.
use Rattle.std.specs.Prelude.{ℕ, List, codes}
use Rattle.scheme.specs.declared.refusals.Refusal.{Refusal}
use Rattle.scheme.specs.declared.refusals.Refusal.TheVariants.{ItemTooHigh, GivesNothing, SchemeFull, NotWanted, PriceCount, PriceTooHigh, NoSuchWork, ListTooShort, OutOfReach, CapacitySpent, PaperTooLong}

abbrev pub number_of : Refusal → ℕ
number_of ItemTooHigh = 1
number_of GivesNothing = 2
number_of SchemeFull = 3
number_of NotWanted = 4
number_of PriceCount = 5
number_of PriceTooHigh = 6
number_of NoSuchWork = 7
number_of ListTooShort = 8
number_of OutOfReach = 9
number_of CapacitySpent = 10
number_of PaperTooLong = 11

-- the text that a refusal is shown as
abbrev pub reason_of : Refusal → List ℕ
reason_of ItemTooHigh = codes "an item above 63"
reason_of GivesNothing = codes "a work that gives nothing"
reason_of SchemeFull = codes "64 works are held already"
reason_of NotWanted = codes "the waived item is not wanted"
reason_of PriceCount = codes "not one price for each work"
reason_of PriceTooHigh = codes "a price above the ceiling"
reason_of NoSuchWork = codes "a work that is not held"
reason_of ListTooShort = codes "the list is too short"
reason_of OutOfReach = codes "out of reach"
reason_of CapacitySpent = codes "the capacity is spent"
reason_of PaperTooLong = codes "a paper of more than 64 works"
