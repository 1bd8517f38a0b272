-- What each call that edits a scheme answers, and what the scheme holds then. A refused call leaves it as it was.
use Rattle.std.specs.Prelude.{◌≡◌, ℕ, ◌<◌, ◌≤◌, Bool, ◌⊎◌, List, [], ◌∷◌, ◌++◌, length, Ok, Err, MatchBool, Result, ◌≢◌, slice_set}
use Rattle.sets.specs.declared.Set.{Set}
use Rattle.sets.specs.Member.{Has, Members, none}
use Rattle.scheme.specs.declared.Work.{Work}
use Rattle.scheme.specs.declared.refusals.Refusal.{Refusal}
use Rattle.scheme.specs.declared.refusals.Refusal.TheVariants.{ItemTooHigh, GivesNothing, SchemeFull, NotWanted, NoSuchWork}
use Rattle.scheme.specs.Task.{Task}

abbrev pub with_works : Task → List Work → Task
with_works k works = record { works = works; standing = k.standing; wanted = k.wanted }

abbrev pub with_standing : Task → Set → Task
with_standing k items = record { works = k.works; standing = items; wanted = k.wanted }

abbrev pub with_wanted : Task → Set → Task
with_wanted k items = record { works = k.works; standing = k.standing; wanted = items }

-- what an opening makes: no works, nothing standing, nothing wanted
abbrev pub opened : Task
opened = record { works = []; standing = none; wanted = none }

-- Entry: the work is put behind the others, and its number answered.
abbrev pub Entered : Task → Work → Result ℕ Refusal → Task → Type 0
Entered k w (Ok n) after =
    (w.gives ≢ none) × (length k.works < 64) × (n ≡ length k.works) × (after ≡ with_works k (k.works ++ (w ∷ [])))
Entered k w (Err e) after =
    (((e ≡ GivesNothing) × (w.gives ≡ none)) ⊎ ((e ≡ SchemeFull) × (w.gives ≢ none) × (64 ≤ length k.works)))
    × (after ≡ k)

-- Amendment: the work of that number is replaced.
abbrev pub Amended : Task → ℕ → Work → Result (Unit {0}) Refusal → Task → Type 0
Amended k n w (Ok _) after = (n < length k.works) × (w.gives ≢ none) × (after ≡ with_works k (slice_set k.works n w))
Amended k n w (Err e) after =
    (((e ≡ NoSuchWork) × (length k.works ≤ n)) ⊎ ((e ≡ GivesNothing) × (n < length k.works) × (w.gives ≡ none)))
    × (after ≡ k)

-- An item added to a set of items: whether it was not yet there is answered.
abbrev pub Added : Set → ℕ → Result Bool Refusal → Set → Type 0
Added items i (Ok added) after =
    (i < 64) × Members after (λ j. Has items j ⊎ (j ≡ i)) × MatchBool added (Has items i → ⊥) (Has items i × (after ≡ items))
Added items i (Err e) after = (e ≡ ItemTooHigh) × (64 ≤ i) × (after ≡ items)

-- Standing: the item stands from the start.
abbrev pub Stood : Task → ℕ → Result Bool Refusal → Task → Type 0
Stood k i r after = Added k.standing i r after.standing × (after ≡ with_standing k after.standing)

-- Want: the item is wanted.
abbrev pub Wanted : Task → ℕ → Result Bool Refusal → Task → Type 0
Wanted k i r after = Added k.wanted i r after.wanted × (after ≡ with_wanted k after.wanted)

-- Waiver: the item is no longer wanted.
abbrev pub Waived : Task → ℕ → Result (Unit {0}) Refusal → Task → Type 0
Waived k i (Ok _) after =
    Has k.wanted i × Members after.wanted (λ j. Has k.wanted j × (j ≢ i)) × (after ≡ with_wanted k after.wanted)
Waived k i (Err e) after =
    (((e ≡ ItemTooHigh) × (64 ≤ i)) ⊎ ((e ≡ NotWanted) × (i < 64) × (Has k.wanted i → ⊥))) × (after ≡ k)
