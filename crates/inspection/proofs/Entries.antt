-- Works entered one after another.
use Rattle.std.proofs.Common.{◌≡◌, ℕ, ◌+◌, ◌^◌, ◌<◌, ◌⊎◌, List, [], ◌∷◌, ◌++◌, map, length, get_or, take, sym, ap, ◌∙◌, subst, ap₂, inr, ⊎_elim, append_assoc, append-nil}
use Rattle.std.proofs.lemmas.List.{map_more}
use Rattle.sets.specs.declared.Set.{Set}
use Rattle.sets.specs.Member.{Has, Members, none}
use Rattle.sets.proofs.Laws.{none_has, only_members, same_members}
use Rattle.scheme.specs.declared.Work.{Work}
use Rattle.scheme.specs.Edits.{opened, with_works, with_wanted}
use Rattle.scheme.specs.Task.{Task}
use Rattle.inspection.specs.Sample.{set_of, work_of, Holds}

pub holds_none : (k : Task) → Holds k [] k
holds_none k = ap (λ works. with_works k works) (sym (append-nil k.works))

pub holds_more : (k mid after : Task) (ps : List (ℕ × ℕ)) (i : ℕ) (w : Work) →
    i < length ps → w ≡ work_of (get_or ps i (0, 0)) →
    Holds k (take i ps) mid → after ≡ with_works mid (mid.works ++ (w ∷ [])) → Holds k (take (i + 1) ps) after
holds_more k mid after ps i w lt is held entered =
    let front = k.works ++ map work_of (take i ps) in
    let longer : front ++ (w ∷ []) ≡ k.works ++ map work_of (take (i + 1) ps) =
    append_assoc k.works (map work_of (take i ps)) (w ∷ [])
    ∙ ap (λ xs. k.works ++ xs)
    (ap (λ x. map work_of (take i ps) ++ (x ∷ [])) is ∙ sym (map_more work_of ps i (0, 0) lt))
    in
    entered ∙ ap (λ m. with_works m (m.works ++ (w ∷ []))) held ∙ ap (λ works. with_works k works) longer

-- the set of what nothing holds and one number is the number's weight
pub only_wanted : (s : Set) (i : ℕ) → Members s (λ j. Has none j ⊎ (j ≡ i)) → s ≡ set_of (2 ^ i)
only_wanted s i m =
    same_members (λ j. j ≡ i) s (set_of (2 ^ i)) (λ j. (λ y. ⊎_elim (λ n. absurd (none_has j n)) (λ e. e) ((m j).0 y), λ e. (m j).1 (inr e)))
    (only_members i)

-- a scheme newly opened, with works entered and one item wanted
pub entered_wanted : (k mid after : Task) (ps : List (ℕ × ℕ)) (i : ℕ) →
    k ≡ opened → Holds k ps mid →
    Members after.wanted (λ j. Has mid.wanted j ⊎ (j ≡ i)) → after ≡ with_wanted mid after.wanted →
    after ≡ record { works = map work_of ps; standing = none; wanted = set_of (2 ^ i) }
entered_wanted k mid after ps i new entered adds wants =
    let held : mid ≡ with_works opened (map work_of ps) = entered ∙ ap (λ m. with_works m (m.works ++ map work_of ps)) new in
    let Adds : Set → Type 0 = λ s. Members after.wanted (λ j. Has s j ⊎ (j ≡ i)) in
    let want = only_wanted after.wanted i (subst Adds (ap (λ m. m.wanted) held) adds) in
    wants ∙ ap₂ (λ m s. with_wanted m s) held want
