-- Lists of calls, run: openings, and entries, wants and questions that are not refused.
use Rattle.std.proofs.Common.{◌≡◌, ℕ, ◌^◌, Bool, true, not, ◌&&◌, eqb, ltb, leb, List, [], ◌∷◌, ◌++◌, length, Some, None, Option, ap, append_assoc, append-nil, arith}
use Rattle.std.specs.Option.{IfSome, option_and_then}
use Rattle.std.proofs.lemmas.Bool.{and_parts, eqb-true, leb-true, ltb-true}
use Rattle.std.proofs.lemmas.Bool.Decides.{Decides-and, Decides-ltb, Decides-not}
use Rattle.sets.specs.declared.Set.{Set}
use Rattle.sets.specs.Listed.{has_bit}
use Rattle.sets.proofs.Laws.{has_below}
use Rattle.scheme.specs.Task.{Task}
use Rattle.scheme.specs.Edits.{opened, with_works, with_wanted}
use Rattle.tariff.specs.Amounts.{Scale, All}
use Rattle.rules.specs.Calls.{Call, Fair, Valid, of_parts, Effect, entered, added, asked, Since, opening, then}
use Rattle.rules.specs.Calls.Call.{enter, want, ask}
use Rattle.worked.proofs.Tests.{when, when_tells, and_then_holds, has_tells, with, with_members}
use Rattle.worked.proofs.Searching.{Comparing}
use Rattle.worked.proofs.Asking.{question, question_holds}

-- what is held and kept; None where a call is not run
abbrev pub State : Type 0
State = Option (Task × List Set)

module _ {V : Type 0} (t : Scale V) (c : Comparing t) where
  -- ---- arguments that are not refused

  abbrev pub all_within? : List V → Bool
  all_within? [] = true
  all_within? (v ∷ vs) = c.within? v && all_within? vs

  all_within : (vs : List V) → all_within? vs ≡ true → All t.within vs
  all_within [] e = tt
  all_within (v ∷ vs) e =
      let p = and_parts _ _ e in (c.within v p.0, all_within vs p.1)

  abbrev pub fair? : Task → List V → Bool
  fair? k prices = eqb (length prices) (length k.works) && all_within? prices

  pub fair : (k : Task) (prices : List V) → fair? k prices ≡ true → Fair t k prices
  fair k prices e =
      let p = and_parts _ _ e in
      (eqb-true _ _ p.0, all_within prices p.1)

  abbrev pub valid? : Task → List V → Set → ℕ → Bool
  valid? k prices bars places = fair? k prices && (ltb bars.bits (2 ^ length k.works) && leb (length k.works) places)

  valid : (k : Task) (prices : List V) (bars : Set) (places : ℕ) → valid? k prices bars places ≡ true → Valid t k prices bars places
  valid k prices bars places e =
      let p = and_parts _ _ e in
      let q = and_parts _ _ p.1 in
      (fair k prices p.0, λ w. has_below (length k.works) bars w (ltb-true _ _ q.0), leb-true _ _ q.1)

  -- ---- one call

  module _ (capacity : ℕ) where
    abbrev pub does : Task → List Set → Call V → State
    does k kept (enter n g) =
        when (ltb 0 g.bits && ltb (length k.works) 64) (λ _. Some (with_works k (k.works ++ (of_parts n g ∷ [])), [])) (λ _. None)
    does k kept (want i) =
        when (ltb i 64 && not (has_bit k.wanted i)) (λ _. Some (with_wanted k (with k.wanted i), kept)) (λ _. None)
    does k kept (ask prices bars places) =
        when (valid? k prices bars places && leb (length kept) capacity)
        (λ _. option_and_then (λ a. Some (k, a.1)) (question t c capacity k prices bars kept)) (λ _. None)
    does k kept other = None

    abbrev Does : Task → List Set → Call V → State → Type 0
    Does k kept call r = IfSome r (λ s. Effect t capacity k kept call s.0 s.1)

    does_holds : (k : Task) (kept : List Set) (call : Call V) → Does k kept call (does k kept call)
    does_holds k kept (enter n g) =
        when_tells (Does k kept (enter n g)) _ _ (Decides-and _ _ (Decides-ltb 0 g.bits) (Decides-ltb (length k.works) 64))
        (λ p. entered (λ none. omega (arith, p.0, ap (λ (s : Set). s.bits) none)) p.1) (λ _. tt)
    does_holds k kept (want i) =
        when_tells (Does k kept (want i)) _ _ (Decides-and _ _ (Decides-ltb i 64) (Decides-not _ (has_tells k.wanted i)))
        (λ p. added p.0 p.1 (with_members k.wanted i)) (λ _. tt)
    does_holds k kept (ask prices bars places) =
        when_tells (Does k kept (ask prices bars places)) _ _ (λ e. e, λ e. e)
        (λ e.
        let p = and_parts _ _ e in
        let ok = valid k prices bars places p.0 in
        and_then_holds _ _ (λ a. asked ok)
        (question t c capacity k prices bars kept)
        (question_holds t c capacity k prices bars ok.0 kept (leb-true _ _ p.1)))
        (λ _. tt)
    does_holds k kept other = tt

    -- ---- one call after another

    abbrev pub after : List (Call V) → Task × List Set → State
    after [] s = Some s
    after (call ∷ calls) s = option_and_then (after calls) (does s.0 s.1 call)

    after_holds :
        (later calls : List (Call V)) (s : Task × List Set) →
        Since t capacity calls s.0 s.1 →
        IfSome (after later s) (λ e. Since t capacity (calls ++ later) e.0 e.1)
    after_holds [] calls s h = rw (append-nil calls) h
    after_holds (call ∷ later) calls s h =
        and_then_holds _ (after later)
        (λ x e. rw append_assoc at (after_holds later (calls ++ (call ∷ [])) x (then h e)))
        (does s.0 s.1 call) (does_holds s.0 s.1 call)

    pub since_holds : (calls : List (Call V)) → IfSome (after calls (opened, [])) (λ s. Since t capacity calls s.0 s.1)
    since_holds calls = after_holds calls [] (opened, []) opening
