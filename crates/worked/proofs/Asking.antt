-- Questions, run.
use Rattle.std.proofs.Common.{◌≡◌, ℕ, zero, suc, ◌+◌, ◌-◌, ◌<◌, ◌≤◌, not, List, [], ◌∷◌, ◌++◌, length, Some, None, Decides, Option, refl, subst, one-add, arith, length-append}
use Rattle.std.specs.Option.{IfSome, option_and_then}
use Rattle.std.proofs.lemmas.Bool.Decides.{Decides-like, Decides-not}
use Rattle.sets.specs.declared.Set.{Set}
use Rattle.sets.specs.Listed.{has_bit}
use Rattle.sets.specs.Member.{Has, Members, none}
use Rattle.sets.proofs.Laws.{none_has}
use Rattle.scheme.specs.Task.{Task}
use Rattle.scheme.specs.Reach.{Sufficient}
use Rattle.scheme.proofs.Reaches.{sufficient_grows}
use Rattle.tariff.specs.Amounts.{Scale}
use Rattle.chooser.specs.Least.{Least, set_cost}
use Rattle.rules.specs.Rules.{Ending, Outcome, Unbarred, Run, last, full, more, Settled, at_once, from_none, anew, Asked, beyond, found, spent}
use Rattle.rules.specs.Rules.Ending.{reached, exhausted}
use Rattle.rules.specs.Rules.Outcome.{answered, out_of_reach, capacity_spent}
use Rattle.rules.specs.Calls.{Fair}
use Rattle.rules.proofs.Optimal.{held_allowed}
use Rattle.worked.proofs.Tests.{when, when_tells, and_then_holds, has_tells, passing, passing_members}
use Rattle.worked.proofs.Reaching.{sufficient?, sufficient_tells}
use Rattle.worked.proofs.Growing.{landmark, landmark_drawn}
use Rattle.worked.proofs.Placing.{place, place_holds}
use Rattle.worked.proofs.Searching.{Comparing, First, Within, search, search_first}

-- an outcome and the landmarks then kept; None where a draw answered none
abbrev pub Answer : Type 0 → Type 0
Answer W = Option (Outcome W × List Set)

-- how a run ended, the landmarks then kept and the number of its rounds
abbrev pub End : Type 0
End = Ending × List Set × ℕ

-- with m rounds before it
abbrev pub with_rounds : ℕ → End → Option End
with_rounds m e = Some (e.0, e.1, m + e.2)

module _ (k : Task) (bars : Set) where
  -- the held works that are not barred
  abbrev pub unbarred : Set
  unbarred = passing (λ w. not (has_bit bars w)) (length k.works)

  unbarred_members : Members unbarred (λ w. (w < length k.works) × Unbarred bars w)
  unbarred_members =
      passing_members _ _ (λ w. Decides-not _ (has_tells bars w)) _

  unbarred_tells : Decides (sufficient? k unbarred) (Sufficient k (Unbarred bars))
  unbarred_tells =
      Decides-like _
      (sufficient_grows k _ _ (λ w held y. ((unbarred_members w).0 y).1))
      (sufficient_grows k _ _ (λ w held not. (unbarred_members w).1 (held, not)))
      (sufficient_tells k unbarred)

module _ {V : Type 0} (t : Scale V) (c : Comparing t) (capacity : ℕ) (k : Task) (prices : List V) (bars : Set) where
  -- ---- a draw

  abbrev pub draw : List Set → Option Set
  draw kept = search t c prices (unbarred k bars) (length k.works) kept none

  draw_holds : Fair t k prices → (kept : List Set) → IfSome (draw kept) (Least t prices bars kept)
  draw_holds fair kept =
      go (draw kept)
      (search_first t c prices (unbarred k bars) (length k.works) (λ w y. ((members w).0 y).0) kept none (λ w y. absurd (none_has w y)))
    where
      members : Members (unbarred k bars) (λ w. (w < length k.works) × Unbarred bars w)
      members = unbarred_members k bars

      go : (r : Option Set) → First t c prices (Within t c prices (unbarred k bars) (length k.works) none kept) r → IfSome r (Least t prices bars kept)
      go None nothing = tt
      go (Some s) h = record {
        hitting = record {
          allowed = λ w y. let p = (members w).0 (h.0.1 w y) in held_allowed t k prices bars fair w p.0 p.1;
          meets = h.0.2;
        };
        first = λ o g. h.1 o (
          λ w y. absurd (none_has w y),
          λ w y. let a = g.allowed w y in (members w).1 (subst (λ (n : ℕ). w < n) fair.0 a.0, a.2),
          g.meets,
        );
      }

  -- ---- a run, with so many places left

  -- one round, and what follows an insufficient draw
  abbrev pub round : (Set → Option End) → List Set → Option End
  round rest kept = option_and_then (λ s. when (sufficient? k s) (λ _. Some (reached s, kept, 1)) (λ _. rest s)) (draw kept)

  abbrev pub run : ℕ → List Set → Option End
  run zero kept = round (λ s. Some (exhausted, kept, 1)) kept
  run (suc places) kept = round (λ s. option_and_then (with_rounds 1) (run places (kept ++ (landmark k s ∷ [])))) kept

  abbrev pub Runs : List Set → Option End → Type 0
  Runs kept r = IfSome r (λ e. Run t capacity k prices bars kept e.0 e.1 e.2)

  round_holds :
      Fair t k prices →
      (kept : List Set) (rest : Set → Option End) →
      ((s : Set) → Least t prices bars kept s → (Sufficient k (Has s) → ⊥) → Runs kept (rest s)) →
      Runs kept (round rest kept)
  round_holds fair kept rest each =
      and_then_holds _ _
      (λ s least. when_tells (Runs kept) _ _ (sufficient_tells k s) (last least) (each s least))
      _ (draw_holds fair kept)

  run_holds : Fair t k prices → (places : ℕ) (kept : List Set) → length kept + places ≡ capacity → Runs kept (run places kept)
  run_holds fair zero kept e = round_holds fair kept _ (λ s least short. full least short (omega arith))
  run_holds fair (suc places) kept e =
      round_holds fair kept _
      (λ s least short.
      let to = kept ++ (landmark k s ∷ []) in
      and_then_holds _ _
      (λ (r : End) (h : Run t capacity k prices bars to r.0 r.1 r.2).
      rw (one-add r.2) (more least short (omega arith) (landmark_drawn k s) h))
      _
      (run_holds fair places to (simp length-append (omega arith))))

  -- ---- one run, or two

  abbrev pub settle_from : List Set → End → Option End
  settle_from kept (reached s, to, n) = Some (reached s, to, n)
  settle_from [] (exhausted, to, n) = Some (exhausted, to, n)
  settle_from (l ∷ kept) (exhausted, mid, m) = option_and_then (with_rounds m) (run capacity [])

  abbrev pub settle : List Set → Option End
  settle kept = option_and_then (settle_from kept) (run (capacity - length kept) kept)

  abbrev pub Settles : List Set → Option End → Type 0
  Settles kept r = IfSome r (λ e. Settled t capacity k prices bars kept e.0 e.1 e.2)

  settle_from_holds :
      Fair t k prices →
      (kept : List Set) (e : End) →
      Run t capacity k prices bars kept e.0 e.1 e.2 →
      Settles kept (settle_from kept e)
  settle_from_holds fair kept (reached s, to, n) r = at_once r
  settle_from_holds fair [] (exhausted, to, n) r = from_none refl r
  settle_from_holds fair (l ∷ kept) (exhausted, mid, m) r =
      and_then_holds _ _ (λ e. anew (λ e. cc) r) _ (run_holds fair capacity [] (omega arith))

  -- ---- a question

  abbrev pub finish : End → Answer t.Amount
  finish (reached s, to, n) =
      Some (answered (place k.works (suc s.bits) s k.standing) (set_cost t prices s) n, to)
  finish (exhausted, to, n) = Some (capacity_spent, to)

  abbrev pub question : List Set → Answer t.Amount
  question kept =
      when (sufficient? k (unbarred k bars)) (λ _. option_and_then finish (settle kept)) (λ _. Some (out_of_reach, kept))

  abbrev pub Answers : List Set → Answer t.Amount → Type 0
  Answers kept r = IfSome r (λ a. Asked t capacity k prices bars kept a.0 a.1)

  finish_holds :
      Sufficient k (Unbarred bars) →
      (kept : List Set) (e : End) →
      Settled t capacity k prices bars kept e.0 e.1 e.2 →
      Answers kept (finish e)
  finish_holds enough kept (reached s, to, n) r =
      found enough r (place_holds k.works (suc s.bits) s k.standing (omega arith))
  finish_holds enough kept (exhausted, to, n) r = spent enough r

  pub question_holds : Fair t k prices → (kept : List Set) → length kept ≤ capacity → Answers kept (question kept)
  question_holds fair kept fits =
      when_tells (Answers kept) _ _ (unbarred_tells k bars)
      (λ enough.
      and_then_holds _ _ (finish_holds enough kept) _
      (and_then_holds _ _ (settle_from_holds fair kept) _ (run_holds fair (capacity - length kept) kept (omega arith))))
      beyond
