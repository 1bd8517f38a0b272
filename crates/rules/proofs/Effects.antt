-- What the calls that edit a scheme do, as effects of calls on a planner: the kept sets are let go where they may be landmarks no longer.
use Rattle.std.proofs.Common.{◌≡◌, ℕ, ◌^◌, ◌<◌, Bool, true, false, List, [], Ok, Err, Result, sym, ap, ◌∙◌, subst, inl, inr, ⊎_elim, arith}
use Rattle.sets.specs.declared.Set.{Set}
use Rattle.sets.specs.Member.{Has}
use Rattle.sets.proofs.Laws.{has_below}
use Rattle.scheme.specs.declared.refusals.Refusal.{Refusal}
use Rattle.scheme.specs.Task.{Task}
use Rattle.scheme.specs.Edits.{Entered, Amended, Stood, Wanted, Waived, with_standing, with_wanted}
use Rattle.tariff.specs.Amounts.{Scale}
use Rattle.rules.specs.Calls.{Call, of_parts, Effect, entered, not_entered, amended, not_amended, stood, not_stood, added, not_added, waived, not_waived}
use Rattle.rules.specs.Calls.Call.{enter, amend, stand, want, waive}

standing_kept : {k after : Task} → after ≡ with_standing k after.standing → after.standing ≡ k.standing → after ≡ k
standing_kept {k} e same = e ∙ ap (with_standing k) same

wanted_kept : {k after : Task} → after ≡ with_wanted k after.wanted → after.wanted ≡ k.wanted → after ≡ k
wanted_kept {k} e same = e ∙ ap (with_wanted k) same

module _ {V : Type 0} (t : Scale V) (capacity : ℕ) (k after : Task) (kept : List Set) where
  -- the effect, where what is then held is known
  effect_as : {c : Call V} {to : List Set} {held : Task} → after ≡ held → Effect t capacity k kept c held to → Effect t capacity k kept c after to
  effect_as {c} {to} e f = let P : Task → Type 0 = λ x. Effect t capacity k kept c x to in subst P (sym e) f

  module _ (needs gives : Set) where
    pub effect_entered : (n : ℕ) → Entered k (of_parts needs gives) (Ok n) after → Effect t capacity k kept (enter needs gives) after []
    effect_entered n h = effect_as h.3 (entered h.0 h.1)

    pub effect_not_entered : (e : Refusal) → Entered k (of_parts needs gives) (Err e) after → Effect t capacity k kept (enter needs gives) after kept
    effect_not_entered e h = effect_as h.1 (not_entered (⊎_elim (λ p. inl p.1) (λ p. inr p.2) h.0))

    pub effect_amended : (w : ℕ) → Amended k w (of_parts needs gives) (Ok tt) after → Effect t capacity k kept (amend w needs gives) after []
    effect_amended w h = effect_as h.2 (amended h.0 h.1)

    pub effect_not_amended :
        (w : ℕ) (e : Refusal) → Amended k w (of_parts needs gives) (Err e) after → Effect t capacity k kept (amend w needs gives) after kept
    effect_not_amended w e h = effect_as h.1 (not_amended (⊎_elim (λ p. inl p.1) (λ p. inr p.2) h.0))

  module _ (i : ℕ) where
    pub effect_stood : Stood k i (Ok true) after → Effect t capacity k kept (stand i) after []
    effect_stood h = effect_as h.1 (stood h.0.0 h.0.2 h.0.1)

    pub effect_stood_before : Stood k i (Ok false) after → Effect t capacity k kept (stand i) after kept
    effect_stood_before h = effect_as (standing_kept h.1 h.0.2.1) (not_stood (inr h.0.2.0))

    pub effect_not_stood : (e : Refusal) → Stood k i (Err e) after → Effect t capacity k kept (stand i) after kept
    effect_not_stood e h = effect_as (standing_kept h.1 h.0.2) (not_stood (inl h.0.1))

    pub effect_wanted : (b : Bool) → Wanted k i (Ok b) after → Effect t capacity k kept (want i) after kept
    effect_wanted true h = effect_as h.1 (added h.0.0 h.0.2 h.0.1)
    effect_wanted false h = effect_as (wanted_kept h.1 h.0.2.1) (not_added (inr h.0.2.0))

    pub effect_not_wanted : (e : Refusal) → Wanted k i (Err e) after → Effect t capacity k kept (want i) after kept
    effect_not_wanted e h = effect_as (wanted_kept h.1 h.0.2) (not_added (inl h.0.1))

    pub effect_want : (r : Result Bool Refusal) → Wanted k i r after → Effect t capacity k kept (want i) after kept
    effect_want (Ok b) h = effect_wanted b h
    effect_want (Err e) h = effect_not_wanted e h

    pub effect_waived : Waived k i (Ok tt) after → Effect t capacity k kept (waive i) after []
    effect_waived h = effect_as h.2 (waived h.0 h.1)

    -- an item above 63 is not wanted, since the set's number is of 64 bits
    pub effect_not_waived : (e : Refusal) → k.wanted.bits < 2 ^ 64 → Waived k i (Err e) after → Effect t capacity k kept (waive i) after kept
    effect_not_waived e small h =
        let out : Has k.wanted i → ⊥ = λ y.
        ⊎_elim (λ p. omega (arith, p.1, has_below 64 k.wanted i small y)) (λ p. p.2 y) h.0
        in
        effect_as h.1 (not_waived out)
