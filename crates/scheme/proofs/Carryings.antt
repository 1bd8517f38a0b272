-- One step of carrying an order out.
use Rattle.std.proofs.Common.{◌≡◌, ℕ, ◌+◌, ◌<◌, ◌⊎◌, List, length, take, Err, slice_index, sym, subst, ⊎_elim}
use Rattle.std.proofs.lemmas.List.{take_more}
use Rattle.sets.specs.declared.Set.{Set}
use Rattle.sets.specs.Member.{Has, Members, Sub, Lowest}
use Rattle.sets.proofs.Laws.{has_or_not}
use Rattle.scheme.specs.declared.Work.{Work}
use Rattle.scheme.specs.declared.Stop.TheVariants.{Lacking}
use Rattle.scheme.specs.Carrying.{LowestLacking, Carries}
use Rattle.scheme.specs.Orders.{Carried, finished, onward}
use Rattle.scheme.specs.Task.{work}
use Rattle.scheme.proofs.Ordered.{carried_append}

-- An order is carried out up to a place, where the items t stand; the work v at the place lacks what `over` has.
module _ {works : List Work} {s t : Set} {place : ℕ} (order : List ℕ) (over : Set) (v : Work)
    (front : Carried works s (take place order) t) (within : place < length order)
    (held : slice_index order place < length works) (is : v ≡ work works (slice_index order place))
    (lacks : Members over (λ k. Has v.needs k × (Has t k → ⊥))) where
  pub carried_lacking : {i : ℕ} → Lowest over i → Carries works s order (Err (Lacking place i))
  carried_lacking {i} low =
      let lacking : LowestLacking v.needs t i = record {
        member = ((lacks i).0 low.member).0;
        lacked = ((lacks i).0 low.member).1;
        lowest = λ j lt y. ⊎_elim (λ z. z) (λ not. absurd (low.first j lt ((lacks j).1 (y, not)))) (has_or_not t j);
      }
      in
      let Lack : Work → Type 0 = λ u. LowestLacking u.needs t i in
      (t, record { within = within; front = front }, held, subst Lack is lacking)

  pub carried_more : {e : Set} → ((k : ℕ) → Has over k → ⊥) → Members e (λ k. Has t k ⊎ Has v.gives k) → Carried works s (take (place + 1) order) e
  carried_more {e} none adds =
      let Next : List ℕ → Type 0 = λ front. Carried works s front e in
      let Needs : Work → Type 0 = λ u. Sub u.needs t in
      let Gives : Work → Type 0 = λ u. Members e (λ k. Has t k ⊎ Has u.gives k) in
      let needs : Sub v.needs t = λ k y. ⊎_elim (λ z. z) (λ not. absurd (none k ((lacks k).1 (y, not)))) (has_or_not t k) in
      subst Next (sym (take_more order place 0 within))
      (carried_append front (onward held (subst Needs is needs) (subst Gives is adds) finished))
