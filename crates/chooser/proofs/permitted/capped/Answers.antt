use Rattle.std.proofs.Common.{◌≡◌, ℕ, ◌+◌, ◌<◌, true, false, ◌⊎◌, length, sym, refl, ◌∙◌, subst, inl, ⊎_elim, arith}
use native.Mathlib.Decide.{dec_lt}
use Rattle.sets.specs.declared.Set.{Set}
use Rattle.sets.specs.Member.{Has, Members, none}
use Rattle.sets.proofs.Laws.{none_has, filled_with, filled_over, added_member}
use Rattle.chooser.specs.Least.{Capped}
use Rattle.chooser.proofs.Tallies.{capped_of, within_of}
use Rattle.chooser.proofs.permitted.capped.Goals as goal
use Rattle.chooser.proofs.permitted.capped.Goals.{then-is_price, else-is_price}

-- no works are below 0
none_below : (P : ℕ → Type 0) (s : Set) → s ≡ none → Members s (λ k. (k < 0) × P k)
none_below P s e k =
    let nowhere : Has s k → ⊥ = λ y. none_has k (subst (λ (o : Set). Has o k) e y) in
    (λ y. absurd (nowhere y), λ p. absurd (omega (arith, p.0)))

-- the works below n of which P holds, with n, unless it is too large to be a member
next_with : (P : ℕ → Type 0) (n : ℕ) (s x : Set) → Members s (λ k. (k < n) × P k) → ((k : ℕ) → P k → k < 64) → (n < 64 → P n) →
    Members x (λ k. Has s k ⊎ ((k ≡ n) × (n < 64))) → Members x (λ k. (k < n + 1) × P k)
next_with P n s x below small here adds =
    elim (dec_lt n 64) [
      | yes lt ↦ filled_with P n (n + 1) s refl below x (here lt) (added_member s x n lt adds)
      | no ge ↦
          let m = filled_over P n (n + 1) s refl below (λ p. ge (small n p)) in
          λ k. (λ y. (m k).0 (⊎_elim (λ z. z) (λ p. absurd (ge p.1)) ((adds k).0 y)), λ p. (adds k).1 (inl ((m k).1 p)))
    ]

pub loop-w-init : goal.loop-w-init
loop-w-init g c =
    let prices = c.args.prices.now in
    none_below (λ w. (w < length prices) × Capped g.T.Tariff.scale prices w × (w < 64)) c.empty-found.result c.empty-found.ensures

pub loop-w-preserved : goal.loop-w-preserved
loop-w-preserved g c =
    let n = c.loop-w.w in
    let t = g.T.Tariff.scale in
    let prices = c.args.prices.now in
    let price = c.index-prices-w.result in
    let held : n < length prices = c.loop-w-test.true in
    let P : ℕ → Type 0 = λ w. (w < length prices) × Capped t prices w × (w < 64) in
    let After : Set → Type 0 = λ found. Members found (λ k. (k < n + 1) × P k) in
    elim c.if-is_price.branch [
      | then-is_price w ↦
          let within = c.is_price.ensures.0 w.if-is_price.true in
          subst After (sym w.found-is)
          (next_with P n c.loop-w.found w.with-found.result c.loop-w.invariant (λ k p. p.2)
          (λ lt. (held, capped_of t prices n price held c.index-prices-w.is within, lt)) w.with-found.ensures)
      | else-is_price w ↦
          let no_price : P n → ⊥ = λ p.
          let yes-price = c.is_price.ensures.1 (within_of t prices n price held c.index-prices-w.is p.1) in
          let never : true ≡ false = sym yes-price ∙ w.if-is_price.false in
          let clash : ◌≡◌ {A = ℕ} 0 1 = cc in
          omega arith
          in
          subst After (sym w.found-is) (filled_over P n (n + 1) c.loop-w.found refl c.loop-w.invariant no_price)
    ]
