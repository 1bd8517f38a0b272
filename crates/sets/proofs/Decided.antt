-- Facts that hold or do not.
use Rattle.std.proofs.Common.{◌≡◌, ℕ, ◌<◌, ◌⊎◌, inl, inr, ⊎_elim}
use native.Mathlib.Decide.{ℕ_discrete, dec_lt}

pub same_decided : (a b : ℕ) → (a ≡ b) ⊎ (a ≡ b → ⊥)
same_decided a b = elim (ℕ_discrete a b) [ yes e ↦ inl e | no ne ↦ inr ne ]

pub below_decided : (a b : ℕ) → (a < b) ⊎ (a < b → ⊥)
below_decided a b = elim (dec_lt a b) [ yes lt ↦ inl lt | no ge ↦ inr ge ]

pub both_decided : {A B : Type 0} → A ⊎ (A → ⊥) → B ⊎ (B → ⊥) → (A × B) ⊎ (A × B → ⊥)
both_decided (inl a) (inl b) = inl (a, b)
both_decided (inl a) (inr not) = inr (λ p. not p.1)
both_decided (inr not) b = inr (λ p. not p.0)

pub either_decided : {A B : Type 0} → A ⊎ (A → ⊥) → B ⊎ (B → ⊥) → (A ⊎ B) ⊎ (A ⊎ B → ⊥)
either_decided (inl a) b = inl (inl a)
either_decided (inr not) (inl b) = inl (inr b)
either_decided (inr not) (inr nor) = inr (⊎_elim not nor)

pub not_decided : {A : Type 0} → A ⊎ (A → ⊥) → (A → ⊥) ⊎ ((A → ⊥) → ⊥)
not_decided (inl a) = inr (λ not. not a)
not_decided (inr not) = inl not
