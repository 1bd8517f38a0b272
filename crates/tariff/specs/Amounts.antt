-- What the values of a tariff stand for: exact amounts that are joined and compared.
use Rattle.std.specs.Prelude.{◌≡◌, ℕ, ◌+◌, ◌≤◌, Bool, true, ◌⊎◌, List, [], ◌∷◌, length}

-- the laws of a strictly ordered commutative monoid
pub record Laws {W : Type 0} (none : W) (join : W → W → W) (less : W → W → Type 0) : Type 0 where
  pub grouped : (x y z : W) → join (join x y) z ≡ join x (join y z)
  pub ordered : (x y : W) → join x y ≡ join y x
  pub neutral : (x : W) → join none x ≡ x
  pub compared : (x y : W) → less x y ⊎ ((x ≡ y) ⊎ less y x)
  pub never_itself : (x : W) → less x x → ⊥
  pub chained : (x y z : W) → less x y → less y z → less x z
  pub none_least : (x : W) → less x none → ⊥
  pub monotone : (x y z : W) → less x y → less (join x z) (join y z)

-- the amounts of a tariff with their laws, the amount that each value stands for, and the prices within the ceiling
pub record Scale (V : Type 0) : Type 1 where
  pub Amount : Type 0
  pub none : Amount
  pub join : Amount → Amount → Amount
  pub less : Amount → Amount → Type 0
  pub laws : Laws none join less
  pub amount : V → Amount
  pub faithful : (x y : V) → amount x ≡ amount y → x ≡ y
  pub within : V → Type 0

-- every element of a list
abbrev pub All : {X : Type 0} → (X → Type 0) → List X → Type 0
All P [] = Unit {0}
All P (x ∷ xs) = P x × All P xs

-- nothing joined with each of some values
abbrev pub sum : {V : Type 0} (t : Scale V) → List V → t.Amount
sum t [] = t.none
sum t (v ∷ vs) = t.join (t.amount v) (sum t vs)

-- v is the total of n prices within the ceiling
abbrev pub Total : {V : Type 0} (t : Scale V) → ℕ → V → Type 0
Total {V} t n v = (ps : List V) × (length ps ≡ n) × All t.within ps × (t.amount v ≡ sum t ps)

-- r is a joined with b, wherever these are totals of at most 64 prices together
abbrev pub Joined : {V : Type 0} (t : Scale V) → V → V → V → Type 0
Joined t a b r = (m n : ℕ) → Total t m a → Total t n b → m + n ≤ 64 → t.amount r ≡ t.join (t.amount a) (t.amount b)

-- the first of two amounts is not greater than the second
abbrev pub AtMost : {V : Type 0} (t : Scale V) → t.Amount → t.Amount → Type 0
AtMost t x y = t.less y x → ⊥

-- a test answers whether P holds
abbrev pub Decides : Type 0 → Bool → Type 0
Decides P b = (b ≡ true → P) × (P → b ≡ true)
