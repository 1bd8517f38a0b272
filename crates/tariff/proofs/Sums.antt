-- Sums of lists of values, and what holds of every element of a list.
use Rattle.std.proofs.Common.{◌≡◌, ℕ, zero, suc, ◌+◌, ◌<◌, List, [], ◌∷◌, ◌++◌, length, get_or, take, drop, sym, ap, ◌∙◌, le_of_suc-le-suc, not-suc-le-zero, take-append-drop}
use Rattle.std.proofs.lemmas.List.{take_more}
use Rattle.tariff.specs.Amounts.{Scale, All, AtMost, sum}
use Rattle.tariff.proofs.Joins.{join_none, join_swap, at_most_joined_right}

module _ {X : Type 0} (P : X → Type 0) where
  pub all_append : (xs ys : List X) → All P xs → All P ys → All P (xs ++ ys)
  all_append [] ys h k = k
  all_append (x ∷ xs) ys h k = (h.0, all_append xs ys h.1 k)

  pub all_front : (xs ys : List X) → All P (xs ++ ys) → All P xs
  all_front [] ys h = tt
  all_front (x ∷ xs) ys h = (h.0, all_front xs ys h.1)

  pub all_back : (xs ys : List X) → All P (xs ++ ys) → All P ys
  all_back [] ys h = h
  all_back (x ∷ xs) ys h = all_back xs ys h.1

  pub all_take : (n : ℕ) (xs : List X) → All P xs → All P (take n xs)
  all_take n xs h = all_front (take n xs) (drop n xs) (rw (take-append-drop n xs) h)

  pub all_at : (xs : List X) (i : ℕ) (d : X) → i < length xs → All P xs → P (get_or xs i d)
  all_at [] i d l h = absurd (not-suc-le-zero l)
  all_at (x ∷ xs) zero d l h = h.0
  all_at (x ∷ xs) (suc i) d l h = all_at xs i d (le_of_suc-le-suc l) h.1

module _ {V : Type 0} (t : Scale V) where
  pub sum_one : (v : V) → sum t (v ∷ []) ≡ t.amount v
  sum_one v = join_none t (t.amount v)

  pub sum_append : (us vs : List V) → sum t (us ++ vs) ≡ t.join (sum t us) (sum t vs)
  sum_append [] vs = sym (t.laws.neutral (sum t vs))
  sum_append (u ∷ us) vs =
      ap (t.join (t.amount u)) (sum_append us vs) ∙ sym (t.laws.grouped (t.amount u) (sum t us) (sum t vs))

  pub sum_push : (us : List V) (v : V) → sum t (us ++ (v ∷ [])) ≡ t.join (sum t us) (t.amount v)
  sum_push us v = sum_append us (v ∷ []) ∙ ap (t.join (sum t us)) (sum_one v)

  -- one element more of a list's front
  pub sum_next : (vs : List V) (i : ℕ) (v : V) → i < length vs → v ≡ get_or vs i v → sum t (take (i + 1) vs) ≡ t.join (sum t (take i vs)) (t.amount v)
  sum_next vs i v l e =
      ap (sum t) (take_more vs i v l) ∙ sum_push (take i vs) (get_or vs i v)
      ∙ ap (λ w. t.join (sum t (take i vs)) (t.amount w)) (sym e)

  pub sum_append_swap : (us vs : List V) → sum t (us ++ vs) ≡ sum t (vs ++ us)
  sum_append_swap us vs = sum_append us vs ∙ t.laws.ordered (sum t us) (sum t vs) ∙ sym (sum_append vs us)

  -- the element that stands between two parts of a list, taken out
  pub sum_middle : (us : List V) (v : V) (vs : List V) → sum t (us ++ (v ∷ vs)) ≡ t.join (t.amount v) (sum t (us ++ vs))
  sum_middle us v vs =
      sum_append us (v ∷ vs) ∙ join_swap t (sum t us) (t.amount v) (sum t vs)
      ∙ ap (t.join (t.amount v)) (sym (sum_append us vs))

  pub sum_swap : (us : List V) (v w : V) (vs : List V) → sum t (us ++ (v ∷ w ∷ vs)) ≡ sum t (us ++ (w ∷ v ∷ vs))
  sum_swap us v w vs =
      sum_append us (v ∷ w ∷ vs) ∙ ap (t.join (sum t us)) (join_swap t (t.amount v) (t.amount w) (sum t vs))
      ∙ sym (sum_append us (w ∷ v ∷ vs))

  pub at_most_sum_front : (us vs : List V) → AtMost t (sum t us) (sum t (us ++ vs))
  at_most_sum_front us vs = rw (sum_append us vs) (at_most_joined_right t (sum t us) (sum t vs))

  pub at_most_sum_element : (us : List V) (v : V) (vs : List V) → AtMost t (t.amount v) (sum t (us ++ (v ∷ vs)))
  at_most_sum_element us v vs = rw (sum_middle us v vs) (at_most_joined_right t (t.amount v) (sum t (us ++ vs)))
