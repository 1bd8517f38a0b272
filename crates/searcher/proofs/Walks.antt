-- The walk over the nodes: what is still to do, and how it ends.
use Rattle.std.proofs.Common.{◌≡◌, ℕ, ◌+◌, ◌-◌, ◌^◌, ◌<◌, ◌≤◌, ◌⊎◌, List, [], ◌∷◌, ◌++◌, length, Some, None, Option, sym, ap, ◌∙◌, subst, inl, inr, ⊎_elim, pow-suc, arith, length-append, pow_pos}
use lib.Count.{ones, ones-le}
use Rattle.sets.specs.declared.Set.{Set}
use Rattle.sets.specs.Member.{Has, Meet, Sub, none}
use Rattle.sets.proofs.Laws.{none_has}
use Rattle.tariff.specs.Amounts.{Scale, All}
use Rattle.tariff.proofs.Sums.{all_append, all_front, all_back}
use Rattle.chooser.specs.Least.{Draws}
use Rattle.chooser.proofs.Trimming.{Candidates, candidates_least, candidates_none}
use Rattle.searcher.specs.declared.node.Node.{Node}
use Rattle.searcher.specs.Nodes.{Inside, Of, Best, Ahead, Halved, Closed, Searched}

-- ---- the nodes still to do

-- some node of a list has the set inside
abbrev pub Among : List Node → Set → Type 0
Among [] o = ⊥
Among (n ∷ ns) o = Inside n o ⊎ Among ns o

-- each node of a list, at the places from k on, has few enough free works for the nodes above it
abbrev pub Room : ℕ → List Node → Type 0
Room k [] = Unit {0}
Room k (n ∷ ns) = (k + ones n.free.bits < 64) × Room (k + 1) ns

-- more than the nodes into which one can be split
abbrev pub work : Node → ℕ
work n = 2 ^ (ones n.free.bits + 1) - 1

abbrev pub work_of : List Node → ℕ
work_of [] = 0
work_of (n ∷ ns) = work n + work_of ns

among_push : (ns : List Node) (n : Node) (o : Set) → Among ns o ⊎ Inside n o → Among (ns ++ (n ∷ [])) o
among_push [] n o (inl h) = absurd h
among_push [] n o (inr h) = inl h
among_push (m ∷ ns) n o (inl (inl h)) = inl h
among_push (m ∷ ns) n o (inl (inr h)) = inr (among_push ns n o (inl h))
among_push (m ∷ ns) n o (inr h) = inr (among_push ns n o (inr h))

among_pop : (ns : List Node) (n : Node) (o : Set) → Among (ns ++ (n ∷ [])) o → Inside n o ⊎ Among ns o
among_pop [] n o (inl h) = inl h
among_pop [] n o (inr h) = absurd h
among_pop (m ∷ ns) n o (inl h) = inr (inl h)
among_pop (m ∷ ns) n o (inr h) = ⊎_elim inl (λ z. inr (inr z)) (among_pop ns n o h)

room_push : (k : ℕ) (ns : List Node) (n : Node) → Room k ns → k + length ns + ones n.free.bits < 64 → Room k (ns ++ (n ∷ []))
room_push k [] n h lt = (omega arith, tt)
room_push k (m ∷ ns) n h lt = (h.0, room_push (k + 1) ns n h.1 (omega arith))

room_pop : (k : ℕ) (ns : List Node) (n : Node) → Room k (ns ++ (n ∷ [])) → Room k ns × (k + length ns + ones n.free.bits < 64)
room_pop k [] n h = (tt, omega (arith, h.0))
room_pop k (m ∷ ns) n h = let rest = room_pop (k + 1) ns n h.1 in ((h.0, rest.0), omega (arith, rest.1))

work_push : (ns : List Node) (n : Node) → work_of (ns ++ (n ∷ [])) ≡ work_of ns + work n
work_push [] n = omega arith
work_push (m ∷ ns) n = omega (arith, work_push ns n)

pub work_after : (ns ms : List Node) (n : Node) → ms ≡ ns ++ (n ∷ []) → work_of ms ≡ work_of ns + work n
work_after ns ms n e = rw e (work_push ns n)

-- a node that is split leaves less to do, and so does one that is done
pub work_halved : (n a b : Node) → Halved n a b → work a + work b < work n
work_halved n a b h =
    let x = ones a.free.bits in
    let first : ones b.free.bits ≡ x = omega (arith, h.fewer.0, h.fewer.1) in
    let second : ones n.free.bits ≡ x + 1 = omega (arith, h.fewer.0) in
    let double : 2 ^ (x + 1 + 1) ≡ 2 ^ (x + 1) + 2 ^ (x + 1) =
    ap (λ k. 2 ^ k) (omega arith) ∙ pow-suc 2 (x + 1) ∙ omega arith
    in
    let small = pow_pos (x + 1) in
    rw (first, second, double) (omega arith)

pub work_some : (n : Node) → 0 < work n
work_some n =
    let x = ones n.free.bits in
    let double : 2 ^ (x + 1) ≡ 2 ^ x + 2 ^ x = ap (λ k. 2 ^ k) (omega arith) ∙ pow-suc 2 x ∙ omega arith in
    omega (arith, double, pow_pos x)

-- ---- the walk

module _ {V : Type 0} (t : Scale V) (prices : List V) (works : Set) (sets : List Set) where
  -- at node n, with the nodes ns put by
  pub record Walk (ns : List Node) (n : Node) (best : Option Set) : Type 0 where
    pub room : Room 0 ns
    pub place : length ns + ones n.free.bits ≤ 64
    pub here : Of works n
    pub nodes : All (Of works) ns
    pub found : Best works sets best
    pub left : (o : Set) → Sub o works → All (Meet o) sets → Ahead t prices best o ⊎ (Inside n o ⊎ Among ns o)

  pub walk_start : (n : Node) → works.bits < 2 ^ 64 → n.chosen ≡ none → n.free ≡ works → Walk [] n None
  walk_start n low empty all = record {
    room = tt;
    place = omega (arith, ap (λ (s : Set). ones s.bits) all, ones-le 64 works.bits low);
    here = record {
      chosen = λ k h. absurd (none_has k (subst (λ (s : Set). Has s k) empty h));
      free = λ k h. subst (λ (s : Set). Has s k) all h;
    };
    nodes = tt;
    found = tt;
    left = λ o sub m. inr (inl (record {
      chosen = λ k h. absurd (none_has k (subst (λ (s : Set). Has s k) empty h));
      rest = λ k h. inr (subst (λ (s : Set). Has s k) (sym all) (sub k h));
    }));
  }

  pub walk_split : (ns : List Node) (n a b : Node) (best : Option Set) → Walk ns n best → Halved n a b → Walk (ns ++ (b ∷ [])) a best
  walk_split ns n a b best walk split =
      let parts = split.parts works walk.here in
      record {
        room = room_push 0 ns b walk.room (omega (arith, walk.place, split.fewer.1));
        place = omega (arith, walk.place, split.fewer.0, length-append ns (b ∷ []));
        here = parts.0;
        nodes = all_append (Of works) ns (b ∷ []) walk.nodes (parts.1, tt);
        found = walk.found;
        left = λ o sub m.
            ⊎_elim inl
            (⊎_elim
            (λ inside. ⊎_elim (λ h. inr (inl h)) (λ h. inr (inr (among_push ns b o (inr h)))) (split.covered o inside))
            (λ h. inr (inr (among_push ns b o (inl h)))))
            (walk.left o sub m);
      }

  -- what a node that is done leaves to do
  rest_left :
      (ns : List Node) (n : Node) (best after : Option Set) → Walk ns n best → Closed t prices works sets n best after →
      (o : Set) → Sub o works → All (Meet o) sets → Ahead t prices after o ⊎ Among ns o
  rest_left ns n best after walk done o sub m =
      ⊎_elim (λ h. inl (done.keeps o h)) (⊎_elim (λ inside. inl (done.settled o inside m)) inr) (walk.left o sub m)

  pub walk_next :
      (ns : List Node) (n next : Node) (best after : Option Set) → Walk (ns ++ (next ∷ [])) n best →
      Closed t prices works sets n best after → Walk ns next after
  walk_next ns n next best after walk done =
      let rest = room_pop 0 ns next walk.room in
      record {
        room = rest.0;
        place = omega (arith, rest.1);
        here = (all_back (Of works) ns (next ∷ []) walk.nodes).0;
        nodes = all_front (Of works) ns (next ∷ []) walk.nodes;
        found = done.found;
        left = λ o sub m.
            ⊎_elim inl (λ h. inr (among_pop ns next o h)) (rest_left (ns ++ (next ∷ [])) n best after walk done o sub m);
      }

  pub walk_end :
      (n : Node) (best after : Option Set) → Walk [] n best → Closed t prices works sets n best after → Searched t prices works sets after
  walk_end n best after walk done = record {
    found = done.found;
    first = λ o sub m. ⊎_elim (λ h. h) (λ h. absurd h) (rest_left [] n best after walk done o sub m);
  }

  -- ---- the draw

  module _ (bars : Set) (candidates : Candidates t prices bars sets works) where
    pub searched_draws : (r : Option Set) → Searched t prices works sets r → Draws t prices bars sets r
    searched_draws None searched = candidates_none t prices bars sets works candidates searched.first
    searched_draws (Some s) searched =
        candidates_least t prices bars sets works candidates s searched.found.0 searched.found.1 searched.first
