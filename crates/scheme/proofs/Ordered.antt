-- What follows of orders: how they are carried out, and the order of a set of works.
use Rattle.std.proofs.Common.{◌≡◌, ℕ, zero, suc, ◌<◌, ◌⊎◌, List, [], ◌∷◌, ◌++◌, length, sym, refl, subst, ap₂, subst₂, inl, inr, ⊎_elim, arith}
use native.Mathlib.Decide.{dec_lt, ℕ_discrete}
use Rattle.sets.specs.declared.Set.{Set}
use Rattle.sets.specs.Member.{Has, Members, Sub}
use Rattle.sets.specs.Listed.{In}
use Rattle.sets.proofs.Decided.{both_decided}
use Rattle.sets.proofs.Lists.{Distinct}
use Rattle.sets.proofs.Laws.{same_members, has_or_not, proper_lt, lowest_below}
use Rattle.sets.proofs.Parts.{union_of, sub_decided, less_one}
use Rattle.scheme.specs.declared.Work.{Work}
use Rattle.scheme.specs.Task.{Task, work}
use Rattle.scheme.specs.Reach.{Closed, Reach, Sufficient}
use Rattle.scheme.specs.Orders.{Carried, finished, onward, Plan, Placed, none_left, placing}
use Rattle.scheme.proofs.Reaches.{reach_of_sufficient}

-- ---- orders that are carried out

-- an order is carried out to one set of items
pub carried_unique :
    {works : List Work} {s : Set} {order : List ℕ} {e : Set} →
    Carried works s order e →
    {e' : Set} →
    Carried works s order e' →
    e ≡ e'
carried_unique finished finished = refl
carried_unique {works} {s} (onward {t} {w} {rest} held needs adds c) {e'} (onward {t = t'} held' needs' adds' c') =
    let P : Set → Type 0 = λ x. Carried works x rest e' in
    carried_unique c (subst P (same_members (λ i. Has s i ⊎ Has (work works w).gives i) t' t adds' adds) c')

-- items that stand keep standing
pub carried_keeps : {works : List Work} {s e : Set} {order : List ℕ} → Carried works s order e → Sub s e
carried_keeps finished i y = y
carried_keeps (onward held needs adds c) i y = carried_keeps c i ((adds i).1 (inl y))

-- what an order of chosen works makes stand lies in every closed set that holds the standing items
pub carried_in :
    {works : List Work} {s e : Set} {order : List ℕ} (P : ℕ → Type 0) (x : Set) →
    Carried works s order e →
    Sub s x →
    Closed works P x →
    ((w : ℕ) → In w order → P w) →
    Sub e x
carried_in P x finished from closed chosen = from
carried_in P x (onward {w} held needs adds c) from closed chosen =
    carried_in P x c
    (λ i y. ⊎_elim (from i) (closed w held (chosen w (inl refl)) (λ j z. from j (needs j z)) i) ((adds i).0 y))
    closed (λ v y. chosen v (inr y))

-- two orders one after the other
pub carried_append :
    {works : List Work} {s m e : Set} {a b : List ℕ} →
    Carried works s a m →
    Carried works m b e →
    Carried works s (a ++ b) e
carried_append finished d = d
carried_append (onward held needs adds c) d = onward held needs adds (carried_append c d)

-- an order in two parts stands at some items between them
pub carried_parts :
    {works : List Work} (a : List ℕ) {b : List ℕ} {s e : Set} →
    Carried works s (a ++ b) e →
    (m : Set) × Carried works s a m × Carried works m b e
carried_parts [] {s} c = (s, finished, c)
carried_parts (w ∷ a) (onward held needs adds c) =
    let rest = carried_parts a c in (rest.0, onward held needs adds rest.1, rest.2)

-- chosen works are sufficient if those of a plan are among them
pub sufficient_by_plan :
    {k : Task} {bars : Set} {order : List ℕ} (P : ℕ → Type 0) →
    Plan k bars order →
    ((w : ℕ) → In w order → P w) →
    Sufficient k P
sufficient_by_plan P plan chosen x from closed i y =
    carried_in P x plan.carried from closed chosen i (plan.reached i y)

-- the works of a plan are sufficient
pub plan_sufficient : {k : Task} {bars : Set} {order : List ℕ} → Plan k bars order → Sufficient k (λ w. In w order)
plan_sufficient {order} plan = sufficient_by_plan (λ w. In w order) plan (λ w y. y)

-- ---- the order of a set of works

-- only works of the set are placed
pub placed_from :
    {works : List Work} {left s : Set} {order : List ℕ} →
    Placed works left s order →
    (w : ℕ) →
    In w order →
    Has left w
placed_from (none_left rest) w y = elim y [ ]
placed_from (placing {left} held has needs first less adds p) w (inl e) = subst (λ v. Has left v) (sym e) has
placed_from (placing held has needs first less adds p) w (inr y) = ((less w).0 (placed_from p w y)).0

-- each work is placed once
pub placed_once : {works : List Work} {left s : Set} {order : List ℕ} → Placed works left s order → Distinct order
placed_once (none_left rest) = tt
placed_once (placing {w} held has needs first less adds p) = (λ y. ((less w).0 (placed_from p w y)).1 refl, placed_once p)

-- the order of a set can be carried out, and what then stands is the set's reach
pub placed_carried :
    {works : List Work} {left s : Set} {order : List ℕ} →
    Placed works left s order →
    (e : Set) × Carried works s order e × Reach works (Has left) s e
placed_carried {s} (none_left rest) = (
  s,
  finished,
  record {
    from = λ i y. y;
    closed = λ w held has needs. absurd (rest w held has needs);
    smallest = λ x from closed. from;
  },
)
placed_carried {works} {s} (placing {left} {t} {w} held has needs first less adds p) =
    let rest = placed_carried p in
    let r = rest.2 in (
      rest.0,
      onward held needs adds rest.1,
      record {
        from = λ i y. r.from i ((adds i).1 (inl y));
        closed = λ v held' has' needs'.
            elim (ℕ_discrete v w) [
              | yes e ↦ λ i y. r.from i ((adds i).1 (inr (subst (λ u. Has (work works u).gives i) e y)))
              | no ne ↦ r.closed v held' ((less v).1 (has', ne)) needs'
            ];
        smallest = λ x from closed.
            r.smallest x
            (λ i y. ⊎_elim (from i) (closed w held has (λ j z. from j (needs j z)) i) ((adds i).0 y))
            (λ v held' has'. closed v held' ((less v).0 has').0);
      },
    )

-- the order of a sufficient set with no barred work is a plan
pub placed_plan :
    {k : Task} {s bars : Set} {order : List ℕ} →
    Placed k.works s k.standing order →
    Sufficient k (Has s) →
    ((w : ℕ) → Has s w → Has bars w → ⊥) →
    Plan k bars order
placed_plan {k} p enough apart = grind (arith, placed_carried, placed_from, reach_of_sufficient)

-- a set has one order
pub placed_unique :
    {works : List Work} {left s : Set} {order : List ℕ} →
    Placed works left s order →
    {order' : List ℕ} →
    Placed works left s order' →
    order ≡ order'
placed_unique (none_left rest) (none_left rest') = refl
placed_unique (none_left rest) (placing {w} held has needs first less adds p) = absurd (rest w held has needs)
placed_unique (placing {w} held has needs first less adds p) (none_left rest) = absurd (rest w held has needs)
placed_unique {works} {left} {s}
    (placing {less} {t} {w} held has needs first fewer adds p)
    (placing {less = less'} {t = t'} {w = w'} {rest = rest'} held' has' needs' first' fewer' adds' p') =
    let Fewer : Set → ℕ → Type 0 = λ x u. Members x (λ v. Has left v × (v ≡ u → ⊥)) in
    let Adds : Set → ℕ → Type 0 = λ x u. Members x (λ i. Has s i ⊎ Has (work works u).gives i) in
    let same : w' ≡ w =
    elim (dec_lt w w') [
      | yes lt ↦ absurd (first' w lt has needs)
      | no ge ↦ elim (dec_lt w' w) [ yes lt ↦ absurd (first w' lt has' needs') | no le ↦ omega arith ]
    ]
    in
    let less_same : less' ≡ less =
    same_members (λ v. Has left v × (v ≡ w → ⊥)) less' less (subst (λ u. Fewer less' u) same fewer') fewer
    in
    let t_same : t' ≡ t =
    same_members (λ i. Has s i ⊎ Has (work works w).gives i) t' t (subst (λ u. Adds t' u) same adds') adds
    in
    ap₂ ◌∷◌ (sym same) (placed_unique p (subst₂ (λ a b. Placed works a b rest') less_same t_same p'))

-- a set has an order
pub placed_exists : (works : List Work) (left s : Set) → (order : List ℕ) × Placed works left s order
placed_exists works left s = place (suc left.bits) left s (omega arith)
  where
    place : (n : ℕ) (left s : Set) → left.bits < n → (order : List ℕ) × Placed works left s order
    place zero left s room = absurd (omega arith)
    place (suc n) left s room =
        ⊎_elim
        (λ f.
        let w = f.0 in
        let less = less_one left w in
        let more = union_of s (work works w).gives in
        let smaller : less.0.bits < left.bits =
        proper_lt less.0 left (λ v y. ((less.1 v).0 y).0) w f.2.0 (λ y. ((less.1 w).0 y).1 refl)
        in
        let rest = place n less.0 more.0 (omega arith) in
        (w ∷ rest.0, placing f.1 f.2.0 f.2.1 (λ v lt y z. f.3 v lt (y, z)) less.1 more.1 rest.1))
        (λ nothing. ([], none_left (λ w held y z. nothing w held (y, z))))
        (lowest_below (λ w. Has left w × Sub (work works w).needs s)
        (λ w. both_decided (has_or_not left w) (sub_decided (work works w).needs s)) (length works))
