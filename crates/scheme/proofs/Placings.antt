-- Placing the works of a set one after another.
use Rattle.std.proofs.Common.{◌≡◌, ℕ, ◌+◌, ◌<◌, ◌≤◌, ◌⊎◌, List, [], ◌∷◌, ◌++◌, length, take, drop, set, sym, refl, ap, ◌∙◌, subst, append_assoc, arith, length-set}
use lib.Count.{ones}
use Rattle.sets.specs.declared.Set.{Set}
use Rattle.sets.specs.Member.{Has, Members}
use Rattle.sets.proofs.Decided.{below_decided}
use Rattle.sets.proofs.Laws.{count_within, count_without, none_has}
use Rattle.sets.proofs.Parts.{part_of, less_one}
use Rattle.std.proofs.lemmas.List.{take_more_set, append-nil, drop-set-lt, drop-drop}
use Rattle.scheme.specs.declared.Work.{Work}
use Rattle.scheme.specs.Task.{Task, work}
use Rattle.scheme.specs.Orders.{Placed, none_left, placing}
use Rattle.scheme.specs.Ready.{NoneReady, FirstReady}
use Rattle.scheme.specs.Placing.{Filled, Serves}
use Rattle.scheme.proofs.Ordered.{placed_carried, placed_plan}

-- the works of left that are held
pub unplaced : (works : List Work) (left : Set) → (some : Set) × Members some (λ w. Has left w × (w < length works))
unplaced works left = part_of left (λ w. w < length works) (λ w. below_decided w (length works))

-- The first n places are filled: with what is placed from here, they are the order of the chosen works.
pub record Placing (works : List Work) (chosen standing : Set) (from : List ℕ) (left held : Set) (n : ℕ) (to : List ℕ) : Type 0 where
  pub whole : (rest : List ℕ) → Placed works left held rest → Placed works chosen standing (take n to ++ rest)
  pub fits : n + ones (unplaced works left).0.bits ≤ length works
  pub long : length to ≡ length from
  pub later : drop n to ≡ drop n from

-- without w one work fewer is unplaced
one_fewer :
    (works : List Work) (left less : Set) (w : ℕ) →
    w < length works →
    Has left w →
    Members less (λ v. Has left v × (v ≡ w → ⊥)) →
    ones (unplaced works less).0.bits + 1 ≡ ones (unplaced works left).0.bits
one_fewer works left less w held has removed =
    let all = unplaced works left in
    let rest = unplaced works less in
    count_without all.0 rest.0 w ((all.1 w).1 (has, held)) (λ v. (
      λ y. let p = (rest.1 v).0 y in let q = (removed v).0 p.0 in ((all.1 v).1 (q.0, p.1), q.1),
      λ p. let q = (all.1 v).0 p.0 in (rest.1 v).1 ((removed v).1 (q.0, p.1), q.1),
    ))

module _ {works : List Work} {chosen standing : Set} {from : List ℕ} where
  pub placing_none : Placing works chosen standing from chosen standing 0 from
  placing_none =
      let all = unplaced works chosen in
      record {
        whole = λ rest p. p;
        fits = omega (arith, count_within (length works) all.0 (λ w y. ((all.1 w).0 y).1));
        long = refl;
        later = refl;
      }

  -- where as many are placed as works are held, none is left
  pub placing_full : {left held : Set} {n : ℕ} {to : List ℕ} →
      Placing works chosen standing from left held n to → length works ≤ n → NoneReady works left held (length works)
  placing_full {left} p full w lt has needs =
      let less = less_one left w in
      omega (arith, p.fits, one_fewer works left less.0 w lt has less.1)

  pub placing_more : {left held less more : Set} {n w : ℕ} {to : List ℕ} →
      Placing works chosen standing from left held n to →
      FirstReady works left held w →
      n < length to →
      Members less (λ v. Has left v × (v ≡ w → ⊥)) →
      Members more (λ i. Has held i ⊎ Has (work works w).gives i) →
      Placing works chosen standing from less more (n + 1) (set to n w)
  placing_more {left} {less = less} {n = n} {w = w} {to = to} p f lt removed adds =
      let Whole : List ℕ → Type 0 = λ order. Placed works chosen standing order in
      record {
        whole = λ rest q.
            subst Whole (sym (ap (λ xs. xs ++ rest) (take_more_set to n w lt) ∙ append_assoc (take n to) (w ∷ []) rest))
            (p.whole (w ∷ rest) (placing f.held f.chosen f.needs f.first removed adds q));
        fits = omega (arith, p.fits, one_fewer works left less w f.held f.chosen removed);
        long = simp length-set p.long;
        later =
            drop-set-lt (n + 1) to n w (omega arith)
            ∙ sym (drop-drop 1 n to)
            ∙ ap (drop 1) p.later
            ∙ drop-drop 1 n from;
      }

  pub placing_done : {left held : Set} {n : ℕ} {to : List ℕ} →
      Placing works chosen standing from left held n to →
      n ≤ length to →
      NoneReady works left held (length works) →
      Filled works chosen standing from n to
  placing_done {n} {to} p within none =
      let Whole : List ℕ → Type 0 = λ order. Placed works chosen standing order in
      record {
        within = within;
        placed = subst Whole (append-nil (take n to)) (p.whole [] (none_left none));
        later = p.later;
      }

-- what the order of a set serves for
pub serves : (k : Task) (chosen : Set) (order : List ℕ) → Placed k.works chosen k.standing order → Serves k chosen order
serves k chosen order p =
    let end = placed_carried p in
    record {
      last = end.0;
      carried = end.1;
      reach = end.2;
      plan = λ enough. placed_plan p enough (λ w y z. none_has w z);
    }
