-- The best choice for a subset of the kept sets, from the best choices for lower numbers.
use Rattle.std.proofs.Common.{◌≡◌, ℕ, ◌+◌, ◌<◌, ◌≢◌, ◌⊎◌, List, Some, length, get_or, set, sym, refl, subst, inl, inr, ⊎_elim, arith, get_or-set_other, get_or-set_same, below_more}
use Rattle.std.specs.Fn.{Called}
use Rattle.std.specs.Iterator.{FoldsItems}
use denote.Param.Members.{Mut}
use Rattle.sets.specs.declared.Set.{Set}
use Rattle.sets.specs.declared.iter.SetIter.{SetIter}
use Rattle.sets.specs.Steps.{Next}
use Rattle.sets.specs.Member.{Has, Members, Sub, none}
use Rattle.sets.proofs.Laws.{has_or_not, none_has}
use Rattle.sets.proofs.Decided.{same_decided}
use Rattle.sets.proofs.Parts.{less_one}
use Rattle.tariff.specs.Amounts.{Scale}
use Rattle.chooser.specs.Least.{Precedes}
use Rattle.chooser.proofs.Parts.{put_back}
use Rattle.chooser.proofs.Precedence.{precedes_sub, precedes_transitive, precedes_with}
use Rattle.tabler.specs.Table.{Best, Earlier, Filled, Met, Turn, Unmet}
use Rattle.tabler.proofs.Folds.{fold_along}
use Rattle.tabler.proofs.Subsets.{unmet_lower}

module _ {V : Type 0} (t : Scale V) (prices : List V) (free : Set) (sets : List Set) where
  -- the empty set is the best choice for no sets
  pub best_none : (subset s : Set) → ((k : ℕ) → Has subset k → ⊥) → s ≡ none → Best t prices free sets subset s
  best_none subset s empty e =
      let nothing : (k : ℕ) → Has s k → ⊥ = λ k y. none_has k (subst (λ (o : Set). Has o k) e y) in record {
        inside = λ k y. absurd (nothing k y);
        meets = λ k y. absurd (empty k y);
        first = λ o h m. precedes_sub t prices s o (λ k y. absurd (nothing k y));
      }

  -- one entry more
  pub filled_more :
      (table : List Set) (m : ℕ) (s : Set) → m < length table → Filled t prices free sets table m →
      Best t prices free sets (record { bits = m }) s → Filled t prices free sets (set table m s) (m + 1)
  filled_more table m s lt filled best =
      below_more (λ k. Best t prices free sets (record { bits = k }) (get_or (set table m s) k none)) m
      (λ k h. let ne : k ≢ m = omega arith in rw get_or-set_other (filled k h)) (rw get_or-set_same best)

  module _ (subset : Set) where
    -- ---- a work, and the best choice for the sets that lack it

    -- r comes before every choice for the subset that has w
    record Before (w : ℕ) (r : Set) : Type 0 where
      inside : Sub r free
      meets : Met sets subset r
      first : (o : Set) → Sub o free → Met sets subset o → Has o w → Precedes t prices r o

    before :
        (left s r : Set) (w : ℕ) → Unmet sets subset w left → Best t prices free sets left s → Members r (λ k. Has s k ⊎ (k ≡ w)) →
        Has free w → Before w r
    before left s r w unmet best members in-free = record {
      inside = λ k y. ⊎_elim (best.inside k) (λ e. subst (Has free) (sym e) in-free) ((members k).0 y);
      meets = λ k y.
          ⊎_elim (λ has. (w, (members w).1 (inr refl), has))
          (λ not. let met = best.meets k ((unmet k).1 (y, not)) in (met.0, (members met.0).1 (inl met.1), met.2))
          (has_or_not (get_or sets k none) w);
      first = λ o h m has.
          let x = less_one o w in
          let still : Met sets left x.0 = λ k y.
          let p = (unmet k).0 y in
          let met = m k p.0 in
          (met.0, (x.1 met.0).1 (met.1, λ e. p.1 (subst (Has (get_or sets k none)) e met.2)), met.2)
          in
          precedes_with t prices s x.0 r o w (best.first x.0 (λ k y. h k ((x.1 k).0 y).0) still)
          (λ y. ((x.1 w).0 y).1 refl) members (put_back o x.0 w has x.1);
    }

    -- ---- the works of one set, tried one after another

    -- best comes before every choice that has one of the works that are not in rest
    record Tried (works rest best : Set) : Type 0 where
      within : Sub rest works
      inside : Sub best free
      meets : Met sets subset best
      first :
          (o : Set) → Sub o free → Met sets subset o → (w : ℕ) → Has works w → (Has rest w → ⊥) → Has o w → Precedes t prices best o

    tried_none : (works : Set) → Met sets subset free → Tried works works free
    tried_none works met = record {
      within = λ k y. y;
      inside = λ k y. y;
      meets = met;
      first = λ o h m w y out. absurd (out y);
    }

    tried_more :
        (works rest others best r more : Set) (w : ℕ) → Tried works rest best → Before w r → Members others (λ k. Has rest k × (k ≡ w → ⊥)) →
        Earlier t prices best r more → Tried works others more
    tried_more works rest others best r more w so_far with_w left earlier =
        let one_of : (P : Set → Type 0) → P best → P r → P more =
        λ P a b. ⊎_elim (λ e. subst P (sym e) a) (λ e. subst P (sym e) b) earlier.one
        in record {
          within = λ k y. so_far.within k ((left k).0 y).0;
          inside = one_of (λ x. Sub x free) so_far.inside with_w.inside;
          meets = one_of (Met sets subset) so_far.meets with_w.meets;
          first = λ o h m v in-works out has.
              ⊎_elim
              (λ e. precedes_transitive t prices more r o earlier.before_b (with_w.first o h m (subst (Has o) e has)))
              (λ ne.
              precedes_transitive t prices more best o earlier.before_a
              (so_far.first o h m v in-works (λ y. out ((left v).1 (y, ne))) has))
              (same_decided v w);
        }

    module _
        (table : List Set) (filled : Filled t prices free sets table subset.bits) (works : Set) (place : ℕ)
        (members : Members works (λ k. Has free k × Has (get_or sets place none) k)) (member : Has subset place) where
      tried_turn :
          (rest others a b : Set) (w : ℕ) → Tried works rest a → Next rest (Some w) others →
          Turn t prices free sets table subset a w b → Tried works others b
      tried_turn rest others a b w so_far next turn =
          let here = (members w).0 (so_far.within w next.0.member) in
          let joins = turn.joins next.1 in
          let lower = unmet_lower sets subset joins.left w (place, member, here.1) joins.unmet in
          let with_w =
          before joins.left (get_or table joins.left.bits none) turn.other w joins.unmet (filled joins.left.bits lower)
          joins.members here.0
          in
          tried_more works rest others a turn.other b w so_far with_w next.2 (turn.earlier so_far.inside with_w.inside)

      -- a choice for the subset has a work of each of its sets, so the works of one set are all that need be tried
      pub fold_best :
          {F : Type 0} {g : Mut F (Set × (ℕ × Unit {0})) Set} {f : F} (s : SetIter) (best : Set) → s.rest ≡ works →
          Met sets subset free → FoldsItems (λ (s : SetIter) r t. Next s.rest r t.rest) g s f free best →
          ((a : Set) (w : ℕ) (b : Set) (f' : F) → Called g f (a, (w, tt)) b f' →
          Turn t prices free sets table subset a w b × (f' ≡ f)) →
          Best t prices free sets subset best
      fold_best {g = g} {f = f} s best e met (ws, f', (u, (t', yields, ended)), folds) turns =
          let tried =
          fold_along (λ (s : SetIter) r t. Next s.rest r t.rest) g (λ s a. Tried works s.rest a) f
          (λ s a w r b h so_far next call.
          let turn = turns a w b h call in
          (tried_turn s.rest r.rest a b w so_far next turn.0, turn.1))
          ws s t' free best f' yields folds (subst (λ rest. Tried works rest free) (sym e) (tried_none works met))
          in record {
            inside = tried.inside;
            meets = tried.meets;
            first = λ o h m.
                let at = m place member in
                tried.first o h m at.0 ((members at.0).1 (h at.0 at.1, at.2)) (ended.0 at.0) at.1;
          }
