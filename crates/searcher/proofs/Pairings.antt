-- A bound of a node: the works that are picked for kept sets that share no free work, paired with works of a set that meets these.
use Rattle.std.proofs.Common.{◌≡◌, ℕ, ◌<◌, ◌⊎◌, List, IfSome, Some, None, MatchOption, Option, sym, subst, inl, inr, ⊎_elim}
use Rattle.sets.specs.declared.Set.{Set}
use Rattle.sets.specs.Member.{Has, Members, Meet, Sub}
use Rattle.sets.proofs.Parts.{less_one}
use Rattle.tariff.specs.Amounts.{All}
use Rattle.searcher.specs.declared.node.Node.{Node}
use Rattle.searcher.specs.Costs.{Own, Paired, within, tied, Picked, Taken}
use Rattle.searcher.specs.Nodes.{Inside, One}
use Rattle.searcher.proofs.Steps.{one_met}

-- what x has of a hitting set, when the works of one more kept set are used: a work of that set, and the others
pub record Used (n : Node) (rest shared o x : Set) : Type 0 where
  pub work : ℕ
  pub mine : Has shared work
  pub held : Has x work
  pub others : Set
  pub parted : Members others (λ k. Has x k × (k ≡ work → ⊥))
  pub still : (k : ℕ) → Has o k → Has n.chosen k ⊎ (Has rest k → ⊥) → Has others k

pub one_used :
    (n : Node) (rest left one shared : Set) → Own n rest one shared → Members left (λ k. Has rest k × (Has one k → ⊥)) → (o x : Set) → Inside n o →
    Meet o one → ((k : ℕ) → Has o k → Has n.chosen k ⊎ (Has left k → ⊥) → Has x k) → Used n rest shared o x
one_used n rest left one shared own takes o x inside met has =
    let k = met.0 in
    let not_chosen : Has n.chosen k → ⊥ = λ y. own.unmet (k, y, met.2) in
    let is_free : Has n.free k = ⊎_elim (λ y. absurd (not_chosen y)) (λ y. y) (inside.rest k met.1) in
    let mine : Has shared k = (own.members k).1 (met.2, is_free) in
    let apart : (j : ℕ) → Has n.chosen j ⊎ (Has rest j → ⊥) → j ≡ k → ⊥ =
    λ j e same. ⊎_elim (λ y. not_chosen (subst (Has n.chosen) same y)) (λ out. out (subst (Has rest) (sym same) (own.fresh k mine))) e
    in
    let others = less_one x k in
    record {
      work = k;
      mine = mine;
      held = has k met.1 (inr (λ y. ((takes k).0 y).1 met.2));
      others = others.0;
      parted = others.1;
      still = λ j h e. (others.1 j).1 (has j h (⊎_elim inl (λ out. inr (λ z. out ((takes j).0 z).0)) e), apart j e);
    }

module _ (Pick : Set → ℕ → Type 0) (sets : List Set) (n : Node) where
  -- the works of the bound are chosen or picked, and are paired with what a hitting set has of the chosen works and of those not in rest
  pub record Pairing (bound rest : Set) : Type 0 where
    pub taken : (k : ℕ) → Has bound k → Has n.chosen k ⊎ Taken Pick n k
    pub paired :
        (o : Set) → Inside n o → All (Meet o) sets → (x : Set) →
        ((k : ℕ) → Has o k → Has n.chosen k ⊎ (Has rest k → ⊥) → Has x k) → Paired (Picked Pick n) bound x

  pub pairing_none : Pairing n.chosen n.free
  pairing_none = record {
    taken = λ k h. inl h;
    paired = λ o inside m x has. within (λ k h. has k (inside.chosen k h) (inl h));
  }

  pub pairing_more :
      (bound more rest left one shared : Set) (w : ℕ) → Pairing bound rest → One sets one → Own n rest one shared → Pick shared w →
      Members more (λ k. Has bound k ⊎ ((k ≡ w) × (w < 64))) → Members left (λ k. Has rest k × (Has one k → ⊥)) → Pairing more left
  pairing_more bound more rest left one shared w so_far kept own pick adds takes =
      let free : Sub shared n.free = λ j h. ((own.members j).0 h).1 in
      record {
        taken = λ k h. ⊎_elim (so_far.taken k) (λ e. inr (shared, free, subst (λ (j : ℕ). Pick shared j) (sym e.0) pick)) ((adds k).0 h);
        paired = λ o inside m x has.
            let used = one_used n rest left one shared own takes o x inside (one_met o sets one kept m) has in
            tied bound used.others w used.work (so_far.paired o inside m used.others used.still) (shared, free, pick, used.mine) used.held adds
            used.parted;
      }

  pub pairing_counted :
      (bound more rest left one : Set) (own : Option Set) (w : ℕ) → Pairing bound rest → One sets one → IfSome own (Own n rest one) →
      MatchOption own (Some w ≡ None) (λ shared. Pick shared w) →
      Members more (λ k. Has bound k ⊎ ((k ≡ w) × (w < 64))) → Members left (λ k. Has rest k × (Has one k → ⊥)) → Pairing more left
  pairing_counted bound more rest left one None w so_far kept own pick adds takes = absurd (cc)
  pairing_counted bound more rest left one (Some shared) w so_far kept own pick adds takes =
      pairing_more bound more rest left one shared w so_far kept own pick adds takes

  pub pairing_paired :
      (bound rest : Set) → Pairing bound rest → (o : Set) → Inside n o → All (Meet o) sets → Paired (Picked Pick n) bound o
  pairing_paired bound rest so_far o inside m = so_far.paired o inside m o (λ k h e. h)
