-- Folds over what an iterator yields.
use Rattle.std.proofs.Common.{◌≡◌, List, [], ◌∷◌, Some, Option, ap, subst}
use Rattle.std.specs.Fn.{Called}
use Rattle.std.specs.Iterator.{Yields}
use Rattle.std.specs.List.{FoldsTo}
use denote.Param.Members.{Mut}

module _
    {S A B F : Type 0} (steps : S → Option A → S → Type 0) (g : Mut F (B × (A × Unit {0})) B) (I : S → B → Type 0) (f : F)
    (turn :
    (s : S) (a : B) (x : A) (t : S) (b : B) (f' : F) → I s a → steps s (Some x) t → Called g f (a, (x, tt)) b f' →
    I t b × (f' ≡ f)) where
  -- what each turn keeps holds after the last
  pub fold_along :
      (xs : List A) (s t : S) (a r : B) (f' : F) → Yields steps s xs t →
      FoldsTo {P = F × B} (λ p x q. Called g p.0 (p.1, (x, tt)) q.1 q.0) (f, a) xs (f', r) → I s a → I t r
  fold_along [] s t a r f' same end h = subst (λ u. I u r) same (subst (I s) (ap (λ (p : F × B). p.1) end) h)
  fold_along (x ∷ xs) s t a r f' (u, step, yields) (p, call, folds) h =
      let next = turn s a x u p.1 p.0 h step call in
      fold_along xs u t p.1 r f' yields
      (subst (λ k. FoldsTo {P = F × B} (λ p x q. Called g p.0 (p.1, (x, tt)) q.1 q.0) (k, p.1) xs (f', r)) next.1 folds) next.0
