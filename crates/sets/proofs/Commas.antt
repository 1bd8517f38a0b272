-- A set that is written member by member.
use Rattle.std.proofs.Common.{◌≡◌, ℕ, List, [], ◌∷◌, ◌++◌, map, Some, None, codes, decimal, sym, refl, ap, ◌∙◌, append_assoc, append-nil}
use Rattle.std.proofs.Output.{has_written_append, has_written_of_eq}
use Rattle.std.specs.List.{join_with_byte}
use Rattle.std.specs.Fmt.{IsPlainFormatter, HasWritten}
use Rattle.std.specs.declared.fmt.Formatter.{Formatter}
use Rattle.sets.specs.declared.Set.{Set}
use Rattle.sets.specs.Listed.{members}
use Rattle.sets.specs.Steps.{Next}
use Rattle.sets.specs.Text.{text_of}
use Rattle.sets.proofs.Listing.{members_none, members_next}

-- the numbers that are still to come: a separator before the first, a comma before each other
abbrev pub follow : List ℕ → List ℕ → List ℕ
follow sep [] = []
follow sep (x ∷ xs) = sep ++ (decimal x ++ follow (codes ",") xs)

follow_none : (xs : List ℕ) → follow [] xs ≡ join_with_byte 44 (map decimal xs)
follow_none [] = refl
follow_none (x ∷ []) = append-nil (decimal x)
follow_none (x ∷ y ∷ xs) = ap (λ (l : List ℕ). decimal x ++ (44 ∷ l)) (follow_none (y ∷ xs))

module _ {W : Type 0} (took : W → List ℕ → W → Type 0) where
  -- g is f after some members of `all` were written; the separator and the members of `rest` are still to come
  abbrev pub Going : Formatter W → Formatter W → List ℕ → Set → Set → Type 0
  Going f g sep rest all = IsPlainFormatter f → (bs : List ℕ) × HasWritten took f bs g × (bs ++ follow sep (members rest) ≡ follow [] (members all))

  pub going_more : (f g h : Formatter W) (sep : List ℕ) (rest all : Set) (k : ℕ) (more : Set) → Next rest (Some k) more →
      Going f g sep rest all → (IsPlainFormatter g → HasWritten took g (sep ++ decimal k) h) → Going f h (codes ",") more all
  going_more f g h sep rest all k more next so_far here plain =
      let p = so_far plain in
      let bs = p.0 ++ (sep ++ decimal k) in
      let joined : bs ++ follow (codes ",") (members more) ≡ p.0 ++ follow sep (k ∷ members more) = simp append_assoc in
      let first = ap (λ (l : List ℕ). p.0 ++ follow sep l) (members_next rest more k next) in
      (bs, has_written_append took f p.0 g (sep ++ decimal k) h p.1 (here p.1.plain), joined ∙ sym first ∙ p.2)

  going_all : (f g : Formatter W) (sep : List ℕ) (rest all : Set) → members rest ≡ [] → Going f g sep rest all →
      IsPlainFormatter f → HasWritten took f (join_with_byte 44 (map decimal (members all))) g
  going_all f g sep rest all none so_far plain =
      let p = so_far plain in
      let last = ap (λ (l : List ℕ). p.0 ++ follow sep l) none ∙ append-nil p.0 in
      has_written_of_eq took f p.0 (join_with_byte 44 (map decimal (members all))) g (sym last ∙ p.2 ∙ follow_none (members all)) p.1

  -- all of a set, between its braces
  pub braced : (f g h i : Formatter W) (sep : List ℕ) (rest all end : Set) → Next rest None end →
      HasWritten took f (codes "{") g → Going g h sep rest all → (IsPlainFormatter h → HasWritten took h (codes "}") i) → HasWritten took f (text_of all) i
  unfolding text_of
  braced f g h i sep rest all end next opened so_far close =
      let inner = going_all g h sep rest all (members_none rest next.0) so_far opened.plain in
      let text = join_with_byte 44 (map decimal (members all)) in
      has_written_append took f (codes "{") g (text ++ codes "}") i opened (has_written_append took g text h (codes "}") i inner (close inner.plain))
