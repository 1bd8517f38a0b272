-- The landmark drawn from a set of works, run.
use Rattle.std.proofs.Common.{ℕ, zero, suc, Bool, not, ◌&&◌, length}
use Rattle.std.proofs.lemmas.Bool.Decides.{Decides-and, Decides-not}
use Rattle.sets.specs.declared.Set.{Set}
use Rattle.scheme.specs.Task.{Task, work}
use Rattle.scheme.specs.Landmarks.{Drawn}
use Rattle.scheme.proofs.Drawing.{GrownTo, grown_none, grown_all, grown_with, grown_over}
use Rattle.worked.proofs.Tests.{when, when_tells, sub?, sub_tells, with, with_members, passing, passing_members}
use Rattle.worked.proofs.Reaching.{reach, reach_holds, sufficient?, sufficient_tells}

module _ (k : Task) (s : Set) where
  -- the set grown by works below n
  abbrev pub grow : ℕ → Set
  grow zero = s
  grow (suc n) =
      let g = grow n in let more = with g n in when (sufficient? k more) (λ _. g) (λ _. more)

  grow_holds : (n : ℕ) → GrownTo k s n (grow n)
  grow_holds zero = grown_none k s
  grow_holds (suc n) =
      let g = grow n in
      let more = with g n in
      let h = grow_holds n in
      when_tells (GrownTo k s (suc n)) _ _ (sufficient_tells k more) (grown_over k s more h (with_members g n))
      (grown_with k s more h (with_members g n))

  abbrev pub leaves? : Set → ℕ → Bool
  leaves? r w = sub? (work k.works w).needs r && not (sub? (work k.works w).gives r)

  abbrev pub landmark : Set
  landmark =
      let r = reach k (grow (length k.works)) in passing (leaves? r) (length k.works)

  pub landmark_drawn : Drawn k s landmark
  landmark_drawn =
      let g = grow (length k.works) in
      let r = reach k g in
      record {
        grown = g;
        reach = r;
        is_grown = grown_all k s (grow_holds (length k.works));
        is_reach = reach_holds k g;
        leaving =
            passing_members _ _
            (λ w. Decides-and _ _ (sub_tells (work k.works w).needs r) (Decides-not _ (sub_tells (work k.works w).gives r)))
            _;
      }
