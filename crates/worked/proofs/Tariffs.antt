-- The tests of both tariffs, and what questions, papers and calls come to by running them.
use Rattle.std.proofs.Common.{◌≡◌, ℕ, ◌<◌, ◌≤◌, true, ◌&&◌, ◌||◌, eqb, ltb, leb, List, [], length, Option, zero-le}
use Rattle.std.specs.Option.{IfSome}
use Rattle.std.proofs.lemmas.Option.{IfSome_then}
use Rattle.std.proofs.lemmas.Bool.{and_parts, leb-true}
use Rattle.std.proofs.lemmas.Bool.Decides.{Decides-and, Decides-or, Decides-eqb, Decides-ltb}
use Rattle.sets.specs.declared.Set.{Set}
use Rattle.sets.specs.Member.{none}
use Rattle.scheme.specs.Task.{Task}
use Rattle.scheme.specs.Edits.{opened}
use Rattle.tariff.specs.Amounts.{Scale, All}
use Rattle.tariff.specs.PoundsScale.{pounds_scale}
use Rattle.tariff.specs.HoursFirstScale.{hours_first_scale}
use Rattle.rules.specs.Rules.{Asked}
use Rattle.rules.specs.Marks.{Marked}
use Rattle.rules.specs.Calls.{Call, Since}
use Rattle.rules.proofs.Unique.{asked_unique, marked_unique, since_unique}
use Rattle.worked.specs.Worked.{Only}
use Rattle.worked.proofs.Searching.{Comparing}
use Rattle.worked.proofs.Asking.{question, question_holds}
use Rattle.worked.proofs.Marking.{verdict, verdict_holds}
use Rattle.worked.proofs.Calling.{fair?, fair, after, since_holds}

abbrev pub by_pounds : Comparing pounds_scale
by_pounds = record { less? = ltb; tells = Decides-ltb; within? = λ v. leb v 65535; within = λ v. leb-true _ _ }

abbrev pub by_hours : Comparing hours_first_scale
by_hours = record {
  less? = λ x y. ltb x.hours y.hours || (eqb x.hours y.hours && ltb x.pounds y.pounds);
  tells = λ x y.
      Decides-or _ _ (Decides-ltb x.hours y.hours)
      (Decides-and _ _ (Decides-eqb x.hours y.hours) (Decides-ltb x.pounds y.pounds));
  within? = λ v. leb v.hours 65535 && leb v.pounds 65535;
  within = λ v e. let p = and_parts _ _ e in (leb-true _ _ p.0, leb-true _ _ p.1);
}

-- what came to something came to that only
alone :
    {A B : Type 0} (R : A → B → Type 0) →
    ((a x : A) (b y : B) → R a b → R x y → (a ≡ x) × (b ≡ y)) →
    (r : Option (A × B)) →
    IfSome r (λ p. R p.0 p.1) →
    IfSome r (λ p. Only R p.0 p.1)
alone R unique r h = IfSome_then r h (λ p g. (g, λ x y f. unique x p.0 y p.1 f g))

module _ {V : Type 0} {t : Scale V} (c : Comparing t) (capacity : ℕ) where
  pub since_by : (calls : List (Call V)) → IfSome (after t c capacity calls (opened, [])) (λ s. Only (Since t capacity calls) s.0 s.1)
  since_by calls = alone _ (λ a x b y h g. since_unique h g) _ (since_holds t c capacity calls)

  module _ (k : Task) (prices : List V) (ok : fair? t c k prices ≡ true) where
    pub asked_by :
        (bars : Set) (kept : List Set) →
        length kept ≤ capacity →
        IfSome (question t c capacity k prices bars kept) (λ a. Only (Asked t capacity k prices bars kept) a.0 a.1)
    asked_by bars kept fits =
        alone _ (λ a x b y h g. asked_unique h g) _
        (question_holds t c capacity k prices bars (fair t c k prices ok) kept fits)

    -- with no bars, from nothing kept
    pub asked_afresh : IfSome (question t c capacity k prices none []) (λ a. Only (Asked t capacity k prices none []) a.0 a.1)
    asked_afresh = asked_by none [] zero-le

    pub marked_afresh :
        (paper : List ℕ) →
        All (λ w. w < length k.works) paper →
        IfSome (verdict t c capacity k prices none paper []) (λ m. Only (Marked t capacity k prices none paper []) m.0 m.1)
    marked_afresh paper held =
        alone _ (λ a x b y h g. marked_unique h g) _
        (verdict_holds t c capacity k prices none (fair t c k prices ok) paper [] held zero-le)
