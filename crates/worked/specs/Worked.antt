-- What the rules of questions (`Asked`), papers (`Marked`) and lists of calls (`Since`) give on the worked junctions, with the numbers of a table.
use Rattle.std.specs.Prelude.{◌≡◌, ℕ, List, [], ◌∷◌, ◌++◌, take, replicate}
use Rattle.sets.specs.declared.Set.{Set}
use Rattle.sets.specs.Member.{none}
use Rattle.scheme.specs.Task.{Task}
use Rattle.tariff.specs.Amounts.{Scale}
use Rattle.tariff.specs.PoundsScale.{pounds_scale}
use Rattle.tariff.specs.HoursFirstScale.{Pair, hours_first_scale}
use Rattle.tariff.specs.declared.hours_first.HoursAndPounds.{HoursAndPounds}
use Rattle.inspection.specs.Sample.{sample}
use Rattle.rules.specs.Rules.{Outcome, Asked}
use Rattle.rules.specs.Rules.Outcome.{answered, out_of_reach, capacity_spent}
use Rattle.rules.specs.Marks.{Marked, Verdict}
use Rattle.rules.specs.Marks.Flaw.{lacking, missing}
use Rattle.rules.specs.Marks.Verdict.{flaw, dearer}
use Rattle.rules.specs.Marks.Marking.{given}
use Rattle.rules.specs.Calls.{Since}
use Rattle.worked.specs.declared.Answer.{Answer}
use Rattle.worked.specs.declared.Paper.{Paper}
use Rattle.worked.specs.declared.Verdict.{Verdict as Told}
use Rattle.worked.specs.declared.Verdict.TheVariants.{Dearer, Lacking, Missing}
use Rattle.worked.specs.declared.SampleCases.{SampleCases}
use Rattle.worked.specs.declared.OtherCases.{OtherCases}
use Rattle.worked.specs.declared.Cases.{Cases}
use Rattle.worked.specs.Junctions.{these, pounds, hours_and_pounds, entries, questions, unwanting, pair, twins, circle, apart, singles}

-- R holds of a and b, and of no others: of an outcome, a verdict or a task, and of what is kept then
abbrev pub Only : {A B : Type 0} → (A → B → Type 0) → A → B → Type 0
Only {A} {B} R a b = R a b × ((x : A) (y : B) → R x y → (x ≡ a) × (y ≡ b))

-- the outcome that an answer of the table tells under a tariff
abbrev pub told : {V : Type 0} {N : ℕ} (t : Scale V) → Answer V N → Outcome t.Amount
told t a = answered a.order (t.amount a.total) a.rounds

abbrev pub in_pounds : {N : ℕ} → Answer ℕ N → Outcome ℕ
in_pounds a = told pounds_scale a

abbrev pub in_hours : {N : ℕ} → Answer HoursAndPounds N → Outcome Pair
in_hours a = told hours_first_scale a

-- the verdict that the table tells of a paper
abbrev pub verdict_told : Told → Verdict ℕ
verdict_told (Dearer total) = dearer total
verdict_told (Lacking place item) = flaw (lacking place item)
verdict_told (Missing item) = flaw (missing item)

-- a question in pounds about the sample junction: the bars, the landmarks kept before it, its outcome and the landmarks kept after it
abbrev pub SampleAsked : Set → List Set → Outcome ℕ → List Set → Type 0
SampleAsked bars kept = Only (Asked pounds_scale 64 sample pounds bars kept)

-- a paper on the sample junction in pounds, from nothing kept: its verdict and the landmarks kept after it
abbrev pub SampleMarked : List ℕ → Verdict ℕ → List Set → Type 0
SampleMarked paper v = Only (Marked pounds_scale 64 sample pounds none paper []) (given v)

-- a paper of the table: it has this order, its verdict is of this kind, and that is the verdict on this order
abbrev pub PaperMarked : {A : Type 0} {N : ℕ} → List ℕ → (A → Verdict ℕ) → Paper N → List Set → Type 0
PaperMarked {A} order kind p kept =
    (a : A) × (p.order ≡ order) × (verdict_told p.verdict ≡ kind a) × SampleMarked order (kind a) kept

-- The sample junction: nothing stands, and item 4 is wanted.
pub record OnTheSample (c : SampleCases) : Type 0 where
  -- it comes about by seven entries and a want, under either tariff
  pub entered : Only (Since pounds_scale 64 entries) sample []
  pub entered_by_hours : Only (Since hours_first_scale 64 entries) sample []
  -- in pounds, from nothing kept
  pub first : SampleAsked none [] (in_pounds c.first) c.kept
  -- the same again, over what is kept
  pub again : SampleAsked none c.kept (in_pounds c.again) c.kept
  -- then with Radar barred
  pub radarless : SampleAsked (these (5 ∷ [])) c.kept (in_pounds c.radarless) c.kept
  -- then with Duct barred
  pub ductless : SampleAsked (these (1 ∷ [])) c.kept (in_pounds c.ductless) c.kept
  -- the entries, the want and these four questions, as calls
  pub asked : Only (Since pounds_scale 64 (entries ++ questions)) sample c.kept
  -- with Priority barred nothing gives what is wanted
  pub priorityless : SampleAsked (these (6 ∷ [])) [] out_of_reach []
  -- hours first, from nothing kept: the same landmarks are drawn
  pub hours : Only (Asked hours_first_scale 64 sample hours_and_pounds none []) (in_hours c.hours) c.kept
  -- the paper with the works 0, 3, 5, 6 can be carried out, but another order is cheaper
  pub dear_paper : PaperMarked (0 ∷ 3 ∷ 5 ∷ 6 ∷ []) dearer c.dear_paper c.kept
  -- the paper with work 3 alone lacks an item at its first place, and draws nothing
  pub lacking_paper : PaperMarked (3 ∷ []) (λ (p : ℕ × ℕ). flaw (lacking p.0 p.1)) c.lacking_paper []
  -- the paper with the works 1, 2, 3 can be carried out, and an item is missing after it
  pub missing_paper : PaperMarked (1 ∷ 2 ∷ 3 ∷ []) (λ (i : ℕ). flaw (missing i)) c.missing_paper []

-- a question in pounds with no bars and from nothing kept: the junction, its prices, the outcome and the landmarks kept after it
abbrev pub AskedAfresh : (capacity : ℕ) → Task → List ℕ → Outcome ℕ → List Set → Type 0
AskedAfresh capacity k prices = Only (Asked pounds_scale capacity k prices none [])

-- Other junctions.
pub record OnOthers (c : OtherCases) : Type 0 where
  -- nothing is wanted: the empty order
  pub idle : AskedAfresh 64 unwanting pounds (in_pounds c.idle) []
  -- free works that give 0, 1 and both: equal totals are settled by the lowest set number
  pub free : AskedAfresh 64 pair (0 ∷ 0 ∷ 0 ∷ []) (in_pounds c.free) (these (1 ∷ 2 ∷ []) ∷ these (0 ∷ 2 ∷ []) ∷ [])
  -- two works at 5 pounds that each give the one wanted item
  pub equal : AskedAfresh 64 twins (5 ∷ 5 ∷ []) (in_pounds c.equal) (these (0 ∷ 1 ∷ []) ∷ [])
  -- twelve works at 1 pound, each with a wanted item of its own: a capacity of 12 is enough
  pub twelve : AskedAfresh 12 (apart 12) (replicate 12 1) (in_pounds c.twelve) (singles 12)
  -- for thirteen it is not
  pub spent : AskedAfresh 12 (apart 13) (replicate 13 1) capacity_spent (take 12 (singles 13))
  pub thirteen : AskedAfresh 64 (apart 13) (replicate 13 1) (in_pounds c.thirteen) (singles 13)
  -- two works that each need what the other gives
  pub circular : AskedAfresh 64 circle (1 ∷ 1 ∷ []) out_of_reach []

-- All of them.
pub record Worked (c : Cases) : Type 0 where
  pub on_the_sample : OnTheSample c.sample
  pub on_others : OnOthers c.others
