-- Records among bytes: the parts of a record where they stand.
use Rattle.std.proofs.Common.{◌≡◌, ℕ, ◌+◌, ◌-◌, ◌<◌, ◌≤◌, List, [], ◌∷◌, ◌++◌, length, get_or, take, drop, Some, sym, refl, ap, ◌∙◌, ap₂, arith, rules}
use Rattle.std.proofs.lemmas.List.{same_lists, places, take_all, take-append-drop, drop-drop, length-drop, length-take-le, get_or-drop, append_assoc}
use Rattle.std.proofs.lemmas.Bool.Decides.{nat_tests}
use Rattle.scheme_file.specs.declared.kinds.Kind.{Kind}
use Rattle.scheme_file.specs.declared.kinds.Kind.TheVariants.{Head, Item, Work, Standing, Wanted, End}
use Rattle.scheme_file.specs.Bytes.{le, value}
use Rattle.scheme_file.specs.Format.{encode}
use Rattle.scheme_file.specs.Kinds.{code_of, named}
use Rattle.scheme_file.specs.Rules.{Complete, Kept, body_in, code, frame_rules, size}
use Rattle.scheme_file.proofs.Digits.{le_value}

-- a frame's parts, cut off one after another
pub cut_frame :
    (rest first after whole second body : List ℕ) (s : ℕ) →
    (first ≡ take 2 rest) × (after ≡ drop 2 rest) × (length after + 2 ≡ length rest) →
    s ≡ value first →
    (whole ≡ take s after) × (s ≤ length after) →
    (second ≡ take 2 whole) × (body ≡ drop 2 whole) × (length body + 2 ≡ length whole) →
    Complete rest × (2 ≤ size rest) × (code rest ≡ value second) × (body ≡ body_in rest)
cut_frame rest first after whole second body s one sized two three =
    let is : size rest ≡ s = ap value (sym one.0) ∙ sym sized in
    let long : length whole ≡ s = ap length two.0 ∙ length-take-le s after two.1 in
    let part : whole ≡ take s (drop 2 rest) = two.0 ∙ ap (take s) one.1 in (
      (omega arith, omega arith),
      omega arith,
      ap value (sym (three.0 ∙ ap (take 2) part ∙ same_lists _ _ (search (rules, places)) (λ k d lt. grind (arith, places)))),
      three.1 ∙ ap (drop 2) part ∙ same_lists _ _ (search (rules, places)) (λ k d lt. grind (arith, places)),
    )

first_two : (xs : List ℕ) → 2 ≤ length xs → get_or xs 0 0 ∷ (get_or xs 1 0 ∷ []) ≡ take 2 xs
first_two [] h = absurd (omega arith)
first_two (x ∷ []) h = absurd (omega arith)
first_two (x ∷ (y ∷ xs)) h = refl

-- the same, as slice patterns take them
pub frame_cut :
    (rest whole : List ℕ) (s : ℕ) →
    2 ≤ length rest →
    s ≡ value (get_or rest 0 0 ∷ (get_or rest 1 0 ∷ [])) →
    whole ≡ take s (take (length rest - 2) (drop 2 rest)) →
    s ≤ length (take (length rest - 2) (drop 2 rest)) →
    2 ≤ length whole →
    Complete rest × (2 ≤ size rest) × (code rest ≡ value (get_or whole 0 0 ∷ (get_or whole 1 0 ∷ []))) × (take (length whole - 2) (drop 2 whole) ≡ body_in rest)
frame_cut rest whole s two sized is room some =
    let rest_less : length (drop 2 rest) ≡ length rest - 2 = length-drop 2 rest in
    let less : length (drop 2 whole) ≡ length whole - 2 = length-drop 2 whole in
    let after : take (length rest - 2) (drop 2 rest) ≡ drop 2 rest = take_all (length rest - 2) (drop 2 rest) (omega (arith, rest_less)) in
    let body : take (length whole - 2) (drop 2 whole) ≡ drop 2 whole = take_all (length whole - 2) (drop 2 whole) (omega (arith, less)) in
    cut_frame rest (get_or rest 0 0 ∷ (get_or rest 1 0 ∷ [])) (drop 2 rest) whole (get_or whole 0 0 ∷ (get_or whole 1 0 ∷ []))
    (take (length whole - 2) (drop 2 whole)) s
    (first_two rest two, refl, omega (arith, rest_less)) sized (is ∙ ap (take s) after, omega (arith, ap length after, room))
    (first_two whole some, body, omega (arith, ap length body, less))

-- a kind stands behind its code alone
pub code_named : (n : ℕ) (k : Kind) → named n ≡ Some k → code_of k ≡ n
code_named n Head e = grind (arith, nat_tests)
code_named n Item e = grind (arith, nat_tests)
code_named n Work e = grind (arith, nat_tests)
code_named n Standing e = grind (arith, nat_tests)
code_named n Wanted e = grind (arith, nat_tests)
code_named n End e = grind (arith, nat_tests)

-- bytes cut at 2, 4 and 4 + n
parts : (xs : List ℕ) (n m : ℕ) → m ≡ n → xs ≡ (take 2 xs ++ (take 2 (drop 2 xs) ++ take n (drop 4 xs))) ++ drop (4 + m) xs
parts xs n m e =
    rw (e, append_assoc, append_assoc, ← drop-drop, take-append-drop n (drop 4 xs), ← drop-drop 2 2 xs, take-append-drop 2 (drop 2 xs), take-append-drop 2 xs) refl

-- bytes that keep the rules of a frame begin with a record
pub framed : (rest : List ℕ) (k : Kind) → ((i : ℕ) → get_or rest i 0 < 256) → Kept (frame_rules rest) → named (code rest) ≡ Some k →
    rest ≡ encode (record { kind = k; body = body_in rest }) ++ drop (4 + length (body_in rest)) rest
framed rest k fits kept known =
    let room = kept.0 in
    let two : 2 ≤ size rest = kept.1.0.0 in
    let body = body_in rest in
    let after = drop (4 + length body) rest in
    let long : length body ≡ size rest - 2 = length-take-le (size rest - 2) (drop 4 rest) (simp length-drop (omega arith)) in
    let all : 2 + length body ≡ size rest = omega arith in
    let first : le 2 (2 + length body) ≡ take 2 rest = ap (le 2) all ∙ le_value 2 rest room.0 fits in
    let second : le 2 (code_of k) ≡ take 2 (drop 2 rest) =
    ap (le 2) (code_named (code rest) k known)
    ∙ le_value 2 (drop 2 rest) (simp length-drop (omega arith)) (λ i. rw get_or-drop (fits (2 + i)))
    in
    parts rest (size rest - 2) (length body) long ∙ sym (ap₂ (λ (a b : List ℕ). (a ++ (b ++ body)) ++ after) first second)
