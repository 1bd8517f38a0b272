-- Bytes put one after another.
use Rattle.std.proofs.Common.{◌≡◌, ℕ, ◌+◌, ◌^◌, ◌<◌, List, [], ◌++◌, length, sym, refl, ◌∙◌, subst, add-zero, arith, length-append}
use Rattle.scheme_file.specs.Passes.{Wrote}
use Rattle.scheme_file.proofs.Puts.{wrote_length, wrote_more, wrote_none}
use Rattle.page.specs.declared.pages.Page.{Page}
use Rattle.page.specs.Adds.{Adds}
use Rattle.page.specs.Puts.{Puts}

-- what is put behind
puts_more :
    {from xs mid ys to : List ℕ} {at next end : ℕ} →
    length from < 2 ^ 64 →
    Puts from at xs mid next →
    Puts mid next ys to end →
    Puts from at (xs ++ ys) to end
puts_more {from} {xs} {mid} {ys} {to} {at} {next} small p q =
    let both = length-append xs ys in
    record {
      count = omega (arith, p.count, q.count);
      written = λ room.
          let behind : at + length xs ≡ next = omega (arith, p.count) in
          let first = subst (λ (n : ℕ). Wrote from at xs mid n) behind (p.written (omega arith)) in
          let end : next + length ys ≡ at + length (xs ++ ys) = omega arith in
          subst (λ (n : ℕ). Wrote from at (xs ++ ys) to n) end (wrote_more first (q.written (omega (arith, wrote_length first))));
    }

puts_none : (from : List ℕ) (at : ℕ) → at < 2 ^ 64 → Puts from at [] from at
puts_none from at small = record {
  count = omega arith;
  written = λ room. subst (λ (n : ℕ). Wrote from at [] from n) (sym (add-zero at)) (wrote_none from at (omega arith));
}

pub adds_more : {p q r : Page} {xs ys : List ℕ} → Adds p xs q → Adds q ys r → Adds p (xs ++ ys) r
adds_more {p} a b = record {
  puts = puts_more p.long a.puts b.puts;
  same_length = b.same_length ∙ a.same_length;
  same_reference = b.same_reference ∙ a.same_reference;
}

pub adds_none : (p : Page) → Adds p [] p
adds_none p = record { puts = puts_none p.bytes.now p.at p.counted; same_length = refl; same_reference = refl }

pub adds_as : {p q : Page} {xs ys : List ℕ} → xs ≡ ys → Adds p xs q → Adds p ys q
adds_as {p} {q} e a = subst (λ (l : List ℕ). Adds p l q) e a
