use Rattle.std.proofs.Common.{◌≡◌, true, refl, ap, rules}
use Rattle.std.proofs.Output.{has_written_of_eq}
use Rattle.sets.specs.Text.{text_of}
use Rattle.sets.proofs.Commas.{going_more, braced}
use Rattle.sets.proofs.text.SetDisplay.fmt.Goals as goal

pub loop-k-preserved : goal.loop-k-preserved
loop-k-preserved g c = (
  tt,
  tt,
  search rules,
  going_more g.W.Write.write_str_gives c.write_str.new.self c.loop-k.f c.write.new.self c.loop-k.between.now
      c.loop-k.k-iterator.rest c.into_iter-k-iterator.result.rest c.in-Some.k c.next.new.self.rest
      c.in-Some.ensures.steps c.loop-k.invariant.3 (λ plain. c.in_ok-write.ensures.writes plain (refl {a = true})),
)

pub returns-clause-writes : goal.returns-clause-writes
returns-clause-writes g c plain ok =
    let took = g.W.Write.write_str_gives in
    let all = c.into_iter-k-iterator.result.rest in
    let own : all ≡ c.args.self.now = cc in
    let f = c.args.f.now in
    let last = c.write_str-2.new.self in
    has_written_of_eq took f (text_of all) (text_of c.args.self.now) last (ap text_of own)
    (braced took f c.write_str.new.self c.loop-k.f last c.loop-k.between.now c.loop-k.k-iterator.rest all _
    c.in-None.ensures.steps (c.in_ok-write_str.ensures.writes plain (refl {a = true})) c.loop-k.invariant.3
    (λ p. c.write_str-2.ensures.writes p ok))
