use Rattle.std.proofs.Common.{◌≡◌, ℕ, List, ◌++◌, codes, ap, ◌∙◌, append_assoc}
use Rattle.std.proofs.lemmas.List.{take_all}
use Rattle.sets.specs.Listed.{members, has_bit}
use Rattle.inspection.specs.Record.{entry, marked, lines, reach_text}
use Rattle.inspection.proofs.Members.{all_yielded}
use Rattle.inspection.proofs.records.print.Goals as goal

-- six texts behind one another
six_parts :
    (a b c d e f t1 t2 t3 t4 t5 : List ℕ) →
    t1 ≡ a ++ b →
    t2 ≡ t1 ++ c →
    t3 ≡ t2 ++ d →
    t4 ≡ t3 ++ e →
    t5 ≡ t4 ++ f →
    t5 ≡ a ++ (b ++ (c ++ (d ++ (e ++ f))))
six_parts a b c d e f t1 t2 t3 t4 t5 p1 p2 p3 p4 p5 =
    let whole : t5 ≡ ((((a ++ b) ++ c) ++ d) ++ e) ++ f = cc in whole ∙ simp append_assoc

pub returns : goal.returns
returns g c =
    let reach = c.reach-reach.result in
    let wanted = c.args.scheme.now.wanted in
    let items = g.N.Names.items c.args.names.now in
    let work_line : ℕ → List ℕ = λ w. entry w (g.N.Names.works c.args.names.now w) in
    let item_line : ℕ → List ℕ = λ i. entry i (items i) in
    let want_line : ℕ → List ℕ = λ i. marked (reach_text (has_bit reach i)) i (items i) in
    let placed = take_all c.loop-number.number-index c.args.order.now c.loop-number-test.false in
    let standing : c.loop-i.yielded ≡ members reach =
    all_yielded c.into_iter-i-iterator.result c.iter-i-items.result _ c.next.new.self reach c.loop-i.yielded c.next.result
    c.into_iter-i-iterator.ensures.into_iter_gives c.iter-i-items.ensures c.loop-i.yielded_by c.in-None.is c.next.ensures.steps
    in
    let listed : c.loop-i-2.yielded ≡ members wanted =
    all_yielded c.into_iter-i-iterator-2.result c.iter-i-items-2.result _ c.next-in-loop-i-2.new.self wanted c.loop-i-2.yielded c.next-in-loop-i-2.result
    c.into_iter-i-iterator-2.ensures.into_iter_gives (c.iter-i-items-2.ensures ∙ c.wanted.ensures) c.loop-i-2.yielded_by c.in-None-i.is
    c.next-in-loop-i-2.ensures.steps
    in
    record {
      reach = reach;
      reached = c.reach-reach.ensures;
      written =
          six_parts (codes "works in order\n") (lines work_line c.args.order.now) (codes "standing at the end\n") (lines item_line (members reach))
          (codes "wanted\n") (lines want_line (members wanted)) c.loop-number.text.items c.extend_from_slice.new.self.items c.loop-i.text.items
          c.extend_from_slice-2.new.self.items c.loop-i-2.text.items
          (c.loop-number.invariant ∙ ap (λ ns. codes "works in order\n" ++ lines work_line ns) placed)
          c.in_ok-extend_from_slice.ensures.items
          (c.loop-i.invariant ∙ ap (λ ns. c.extend_from_slice.new.self.items ++ lines item_line ns) standing)
          c.in_ok-extend_from_slice-2.ensures.items
          (c.loop-i-2.invariant ∙ ap (λ ns. c.extend_from_slice-2.new.self.items ++ lines want_line ns) listed);
    }
