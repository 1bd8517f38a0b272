use Rattle.std.proofs.Common.{List, ◌∙◌, subst}
use Rattle.sets.specs.declared.Set.{Set}
use Rattle.chooser.specs.Least.{Draws}
use Rattle.chooser.proofs.Trimming.{candidates_held}
use Rattle.searcher.proofs.Walks.{searched_draws}
use Rattle.searcher.proofs.choosing.SearcherChooser.draw.Goals as goal

pub returns : goal.returns
returns g c =
    let t = g.T.Tariff.scale in
    let draw = c.new.result in
    let prices = draw.terms.prices.now in
    let bars = draw.terms.bars in
    let sets = draw.sets.now in
    let found = c.least.result.best in
    let kept = c.args.self.now.kept.sets.items in
    let Drawn : List Set → Type 0 = λ xs. Draws t prices bars xs found in
    subst (λ terms. Draws t terms.prices.now terms.bars kept found) c.new.ensures.terms
    (subst Drawn (c.new.ensures.sets ∙ c.as_slice.ensures.value)
    (searched_draws t prices draw.works sets bars (candidates_held t prices bars sets draw.works c.new.ensures.works) found c.least.ensures))
