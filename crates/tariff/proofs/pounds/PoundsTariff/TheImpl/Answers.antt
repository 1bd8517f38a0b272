use Rattle.std.proofs.Common.{refl, ◌∙◌}
use Rattle.tariff.specs.PoundsScale.{pounds_scale}
use Rattle.tariff.proofs.Bounds.{few_add_up}
use Rattle.tariff.proofs.pounds.PoundsTariff.TheImpl.Goals as goal

pub join-tells : goal.join-tells
join-tells c m n total_a total_b few =
    c.ensures ∙ few_add_up pounds_scale (λ x. x) refl (λ x y. refl) (λ v p. p) m n c.args.a c.args.b total_a total_b few
