use Rattle.std.proofs.Common.{refl, ap, ◌∙◌}
use Rattle.tariff.specs.HoursFirstScale.{hours_first_scale, same_pair}
use Rattle.tariff.proofs.Bounds.{few_add_up}
use Rattle.tariff.proofs.hours_first.HoursFirstTariff.TheImpl.Goals as goal

pub join-tells : goal.join-tells
join-tells c m n total_a total_b few =
    let a = c.args.a in
    let b = c.args.b in
    same_pair _ _
    (ap (λ v. v.hours) c.ensures ∙ few_add_up hours_first_scale (λ x. x.hours) refl (λ x y. refl) (λ v p. p.0) m n a b total_a total_b few)
    (ap (λ v. v.pounds) c.ensures ∙ few_add_up hours_first_scale (λ x. x.pounds) refl (λ x y. refl) (λ v p. p.1) m n a b total_a total_b few)
