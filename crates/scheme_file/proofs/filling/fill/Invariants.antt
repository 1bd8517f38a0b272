use Rattle.std.proofs.Common.{refl}
use Rattle.scheme.specs.Edits.{with_standing, with_wanted}
use Rattle.scheme_file.proofs.filling.fill.Given as goal

-- the items standing at the start
abbrev pub ghost-add_all : goal.ghost-add_all
ghost-add_all a = record { get = λ k. k.standing; put = with_standing; same = λ k. refl; again = λ k x y. refl }

-- the wanted items
abbrev pub ghost-add_all-2 : goal.ghost-add_all-2
ghost-add_all-2 a = record { get = λ k. k.wanted; put = with_wanted; same = λ k. refl; again = λ k x y. refl }
