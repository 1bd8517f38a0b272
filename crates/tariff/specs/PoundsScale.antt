-- The amounts of the tariff `Pounds`: whole numbers, joined by sum.
use Rattle.std.specs.Prelude.{ℕ, ◌+◌, ◌<◌, ◌≤◌}
use Rattle.std.proofs.Common.{arith}
use Rattle.tariff.specs.Amounts.{Laws, Scale}
use Rattle.tariff.specs.Numbers.{trichotomy}

pub pounds_laws : Laws 0 ◌+◌ ◌<◌
pounds_laws = record {
  grouped = λ x y z. omega arith;
  ordered = λ x y. omega arith;
  neutral = λ x. omega arith;
  compared = trichotomy;
  never_itself = λ x h. omega arith;
  chained = λ x y z h k. omega arith;
  none_least = λ x h. omega arith;
  monotone = λ x y z h. omega arith;
}

abbrev pub pounds_scale : Scale ℕ
pounds_scale = record {
  Amount = ℕ;
  none = 0;
  join = ◌+◌;
  less = ◌<◌;
  laws = pounds_laws;
  amount = λ v. v;
  faithful = λ x y e. e;
  within = λ v. v ≤ 65535;
}
