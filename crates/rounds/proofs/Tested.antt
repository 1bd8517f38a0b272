-- What a result says by the test whether it is an error.
use Rattle.std.proofs.Common.{◌≡◌, true, false, Ok, Err, Result}
use Rattle.std.specs.Result.{MatchResult, is_err}

pub where_err : {X E : Type 0} (P Q : Type 0) (r : Result X E) → is_err r ≡ true → MatchResult r (λ _. P) (λ _. Q) → Q
where_err P Q (Ok x) e m = absurd cc
where_err P Q (Err y) e m = m

pub where_ok : {X E : Type 0} (P Q : Type 0) (r : Result X E) → is_err r ≡ false → MatchResult r (λ _. P) (λ _. Q) → P
where_ok P Q (Ok x) e m = m
where_ok P Q (Err y) e m = absurd cc
