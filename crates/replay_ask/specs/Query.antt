-- The ops of `replay` that ask about a map.
use Rattle.std.specs.Prelude.{Bool, true, false, cond, ℕ, eqb}

unfoldable pub is_query : ℕ → Bool
is_query op = cond (eqb op 8) true (cond (eqb op 9) true (cond (eqb op 10) true (cond (eqb op 11) true (cond (eqb op 12) true false))))
