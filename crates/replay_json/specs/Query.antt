-- The ops of `replay` that ask about a map's text.
use Rattle.std.specs.Prelude.{Bool, true, false, cond, ℕ, eqb}

unfoldable pub is_text_query : ℕ → Bool
is_text_query op = cond (eqb op 6) true (cond (eqb op 7) true false)
