-- The ops of `replay` that ask about a text or a session.
use Rattle.std.specs.Prelude.{ℕ, Bool, ◌||◌, ◌==◌}

unfoldable pub is_text : ℕ → Bool
is_text op = op == 5 || (op == 13 || (op == 14 || op == 15))
