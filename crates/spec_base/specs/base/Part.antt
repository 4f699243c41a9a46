-- A part of a list that the library does not name.
use Rattle.std.specs.Prelude.{ℕ, ◌-◌, List, length, drop}

-- the last k bytes of s, or all where s is shorter
unfoldable pub last : List ℕ → ℕ → List ℕ
last s k = drop (length s - k) s
