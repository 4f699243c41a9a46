-- Bytes taken from a reader into a buffer.
use Rattle.std.specs.Prelude.{List, ℕ, take}
use Rattle.std.specs.declared.option.Option.{Option}
use Rattle.std.specs.Io.KnownBytes.{Consumes}

-- the bytes that are gone from a reader stand at the front of a buffer
abbrev pub DrainsToFront : Option (List ℕ) → Option (List ℕ) → List ℕ → Type 0
DrainsToFront old new buf = (n : ℕ) × Consumes old new (take n buf)
