-- A quoted text of ASCII characters as its bytes, for worked examples.
use Rattle.std.specs.Prelude.{ℕ, List}
use Prim.Native.Char.{code}
use Prim.Native.String.{String}

abbrev pub ascii : String → List ℕ
ascii String.[] = List.[]
ascii (String.◌∷◌ c s) = List.◌∷◌ (code c) (ascii s)
