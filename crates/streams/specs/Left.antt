-- What a writer and a reader are left with, also after an error, where their bytes are known.
use Rattle.std.specs.Prelude.{◌≡◌, List, ℕ, ◌++◌, take, None, Some}
use Rattle.std.specs.declared.option.Option.{Option}
use Rattle.std.specs.Io.KnownBytes.{Appends}

-- the bytes of a writer are known, and begin with a text
unfoldable pub Begins : Option (List ℕ) → List ℕ → Type 0
Begins None text = ⊥
Begins (Some xs) text = (bs : List ℕ) × (xs ≡ text ++ bs)

-- what a writer was known to begin with, it begins with still: nothing is lost, and some bytes may have come behind it
abbrev pub Grows : Option (List ℕ) → Option (List ℕ) → Type 0
Grows old new = (text : List ℕ) → Begins old text → Begins new text

-- the bytes that came behind it are the first ones of a text
abbrev pub GrowsByFront : Option (List ℕ) → Option (List ℕ) → List ℕ → Type 0
GrowsByFront old new text = (n : ℕ) × Appends old new (take n text)

-- the bytes that a reader is to give are known, and are the end of a text
unfoldable pub Ends : Option (List ℕ) → List ℕ → Type 0
Ends None text = ⊥
Ends (Some xs) text = (bs : List ℕ) × (text ≡ bs ++ xs)

-- what a reader has left is the end of what it had: some of its first bytes may be gone, and no other
abbrev pub Drains : Option (List ℕ) → Option (List ℕ) → Type 0
Drains old new = (text : List ℕ) → Ends old text → Ends new text
