-- What a line, and the end of a block, ask for (16): three bytes of output for each byte, four places, and counts of at most 2^31. By computation.
use mathlib.Core.Path.{◌≡◌, refl}
use mathlib.Core.Bool.{Bool, true, false}
use mathlib.Core.List.{List, [], ◌∷◌}
use Prim.Native.Nat.{ℕ}
use Rattle.spec_machine.specs.declared.session_counts.Counts.{Counts}
use Rattle.spec_session.specs.session_lines.LinesThrough.{lent_bad}

abbrev counted : (shifted clipped dropped passed : ℕ) → Counts
counted s k d p = record { shifted = s; clipped = k; dropped = d; passed = p }

pub lent_rows :
    lent_bad (counted 2147483648 2147483648 2147483648 2147483648) 100 300 4
    ∷ lent_bad (counted 0 0 0 0) 100 299 4
    ∷ lent_bad (counted 0 0 0 0) 100 300 3
    ∷ lent_bad (counted 2147483649 0 0 0) 100 300 4
    ∷ lent_bad (counted 0 2147483649 0 0) 100 300 4
    ∷ lent_bad (counted 0 0 2147483649 0) 100 300 4
    ∷ lent_bad (counted 0 0 0 2147483649) 100 300 4
    ∷ []
    ≡ false ∷ true ∷ true ∷ true ∷ true ∷ true ∷ true ∷ []
unfolding lent_bad
lent_rows = refl
