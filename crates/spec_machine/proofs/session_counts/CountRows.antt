-- The counts of one caption shifted, two clipped, three dropped and four that passed, and the same fate by fate: by computation.
use mathlib.Core.Path.{◌≡◌, refl}
use mathlib.Core.List.{List, [], ◌∷◌}
use Prim.Native.Nat.{ℕ}
use Rattle.spec_caption.specs.caption_fate.Fates.{Fate, passed, dropped, shifted, clipped}
use Rattle.spec_caption.specs.caption_fate.Emit.{Emit, emit, none, decided}
use Rattle.spec_machine.specs.session_counts.Counts.{count_all, counts_of, captions, how_many, was_shifted, was_clipped, was_dropped, was_passed}

abbrev of : Fate → Emit
of f = emit [] [] (decided f)

abbrev emits : List Emit
emits =
    of passed
    ∷ of (clipped 1 2)
    ∷ of dropped
    ∷ of passed
    ∷ emit [] [] none
    ∷ of dropped
    ∷ of (shifted 1 2)
    ∷ of passed
    ∷ of (clipped 1 2)
    ∷ of dropped
    ∷ of passed
    ∷ []

pub count_row : counts_of emits ≡ record { shifted = 1; clipped = 2; dropped = 3; passed = 4 }
unfolding count_all
count_row = refl

pub fate_rows : captions emits ∷ how_many was_shifted emits ∷ how_many was_clipped emits ∷ how_many was_dropped emits ∷ how_many was_passed emits ∷ [] ≡ 10 ∷ 1 ∷ 2 ∷ 3 ∷ 4 ∷ []
unfolding captions how_many
fate_rows = refl
