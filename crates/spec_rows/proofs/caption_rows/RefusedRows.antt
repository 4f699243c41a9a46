-- A refusal writes neither rows nor output, the seven told numbers of a text stand in their order, and where its pieces end: by computation.
use mathlib.Core.Path.{◌≡◌, refl}
use mathlib.Core.List.{List, [], ◌∷◌}
use Rattle.spec_base.specs.base.Refusal.{unless_refused}
use Rattle.spec_caption.specs.caption_fate.Fates.{passed, dropped, shifted, clipped}
use Rattle.spec_caption.specs.caption_fate.Emit.{Emit, warning, emit, decided, output_of, warnings_of, places_of}
use Rattle.spec_machine.specs.session_counts.Counts.{how_many}
use Rattle.spec_runs.specs.one_call.Ran.{tells_of}
use Rattle.spec_runs.specs.one_call.Text.{told_of}

pub refused_rows : (unless_refused 0 (7 ∷ []) ≡ 7 ∷ []) × (unless_refused 15 (7 ∷ []) ≡ []) × (unless_refused 16 (7 ∷ []) ≡ [])
refused_rows = (refl, refl, refl)

-- one caption shifted, two clipped, three dropped, four passed; eleven bytes written, two warnings, thirteen bytes taken
abbrev emits : List Emit
emits =
    emit (1 ∷ 2 ∷ 3 ∷ []) [] (decided (shifted 0 0))
    ∷ emit (1 ∷ 2 ∷ 3 ∷ 4 ∷ []) (warning 4 1 ∷ []) (decided (clipped 0 0))
    ∷ emit [] [] (decided (clipped 0 0))
    ∷ emit [] [] (decided dropped)
    ∷ emit [] [] (decided dropped)
    ∷ emit [] [] (decided dropped)
    ∷ emit (1 ∷ 2 ∷ 3 ∷ 4 ∷ []) (warning 1 9 ∷ []) (decided passed)
    ∷ emit [] [] (decided passed)
    ∷ emit [] [] (decided passed)
    ∷ emit [] [] (decided passed)
    ∷ []

pub told_row : told_of emits 13 ≡ 11 ∷ 4 ∷ 1 ∷ 2 ∷ 3 ∷ 4 ∷ 13 ∷ []
unfolding told_of output_of warnings_of places_of how_many
told_row = refl

-- the same seven of what the calls told together
pub tells_row : tells_of (record { number = 9; written = 11; warned = 4; counts = record { shifted = 1; clipped = 2; dropped = 3; passed = 4 } }) 13 ≡ 11 ∷ 4 ∷ 1 ∷ 2 ∷ 3 ∷ 4 ∷ 13 ∷ []
tells_row = refl
