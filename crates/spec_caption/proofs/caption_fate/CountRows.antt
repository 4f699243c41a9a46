-- Which of the four counts a caption adds one to, by its fate.
use mathlib.Core.Bool.{Bool, true, false}
use mathlib.Core.List.{List, [], ◌∷◌, map}
use mathlib.Core.Path.{◌≡◌, refl}
use Rattle.spec_caption.specs.caption_fate.Cases.{counted_adds}
use Rattle.spec_caption.specs.caption_fate.Emit.{Caption, none, decided}
use Rattle.spec_caption.specs.caption_fate.Fates.{passed, dropped, shifted, clipped}
use Rattle.spec_caption.specs.caption_fate.Told.{counted_of}

-- shifted, clipped, dropped, passed
abbrev row : Caption → List Bool
row x = (counted_adds (counted_of x)).shifted ∷ (counted_adds (counted_of x)).clipped ∷ (counted_adds (counted_of x)).dropped ∷ (counted_adds (counted_of x)).passed ∷ []

pub count_rows :
    map row (decided (shifted 1 2) ∷ decided (clipped 1 2) ∷ decided dropped ∷ decided passed ∷ none ∷ [])
    ≡ (true ∷ false ∷ false ∷ false ∷ [])
    ∷ (false ∷ true ∷ false ∷ false ∷ [])
    ∷ (false ∷ false ∷ true ∷ false ∷ [])
    ∷ (false ∷ false ∷ false ∷ true ∷ [])
    ∷ (false ∷ false ∷ false ∷ false ∷ [])
    ∷ []
count_rows = refl
