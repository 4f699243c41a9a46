-- The warnings of one cue in their order, 3, 4 and 5, and each of them alone: by computation.
use mathlib.Core.Path.{◌≡◌, refl}
use mathlib.Core.Bool.{Bool, true, false}
use mathlib.Core.List.{List, [], ◌∷◌}
use Rattle.spec_caption.specs.caption_fate.Says.{cue_of}
use Rattle.spec_caption.specs.caption_fate.Emit.{Warning, warning, kept_emit, places_of}

-- a cue of line 7 that is kept: tagged or not, times in its lines or none; its start cut, its end cut, a part lost
abbrev warned : (tagged stamped startCut endCut lost : Bool) → List Warning
warned t z s e l = (kept_emit 0 (cue_of 7 0 46 0 46 t z []) (record { start = 0; stop = 0; start_cut = s; end_cut = e; lost = l })).warnings

pub warn_rows : (warned true true true true true ≡ warning 3 7 ∷ warning 4 7 ∷ warning 5 7 ∷ [])
    × (warned true false true false false ≡ warning 3 7 ∷ [])
    × (warned false true true true true ≡ warning 4 7 ∷ warning 5 7 ∷ [])
    × (warned true false false true true ≡ warning 4 7 ∷ [])
    × (warned true false false true false ≡ [])
    × (warned false true false false false ≡ warning 5 7 ∷ [])
warn_rows = (refl, refl, refl, refl, refl, refl)

-- two places to a warning: its kind, then its line
pub place_row : places_of (warning 3 7 ∷ warning 4 8 ∷ []) ≡ 3 ∷ 7 ∷ 4 ∷ 8 ∷ []
unfolding places_of
place_row = refl
