-- The byte order mark by rows: EF BB BF is one and is taken off, EF BB BE is none.
use mathlib.Core.Path.{◌≡◌, refl}
use mathlib.Core.Bool.{true, false}
use mathlib.Core.List.{[], ◌∷◌}
use Rattle.spec_text.specs.pattern.Find.{starts}
use Rattle.spec_caption.specs.caption_fate.Bom.{starts_bom, behind_bom}

pub bom_rows :
    (starts_bom (0xEF ∷ 0xBB ∷ 0xBF ∷ []) ≡ true) × (starts_bom (0xEF ∷ 0xBB ∷ 0xBE ∷ []) ≡ false) × (starts_bom (0xEF ∷ 0xBB ∷ []) ≡ false)
    × (behind_bom (0xEF ∷ 0xBB ∷ 0xBF ∷ 65 ∷ []) ≡ 65 ∷ [])
unfolding starts
bom_rows = (refl, refl, refl, refl)
