-- The numbers of the fates that a page tells: by computation.
use mathlib.Core.Path.{◌≡◌, refl}
use mathlib.Core.List.{[], ◌∷◌}
use Rattle.spec_caption.specs.declared.caption_fate.Counted.TheVariants.{Dropped, Shifted, Clipped}
use Rattle.spec_ask.specs.ask_reason.Reason.{fate_code}

fate_codes : fate_code Dropped ∷ fate_code Shifted ∷ fate_code Clipped ∷ [] ≡ 0 ∷ 1 ∷ 2 ∷ []
fate_codes = refl
