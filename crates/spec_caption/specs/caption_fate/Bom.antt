-- The byte order mark (BOM) at the head of a text: the text behind it, and the part that it is where it is written back.
use Rattle.std.specs.Prelude.{Bool, true, false, cond, List, [], ◌∷◌, ℕ, drop}
use Rattle.spec_text.specs.pattern.Find.{starts}
use Rattle.spec_caption.specs.caption_fate.Says.{Part, stays}

abbrev pub bom : List ℕ
bom = 239 ∷ 187 ∷ 191 ∷ []

abbrev pub starts_bom : List ℕ → Bool
starts_bom text = starts bom text

abbrev pub behind_bom : List ℕ → List ℕ
behind_bom text = cond (starts_bom text) (drop 3 text) text

abbrev pub bom_written : Bool → List Part
bom_written true = stays bom ∷ []
bom_written false = []
