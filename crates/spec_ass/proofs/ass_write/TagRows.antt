-- The five tags, and words beside them: by computation.
use mathlib.Core.Path.{◌≡◌, refl}
use mathlib.Core.Bool.{Bool, true, false}
use mathlib.Core.List.{List, [], ◌∷◌, map}
use Rattle.spec_base.specs.base.Ascii.{ascii}
use Rattle.spec_text.specs.pattern.Find.{starts, first, contains}
use Rattle.spec_ass.specs.ass_write.Tags.{holds_any, tagged}

pub tag_rows : map tagged (ascii "{\\move(1,2)}" ∷ ascii "a{\\t(5)}" ∷ ascii "{\\fad(1)}" ∷ ascii "{\\fade(1)}" ∷ ascii "{\\kf5}b" ∷ []) ≡ true ∷ true ∷ true ∷ true ∷ true ∷ []
unfolding holds_any contains first starts
tag_rows = refl

-- a capital letter, no bracket, another tag, no backslash
pub other_rows : map tagged (ascii "{\\K5}" ∷ ascii "{\\move}" ∷ ascii "{\\t5}" ∷ ascii "{\\pos(1)}" ∷ ascii "k move( t( fad(" ∷ [] ∷ []) ≡ false ∷ false ∷ false ∷ false ∷ false ∷ false ∷ []
unfolding holds_any contains first starts
other_rows = refl
