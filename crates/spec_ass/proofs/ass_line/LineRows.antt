-- Why a caption line passes: a column unknown (1) comes before too few fields (2). By computation.
use mathlib.Core.Path.{◌≡◌, refl}
use mathlib.Core.Bool.{true}
use mathlib.Core.List.{List, [], ◌∷◌}
use Prim.Native.Nat.{ℕ}
use Rattle.spec_text.specs.pattern.Find.{starts, first, contains, up_to, past}
use Rattle.spec_caption.specs.caption_fate.Says.{unplaced, short, passes}
use Rattle.spec_ass.specs.declared.ass_columns.Columns.{Columns}
use Rattle.spec_ass.specs.ass_columns.Columns.{fields}
use Rattle.spec_ass.specs.ass_line.Line.{LineSays, says, caption_says}

abbrev placed : (columns start stop : ℕ) → Columns
placed n s e = record { events = true; columns = n; start = s; «end» = e }

-- line 5, one field of three
abbrev of : Columns → LineSays
of c = caption_says c 5 (9 ∷ []) (8 ∷ []) (97 ∷ [])

pub pass_rows : (of (placed 3 0 0) ≡ says (placed 3 0 0) (passes unplaced 5 (9 ∷ [])))
    × (of (placed 3 0 1) ≡ says (placed 3 0 1) (passes unplaced 5 (9 ∷ [])))
    × (of (placed 3 1 0) ≡ says (placed 3 1 0) (passes unplaced 5 (9 ∷ [])))
    × (of (placed 3 1 2) ≡ says (placed 3 1 2) (passes short 5 (9 ∷ [])))
unfolding caption_says fields contains first starts up_to past
pass_rows = (refl, refl, refl, refl)
