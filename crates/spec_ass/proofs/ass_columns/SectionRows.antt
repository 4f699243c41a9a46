-- Lines that name a section, and what such a line sets: by computation.
use mathlib.Core.Path.{◌≡◌, refl}
use mathlib.Core.Bool.{true, false}
use mathlib.Core.List.{[], ◌∷◌}
use Rattle.spec_base.specs.base.Ascii.{ascii}
use Rattle.spec_ass.specs.declared.ass_columns.Columns.{Columns}
use Rattle.spec_ass.specs.ass_columns.Section.{bracketed, inside, in_section}

-- nothing, one bracket, both, a name; no first bracket, no last one
bracket_rows : bracketed [] ∷ bracketed (ascii "[") ∷ bracketed (ascii "[]") ∷ bracketed (ascii "[Events]") ∷ bracketed (ascii "Events]") ∷ bracketed (ascii "[Events") ∷ []
    ≡ false ∷ false ∷ true ∷ true ∷ false ∷ false ∷ []
unfolding bracketed
bracket_rows = refl

-- the name stands between the brackets
inside_rows : inside (ascii "[]") ∷ inside (ascii "[Events]") ∷ inside (ascii "[ Events]") ∷ [] ≡ [] ∷ ascii "Events" ∷ ascii " Events" ∷ []
unfolding inside
inside_rows = refl

abbrev five : Columns
five = record { events = false; columns = 5; start = 2; «end» = 3 }

-- the section is set, in and out; the three numbers of the columns stay
section_rows : (in_section true five).columns ∷ (in_section true five).start ∷ (in_section true five).«end» ∷ (in_section false five).columns ∷ (in_section false five).start ∷ (in_section false five).«end» ∷ []
    ≡ 5 ∷ 2 ∷ 3 ∷ 5 ∷ 2 ∷ 3 ∷ []
section_rows = refl

event_rows : (in_section true five).events ∷ (in_section false five).events ∷ [] ≡ true ∷ false ∷ []
event_rows = refl
