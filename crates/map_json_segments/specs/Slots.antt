-- The fields of an object gathered in one walk: a slot for each name, changed by each member of that name.
use Rattle.std.specs.Prelude.{ℕ, Bool, true, false, ◌&&◌, cond, List, [], ◌∷◌, Option, None, Some}
use Rattle.spec_base.specs.base.Limits.{most_frame}
use Rattle.spec_text.specs.pattern.Find.{equals}
use Rattle.spec_text.specs.text.Number.{value_from}
use Rattle.spec_json.specs.json.Num.{is_plain}
use Rattle.spec_json.specs.json.Member.{Member}
use Rattle.spec_map_json.specs.map_json_write.Names.{first_name, last_name, source_name, count_name, output_name, duration_name, most_word}
use Rattle.map_json_segments.specs.declared.number.Six.{Six}
use Rattle.map_json_segments.specs.declared.number.Field.{Field}
use Rattle.map_json_segments.specs.declared.number.Field.TheVariants.{First, Last, Source, Frames, Output, Duration}
use Rattle.map_json_segments.specs.declared.number.Slot.{Slot}
use Rattle.map_json_segments.specs.declared.number.Slot.TheVariants.{Missing, Given, Refused}
use Rattle.map_json_segments.specs.declared.number.Slots.{Slots}

-- the number of a slot, and 0 where it has none
abbrev pub is_given : Slot → Bool
is_given Missing = false
is_given (Given n) = true
is_given Refused = false

abbrev pub given : Slot → ℕ
given Missing = 0
given (Given n) = n
given Refused = 0

-- a first value is a number or none; a second one is one too many
unfoldable pub slot_with : (most : ℕ) → Slot → (v : List ℕ) → Slot
slot_with most Missing v = cond (is_plain most v) (Given (value_from 0 v)) Refused
slot_with most (Given n) v = Refused
slot_with most Refused v = Refused

-- which field of a segment a name is; 0: none
unfoldable pub field_named : List ℕ → ℕ
field_named n =
    cond (equals first_name n) 1 (cond (equals last_name n) 2 (cond (equals source_name n) 3 (cond (equals count_name n) 4 (cond (equals output_name n) 5 (cond (equals duration_name n) 6 0)))))

abbrev pub field_number : Option Field → ℕ
field_number None = 0
field_number (Some First) = 1
field_number (Some Last) = 2
field_number (Some Source) = 3
field_number (Some Frames) = 4
field_number (Some Output) = 5
field_number (Some Duration) = 6

unfoldable pub slot_after : (name : List ℕ) → (most : ℕ) → Slot → Member → Slot
slot_after n most x m = cond (equals n m.name) (slot_with most x m.value) x

-- the six of a segment
abbrev pub no_slots : Slots
no_slots = record { first = Missing; last = Missing; source = Missing; frames = Missing; output = Missing; duration = Missing }

unfoldable pub slots_after : Slots → Member → Slots
slots_after x m =
    record {
      first = slot_after first_name most_frame x.first m;
      last = slot_after last_name most_frame x.last m;
      source = slot_after source_name most_word x.source m;
      frames = slot_after count_name most_frame x.frames m;
      output = slot_after output_name most_word x.output m;
      duration = slot_after duration_name most_word x.duration m;
    }

-- the numbers in them, and whether all are there
abbrev pub all_given : Slots → Bool
all_given x = (is_given x.first && (is_given x.last && is_given x.source)) && (is_given x.frames && (is_given x.output && is_given x.duration))

abbrev pub numbers_in : Slots → Six
numbers_in x = record { first = given x.first; last = given x.last; source = given x.source; frames = given x.frames; output = given x.output; duration = given x.duration }

-- member by member
unfoldable pub gathered : {S : Type 0} → (after : S → Member → S) → S → List Member → S
gathered after x [] = x
gathered after x (m ∷ ms) = gathered after (after x m) ms

abbrev pub slots_from : Slots → List Member → Slots
slots_from x ms = gathered slots_after x ms
