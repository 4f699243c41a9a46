-- The text of `to_json`: serde_json's pretty form, two spaces a level, fields in the order of the structs, and a line end.
use Rattle.std.specs.Prelude.{ℕ, List, [], ◌∷◌, ◌++◌}
use Rattle.spec_map.specs.declared.segment.Segment.{Segment}
use Rattle.spec_json.specs.json.Member.{Member}
use Rattle.spec_json.specs.json.Quote.{quoted, decimal}
use Rattle.spec_json.specs.json.Pretty.{pretty_object, pretty_array}
use Rattle.spec_map_json.specs.map_json_write.Names.{timescale_name, rate_num_name, rate_den_name, input_name, frames_name, segments_name, first_name, last_name, source_name, count_name, output_name, duration_name}

abbrev pub field : (name value : List ℕ) → Member
field n v = record { name = n; value = v }

-- a line end, and the indent of the next line
abbrev pub line0 : List ℕ
line0 = 0x0A ∷ []

abbrev pub line2 : List ℕ
line2 = 0x0A ∷ 0x20 ∷ 0x20 ∷ []

abbrev pub line4 : List ℕ
line4 = 0x0A ∷ 0x20 ∷ 0x20 ∷ 0x20 ∷ 0x20 ∷ []

abbrev pub line6 : List ℕ
line6 = 0x0A ∷ 0x20 ∷ 0x20 ∷ 0x20 ∷ 0x20 ∷ 0x20 ∷ 0x20 ∷ []

-- ---- segments
abbrev pub segment_first : Segment → Member
segment_first x = field first_name (decimal x.source_start_frame)

abbrev pub segment_rest : Segment → List Member
segment_rest x =
    field last_name (decimal x.source_end_frame) ∷ field source_name (decimal x.source_start_dts) ∷ field count_name (decimal x.frame_count) ∷
    field output_name (decimal x.output_start) ∷ field duration_name (decimal x.duration) ∷ []

unfoldable pub segment_text : Segment → List ℕ
segment_text x = pretty_object line6 line4 (segment_first x) (segment_rest x)

abbrev pub segment_texts : List Segment → List (List ℕ)
segment_texts [] = []
segment_texts (x ∷ xs) = segment_text x ∷ segment_texts xs

abbrev pub list_text : List Segment → List ℕ
list_text [] = 0x5B ∷ 0x5D ∷ []
list_text (x ∷ xs) = pretty_array line4 line2 (segment_text x) (segment_texts xs)

-- ---- the map
abbrev pub map_rest : (rate_num rate_den : ℕ) → (path : List ℕ) → (frames : ℕ) → List Segment → List Member
map_rest num den path frames xs =
    field rate_num_name (decimal num) ∷ field rate_den_name (decimal den) ∷ field input_name (quoted path) ∷ field frames_name (decimal frames) ∷ field segments_name (list_text xs) ∷ []

unfoldable pub map_text : (timescale rate_num rate_den : ℕ) → (path : List ℕ) → (frames : ℕ) → List Segment → List ℕ
map_text T num den path frames xs = pretty_object line2 line0 (field timescale_name (decimal T)) (map_rest num den path frames xs) ++ line0
