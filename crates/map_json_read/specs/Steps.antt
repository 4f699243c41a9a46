-- What the parts of the reader answer: the object of a text, its numbers, the numbers of its list, its number, and what is written of it.
use Rattle.std.specs.Prelude.{◌≡◌, Bool, true, ◌&&◌, not, cond, List, [], ℕ, ◌*◌, ◌≤◌, eqb, leb, ltb, length, take, get_or}
use Rattle.spec_base.specs.base.Limits.{most_frame, most_segments}
use Rattle.spec_base.specs.base.Refusal.{◌or_else◌, fault_unless}
use Rattle.spec_base.specs.base.Put.{put, placed, placed_length}
use Rattle.spec_text.specs.utf8.Utf8.{utf8}
use Rattle.spec_time.specs.caption_time.Convert.{timescale_bad}
use Rattle.spec_map.specs.segment.Segment.{flat_of, map_bad}
use Rattle.spec_json.specs.json.Space.{padded}
use Rattle.spec_json.specs.json.Str.{string_bytes}
use Rattle.spec_json.specs.json.Value.{value_width}
use Rattle.spec_json.specs.json.Member.{Member, bare, elements_of, field_of}
use Rattle.spec_map_json.specs.map_json_write.Names.{timescale_name, rate_num_name, rate_den_name, input_name, frames_name, segments_name, most_path}
use Rattle.spec_map_json.specs.map_json_write.Reads.{number_of, segments_from, path_said, list_said, fields_said}
use Rattle.map_json_read.specs.declared.fields.Heads.{Heads}
use Rattle.map_json_read.specs.declared.fields.HeadSlots.{HeadSlots}
use Rattle.map_json_read.specs.declared.reading.Parts.{Parts}
use Rattle.spec_map_json.specs.declared.map_json_read.Taken.{Taken}
use Rattle.map_json_segments.specs.Fields.{field_in}
use Rattle.map_json_read.specs.Slots.{heads_good, heads_in}

-- the object that a text is; nothing where it is none
unfoldable pub object_of : List ℕ → List ℕ
object_of s = cond (utf8 s && (eqb (padded (value_width 11) s) (length s) && eqb (get_or (bare 11 s) 0 0) 0x7B)) (bare 11 s) []

pub record HeadsOf (ms : List Member) (h : Heads) : Type 0 where
  pub scale_is : h.timescale ≡ (field_in timescale_name most_frame ms).value
  pub num_is : h.rate_num ≡ (field_in rate_num_name most_frame ms).value
  pub den_is : h.rate_den ≡ (field_in rate_den_name most_frame ms).value
  pub frames_are : h.frames ≡ (field_in frames_name most_frame ms).value

-- the numbers of the list of an object
abbrev pub flat_in : List Member → List ℕ
flat_in ms = flat_of (segments_from (elements_of 9 (field_of segments_name ms)))

-- whether all is said, of a map's slots, its path's field and its list
abbrev pub all_said : HeadSlots → (input list : List ℕ) → Bool
all_said x input list = heads_good x && (path_said input && list_said list)

pub record Gathered (x : HeadSlots) (input list : List ℕ) (p : Parts) (room room' said said' : List ℕ) : Type 0 where
  pub said_is : all_said x input list ≡ true
  pub heads_are : p.heads ≡ heads_in x
  pub count_is : p.count ≡ length (elements_of 9 list)
  pub numbers : p.count ≤ most_segments → room' ≡ put (flat_of (segments_from (elements_of 9 list))) room
  pub path_length : p.path_len ≡ placed_length (string_bytes input) said
  pub path_bytes : said' ≡ placed (string_bytes input) said

pub record PartsOf (ms : List Member) (p : Parts) (room room' said said' : List ℕ) : Type 0 where
  pub said_is : fields_said ms ≡ true
  pub heads_are : HeadsOf ms p.heads
  pub count_is : p.count ≡ length (elements_of 9 (field_of segments_name ms))
  pub numbers : p.count ≤ most_segments → room' ≡ put (flat_in ms) room
  pub path_length : p.path_len ≡ length (string_bytes (field_of input_name ms))
  pub path_bytes : said' ≡ put (string_bytes (field_of input_name ms)) said

abbrev pub said_number : List Member → (places bytes : ℕ) → ℕ
said_number ms places bytes =
    fault_unless (not (timescale_bad (number_of timescale_name ms))) 15 or_else
    fault_unless (not (map_bad (flat_in ms))) 15 or_else
    fault_unless (leb (6 * most_segments) places) 16 or_else
    fault_unless (leb most_path bytes) 16

-- the same of what the reader has gathered
unfoldable pub list_bad : (count : ℕ) → (room : List ℕ) → Bool
list_bad n room = cond (ltb most_segments n) true (map_bad (take (6 * n) room))

abbrev pub ask_number : (timescale count : ℕ) → (room : List ℕ) → (places bytes : ℕ) → ℕ
ask_number d n room places bytes =
    fault_unless (not (timescale_bad d)) 15 or_else
    fault_unless (not (list_bad n room)) 15 or_else
    fault_unless (leb (6 * most_segments) places) 16 or_else
    fault_unless (leb most_path bytes) 16

pub record Asked (p : Parts) (places bytes : ℕ) (room : List ℕ) (number : ℕ) : Type 0 where
  pub is_number : number ≡ ask_number p.heads.timescale p.count room places bytes
  pub count_fits : number ≡ 0 → p.count ≤ most_segments
  pub map_lent : number ≡ 0 → 6 * most_segments ≤ places
  pub path_lent : number ≡ 0 → most_path ≤ bytes

pub record Gives (h : Heads) (said flat : List ℕ) (r : Taken) (map map' path path' : List ℕ) : Type 0 where
  pub number : r.number ≡ 0
  pub timescale : r.timescale ≡ h.timescale
  pub rate_num : r.rate_num ≡ h.rate_num
  pub rate_den : r.rate_den ≡ h.rate_den
  pub frames : r.frames ≡ h.frames
  pub places : r.places ≡ length flat
  pub numbers : map' ≡ put flat map
  pub path_length : r.path_len ≡ length said
  pub path_bytes : path' ≡ put said path
