-- What a text says as a map (23 where it is outside these rules): RFC 8259; each known field once, in any order; unknown ones skipped.
use Rattle.std.specs.Prelude.{ℕ, Bool, true, ◌&&◌, ◌||◌, List, [], ◌∷◌, eqb, leb, length, get_or}
use Rattle.spec_base.specs.base.Limits.{most_frame}
use Rattle.spec_text.specs.utf8.Utf8.{utf8}
use Rattle.spec_text.specs.pattern.Find.{equals}
use Rattle.spec_text.specs.text.Number.{value_from}
use Rattle.spec_map.specs.declared.segment.Segment.{Segment}
use Rattle.spec_map.specs.segment.Segment.{segment}
use Rattle.spec_json.specs.json.Space.{padded}
use Rattle.spec_json.specs.json.Str.{string_bytes}
use Rattle.spec_json.specs.json.Num.{is_plain}
use Rattle.spec_json.specs.json.Value.{value_width, is_value}
use Rattle.spec_json.specs.json.Member.{Member, bare, elements_of, members_of, field_of}
use Rattle.spec_map_json.specs.map_json_write.Names.{timescale_name, rate_num_name, rate_den_name, input_name, frames_name, segments_name, first_name, last_name, source_name, count_name, output_name, duration_name, most_path, most_word}

-- ---- a field that is a number of 32 or 64 bits
abbrev pub short : (name : List ℕ) → List Member → Bool
short n ms = is_plain most_frame (field_of n ms)

abbrev pub long : (name : List ℕ) → List Member → Bool
long n ms = is_plain most_word (field_of n ms)

abbrev pub number_of : (name : List ℕ) → List Member → ℕ
number_of n ms = value_from 0 (field_of n ms)

-- ---- a segment: an object; its unknown fields have depth 8
abbrev pub segment_fields : List ℕ → List Member
segment_fields v = members_of 8 v

unfoldable pub segment_said : List ℕ → Bool
segment_said v =
    eqb (get_or v 0 0) 0x7B && (short first_name (segment_fields v) && (short last_name (segment_fields v) && (long source_name (segment_fields v)
    && (short count_name (segment_fields v) && (long output_name (segment_fields v) && long duration_name (segment_fields v))))))

unfoldable pub segment_from : List ℕ → Segment
segment_from v =
    segment (number_of first_name (segment_fields v)) (number_of last_name (segment_fields v)) (number_of source_name (segment_fields v))
    (number_of count_name (segment_fields v)) (number_of output_name (segment_fields v)) (number_of duration_name (segment_fields v))

unfoldable pub segments_said : List (List ℕ) → Bool
segments_said [] = true
segments_said (v ∷ vs) = segment_said v && segments_said vs

unfoldable pub segments_from : List (List ℕ) → List Segment
segments_from [] = []
segments_from (v ∷ vs) = segment_from v ∷ segments_from vs

-- ---- the map: an object whose `segments` is an array of objects, so 11 deep where the unknown values of a segment are 8
abbrev pub fields : List ℕ → List Member
fields s = members_of 10 (bare 11 s)

-- a known name, or a value of depth 8
abbrev pub is_known : List ℕ → Bool
is_known n =
    equals timescale_name n || (equals rate_num_name n || (equals rate_den_name n || (equals input_name n || (equals frames_name n || equals segments_name n))))

unfoldable pub shallow : List Member → Bool
shallow [] = true
shallow (m ∷ ms) = (is_known m.name || is_value 8 m.value) && shallow ms

abbrev pub path_said : List ℕ → Bool
path_said v = eqb (get_or v 0 0) 0x22 && leb (length (string_bytes v)) most_path

abbrev pub list_said : List ℕ → Bool
list_said v = eqb (get_or v 0 0) 0x5B && segments_said (elements_of 9 v)

unfoldable pub fields_said : List Member → Bool
fields_said ms =
    short timescale_name ms && (short rate_num_name ms && (short rate_den_name ms && (path_said (field_of input_name ms) && (short frames_name ms
    && (list_said (field_of segments_name ms) && shallow ms)))))

unfoldable pub is_map_text : List ℕ → Bool
is_map_text s = utf8 s && (eqb (padded (value_width 11) s) (length s) && (eqb (get_or (bare 11 s) 0 0) 0x7B && fields_said (fields s)))

pub record Said : Type 0 where
  pub timescale : ℕ
  pub rate_num : ℕ
  pub rate_den : ℕ
  pub path : List ℕ
  pub frames : ℕ
  pub segments : List Segment

unfoldable pub map_said : List ℕ → Said
map_said s =
    record {
      timescale = number_of timescale_name (fields s);
      rate_num = number_of rate_num_name (fields s);
      rate_den = number_of rate_den_name (fields s);
      path = string_bytes (field_of input_name (fields s));
      frames = number_of frames_name (fields s);
      segments = segments_from (elements_of 9 (field_of segments_name (fields s)));
    }
