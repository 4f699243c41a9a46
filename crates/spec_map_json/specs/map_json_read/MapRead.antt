-- The reader's answer.
use Rattle.std.specs.Prelude.{◌≡◌, not, cond, List, ℕ, ◌*◌, eqb, leb, length}
use Rattle.spec_base.specs.base.Limits.{most_segments}
use Rattle.spec_base.specs.base.Refusal.{◌or_else◌, fault_unless}
use Rattle.spec_base.specs.base.Put.{put}
use Rattle.spec_time.specs.caption_time.Convert.{timescale_bad}
use Rattle.spec_map.specs.segment.Segment.{flat_of, map_bad}
use Rattle.spec_map_json.specs.map_json_write.Names.{most_path}
use Rattle.spec_map_json.specs.map_json_write.Reads.{is_map_text, map_said}
use Rattle.spec_map_json.specs.map_json_write.MapWritten.{when_done}
use Rattle.spec_map_json.specs.declared.map_json_read.Taken.{Taken}

-- ---- the reader: 23, then 15, then 16 for fewer than 1,024 records (six numbers each) or path bytes
unfoldable pub read_number : (text : List ℕ) → (places pathBytes : ℕ) → ℕ
read_number s places bytes =
    fault_unless (is_map_text s) 23 or_else
    fault_unless (not (timescale_bad (map_said s).timescale)) 15 or_else
    fault_unless (not (map_bad (flat_of (map_said s).segments))) 15 or_else
    fault_unless (leb (6 * most_segments) places) 16 or_else
    fault_unless (leb most_path bytes) 16

-- refused, all numbers are 0
abbrev pub none_taken : ℕ → Taken
none_taken k = record { number = k; timescale = 0; rate_num = 0; rate_den = 0; frames = 0; places = 0; path_len = 0 }

abbrev pub value_when_done : ℕ → ℕ → ℕ
value_when_done k v = cond (eqb k 0) v 0

pub record Reads (text : List ℕ) (r : Taken) (map map' path path' : List ℕ) : Type 0 where
  pub number : r.number ≡ read_number text (length map) (length path)
  pub timescale : r.timescale ≡ value_when_done r.number (map_said text).timescale
  pub rate_num : r.rate_num ≡ value_when_done r.number (map_said text).rate_num
  pub rate_den : r.rate_den ≡ value_when_done r.number (map_said text).rate_den
  pub frames : r.frames ≡ value_when_done r.number (map_said text).frames
  pub places : r.places ≡ length (when_done r.number (flat_of (map_said text).segments))
  pub numbers : map' ≡ put (when_done r.number (flat_of (map_said text).segments)) map
  pub path_length : r.path_len ≡ length (when_done r.number (map_said text).path)
  pub path_bytes : path' ≡ put (when_done r.number (map_said text).path) path
