-- The writer's answer, and the promise that what is written is read back.
use Rattle.std.specs.Prelude.{◌≡◌, true, false, not, cond, List, [], ℕ, ◌≤◌, ◌<◌, eqb, leb, length, get_or}
use Rattle.spec_base.specs.base.Limits.{most_frame}
use Rattle.spec_base.specs.base.Refusal.{◌or_else◌, fault_unless}
use Rattle.spec_base.specs.base.Put.{put}
use Rattle.spec_text.specs.utf8.Utf8.{utf8}
use Rattle.spec_time.specs.caption_time.Convert.{timescale_bad}
use Rattle.spec_map.specs.segment.Segment.{segments_of, flat_of, map_bad}
use Rattle.spec_map_json.specs.map_json_write.Names.{most_path}
use Rattle.spec_map_json.specs.map_json_write.Text.{map_text}
use Rattle.spec_map_json.specs.map_json_write.Reads.{is_map_text, map_said}
use Rattle.spec_map_json.specs.declared.map_json_write.Wrote.{Wrote}

-- ---- the writer: 15, then 16 for a long path, 20, and 16 for too short a lent text
unfoldable pub asked_number : (map : List ℕ) → (timescale : ℕ) → (path : List ℕ) → ℕ
asked_number m T path =
    fault_unless (not (timescale_bad T)) 15 or_else
    fault_unless (not (map_bad m)) 15 or_else
    fault_unless (leb (length path) most_path) 16 or_else
    fault_unless (utf8 path) 20

unfoldable pub write_number : (map : List ℕ) → (timescale : ℕ) → (path text : List ℕ) → (lent : ℕ) → ℕ
write_number m T path text lent =
    fault_unless (not (timescale_bad T)) 15 or_else
    fault_unless (not (map_bad m)) 15 or_else
    fault_unless (leb (length path) most_path) 16 or_else
    fault_unless (utf8 path) 20 or_else
    fault_unless (leb (length text) lent) 16

-- nothing where the number is not 0
abbrev pub when_done : ℕ → List ℕ → List ℕ
when_done k v = cond (eqb k 0) v []

pub record Writes (map : List ℕ) (timescale rate_num rate_den : ℕ) (path : List ℕ) (frames : ℕ) (r : Wrote) (text text' : List ℕ) : Type 0 where
  pub number : r.number ≡ write_number map timescale path (map_text timescale rate_num rate_den path frames (segments_of map)) (length text)
  pub written : r.written ≡ length (when_done r.number (map_text timescale rate_num rate_den path frames (segments_of map)))
  pub bytes : text' ≡ put (when_done r.number (map_text timescale rate_num rate_den path frames (segments_of map))) text

-- ---- any map that open accepts is read back as written
pub record Back (m : List ℕ) (T num den : ℕ) (p : List ℕ) (n : ℕ) (text : List ℕ) : Type 0 where
  pub good : is_map_text text ≡ true
  pub timescale : (map_said text).timescale ≡ T
  pub rate_num : (map_said text).rate_num ≡ num
  pub rate_den : (map_said text).rate_den ≡ den
  pub path : (map_said text).path ≡ p
  pub frames : (map_said text).frames ≡ n
  pub map : flat_of (map_said text).segments ≡ m

abbrev pub RoundTrip : Type 0
RoundTrip =
    (m : List ℕ) (T num den : ℕ) (path : List ℕ) (frames : ℕ) → timescale_bad T ≡ false → map_bad m ≡ false
    → num ≤ most_frame → den ≤ most_frame → frames ≤ most_frame → ((j : ℕ) → get_or path j 0 < 256) → utf8 path ≡ true → length path ≤ most_path
    → Back m T num den path frames (map_text T num den path frames (segments_of m))
