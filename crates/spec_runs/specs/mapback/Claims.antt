-- Document 02, 2.1: "Feeds may then use a map that came this way, and the promise about drops and drift holds for any map that open accepts."
-- The second half is promise/specs/Promise: `PromiseOpened`. The first: what the reader handed back opens, and the promise is kept for it.
use Rattle.std.specs.Prelude.{◌≡◌, true, false, List, ℕ, ◌*◌, ◌≤◌, ◌<◌, leb, length, take, get_or}
use Rattle.spec_base.specs.base.Limits.{most_frame, most_segments}
use Rattle.spec_base.specs.base.Refusal.{fault_unless}
use Rattle.spec_text.specs.utf8.Utf8.{utf8}
use Rattle.spec_time.specs.caption_time.Kind.{kind_bad}
use Rattle.spec_map.specs.segment.Segment.{segments_of}
use Rattle.spec_session.specs.declared.session.Opened.{Opened}
use Rattle.spec_session.specs.session.SessionCalls.{OpenAnswered}
use Rattle.promise.specs.Stronger.{DemandKept}
use Rattle.spec_map_json.specs.declared.map_json_write.Wrote.{Wrote}
use Rattle.spec_map_json.specs.declared.map_json_read.Taken.{Taken}
use Rattle.spec_map_json.specs.map_json_write.Names.{most_path}
use Rattle.spec_map_json.specs.map_json_write.Text.{map_text}
use Rattle.spec_map_json.specs.map_json_write.MapWritten.{Writes}
use Rattle.spec_map_json.specs.map_json_read.MapRead.{Reads}

pub record Opens (kind T : ℕ) (m : List ℕ) (o : Opened) : Type 0 where
  pub number : o.number ≡ 0
  pub kept : DemandKept kind T m o

abbrev pub ReadOpens : Type 0
ReadOpens =
    (kind : ℕ) (text : List ℕ) (r : Taken) (map map' path path' : List ℕ) → kind_bad kind ≡ false → Reads text r map map' path path' → r.number ≡ 0
    → (o : Opened) → OpenAnswered kind r.timescale (take r.places map') o → Opens kind r.timescale (take r.places map') o

-- a call of the writer answered 0, and a call of the reader with what it wrote: all that was written comes back
pub record Returned (map : List ℕ) (T num den : ℕ) (path : List ℕ) (frames : ℕ) (r : Taken) (places bytes : List ℕ) : Type 0 where
  pub number : r.number ≡ 0
  pub timescale : r.timescale ≡ T
  pub rate_num : r.rate_num ≡ num
  pub rate_den : r.rate_den ≡ den
  pub frame_count : r.frames ≡ frames
  pub map_back : take r.places places ≡ map
  pub path_back : take r.path_len bytes ≡ path

abbrev pub WrittenBack : Type 0
WrittenBack =
    (map : List ℕ) (T num den : ℕ) (path : List ℕ) (frames : ℕ) (w : Wrote) (text text' : List ℕ)
    → num ≤ most_frame → den ≤ most_frame → frames ≤ most_frame → ((j : ℕ) → get_or path j 0 < 256)
    → Writes map T num den path frames w text text' → w.number ≡ 0
    → (r : Taken) (places places' bytes bytes' : List ℕ) → 6 * most_segments ≤ length places → most_path ≤ length bytes
    → Reads (take w.written text') r places places' bytes bytes' → Returned map T num den path frames r places' bytes'

-- and the other way: what the reader handed back with 0 can be written. Its path is UTF-8, and the writer refuses nothing of it but too short a lent text
pub record Rewritten (map : List ℕ) (T num den : ℕ) (path : List ℕ) (frames : ℕ) (lent number : ℕ) : Type 0 where
  pub utf : utf8 path ≡ true
  pub answer : number ≡ fault_unless (leb (length (map_text T num den path frames (segments_of map))) lent) 16

abbrev pub ReadWritten : Type 0
ReadWritten =
    (text : List ℕ) (r : Taken) (places places' bytes bytes' : List ℕ) → Reads text r places places' bytes bytes' → r.number ≡ 0
    → (w : Wrote) (out out' : List ℕ)
    → Writes (take r.places places') r.timescale r.rate_num r.rate_den (take r.path_len bytes') r.frames w out out'
    → Rewritten (take r.places places') r.timescale r.rate_num r.rate_den (take r.path_len bytes') r.frames (length out) w.number
