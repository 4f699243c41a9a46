-- Demand 3: what is right for each part of a text, put through the map; what the plain reader has read after a list of calls; and `Demand`, which is
-- stronger than the promise: the numbers, the bytes, the warnings and the counts are those that are computed from the text.
use Rattle.std.specs.Prelude.{◌≡◌, Bool, false, ◌&&◌, ◌||◌, List, [], ◌∷◌, ◌++◌, ℕ, ltb, leb}
use Rattle.spec_time.specs.caption_time.Kind.{units_of}
use Rattle.spec_time.specs.caption_time.Convert.{ticks_of}
use Rattle.spec_time.specs.caption_stamp.Write.{time_text}
use Rattle.spec_map.specs.declared.segment.Segment.{Segment}
use Rattle.spec_map.specs.segment.Segment.{source_of, source_end, segments_of}
use Rattle.spec_caption.specs.declared.caption_fate.Config.{Config}
use Rattle.spec_caption.specs.caption_fate.Fates.{Fate, passed, dropped, shifted, clipped, FirstMet, Right}
use Rattle.spec_caption.specs.caption_fate.Says.{reason_number, Cue, Part, stays, passes, cue, captions_in}
use Rattle.spec_caption.specs.caption_fate.Emit.{Warning, warning, warn_if, none, decided, Emit, render, emit_of}
use Rattle.spec_ass.specs.declared.ass_columns.Columns.{Columns}
use Rattle.spec_machine.specs.session_counts.Counts.{total, count_if, CountedBy}
use Rattle.spec_machine.specs.session_counts.Reader.{Reading}
use Rattle.spec_machine.specs.session_counts.Session.{Call, open_session}
use Rattle.spec_machine.specs.session_counts.Calls.{Played, play, Reader, Heard, new_reader, reader_after, hear, reading_of, emits_in, SameAsReader}
use Rattle.spec_machine.specs.kinds.Kit.{kit}
use Rattle.promise.specs.Plain.{plain_read}
use Rattle.promise.specs.Again.{AllAgain}

-- ---- what is right for each part, in plain words
-- some segment has duration > 0, source start < b and source end > a
abbrev pub lost_among : List Segment → (a b : ℕ) → Bool
lost_among [] a b = false
lost_among (x ∷ xs) a b = (ltb 0 x.duration && (ltb (source_of x) b && ltb a (source_end x))) || lost_among xs a b

module _ (c : Config) (m : List Segment) where
  -- the ticks of a time that was read
  abbrev pub ticks : ℕ → ℕ
  ticks S = ticks_of c.timescale (units_of c.kind) S

  -- warnings of a cue that is kept: 3 where its start was cut and it has a relative tag, then 4 where its end was cut and a segment later
  -- in the list has a part of it, by its times as they were read, then 5 where times stand in its lines
  pub record Warned (q : Cue) (ws : List Warning) : Type 0 where
    pub segment : Segment
    pub first : FirstMet m (ticks q.start) (ticks q.stop) segment
    pub warnings : ws
        ≡ warn_if (ltb (ticks q.start) (source_of segment) && q.tagged) 3 q.line
        ++ (warn_if (ltb (source_end segment) (ticks q.stop) && lost_among first.others (ticks q.start) (ticks q.stop)) 4 q.line
        ++ warn_if q.stamped 5 q.line)

  -- a dropped cue leaves nothing; a kept one is written with its new times in the places of the old ones
  abbrev pub Leaves : Cue → Fate → (out : List ℕ) → List Warning → Type 0
  Leaves q passed out ws = ⊥
  Leaves q dropped out ws = (out ≡ []) × (ws ≡ [])
  Leaves q (shifted s e) out ws =
      (out ≡ render q.frame (time_text c.kind q.start_mark s) (time_text c.kind q.stop_mark e)) × (ws ≡ warn_if q.stamped 5 q.line)
  Leaves q (clipped s e) out ws =
      (out ≡ render q.frame (time_text c.kind q.start_mark s) (time_text c.kind q.stop_mark e)) × Warned q ws

  pub record CueRight (q : Cue) (e : Emit) : Type 0 where
    pub fate : Fate
    pub caption : e.caption ≡ decided fate
    pub right : Right c.timescale (units_of c.kind) m q.start q.stop fate
    pub leaves : Leaves q fate e.out e.warnings

  -- bytes stay; a caption that passes keeps its bytes and gets its warning
  abbrev pub PartRight : Part → Emit → Type 0
  PartRight (stays l) e = (e.out ≡ l) × (e.warnings ≡ []) × (e.caption ≡ none)
  PartRight (passes r n l) e = (e.out ≡ l) × (e.warnings ≡ warning (reason_number r) n ∷ []) × (e.caption ≡ decided passed)
  PartRight (cue q) e = CueRight q e

  -- the emits that are computed are right
  abbrev pub AllRight : List Part → Type 0
  AllRight [] = Unit {0}
  AllRight (p ∷ ps) = PartRight p (emit_of c m p) × AllRight ps

-- how many warnings of kind 1 or 2
unfoldable pub passings : List Warning → ℕ
passings [] = 0
passings (w ∷ ws) = count_if (leb w.kind 2) (passings ws)

-- ---- the list
module _ (c : Config) (xs : List Call) where
  -- the plain reader after the list, and what it has read
  abbrev pub reader_in : Reader
  reader_in = reader_after (plain_read c.kind) new_reader xs

  abbrev pub said_in : Reading
  said_in = reading_of (plain_read c.kind) reader_in

-- ---- stronger than the promise: by the emits that are computed, of the model's session, with captions read again
abbrev pub heard : Config → List Call → Heard
heard c xs = hear (plain_read c.kind) new_reader xs

-- from the session that open returned
abbrev pub played : (c : Config) → (m : List ℕ) → List Call → Played Columns
played c m xs = play kit (open_session kit c m).session xs

pub record Demand (c : Config) (m : List ℕ) (xs : List Call) (p : Played Columns) : Type 0 where
  -- numbers, joined output, warnings, outcome, counts, taken: the plain reader's
  pub same : SameAsReader (plain_read c.kind) c m p (heard c xs)
  -- captions decided, counted from the text alone, are shifted + clipped + dropped + passed
  pub sum : captions_in (said_in c xs).parts ≡ total p.session.counts
  -- and each of the four is the number of captions with that fate
  pub counted : CountedBy (emits_in (plain_read c.kind) c m (heard c xs).reader) p.session.counts
  -- passed counts warnings 1 and 2
  pub passed : p.session.counts.passed ≡ passings p.warnings
  -- every caption has its true fate, its bytes and its warnings
  pub fates : AllRight c (segments_of m) (said_in c xs).parts
  -- a caption that is written, read again, gives the times written
  pub again : AllAgain c.kind (said_in c xs).parts
