-- What a line, and the end of a block, tell where kind, timescale and map are good and enough is lent: document 01's parts, put through the map. For private functions.
use Rattle.std.specs.Prelude.{◌≡◌, Bool, true, false, cond, List, [], ◌∷◌, ◌++◌, ℕ, ◌*◌, ◌≤◌, length, drop}
use Rattle.spec_base.specs.base.Put.{put}
use Rattle.spec_text.specs.text.Line.{concat, lines_of}
use Rattle.spec_time.specs.caption_time.Kind.{kind_bad}
use Rattle.spec_time.specs.caption_time.Convert.{timescale_bad}
use Rattle.spec_map.specs.segment.Segment.{map_bad}
use Rattle.spec_caption.specs.declared.caption_fate.Config.{Config}
use Rattle.spec_caption.specs.caption_fate.Says.{Part, fault_number}
use Rattle.spec_caption.specs.caption_fate.Emit.{output_of, warnings_of, places_of}
use Rattle.spec_machine.specs.declared.session_counts.Counts.{Counts}
use Rattle.spec_machine.specs.session_counts.Counts.{count_all}
use Rattle.spec_machine.specs.session_counts.Machine.{Says, faulty, says}
use Rattle.spec_machine.specs.session_counts.Session.{emitted}
use Rattle.spec_machine.specs.kinds.Takes.{State}
use Rattle.spec_session.specs.session_lines.LinesThrough.{most_count}
use Rattle.spec_session.specs.declared.session_lines.Taken.{Taken}
use Rattle.spec_session.specs.declared.session_lines.Ended.{Ended}

-- ---- a line's answer: its number, its parts, and the state after it (as it was where the line is faulty)
abbrev pub says_number : Says State → ℕ
says_number (faulty f) = fault_number f
says_number (says s ps) = 0

abbrev pub parts_of : Says State → List Part
parts_of (faulty f) = []
parts_of (says s ps) = ps

abbrev pub state_after : State → Says State → State
state_after s (faulty f) = s
state_after s (says t ps) = t

-- kind, timescale and map that 17 and 15 let through
pub record Ready (c : Config) (map : List ℕ) : Type 0 where
  pub kind_known : kind_bad c.kind ≡ false
  pub timescale_good : timescale_bad c.timescale ≡ false
  pub map_good : map_bad map ≡ false

-- each count is at most k
pub record Below (t : Counts) (k : ℕ) : Type 0 where
  pub shifted : t.shifted ≤ k
  pub clipped : t.clipped ≤ k
  pub dropped : t.dropped ≤ k
  pub passed : t.passed ≤ k

-- enough is lent for k bytes, and one more caption can be counted
pub record Ample (t : Counts) (k room places : ℕ) : Type 0 where
  pub counts : Below t most_count
  pub room_long : 3 * k ≤ room
  pub places_long : 4 ≤ places

-- in ASS no block is open; in SRT and WebVTT the block's bytes are its lines
abbrev pub Parsed : (ass : Bool) → List (List ℕ) → Type 0
Parsed true ls = ls ≡ []
Parsed false ls = lines_of (concat ls) ≡ ls

module _ (c : Config) (m : List ℕ) where
  -- the bytes and the warnings of parts through the map, written at the start of two buffers
  pub record Wrote (ps : List Part) (n k : ℕ) (out out' places places' : List ℕ) : Type 0 where
    pub written : n ≡ length (output_of (emitted c m ps))
    pub warned : k ≡ length (places_of (warnings_of (emitted c m ps)))
    pub text : out' ≡ put (output_of (emitted c m ps)) out
    pub warnings : places' ≡ put (places_of (warnings_of (emitted c m ps))) places

  -- the end of a block; a fault writes nothing and counts nothing
  pub record Ends (x : Says State) (t : Counts) (r : Ended) (out out' places places' : List ℕ) : Type 0 where
    pub number : r.number ≡ says_number x
    pub counts : r.counts ≡ count_all t (emitted c m (parts_of x))
    pub wrote : Wrote (parts_of x) r.written r.warned out out' places places'

  -- the line l, read in the state s, gave x; `added`: it joins the open block, else no block is open afterwards
  pub record Done (s : State) (l : List ℕ) (x : Says State) (t : Counts) (r : Taken) (out out' places places' : List ℕ) : Type 0 where
    pub number : r.number ≡ says_number x
    pub columns : r.columns ≡ (state_after s x).columns
    pub counts : r.counts ≡ count_all t (emitted c m (parts_of x))
    pub wrote : Wrote (parts_of x) r.written r.warned out out' places places'
    pub block : r.number ≡ 0 → (state_after s x).block ≡ cond r.added (s.block ++ (drop r.skip l ∷ [])) []
