-- Document 01's proved table ("Small proofs") as one statement: captions, times and lines, and what each is through the map m, which is that of
-- the example's bytes; then a row for each rule of an ASS line.
use Rattle.std.specs.Prelude.{◌≡◌, true, false, List, [], ◌∷◌, ◌++◌, ℕ}
use Prim.Native.String.{String}
use Rattle.spec_base.specs.base.Ascii.{ascii}
use Rattle.spec_time.specs.caption_stamp.Read.{stamp, time_in, time_number, time_units, time_mark}
use Rattle.spec_map.specs.declared.segment.Segment.{Segment}
use Rattle.spec_map.specs.segment.Segment.{segment}
use Rattle.spec_caption.specs.declared.caption_fate.Decision.TheVariants.{Kept}
use Rattle.spec_caption.specs.caption_fate.Hit.{find_hit, hit_of}
use Rattle.spec_caption.specs.caption_fate.Decide.{decide_of, decide_in}
use Rattle.spec_caption.specs.caption_fate.Cases.{told, hit_case, decision_case}
use Rattle.spec_caption.specs.caption_fate.Fates.{dropped, shifted, clipped, fate_of}
use Rattle.spec_caption.specs.caption_fate.Says.{bytes, start, stop, stays, passes, cue, unplaced, short, fault_number}
use Rattle.spec_caption.specs.caption_fate.Emit.{Warning, warning, emit_of}
use Rattle.spec_ass.specs.declared.ass_columns.Columns.{Columns}
use Rattle.spec_ass.specs.ass_line.Line.{LineSays, faulty, says, line_says}
use Rattle.spec_cue.specs.block_timing.Style.{style_of}
use Rattle.spec_cue.specs.block_cue.Block.{block_frame, block_cue, block_says, says as block_said}
use Rattle.table.specs.Example.{setting}

-- a line that LF ends
abbrev pub lf : String → List ℕ
lf s = ascii s ++ 10 ∷ []

-- no section and no columns yet; Events without a Format line; Events with the columns Start, End, Text
abbrev pub outside : Columns
outside = record { events = false; columns = 0; start = 0; «end» = 0 }

abbrev pub in_events : Columns
in_events = record { events = true; columns = 0; start = 0; «end» = 0 }

abbrev pub in_place : Columns
in_place = record { events = true; columns = 3; start = 1; «end» = 2 }

-- what a line becomes, what it warns of, its fault, and the columns that it leaves
abbrev pub becomes : List Segment → LineSays → List ℕ
becomes m (faulty f) = []
becomes m (says c p) = (emit_of (setting 0) m p).out

abbrev pub warns : List Segment → LineSays → List Warning
warns m (faulty f) = []
warns m (says c p) = (emit_of (setting 0) m p).warnings

abbrev pub fault_in : LineSays → ℕ
fault_in (faulty f) = fault_number f
fault_in (says c p) = 0

abbrev pub leaves : LineSays → Columns
leaves (faulty f) = outside
leaves (says c p) = c

pub record Table (m : List Segment) : Type 0 where
  -- ---- captions (ASS, hundredths, start–end)
  -- 5–25 → 5–11 clipped, warning 4
  pub across : fate_of (setting 0) m 5 25 ≡ clipped 5 11
  pub across_lost : decide_of (setting 0) m 5 25 ≡ Kept (record { start = 5; stop = 11; start_cut = false; end_cut = true; lost = true })
  pub across_warned : warns m (line_says in_place 2 (lf "Dialogue:0:0:0.05,0:0:0.25,c")) ≡ warning 4 3 ∷ []
  -- request 2.7: a segment without length between the two hides nothing; 22–30 (6600 to 9000 ticks) has no part in a segment that lies before it
  pub across_empty : warns (segment 0 3 0 3 0 3003 ∷ segment 5 5 5000 0 3003 0 ∷ segment 6 10 6006 4 3003 4004 ∷ []) (line_says in_place 2 (lf "Dialogue:0:0:0.05,0:0:0.25,c"))
      ≡ warning 4 3 ∷ []
  pub before_unwarned : warns (segment 6 7 6006 1 0 1000 ∷ segment 0 3 0 3 1000 3003 ∷ []) (line_says in_place 2 (lf "Dialogue:0:0:0.22,0:0:0.30,c")) ≡ []
  -- 12–20 dropped; 21–25 → 10–15 shifted; 20–21 → 10–11 clipped; 0–0 dropped; 5–5 → 5–5; 7–5 → 7–5 shifted
  pub between : fate_of (setting 0) m 12 20 ≡ dropped
  pub second : fate_of (setting 0) m 21 25 ≡ shifted 10 15
  pub second_edge : fate_of (setting 0) m 20 21 ≡ clipped 10 11
  pub zero_length : fate_of (setting 0) m 0 0 ≡ dropped
  pub instant : fate_of (setting 0) m 5 5 ≡ shifted 5 5
  pub turned : fate_of (setting 0) m 7 5 ≡ shifted 7 5
  -- the same as numbers: the hit of 5–25 and of 21–25 (300 ticks to a hundredth), and of 12–20, which is none
  pub hit_first : hit_case (hit_of (find_hit m 1500 7500)) ≡ told 0 (0 ∷ 0 ∷ 0 ∷ 3003 ∷ [])
  pub hit_second : hit_case (hit_of (find_hit m 6300 7500)) ≡ told 0 (1 ∷ 6006 ∷ 3003 ∷ 4004 ∷ [])
  pub hit_none : hit_case (hit_of (find_hit m 3600 6000)) ≡ told 0 []
  pub decision_kept : decision_case (decide_of (setting 0) m 5 25) ≡ told 0 (5 ∷ 11 ∷ [])
  pub decision_dropped : decision_case (decide_of (setting 0) m 12 20) ≡ told 0 []
  -- output start + duration above 2^53: 15; at 2^53 it is kept
  pub decision_strange : decision_case (decide_in (setting 0) (segment 0 1 0 1 9007199254740992 1 ∷ []) 0 1) ≡ told 15 []
  pub decision_limit : (decision_case (decide_in (setting 0) (segment 0 1 0 1 9007199254740991 1 ∷ []) 0 1)).number ≡ 0
  -- ---- times
  pub sixty_minutes : time_number (time_in 0 (ascii "0:60:00.00")) ≡ 22
  pub sixty_units : time_units (time_in 0 (ascii "0:60:00.00")) ≡ 0
  pub sixty_mark : time_mark (time_in 0 (ascii "0:60:00.00")) ≡ 0
  pub last_hundredth : time_in 0 (ascii "0:59:59.99") ≡ stamp 359999 46
  pub last_number : time_number (time_in 0 (ascii "0:59:59.99")) ≡ 0
  pub last_units : time_units (time_in 0 (ascii "0:59:59.99")) ≡ 359999
  pub last_mark : time_mark (time_in 0 (ascii "0:59:59.99")) ≡ 46
  -- SRT: the end `100:00:00,456` is read as 100 h and 45 ms, trailing `6`
  pub srt_end : block_says (style_of 1) 1 (lf "0:0:1,5 --> 100:00:00,456" ∷ [])
      ≡ block_said (cue (block_cue 1 1005 44 360000045 44 false (block_frame [] (ascii "6") (10 ∷ []) [])))
  -- ---- a line: the space after `Dialogue:` goes with the field
  pub dialogue : becomes m (line_says in_place 2 (lf "Dialogue: 0:00:00.21,0:00:00.25,c")) ≡ lf "Dialogue:0:00:00.10,0:00:00.15,c"
  -- ---- the rules of a line
  -- a section line is trimmed, from `[` to `]`, two bytes or more; only exactly `Events` counts
  pub section : leaves (line_says outside 0 (lf " [Events]\t")) ≡ in_events
  -- trimmed of White_Space, not of ASCII blanks alone: U+3000 is the bytes 227, 128, 128
  pub wide_space : leaves (line_says outside 0 (227 ∷ 128 ∷ 128 ∷ lf "[Events]")) ≡ in_events
  pub empty_section : leaves (line_says in_events 0 (lf "[]")) ≡ outside
  pub one_byte : line_says in_events 0 (lf "[") ≡ says in_events (stays (lf "["))
  pub other_section : leaves (line_says in_events 0 (lf "[events]")) ≡ outside
  -- the name is not trimmed, and ends at the last `]`
  pub space_before : leaves (line_says outside 0 (lf "[ Events]")) ≡ outside
  pub space_behind : leaves (line_says outside 0 (lf "[Events ]")) ≡ outside
  pub spaces_about : leaves (line_says in_events 0 (lf "[ Events ]")) ≡ outside
  pub two_brackets : leaves (line_says outside 0 (lf "[[Events]]")) ≡ outside
  -- a lone CR is text: the line does not end there
  pub lone_cr : line_says in_place 0 (ascii "a" ++ 13 ∷ ascii "[Events]" ++ 10 ∷ []) ≡ says in_place (stays (ascii "a" ++ 13 ∷ ascii "[Events]" ++ 10 ∷ []))
  -- `Format:` gives the columns, trimmed: their count, the first Start and the first End
  pub format : leaves (line_says in_events 1 (lf "Format: Start, End, Text")) ≡ in_place
  pub first_columns : leaves (line_says in_events 1 (lf "Format:Start,Start,End")) ≡ record { events = true; columns = 3; start = 1; «end» = 3 }
  pub first_end : leaves (line_says in_events 1 (lf "Format:End,Start,End")) ≡ record { events = true; columns = 3; start = 2; «end» = 1 }
  -- only at the line's start, and in Events; it stays until the next one, across sections too
  pub format_inside : leaves (line_says in_events 1 (lf " Format:Start,End")) ≡ in_events
  pub format_outside : leaves (line_says outside 1 (lf "Format:Start,End")) ≡ outside
  pub format_anew : leaves (line_says in_place 1 (lf "Format:End")) ≡ record { events = true; columns = 1; start = 0; «end» = 1 }
  pub columns_stay : leaves (line_says in_place 0 (lf "[Fonts]")) ≡ record { events = false; columns = 3; start = 1; «end» = 2 }
  pub columns_back : leaves (line_says (record { events = false; columns = 3; start = 1; «end» = 2 }) 0 (lf "[Events]")) ≡ in_place
  -- `Dialogue:` and `Comment:`: a column unknown, warning 1; fewer fields than columns, warning 2
  pub unplaced_line : line_says in_events 4 (lf "Dialogue:x") ≡ says in_events (passes unplaced 5 (lf "Dialogue:x"))
  -- 1 before 2: one column unknown, and too few fields
  pub unplaced_end : line_says (record { events = true; columns = 3; start = 1; «end» = 0 }) 4 (lf "Dialogue:x")
      ≡ says (record { events = true; columns = 3; start = 1; «end» = 0 }) (passes unplaced 5 (lf "Dialogue:x"))
  pub unplaced_start : line_says (record { events = true; columns = 3; start = 0; «end» = 1 }) 4 (lf "Dialogue:x")
      ≡ says (record { events = true; columns = 3; start = 0; «end» = 1 }) (passes unplaced 5 (lf "Dialogue:x"))
  pub short_line : line_says in_place 4 (lf "Comment:x,y") ≡ says in_place (passes short 5 (lf "Comment:x,y"))
  -- a cue: its times and their marks, whether tagged, and the frame around the times; the last field keeps its commas
  pub cue_line : line_says in_place 2 (lf "Comment:0:0:0.21,0:0:0.25,{\\k5}a,b")
      ≡ says in_place
      (cue
      (record {
        line = 3;
        start = 21;
        start_mark = 46;
        stop = 25;
        stop_mark = 46;
        tagged = true;
        stamped = false;
        frame = bytes (ascii "Comment:") ∷ start ∷ bytes (ascii ",") ∷ stop ∷ bytes (ascii ",") ∷ bytes (ascii "{\\k5}a,b") ∷ bytes (10 ∷ []) ∷ [];
      }))
  pub commas : becomes m (line_says in_place 2 (lf "Comment:0:0:0.21,0:0:0.25,a,b")) ≡ lf "Comment:0:00:00.10,0:00:00.15,a,b"
  -- other lines are kept
  pub other_line : line_says in_place 2 (lf "Picture:0:0:0.21,0:0:0.25,c") ≡ says in_place (stays (lf "Picture:0:0:0.21,0:0:0.25,c"))
  -- through the map: the start cut and any of the five tags in the last field, warning 3; no other tag, no other field, no other start
  pub tag_warned : warns m (line_says in_place 2 (lf "Dialogue:0:0:0.20,0:0:0.21,{\\k5}c")) ≡ warning 3 3 ∷ []
  pub tag_move : warns m (line_says in_place 2 (lf "Dialogue:0:0:0.20,0:0:0.21,{\\move(1,2)}c")) ≡ warning 3 3 ∷ []
  pub tag_t : warns m (line_says in_place 2 (lf "Dialogue:0:0:0.20,0:0:0.21,{\\t(5)}c")) ≡ warning 3 3 ∷ []
  pub tag_fad : warns m (line_says in_place 2 (lf "Dialogue:0:0:0.20,0:0:0.21,{\\fad(1,2)}c")) ≡ warning 3 3 ∷ []
  pub tag_fade : warns m (line_says in_place 2 (lf "Dialogue:0:0:0.20,0:0:0.21,{\\fade(1)}c")) ≡ warning 3 3 ∷ []
  pub no_tag : warns m (line_says in_place 2 (lf "Dialogue:0:0:0.20,0:0:0.21,{\\pos(1)}c")) ≡ []
  pub tag_elsewhere : warns m (line_says (record { events = true; columns = 3; start = 2; «end» = 3 }) 2 (lf "Dialogue:{\\k5},0:0:0.20,0:0:0.21")) ≡ []
  pub tag_uncut : warns m (line_says in_place 2 (lf "Dialogue:0:0:0.21,0:0:0.25,{\\k5}c")) ≡ []
  -- a bad time, 22; a dropped caption loses its terminator too
  pub bad_time : fault_in (line_says in_place 2 (lf "Dialogue:0:60:00.00,0:0:0.25,c")) ≡ 22
  pub dropped_line : becomes m (line_says in_place 2 (lf "Dialogue:0:0:0.12,0:0:0.20,c")) ≡ []
