-- The limits of document 01 from both sides, in plain numbers: the largest (or least) that the plain reader and open take, and the next one.
use Rattle.std.specs.Prelude.{◌≡◌, true, false, List, [], ℕ, ◌+◌, ◌≤◌, length}
use Rattle.spec_text.specs.utf8.Utf8.{utf8}
use Rattle.spec_text.specs.text.Line.{concat, has_lf}
use Rattle.spec_time.specs.caption_time.Convert.{timescale_bad}
use Rattle.spec_map.specs.segment.Segment.{segments_of, any_bad, map_bad}
use Rattle.spec_machine.specs.session_counts.Cut.{closed_lines, unfinished}
use Rattle.spec_machine.specs.session_counts.Session.{Lent, feed, finish}
use Rattle.spec_machine.specs.session_counts.Calls.{Reader, reader_refusal}
use Rattle.spec_machine.specs.kinds.Kit.{lines_bad, held_bad, columns_bad}
use Rattle.promise.specs.Plain.{line_fault, body_line_fault}

-- a reader that has taken some text
abbrev pub having : List ℕ → Reader
having t = record { text = t; finished = false; ended = false }

abbrev pub lending : (map : List ℕ) → (out places : ℕ) → Lent
lending m o w = record { map = m; out_length = o; place_count = w }

pub record Bounds : Type 0 where
  -- 16: a piece of at most 1,024 bytes, an output of at least 32,768, and 4,096 warning places
  pub piece_most : (m p : List ℕ) → map_bad m ≡ false → length p ≡ 1024 → reader_refusal (having []) (feed (lending m 32768 4096) p) ≡ 0
  pub piece_next : (m p : List ℕ) → map_bad m ≡ false → length p ≡ 1025 → reader_refusal (having []) (feed (lending m 32768 4096) p) ≡ 16
  pub output_short : (m : List ℕ) → map_bad m ≡ false → reader_refusal (having []) (finish (lending m 32767 4096)) ≡ 16
  pub places_short : (m : List ℕ) → map_bad m ≡ false → reader_refusal (having []) (finish (lending m 32768 4095)) ≡ 16
  -- 16: at most 2^30 bytes taken together
  pub taken_most : (m t p : List ℕ) → map_bad m ≡ false → length p ≡ 1024 → length t + length p ≡ 1073741824
      → reader_refusal (having t) (feed (lending m 32768 4096) p) ≡ 0
  pub taken_next : (m t p : List ℕ) → map_bad m ≡ false → length p ≡ 1024 → length t + length p ≡ 1073741825
      → reader_refusal (having t) (feed (lending m 32768 4096) p) ≡ 16
  -- 15: at most 1,024 segments, six numbers to each; T from 1 to 1,000,000,000
  pub segments_most : (m : List ℕ) → length m ≡ 6144 → any_bad (segments_of m) ≡ false → reader_refusal (having []) (finish (lending m 32768 4096)) ≡ 0
  pub segments_next : (m : List ℕ) → length m ≡ 6150 → reader_refusal (having []) (finish (lending m 32768 4096)) ≡ 15
  pub timescale_none : timescale_bad 0 ≡ true
  pub timescale_least : timescale_bad 1 ≡ false
  pub timescale_most : timescale_bad 1000000000 ≡ false
  pub timescale_next : timescale_bad 1000000001 ≡ true
  -- 19: a line of at most 4,096 bytes, the three of a BOM before it counted
  pub line_most : (l : List ℕ) → length l ≡ 4096 → utf8 l ≡ true → line_fault 0 l ≡ 0
  pub line_next : (l : List ℕ) → length l ≡ 4097 → line_fault 0 l ≡ 19
  pub marked_most : (l : List ℕ) → length l ≡ 4093 → utf8 l ≡ true → line_fault 3 l ≡ 0
  pub marked_next : (l : List ℕ) → length l ≡ 4094 → line_fault 3 l ≡ 19
  -- 21: a block's non-blank lines of at most 4,096 bytes; n of them stand before the line l
  pub block_most : (n : ℕ) (l : List ℕ) → n + length l ≡ 4096 → utf8 l ≡ true → body_line_fault 0 n l ≡ 0
  pub block_next : (n : ℕ) (l : List ℕ) → n + length l ≡ 4097 → length l ≤ 4096 → utf8 l ≡ true → body_line_fault 0 n l ≡ 21
  -- 17: held bytes, in ASS at most 4,096, in SRT 4,096 of finished lines and 4,096 of an unfinished one; at most 4,096 columns
  pub held_most : (h : List ℕ) → length h ≡ 4096 → has_lf h ≡ false → held_bad 0 h ≡ false
  pub held_next : (h : List ℕ) → length h ≡ 4097 → held_bad 0 h ≡ true
  pub block_held_most : (h : List ℕ) → length (concat (closed_lines h)) ≡ 4096 → lines_bad 1 (closed_lines h) ≡ false → length (unfinished h) ≡ 4096
      → held_bad 1 h ≡ false
  pub block_held_next : (h : List ℕ) → length (concat (closed_lines h)) ≡ 4097 → held_bad 1 h ≡ true
  pub rest_held_next : (h : List ℕ) → length (concat (closed_lines h)) ≡ 4096 → lines_bad 1 (closed_lines h) ≡ false → length (unfinished h) ≡ 4097
      → held_bad 1 h ≡ true
  pub columns_most : columns_bad (record { events = false; columns = 4096; start = 0; «end» = 0 }) ≡ false
  pub columns_next : columns_bad (record { events = false; columns = 4097; start = 0; «end» = 0 }) ≡ true
