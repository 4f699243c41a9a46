-- Each limit from both sides.
use mathlib.Core.Path.{◌≡◌, refl}
use mathlib.Core.Bool.{true, false}
use mathlib.Core.List.{List, []}
use Prim.Native.Nat.{ℕ, ◌+◌, ◌≤◌}
use native.Mathlib.Omega.{arith}
use lib.ListN.{length}
use borrow.Author.Tests.{le-leb}
use Rattle.spec_base.specs.base.Refusal.{◌or_else◌, fault_unless}
use Rattle.spec_text.specs.utf8.Utf8.{utf8}
use Rattle.spec_text.specs.text.Line.{concat, has_lf}
use Rattle.spec_time.specs.caption_time.Convert.{timescale_bad}
use Rattle.spec_map.specs.segment.Segment.{segments_of, any_bad, map_bad}
use Rattle.spec_machine.specs.session_counts.Cut.{closed_lines, unfinished}
use Rattle.spec_machine.specs.session_counts.Session.{feed, finish}
use Rattle.spec_machine.specs.session_counts.Calls.{reader_refusal}
use Rattle.spec_machine.specs.kinds.Kit.{lines_bad, held_bad, columns_bad}
use Rattle.promise.specs.Plain.{line_fault, body_line_fault}
use Rattle.promise.specs.Bounds.{having, lending, Bounds}

-- ---- a call
module _ (m : List ℕ) (good : map_bad m ≡ false) where
  piece_1024 : (p : List ℕ) → length p ≡ 1024 → reader_refusal (having []) (feed (lending m 32768 4096) p) ≡ 0
  unfolding reader_refusal fault_unless ◌or_else◌
  piece_1024 p e = rw (good, e)

  piece_1025 : (p : List ℕ) → length p ≡ 1025 → reader_refusal (having []) (feed (lending m 32768 4096) p) ≡ 16
  unfolding reader_refusal fault_unless ◌or_else◌
  piece_1025 p e = rw (good, e)

  finish_told : (reader_refusal (having []) (finish (lending m 32768 4096)) ≡ 0)
      × (reader_refusal (having []) (finish (lending m 32767 4096)) ≡ 16)
      × (reader_refusal (having []) (finish (lending m 32768 4095)) ≡ 16)
  unfolding reader_refusal fault_unless ◌or_else◌
  finish_told = (rw good, rw good, rw good)

  text_full : (t p : List ℕ) → length p ≡ 1024 → length t + length p ≡ 1073741824 → reader_refusal (having t) (feed (lending m 32768 4096) p) ≡ 0
  unfolding reader_refusal fault_unless ◌or_else◌
  text_full t p e f = rw (good, f, e)

  text_over : (t p : List ℕ) → length p ≡ 1024 → length t + length p ≡ 1073741825 → reader_refusal (having t) (feed (lending m 32768 4096) p) ≡ 16
  unfolding reader_refusal fault_unless ◌or_else◌
  text_over t p e f = rw (good, f, e)

bad_map : (m : List ℕ) → map_bad m ≡ true → reader_refusal (having []) (finish (lending m 32768 4096)) ≡ 15
unfolding reader_refusal fault_unless ◌or_else◌
bad_map m e = rw e

-- ---- a map, by its length
map_full : (m : List ℕ) → length m ≡ 6144 → any_bad (segments_of m) ≡ false → map_bad m ≡ false
unfolding map_bad
map_full m e h = rw (e, h)

map_over : (m : List ℕ) → length m ≡ 6150 → map_bad m ≡ true
unfolding map_bad
map_over m e = rw e

timescales : (timescale_bad 0 ≡ true) × (timescale_bad 1 ≡ false) × (timescale_bad 1000000000 ≡ false) × (timescale_bad 1000000001 ≡ true)
unfolding timescale_bad
timescales = (refl, refl, refl, refl)

-- ---- a line, by its length
line_full : (l : List ℕ) → length l ≡ 4096 → utf8 l ≡ true → line_fault 0 l ≡ 0
unfolding line_fault fault_unless ◌or_else◌
line_full l e u = rw (e, u)

line_over : (l : List ℕ) → length l ≡ 4097 → line_fault 0 l ≡ 19
unfolding line_fault fault_unless ◌or_else◌
line_over l e = rw e

marked_full : (l : List ℕ) → length l ≡ 4093 → utf8 l ≡ true → line_fault 3 l ≡ 0
unfolding line_fault fault_unless ◌or_else◌
marked_full l e u = rw (e, u)

marked_over : (l : List ℕ) → length l ≡ 4094 → line_fault 3 l ≡ 19
unfolding line_fault fault_unless ◌or_else◌
marked_over l e = rw e

block_full : (n : ℕ) (l : List ℕ) → n + length l ≡ 4096 → utf8 l ≡ true → body_line_fault 0 n l ≡ 0
unfolding body_line_fault line_fault fault_unless ◌or_else◌
block_full n l e u = rw (le-leb (0 + length l) 4096 (omega (arith, e)), u, e)

block_over : (n : ℕ) (l : List ℕ) → n + length l ≡ 4097 → length l ≤ 4096 → utf8 l ≡ true → body_line_fault 0 n l ≡ 21
unfolding body_line_fault line_fault fault_unless ◌or_else◌
block_over n l e h u = rw (le-leb (0 + length l) 4096 (omega (arith, h)), u, e)

-- ---- what is held
held_full : (h : List ℕ) → length h ≡ 4096 → has_lf h ≡ false → held_bad 0 h ≡ false
unfolding held_bad
held_full h e f = rw (e, f)

held_over : (h : List ℕ) → length h ≡ 4097 → held_bad 0 h ≡ true
unfolding held_bad
held_over h e = rw e

module _ (h : List ℕ) where
  block_held : length (concat (closed_lines h)) ≡ 4096 → lines_bad 1 (closed_lines h) ≡ false → length (unfinished h) ≡ 4096 → held_bad 1 h ≡ false
  unfolding held_bad
  block_held e f g = rw (e, f, g)

  block_over_held : length (concat (closed_lines h)) ≡ 4097 → held_bad 1 h ≡ true
  unfolding held_bad
  block_over_held e = rw e

  rest_over_held : length (concat (closed_lines h)) ≡ 4096 → lines_bad 1 (closed_lines h) ≡ false → length (unfinished h) ≡ 4097 → held_bad 1 h ≡ true
  unfolding held_bad
  rest_over_held e f g = rw (e, f, g)

columns_told : (columns_bad (record { events = false; columns = 4096; start = 0; «end» = 0 }) ≡ false)
    × (columns_bad (record { events = false; columns = 4097; start = 0; «end» = 0 }) ≡ true)
unfolding columns_bad
columns_told = (refl, refl)

pub bounds : Bounds
bounds =
    record {
      piece_most = λ m p h e. piece_1024 m h p e;
      piece_next = λ m p h e. piece_1025 m h p e;
      output_short = λ m h. (finish_told m h).1;
      places_short = λ m h. (finish_told m h).2;
      taken_most = λ m t p h e f. text_full m h t p e f;
      taken_next = λ m t p h e f. text_over m h t p e f;
      segments_most = λ m e h. (finish_told m (map_full m e h)).0;
      segments_next = λ m e. bad_map m (map_over m e);
      timescale_none = timescales.0;
      timescale_least = timescales.1;
      timescale_most = timescales.2;
      timescale_next = timescales.3;
      line_most = line_full;
      line_next = line_over;
      marked_most = marked_full;
      marked_next = marked_over;
      block_most = block_full;
      block_next = block_over;
      held_most = held_full;
      held_next = held_over;
      block_held_most = block_held;
      block_held_next = block_over_held;
      rest_held_next = rest_over_held;
      columns_most = columns_told.0;
      columns_next = columns_told.1;
    }
