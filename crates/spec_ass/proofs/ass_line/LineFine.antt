-- Within the limits the code's answer to a line is document 01's.
use mathlib.Core.Path.{◌≡◌, refl}
use mathlib.Core.Bool.{Bool, true, false, cond}
use mathlib.Core.List.{List}
use Prim.Native.Nat.{ℕ, suc, ◌*◌, ◌≤◌, ◌<◌}
use native.Mathlib.Omega.{arith}
use borrow.Author.Tests.{le-ltb}
use lib.Dec.{eqb, ltb}
use lib.ListN.{length, drop}
use Rattle.std.specs.Prelude.{Option, Some, None}
use Rattle.spec_text.specs.whitespace.White.{trim}
use Rattle.spec_text.specs.pattern.Find.{starts, equals}
use Rattle.spec_text.specs.text.Line.{text_of, terminator_of}
use Rattle.spec_time.specs.declared.caption_stamp.Stamp.{Stamp}
use Rattle.spec_time.specs.caption_time.Kind.{units_of, mark_of}
use Rattle.spec_time.specs.caption_stamp.Read.{mark_in, time_in}
use Rattle.spec_time.proofs.caption_stamp.Reading.{time_below, time_mark_lem}
use Rattle.spec_map.specs.segment.Segment.{segments_of, map_bad}
use Rattle.spec_caption.specs.declared.caption_fate.Config.{Config}
use Rattle.spec_caption.specs.caption_fate.Says.{Cue, unplaced, short, stays, passes, cue}
use Rattle.spec_caption.specs.caption_fate.Emit.{emit_by}
use Rattle.spec_caption.specs.caption_fate.Told.{part_in}
use Rattle.spec_caption.proofs.caption_fate.FineLaws.{Set, cue_fine}
use Rattle.spec_ass.specs.declared.ass_columns.Columns.{Columns}
use Rattle.spec_ass.specs.ass_columns.Columns.{columns_in, fields, field_at}
use Rattle.spec_ass.specs.ass_columns.Section.{events_name, bracketed, inside, in_section}
use Rattle.spec_ass.specs.ass_line.Line.{format_word, dialogue_word, comment_word, LineSays, faulty, says, times_say, caption_says, word_says, text_says, line_says}
use Rattle.spec_ass.specs.ass_line.AssThrough.{columns_after, line_answer, line_answer_in, line_in, columns_next}

-- ---- what is known of the cue that line n + 1 says: its line, times below 10,000 hours, and ASS's mark
pub record Timely (n : ℕ) (q : Cue) : Type 0 where
  pub line : q.line ≡ suc n
  pub start_below : q.start < 36000000 * units_of 0
  pub stop_below : q.stop < 36000000 * units_of 0
  pub start_mark : q.start_mark ≡ mark_of 0
  pub stop_mark : q.stop_mark ≡ mark_of 0

abbrev Timed : ℕ → LineSays → Type 0
Timed n (faulty f) = Unit {0}
Timed n (says c (stays l)) = Unit {0}
Timed n (says c (passes r k l)) = Unit {0}
Timed n (says c (cue q)) = Timely n q

caption_timed : (c : Columns) (n : ℕ) (l v r : List ℕ) → Timed n (caption_says c (suc n) l v r)
unfolding mark_in caption_says
caption_timed c n l v r = go (eqb c.start 0) (eqb c.«end» 0) (ltb (length (fields c.columns r)) c.columns) _ _ refl refl
  where
    go : (x y z : Bool) (X Y : Option Stamp) → time_in 0 (field_at c.start (fields c.columns r)) ≡ X → time_in 0 (field_at c.«end» (fields c.columns r)) ≡ Y
        → Timed n
        (cond x (says c (passes unplaced (suc n) l))
        (cond y (says c (passes unplaced (suc n) l))
        (cond z (says c (passes short (suc n) l))
        (times_say c (suc n) v (fields c.columns r) (terminator_of l) X Y))))
    go true y z X Y p q = tt
    go false true z X Y p q = tt
    go false false true X Y p q = tt
    go false false false None Y p q = tt
    go false false false (Some S) None p q = tt
    go false false false (Some S) (Some E) p q =
        record {
          line = refl;
          start_below = time_below 0 S.units S.mark _ p;
          stop_below = time_below 0 E.units E.mark _ q;
          start_mark = time_mark_lem 0 S.units S.mark _ p;
          stop_mark = time_mark_lem 0 E.units E.mark _ q;
        }

word_timed : (c : Columns) (n : ℕ) (l t : List ℕ) → Timed n (word_says c n l t)
unfolding word_says
word_timed c n l t = go (starts format_word t) (starts dialogue_word t) (starts comment_word t)
  where
    go : (x y z : Bool)
        → Timed n
        (cond x (says (columns_in (drop 7 t)) (stays l))
        (cond y (caption_says c (suc n) l dialogue_word (drop 9 t))
        (cond z (caption_says c (suc n) l comment_word (drop 8 t))
        (says c (stays l)))))
    go true y z = tt
    go false true z = caption_timed c n l dialogue_word (drop 9 t)
    go false false true = caption_timed c n l comment_word (drop 8 t)
    go false false false = tt

line_timed : (c : Columns) (n : ℕ) (l : List ℕ) → Timed n (line_says c n l)
unfolding line_says text_says
line_timed c n l = go (bracketed (trim (text_of l))) c.events
  where
    go : (x y : Bool) → Timed n (cond x (says (in_section (equals events_name (inside (trim (text_of l)))) c) (stays l)) (cond y (word_says c n l (text_of l)) (says c (stays l))))
    go true y = tt
    go false true = word_timed c n l (text_of l)
    go false false = tt

-- ---- the answer
answer_fine : (s : Config) → Set s → (m : List ℕ) → map_bad m ≡ false → (n : ℕ) (x : LineSays) → Timed n x → line_answer_in s (segments_of m) x ≡ line_answer s (segments_of m) x
unfolding part_in emit_by units_of
answer_fine s set m g n (faulty f) h = refl
answer_fine s set m g n (says c (stays l)) h = refl
answer_fine s set m g n (says c (passes r k l)) h = refl
answer_fine s set m g n (says c (cue q)) h = cue_fine s set m g q (omega (arith, h.start_below)) (omega (arith, h.stop_below))

pub line_fine : (s : Config) → Set s → (m : List ℕ) → map_bad m ≡ false → (c : Columns) (n : ℕ) (l : List ℕ) (room places : ℕ) → 3 * length l ≤ room → 4 ≤ places
    → line_in s (segments_of m) c n l room places ≡ line_answer s (segments_of m) (line_says c n l)
unfolding line_in
line_fine s set m g c n l room places h i =
    rw (le-ltb room (3 * length l) h, le-ltb places 4 i) (answer_fine s set m g n (line_says c n l) (line_timed c n l))

-- and the columns
pub columns_fine : (c : Columns) (n : ℕ) (l : List ℕ) (room places : ℕ) → 3 * length l ≤ room → 4 ≤ places → columns_next c n l room places ≡ columns_after c (line_says c n l)
unfolding columns_next
columns_fine c n l room places h i = rw (le-ltb room (3 * length l) h, le-ltb places 4 i)
