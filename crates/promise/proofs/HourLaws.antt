-- EVERY TIME IS BELOW 10,000 HOURS: `in_hours`.
use mathlib.Core.Path.{◌≡◌, refl, sym, subst}
use mathlib.Core.Logic.{◌⊎◌, inl, inr}
use mathlib.Core.Bool.{Bool, true, false, cond}
use mathlib.Core.List.Memᴰ
use mathlib.Core.List.{List, [], ◌∷◌, Memᴰ}
use Prim.Native.Nat.{ℕ, zero, suc, ◌+◌}
use lib.Dec.{eqb, ltb}
use lib.ListN.{length, drop}
use Rattle.std.specs.Prelude.{Option, Some, None}
use Rattle.spec_text.specs.whitespace.White.{trim}
use Rattle.spec_text.specs.pattern.Find.{starts, equals, up_to}
use Rattle.spec_text.specs.text.Line.{lines_of, concat, line_count, text_of, terminator_of}
use Rattle.spec_time.specs.declared.caption_stamp.Stamp.{Stamp}
use Rattle.spec_time.specs.caption_stamp.Read.{time_in}
use Rattle.spec_time.proofs.caption_stamp.Reading.{time_below}
use Rattle.spec_caption.specs.caption_fate.Says.{Piece, unplaced, short, Cue, Part, stays, passes, cue}
use Rattle.spec_ass.specs.declared.ass_columns.Columns.{Columns}
use Rattle.spec_ass.specs.ass_columns.Columns.{columns_in, fields, field_at}
use Rattle.spec_ass.specs.ass_columns.Section.{events_name, bracketed, inside, in_section}
use Rattle.spec_ass.specs.ass_line.Line.{format_word, dialogue_word, comment_word, LineSays, faulty, says, times_say, caption_says, word_says, text_says, line_says}
use Rattle.spec_cue.specs.block_timing.Style.{style_of, stamps_in}
use Rattle.spec_cue.specs.block_timing.Arrow.{arrow, Timing, untimed, timed, timing_of}
use Rattle.spec_cue.specs.block_cue.Block.{BlockSays, faulty as blockFaulty, says as block_said, block_frame, both_say, end_text, trailing, timing_line_says, timing_says, block_says}
use Rattle.promise.specs.Plain.{plain_read}
use Rattle.promise.specs.Again.{PartAgain, AllAgain}
use Rattle.promise.specs.Hours.{InHours, PartInHours, AllInHours, TimesInHours}
use Rattle.promise.proofs.AgainLaws.{text_again}

-- ---- ASS: a line
abbrev LineInHours : LineSays → Type 0
LineInHours (faulty f) = Unit {0}
LineInHours (says d p) = PartInHours 0 p

times_hours : (c : Columns) (n : ℕ) (w : List ℕ) (fs : List (List ℕ)) (e a b : List ℕ) (S E : Option Stamp) → time_in 0 a ≡ S → time_in 0 b ≡ E → LineInHours (times_say c n w fs e S E)
times_hours c n w fs e a b None E p q = tt
times_hours c n w fs e a b (Some S) None p q = tt
times_hours c n w fs e a b (Some S) (Some E) p q = (time_below 0 S.units S.mark a p, time_below 0 E.units E.mark b q)

caption_hours : (c : Columns) (n : ℕ) (l w r : List ℕ) → LineInHours (caption_says c n l w r)
unfolding caption_says
caption_hours c n l w r = go (eqb c.start 0) (eqb c.«end» 0) (ltb (length (fields c.columns r)) c.columns)
  where
    go : (x y z : Bool)
        → LineInHours (cond x (says c (passes unplaced n l)) (cond y (says c (passes unplaced n l)) (cond z (says c (passes short n l)) (times_say c n w (fields c.columns r) (terminator_of l) (time_in 0 (field_at c.start (fields c.columns r))) (time_in 0 (field_at c.«end» (fields c.columns r)))))))
    go true y z = tt
    go false true z = tt
    go false false true = tt
    go false false false =
        times_hours c n w (fields c.columns r) (terminator_of l) (field_at c.start (fields c.columns r)) (field_at c.«end» (fields c.columns r))
        (time_in 0 (field_at c.start (fields c.columns r))) (time_in 0 (field_at c.«end» (fields c.columns r))) refl refl

word_hours : (c : Columns) (n : ℕ) (l t : List ℕ) → LineInHours (word_says c n l t)
unfolding word_says
word_hours c n l t = go (starts format_word t) (starts dialogue_word t) (starts comment_word t)
  where
    go : (x y z : Bool)
        → LineInHours (cond x (says (columns_in (drop 7 t)) (stays l)) (cond y (caption_says c (suc n) l dialogue_word (drop 9 t)) (cond z (caption_says c (suc n) l comment_word (drop 8 t)) (says c (stays l)))))
    go true y z = tt
    go false true z = caption_hours c (suc n) l dialogue_word (drop 9 t)
    go false false true = caption_hours c (suc n) l comment_word (drop 8 t)
    go false false false = tt

line_hours : (c : Columns) (n : ℕ) (l : List ℕ) → LineInHours (line_says c n l)
unfolding line_says text_says
line_hours c n l = go (bracketed (trim (text_of l))) c.events
  where
    go : (x y : Bool) → LineInHours (cond x (says (in_section (equals events_name (inside (trim (text_of l)))) c) (stays l)) (cond y (word_says c n l (text_of l)) (says c (stays l))))
    go true y = tt
    go false true = word_hours c n l (text_of l)
    go false false = tt

-- ---- SRT and WebVTT: a block
abbrev BlockInHours : (kind : ℕ) → BlockSays → Type 0
BlockInHours kind (blockFaulty f) = Unit {0}
BlockInHours kind (block_said p) = PartInHours kind p

module _ (kind : ℕ) where
  both_hours : (n : ℕ) (z : Bool) (ps : List Piece) (a b : List ℕ) (S E : Option Stamp) → time_in kind a ≡ S → time_in kind b ≡ E → BlockInHours kind (both_say n z ps S E)
  both_hours n z ps a b None E p q = tt
  both_hours n z ps a b (Some S) None p q = tt
  both_hours n z ps a b (Some S) (Some E) p q = (time_below kind S.units S.mark a p, time_below kind E.units E.mark b q)

  timing_hours : (first : ℕ) (ls : List (List ℕ)) (t : Timing) → BlockInHours kind (timing_says (style_of kind) first ls t)
  unfolding timing_line_says
  timing_hours first ls untimed = tt
  timing_hours first ls (timed b l a) =
      both_hours (first + line_count b) (stamps_in kind (concat a)) (block_frame (concat b) (trailing (style_of kind) (text_of l)) (terminator_of l) (concat a)) (up_to arrow (text_of l)) (end_text (style_of kind) (text_of l))
      (time_in kind (up_to arrow (text_of l))) (time_in kind (end_text (style_of kind) (text_of l))) refl refl

  block_hours : (first : ℕ) (ls : List (List ℕ)) → BlockInHours kind (block_says (style_of kind) first ls)
  unfolding block_says
  block_hours first ls = timing_hours first ls (timing_of ls)

-- ---- the text
part_hours : (kind : ℕ) (p : Part) → PartAgain kind p → PartInHours kind p
part_hours kind (stays l) a = tt
part_hours kind (passes r n l) a = tt
part_hours zero (cue q) a = subst LineInHours a.said (line_hours a.columns a.before a.line)
part_hours (suc k) (cue q) a = subst (BlockInHours (suc k)) a.said (block_hours (suc k) a.first (lines_of a.block))

all_hours : (kind : ℕ) (ps : List Part) → AllAgain kind ps → AllInHours kind ps
all_hours kind [] a = tt
all_hours kind (p ∷ ps) a = (part_hours kind p a.0, all_hours kind ps a.1)

pub in_hours : TimesInHours
in_hours kind f text k = all_hours kind (plain_read kind f text).parts (text_again f text kind k)

-- those of one cue
pub hours_of : (kind : ℕ) (q : Cue) (ps : List Part) → AllInHours kind ps → Memᴰ (cue q) ps → InHours kind q.start × InHours kind q.stop
hours_of kind q [] a i = absurd (Memᴰ.not-nil i)
hours_of kind q (p ∷ ps) a i = go (hours_of kind q ps a.1) (Memᴰ.cases_cons i)
  where
    go : (Memᴰ (cue q) ps → InHours kind q.start × InHours kind q.stop) → (cue q ≡ p) ⊎ Memᴰ (cue q) ps → InHours kind q.start × InHours kind q.stop
    go below (inl e) = subst (PartInHours kind) (sym e) a.0
    go below (inr m) = below m
