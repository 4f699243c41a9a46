-- Within the limits the code's answer to a block is document 01's; and a block as one row of bytes is the block as its lines.
use mathlib.Core.Path.{◌≡◌, refl, sym, ap, ◌∙◌}
use mathlib.Core.Bool.{false}
use mathlib.Core.Logic.{◌⊎◌}
use mathlib.Core.List.{List, [], ◌∷◌, ◌++◌, append-nil}
use Prim.Native.Nat.{ℕ, ◌+◌, ◌*◌, ◌≤◌, ◌<◌}
use native.Mathlib.Omega.{arith}
use borrow.Author.Tests.{le-ltb}
use lib.ListN.{length}
use Rattle.std.specs.Prelude.{Option, Some, None}
use Rattle.spec_text.specs.pattern.Find.{up_to}
use Rattle.spec_text.specs.text.Line.{lines_of, concat, line_count, text_of, terminator_of, has_lf}
use Rattle.spec_text.proofs.text.LineLaws.{Finished, lines_back, line_last}
use Rattle.spec_time.specs.declared.caption_stamp.Stamp.{Stamp}
use Rattle.spec_time.specs.caption_time.Kind.{units_of}
use Rattle.spec_time.proofs.caption_time.Limits.{units_high}
use Rattle.spec_time.specs.caption_stamp.Read.{time_in}
use Rattle.spec_time.proofs.caption_stamp.Reading.{time_below, time_marks}
use Rattle.spec_map.specs.segment.Segment.{segments_of, map_bad}
use Rattle.spec_caption.specs.declared.caption_fate.Config.{Config}
use Rattle.spec_caption.specs.caption_fate.Says.{Cue, stays, passes, cue}
use Rattle.spec_caption.specs.caption_fate.Emit.{emit_by}
use Rattle.spec_caption.specs.caption_fate.Told.{part_in}
use Rattle.spec_caption.proofs.caption_fate.FineLaws.{Set, cue_fine}
use Rattle.spec_cue.specs.block_timing.Style.{stamps_in, style_of}
use Rattle.spec_cue.specs.block_timing.Arrow
use Rattle.spec_cue.specs.block_timing.Arrow.{arrow, timing_of, Timing}
use Rattle.spec_cue.specs.block_cue.Block.{block_frame, both_say, end_text, trailing, timing_line_says, timing_says, block_says, BlockSays, faulty, says}
use Rattle.spec_cue.specs.block_cue.BlockThrough.{block_answer, block_answer_in, block_in}

-- ---- what is known of the cue that a block says: times below 10,000 hours, each with a comma or a point; no tag
pub record Timely (kind : ℕ) (q : Cue) : Type 0 where
  pub start_below : q.start < 36000000 * units_of kind
  pub stop_below : q.stop < 36000000 * units_of kind
  pub start_mark : (q.start_mark ≡ 44) ⊎ (q.start_mark ≡ 46)
  pub stop_mark : (q.stop_mark ≡ 44) ⊎ (q.stop_mark ≡ 46)
  pub untagged : q.tagged ≡ false

abbrev Timed : (kind : ℕ) → BlockSays → Type 0
Timed kind (faulty f) = Unit {0}
Timed kind (says (stays l)) = Unit {0}
Timed kind (says (passes r n l)) = ⊥
Timed kind (says (cue q)) = Timely kind q

line_timed : (kind k : ℕ) (b l a : List ℕ) → Timed kind (timing_line_says (style_of kind) k b l a)
unfolding timing_line_says
line_timed kind k b l a = go (time_in kind (up_to arrow (text_of l))) (time_in kind (end_text (style_of kind) (text_of l))) refl refl
  where
    go : (X Y : Option Stamp) → time_in kind (up_to arrow (text_of l)) ≡ X → time_in kind (end_text (style_of kind) (text_of l)) ≡ Y
        → Timed kind (both_say k (stamps_in kind a) (block_frame b (trailing (style_of kind) (text_of l)) (terminator_of l) a) X Y)
    go None Y p q = tt
    go (Some S) None p q = tt
    go (Some S) (Some E) p q =
        record {
          start_below = time_below kind S.units S.mark _ p;
          stop_below = time_below kind E.units E.mark _ q;
          start_mark = time_marks kind S.units S.mark _ p;
          stop_mark = time_marks kind E.units E.mark _ q;
          untagged = refl;
        }

timing_timed : (kind first : ℕ) (ls : List (List ℕ)) (t : Timing) → Timed kind (timing_says (style_of kind) first ls t)
timing_timed kind first ls Arrow.untimed = tt
timing_timed kind first ls (Arrow.timed b l a) = line_timed kind (first + line_count b) (concat b) l (concat a)

block_timed : (kind first : ℕ) (ls : List (List ℕ)) → Timed kind (block_says (style_of kind) first ls)
unfolding block_says
block_timed kind first ls = timing_timed kind first ls (timing_of ls)

-- ---- the answer
answer_fine : (c : Config) → Set c → (m : List ℕ) → map_bad m ≡ false → (b : BlockSays) → Timed c.kind b → block_answer_in c (segments_of m) b ≡ block_answer c (segments_of m) b
unfolding part_in emit_by units_of
answer_fine c set m g (faulty f) h = refl
answer_fine c set m g (says (stays l)) h = refl
answer_fine c set m g (says (passes r n l)) h = absurd h
answer_fine c set m g (says (cue q)) h = cue_fine c set m g q (omega (arith, h.start_below, units_high c.kind set.kind_known)) (omega (arith, h.stop_below, units_high c.kind set.kind_known))

pub block_fine : (c : Config) → Set c → (m : List ℕ) → map_bad m ≡ false → (first : ℕ) (s : List ℕ) (room places : ℕ) → 3 * length s ≤ room → 4 ≤ places
    → block_in c (segments_of m) first s room places ≡ block_answer c (segments_of m) (block_says (style_of c.kind) first (lines_of s))
unfolding block_in
block_fine c set m g first s room places h i =
    rw (le-ltb room (3 * length s) h, le-ltb places 4 i) (answer_fine c set m g (block_says (style_of c.kind) first (lines_of s)) (block_timed c.kind first (lines_of s)))

-- ---- a block as its lines: finished ones, and at a finish a last one without LF
module _ (ls : List (List ℕ)) (f : Finished ls) where
  pub lines_held : lines_of (concat ls) ≡ ls
  unfolding lines_of
  lines_held = ap lines_of (sym (append-nil (concat ls))) ∙ lines_back ls [] f ∙ append-nil ls

  pub lines_open : (r : List ℕ) → 0 < length r → has_lf r ≡ false → lines_of (concat ls ++ r) ≡ ls ++ r ∷ []
  lines_open r h e = lines_back ls r f ∙ ap (λ (x : List (List ℕ)). ls ++ x) (line_last r h e)
