-- A caption that is written, read again: by the same columns in ASS, as the same block in SRT and WebVTT, it says the same cue with the times written. With the old texts in the
-- places of the times its frame is the old line or block (`stands`), so each column's text comes from the old line or from the new time.
use Rattle.std.specs.Prelude.{◌≡◌, cond, List, [], ◌∷◌, ℕ, zero, suc, ◌*◌, ◌<◌, eqb}
use Rattle.spec_text.specs.text.Line.{lines_of}
use Rattle.spec_time.specs.caption_time.Kind.{units_of}
use Rattle.spec_time.specs.caption_stamp.Write.{time_text}
use Rattle.spec_caption.specs.caption_fate.Says.{Cue, with_times, Part, stays, passes, cue}
use Rattle.spec_caption.specs.caption_fate.Emit.{render}
use Rattle.spec_ass.specs.declared.ass_columns.Columns.{Columns}
use Rattle.spec_ass.specs.ass_line.Line.{line_says, says}
use Rattle.spec_cue.specs.block_timing.Style.{style_of}
use Rattle.spec_cue.specs.block_cue.Block.{block_says, block_cue, says as block_said}
use Rattle.spec_format.specs.back.Stands.{LineStands, BlockStands}

-- its frame with these times in the places of the old ones, as it is written
abbrev pub written : (kind : ℕ) → Cue → (s e : ℕ) → List ℕ
written kind q s e = render q.frame (time_text kind q.start_mark s) (time_text kind q.stop_mark e)

-- ASS: the cue is that of a line, read by some columns behind some lines; times below 10,000 hours
pub record LineAgain (q : Cue) : Type 0 where
  pub columns : Columns
  pub before : ℕ
  pub line : List ℕ
  pub next : Columns
  pub said : line_says columns before line ≡ says next (cue q)
  pub stands : LineStands line q
  pub again : (s e : ℕ) → s < 36000000 * units_of 0 → e < 36000000 * units_of 0 → line_says columns before (written 0 q s e) ≡ says next (cue (with_times q s e))

-- the seconds below which an end that is written is read again: 10,000 hours; in SRT 100, since a longer end has thirteen bytes, of which
-- document 01 reads twelve
abbrev pub end_seconds : (kind : ℕ) → ℕ
end_seconds kind = cond (eqb kind 1) 360000 36000000

-- SRT and WebVTT: the cue is that of a block, given as its bytes, and has no tag
pub record BlockAgain (kind : ℕ) (q : Cue) : Type 0 where
  pub first : ℕ
  pub block : List ℕ
  pub said : block_says (style_of kind) first (lines_of block) ≡ block_said (cue q)
  pub stands : BlockStands kind block q
  pub again : (s e : ℕ) → s < 36000000 * units_of kind → e < end_seconds kind * units_of kind
      → block_says (style_of kind) first (lines_of (written kind q s e)) ≡ block_said (cue (block_cue q.line s q.start_mark e q.stop_mark q.stamped q.frame))

abbrev pub CueAgain : (kind : ℕ) → Cue → Type 0
CueAgain zero q = LineAgain q
CueAgain (suc k) q = BlockAgain (suc k) q

abbrev pub PartAgain : (kind : ℕ) → Part → Type 0
PartAgain kind (stays l) = Unit {0}
PartAgain kind (passes r n l) = Unit {0}
PartAgain kind (cue q) = CueAgain kind q

abbrev pub AllAgain : (kind : ℕ) → List Part → Type 0
AllAgain kind [] = Unit {0}
AllAgain kind (p ∷ ps) = PartAgain kind p × AllAgain kind ps
