-- A text byte by byte, as a feed takes it: a byte is held until LF completes a line, and the line is read. No timescale and no map.
use Rattle.std.specs.Prelude.{Bool, true, false, ◌&&◌, List, [], ◌∷◌, ◌++◌, ℕ, suc, leb, eqb, length, drop}
use Rattle.spec_base.specs.base.Limits.{most_line}
use Rattle.spec_text.specs.pattern.Find.{starts, equals}
use Rattle.spec_caption.specs.caption_fate.Says.{Part, stays, Fault, fault_number}
pub use Rattle.spec_caption.specs.caption_fate.Bom.{bom}

-- ---- the byte order mark
unfoldable pub has_bom : List ℕ → Bool
has_bom l = starts bom l

-- ---- a kind of captions
-- what a line says, or what a finish says: a fault, or the state after it and its parts
pub data Says (σ : Type 0) : Type 0 where
  faulty : Fault → Says σ
  says : σ → List Part → Says σ

-- σ is what is known between two lines: the section and the columns in ASS, the open block's lines in SRT and WebVTT.
-- A line is given with its terminator and without a BOM; n is the number of lines before it.
pub record Machine (σ : Type 0) : Type 0 where
  pub start : σ
  -- a line that is not too long: 20, 24 or 21, 22 in this order, else what it says
  pub step : σ → (n : ℕ) → List ℕ → Says σ
  -- a finish after n lines: in SRT and WebVTT it ends the block
  pub close : σ → (n : ℕ) → Says σ

-- ---- a text on its way
-- going: the state, the lines ended, the unfinished line, and the parts so far.
-- stopped: by a fault or, with 0, by a finish; and the parts before that
pub data Run (σ : Type 0) : Type 0 where
  going : σ → (lines : ℕ) → (held : List ℕ) → List Part → Run σ
  stopped : (number : ℕ) → List Part → Run σ

-- at finish the rest is nothing, a BOM with no line, or a last line
pub data Rest : Type 0 where
  nothing bom_alone last_line : Rest

abbrev pub rest_for : Bool → List ℕ → Rest
rest_for b [] = nothing
rest_for true (x ∷ r) = bom_alone
rest_for false (x ∷ r) = last_line

abbrev pub rest_of : (n : ℕ) → List ℕ → Rest
rest_of n r = rest_for (eqb n 0 && equals bom r) r

-- the BOM is written back where the rest passes
abbrev pub with_bom : {σ : Type 0} → Says σ → Says σ
with_bom (faulty f) = faulty f
with_bom (says s ps) = says s (stays bom ∷ ps)

module _ {σ : Type 0} (M : Machine σ) where
  abbrev pub line_with : (has_bom : Bool) → σ → ℕ → List ℕ → Says σ
  line_with true s n l = with_bom (M.step s n (drop 3 l))
  line_with false s n l = M.step s n l

  -- a line, the first one perhaps behind a BOM
  abbrev pub take_line : σ → (n : ℕ) → List ℕ → Says σ
  take_line s n l = line_with (eqb n 0 && has_bom l) s n l

  abbrev pub line_end : (n : ℕ) → List Part → Says σ → Run σ
  line_end n ps (faulty f) = stopped (fault_number f) ps
  line_end n ps (says t new) = going t (suc n) [] (ps ++ new)

  -- is the line, with this byte, short enough; is the byte LF
  abbrev pub byte : (short lf : Bool) → σ → ℕ → List ℕ → List Part → Run σ
  byte false lf s n l ps = stopped 19 ps
  byte true true s n l ps = line_end n ps (take_line s n l)
  byte true false s n l ps = going s n l ps

  abbrev pub byte_step : Run σ → ℕ → Run σ
  byte_step (going s n h ps) b = byte (leb (length (h ++ (b ∷ []))) most_line) (eqb b 10) s n (h ++ (b ∷ [])) ps
  byte_step (stopped k ps) b = stopped k ps

  abbrev pub run : Run σ → List ℕ → Run σ
  run r [] = r
  run r (b ∷ t) = run (byte_step r b) t

  -- ---- finish
  abbrev pub closed : List Part → Says σ → Run σ
  closed ps (faulty f) = stopped (fault_number f) ps
  closed ps (says t new) = stopped 0 (ps ++ new)

  -- the last line, then the close
  abbrev pub last_end : (n : ℕ) → List Part → Says σ → Run σ
  last_end n ps (faulty f) = stopped (fault_number f) ps
  last_end n ps (says t new) = closed (ps ++ new) (M.close t (suc n))

  abbrev pub at_end : Rest → σ → ℕ → List ℕ → List Part → Run σ
  at_end nothing s n h ps = closed ps (M.close s n)
  at_end bom_alone s n h ps = closed ps (with_bom (M.close s n))
  at_end last_line s n h ps = last_end n ps (take_line s n h)

  abbrev pub finish_run : Run σ → Run σ
  finish_run (going s n h ps) = at_end (rest_of n h) s n h ps
  finish_run (stopped k ps) = stopped k ps
