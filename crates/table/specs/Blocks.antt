-- What each kind fixes, and rows for the rules of a block: SRT (1) and WebVTT (2), through the map m, which is that of the example's bytes.
use Rattle.std.specs.Prelude.{◌≡◌, true, false, List, [], ◌∷◌, ◌++◌, ℕ}
use Rattle.spec_base.specs.base.Ascii.{ascii}
use Rattle.spec_text.specs.text.Line.{lines_of}
use Rattle.spec_time.specs.caption_time.Kind.{kind_bad, units_of, mark_of, fraction_digits, hour_digits}
use Rattle.spec_map.specs.declared.segment.Segment.{Segment}
use Rattle.spec_map.specs.segment.Segment.{segment}
use Rattle.spec_caption.specs.declared.caption_fate.Decision.TheVariants.{Kept}
use Rattle.spec_caption.specs.caption_fate.Decide.{decide_of}
use Rattle.spec_caption.specs.caption_fate.Says.{fault_number}
use Rattle.spec_caption.specs.caption_fate.Emit.{Warning, warning, emit_of}
use Rattle.spec_cue.specs.block_timing.Style.{style_of}
use Rattle.spec_cue.specs.block_cue.Block.{BlockSays, faulty, says, block_says}
use Rattle.table.specs.Example.{setting}
use Rattle.table.specs.Table.{lf}

-- a block whose first line is line 1: its fault, what it becomes, and what it warns of
pub record Became : Type 0 where
  pub number : ℕ
  pub output : List ℕ
  pub warnings : List Warning

abbrev pub became : (number : ℕ) → (output : List ℕ) → List Warning → Became
became k o w = record { number = k; output = o; warnings = w }

abbrev pub becomes_by : (kind : ℕ) → List Segment → BlockSays → Became
becomes_by kind m (faulty f) = became (fault_number f) [] []
becomes_by kind m (says p) = became 0 (emit_of (setting kind) m p).out (emit_of (setting kind) m p).warnings

abbrev pub becomes : (kind : ℕ) → List Segment → (text : List ℕ) → Became
becomes kind m t = becomes_by kind m (block_says (style_of kind) 1 (lines_of t))

pub record Blocks (m : List Segment) : Type 0 where
  -- ---- the kinds: 0 ASS, 1 SRT, 2 WebVTT
  pub kinds : (kind_bad 0 ≡ false) × (kind_bad 1 ≡ false) × (kind_bad 2 ≡ false) × (kind_bad 3 ≡ true) × (kind_bad 4294967295 ≡ true)
  pub units : (units_of 0 ≡ 100) × (units_of 1 ≡ 1000) × (units_of 2 ≡ 1000)
  pub marks : (mark_of 0 ∷ [] ≡ ascii ".") × (mark_of 1 ∷ [] ≡ ascii ",") × (mark_of 2 ∷ [] ≡ ascii ".")
  pub fractions : (fraction_digits 0 ≡ 2) × (fraction_digits 1 ≡ 3) × (fraction_digits 2 ≡ 3)
  pub hours : (hour_digits 0 ≡ 1) × (hour_digits 1 ≡ 2) × (hour_digits 2 ≡ 2)
  -- ---- SRT
  -- `<` and a digit below the timing line: no warning here
  pub srt_unwarned : becomes 1 m (lf "1" ++ lf "00:00:00,210 --> 00:00:00,250" ++ lf "I <3 you") ≡ became 0 (lf "1" ++ lf "00:00:00,109 --> 00:00:00,150" ++ lf "I <3 you") []
  -- byte 12 splits a character, U+00A0: all of it is the end, which is trimmed
  pub srt_split : becomes 1 m (ascii "00:00:00,210 --> 0:00:00,250" ++ 194 ∷ 160 ∷ 10 ∷ []) ≡ became 0 (lf "00:00:00,109 --> 00:00:00,150") []
  -- White_Space behind the arrow, U+3000 and then a space
  pub srt_wide : becomes 1 m (ascii "00:00:00,210 -->" ++ 227 ∷ 128 ∷ 128 ∷ lf " 00:00:00,250") ≡ became 0 (lf "00:00:00,109 --> 00:00:00,150") []
  -- ---- WebVTT
  pub vtt_wide : becomes 2 m (ascii "00:00.210 -->" ++ 227 ∷ 128 ∷ 128 ∷ lf " 00:00.250") ≡ became 0 (lf "00:00:00.109 --> 00:00:00.150") []
  -- the end stops before the first space or tab, whichever it is, and before nothing else: a form feed stays with it
  pub vtt_space : becomes 2 m (lf "00:00.210 --> 00:00.250 a\tb") ≡ became 0 (lf "00:00:00.109 --> 00:00:00.150 a\tb") []
  pub vtt_tab : becomes 2 m (lf "00:00.210 --> 00:00.250\ta b") ≡ became 0 (lf "00:00:00.109 --> 00:00:00.150\ta b") []
  pub vtt_form_feed : becomes 2 m (ascii "00:00.210 --> 00:00.250" ++ 12 ∷ lf "x") ≡ became 22 [] []
  pub vtt_comma : becomes 2 m (lf "00:00.210 --> 00:00.250,x") ≡ became 22 [] []
  -- `<` and a digit below the timing line: warning 5, once, at the timing line
  pub vtt_warned : becomes 2 m (lf "1" ++ lf "00:00.210 --> 00:00.250" ++ lf "I <3 <4 you" ++ lf "<5") ≡ became 0 (lf "1" ++ lf "00:00:00.109 --> 00:00:00.150" ++ lf "I <3 <4 you" ++ lf "<5") (warning 5 2 ∷ [])
  -- ---- request 2.7: the times that ask for a lost part are those read. Cut at both ends by the first segment, a caption has a part in the second, which lies before the first
  pub lost_before : decide_of (record { kind = 1; timescale = 1000 }) (segment 10 15 1000 5 0 500 ∷ segment 2 3 200 1 500 100 ∷ []) 0 2000
      ≡ Kept (record { start = 0; stop = 500; start_cut = true; end_cut = true; lost = true })
  -- no part is lost where the end was not cut, though a later segment has the whole caption too
  pub uncut : decide_of (record { kind = 1; timescale = 1000 }) (segment 0 10 0 10 0 1000 ∷ segment 5 15 500 10 1000 1000 ∷ []) 600 900
      ≡ Kept (record { start = 600; stop = 900; start_cut = false; end_cut = false; lost = false })
