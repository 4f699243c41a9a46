-- Room: what a block becomes has at most three bytes for each of its own, and at most two warnings.
use mathlib.Core.Path.{◌≡◌, refl, sym, ap, subst, ◌∙◌}
use mathlib.Core.Bool.{Bool, true, false, cond, ◌&&◌}
use mathlib.Core.List.{List, ◌++◌}
use Prim.Native.Nat.{ℕ, ◌+◌, ◌*◌, ◌≤◌}
use native.Mathlib.Omega.{arith}
use lib.Dec.{ltb}
use lib.ListN.{length, length-append}
use Rattle.std.specs.Prelude.{Option, Some, None}
use Rattle.spec_text.specs.pattern.Find.{up_to}
use Rattle.spec_text.specs.text.Line.{lines_of, concat, line_count, text_of, terminator_of}
use Rattle.spec_text.proofs.text.LineLaws.{lines_joined}
use Rattle.spec_time.specs.declared.caption_stamp.Stamp.{Stamp}
use Rattle.spec_time.specs.caption_stamp.Read.{time_in}
use Rattle.spec_time.specs.caption_time.Convert.{core_units}
use Rattle.spec_time.proofs.caption_stamp.Reading.{time_most}
use Rattle.spec_map.specs.declared.segment.Segment.{Segment}
use Rattle.spec_map.specs.segment.Segment.{segments_of, map_bad}
use Rattle.spec_caption.specs.declared.caption_fate.Config.{Config}
use Rattle.spec_caption.specs.declared.caption_fate.Decision.{Decision}
use Rattle.spec_caption.specs.declared.caption_fate.Decision.TheVariants.{Strange, Dropped, Kept}
use Rattle.spec_caption.specs.caption_fate.Decide.{decide_in, decide_of}
use Rattle.spec_caption.specs.caption_fate.Says.{Part, stays, passes, cue}
use Rattle.spec_caption.specs.caption_fate.Emit.{Emit, warn_if, cue_emit, emit_by, emit_of}
use Rattle.spec_caption.specs.caption_fate.Told.{refusal, cue_in, part_in}
use Rattle.spec_caption.proofs.caption_fate.FineLaws.{Set, decide_fine}
use Rattle.spec_caption.proofs.caption_fate.WordLaws.{Words, decide_words}
use Rattle.spec_cue.specs.block_timing.Style.{stamps_in, style_of}
use Rattle.spec_cue.specs.block_timing.Arrow
use Rattle.spec_cue.specs.block_timing.Arrow.{arrow, timing_of, Timing}
use Rattle.spec_cue.specs.block_cue.Block.{block_frame, block_cue, both_say, end_text, trailing, timing_line_says, timing_says, block_says, BlockSays, faulty, says}
use Rattle.spec_cue.specs.block_cue.BlockThrough.{block_answer_in, block_in}
use Rattle.spec_cue.specs.block_timing.Place.{timing_place}
use Rattle.spec_cue.proofs.block_timing.PlaceLaws.{Placed, timing_placed}
use Rattle.spec_cue.proofs.block_cue.WriteLaws.{kept_length, line_long}

-- ---- what is emitted for a block of n bytes
pub record Small (n : ℕ) (e : Emit) : Type 0 where
  pub output : length e.out ≤ 3 * n
  pub two_warnings : length e.warnings ≤ 2
  pub warned_long : 7 * length e.warnings ≤ n

abbrev SaysSmall : (kind : ℕ) → (ℕ → ℕ → Decision) → (n : ℕ) → BlockSays → Type 0
SaysSmall kind d n (faulty f) = Unit {0}
SaysSmall kind d n (says p) = Small n (emit_by kind d p)

two_of : (t l z : Bool) (n : ℕ) → length (warn_if (t && false) 3 n ++ (warn_if l 4 n ++ warn_if z 5 n)) ≤ 2
two_of true true true n = omega arith
two_of true true false n = omega arith
two_of true false true n = omega arith
two_of true false false n = omega arith
two_of false true true n = omega arith
two_of false true false n = omega arith
two_of false false true n = omega arith
two_of false false false n = omega arith

cue_small : (kind n k S i E j : ℕ) (z : Bool) (b t x a : List ℕ) (d : Decision) → Words d → length b + length t + length x + length a + 17 ≤ n
    → Small n (cue_emit kind (block_cue k S i E j z (block_frame b t x a)) d)
cue_small kind n k S i E j z b t x a Strange w h = record { output = omega arith; two_warnings = omega arith; warned_long = omega arith }
cue_small kind n k S i E j z b t x a Dropped w h = record { output = omega arith; two_warnings = omega arith; warned_long = omega arith }
cue_small kind n k S i E j z b t x a (Kept r) w h =
    let o = two_of r.start_cut r.lost z k in
    record {
      output = omega (arith, kept_length kind i j r.start r.stop b t x a w.0 w.1);
      two_warnings = o;
      warned_long = omega arith;
    }

module _ (kind y : ℕ) (d : ℕ → ℕ → Decision) (wd : (S E : ℕ) → S ≤ core_units → E ≤ core_units → Words (d S E)) where
  line_small : (k : ℕ) (b l a : List ℕ) → SaysSmall kind d (length b + length l + length a) (timing_line_says (style_of y) k b l a)
  unfolding timing_line_says emit_by
  line_small k b l a = go (time_in y (up_to arrow (text_of l))) (time_in y (end_text (style_of y) (text_of l))) refl refl
    where
      go : (X Y : Option Stamp) → time_in y (up_to arrow (text_of l)) ≡ X → time_in y (end_text (style_of y) (text_of l)) ≡ Y
          → SaysSmall kind d (length b + length l + length a) (both_say k (stamps_in y a) (block_frame b (trailing (style_of y) (text_of l)) (terminator_of l) a) X Y)
      go None Y p q = tt
      go (Some S) None p q = tt
      go (Some S) (Some E) p q =
          let hs : S.units ≤ core_units = omega (arith, time_most y S.units S.mark _ p) in
          let he : E.units ≤ core_units = omega (arith, time_most y E.units E.mark _ q) in
          cue_small kind _ k S.units S.mark E.units E.mark (stamps_in y a) b (trailing (style_of y) (text_of l)) (terminator_of l) a (d S.units E.units) (wd S.units E.units hs he) (omega (arith, line_long y l S.units E.units S.mark E.mark p q))

  timing_small : (first i j : ℕ) (ls : List (List ℕ)) (t : Timing) → Placed t ls i j (timing_place ls i j) → SaysSmall kind d (length (concat ls)) (timing_says (style_of y) first ls t)
  unfolding emit_by
  timing_small first i j ls Arrow.untimed h = record { output = omega arith; two_warnings = omega arith; warned_long = omega arith }
  timing_small first i j ls (Arrow.timed b l a) h =
      let n : length (concat b) + length l + length (concat a) ≡ length (concat ls) =
      sym (ap length (sym h.1) ∙ length-append (concat b) (l ++ concat a) ∙ ap (λ (x : ℕ). length (concat b) + x) (length-append l (concat a)) ∙ omega arith) in
      subst (λ (x : ℕ). SaysSmall kind d x (timing_line_says (style_of y) (first + line_count b) (concat b) l (concat a))) n (line_small (first + line_count b) (concat b) l (concat a))

  says_small : (first : ℕ) (s : List ℕ) → SaysSmall kind d (length s) (block_says (style_of y) first (lines_of s))
  unfolding block_says
  says_small first s =
      subst (λ (x : List ℕ). SaysSmall kind d (length x) (timing_says (style_of y) first (lines_of s) (timing_of (lines_of s)))) (lines_joined s)
      (timing_small first 0 0 (lines_of s) (timing_of (lines_of s)) (timing_placed (lines_of s) 0 0))

  -- for every block, and for every way to decide whose times are words
  pub emit_fits : (first : ℕ) (s : List ℕ) (p : Part) → block_says (style_of y) first (lines_of s) ≡ says p → Small (length s) (emit_by kind d p)
  emit_fits first s p e = subst (SaysSmall kind d (length s)) e (says_small first s)

-- by document 01, with a map that open accepts
pub block_fits : (c : Config) → Set c → (m : List ℕ) → map_bad m ≡ false → (y first : ℕ) (s : List ℕ) (p : Part) → block_says (style_of y) first (lines_of s) ≡ says p
    → Small (length s) (emit_of c (segments_of m) p)
block_fits c set m g y first s p e =
    emit_fits c.kind y (decide_of c (segments_of m)) (λ S E hs he. subst Words (decide_fine c set m S E g hs he) (decide_words c (segments_of m) S E)) first s p e

-- by the code, at every input
answer_small : (c : Config) (m : List Segment) (n : ℕ) (b : BlockSays) → SaysSmall c.kind (decide_in c m) n b → Small n (block_answer_in c m b).emitted
unfolding part_in emit_by
answer_small c m n (faulty f) h = record { output = omega arith; two_warnings = omega arith; warned_long = omega arith }
answer_small c m n (says (stays l)) h = h
answer_small c m n (says (passes r k l)) h = h
answer_small c m n (says (cue q)) h = go (decide_in c m q.start q.stop) h
  where
    go : (d : Decision) → Small n (cue_emit c.kind q d) → Small n (cue_in c.kind q d).emitted
    go Strange h = record { output = omega arith; two_warnings = omega arith; warned_long = omega arith }
    go Dropped h = h
    go (Kept r) h = h

pub block_in_fits : (c : Config) (m : List Segment) (first : ℕ) (s : List ℕ) (room places : ℕ) → Small (length s) (block_in c m first s room places).emitted
unfolding block_in
block_in_fits c m first s room places = go (ltb room (3 * length s)) (ltb places 4)
  where
    go : (x y : Bool) → Small (length s) (cond x (refusal 16) (cond y (refusal 16) (block_answer_in c m (block_says (style_of c.kind) first (lines_of s))))).emitted
    go true y = record { output = omega arith; two_warnings = omega arith; warned_long = omega arith }
    go false true = record { output = omega arith; two_warnings = omega arith; warned_long = omega arith }
    go false false =
        answer_small c m (length s) (block_says (style_of c.kind) first (lines_of s)) (says_small c.kind c.kind (decide_in c m) (λ S E hs he. decide_words c m S E) first s)
