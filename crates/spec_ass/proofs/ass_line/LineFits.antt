-- Room: what a line becomes has at most three bytes for each of its own, and at most two warnings, one for 7 bytes.
use mathlib.Core.Path.{◌≡◌, refl, subst}
use mathlib.Core.Bool.{Bool, true, false, cond, ◌&&◌}
use mathlib.Core.List.{List, [], ◌++◌}
use Prim.Native.Nat.{ℕ, suc, ◌+◌, ◌*◌, ◌≤◌}
use native.Mathlib.Omega.{arith}
use lib.Dec.{eqb, ltb}
use lib.ListN.{length, drop}
use Rattle.std.specs.Prelude.{Option, Some, None}
use Rattle.spec_text.specs.whitespace.White.{trim}
use Rattle.spec_text.specs.pattern.Find.{starts, equals}
use Rattle.spec_text.specs.text.Line.{text_of, terminator_of}
use Rattle.spec_time.specs.declared.caption_stamp.Stamp.{Stamp}
use Rattle.spec_time.specs.caption_stamp.Read.{stamp, time_in}
use Rattle.spec_time.specs.caption_stamp.Write.{time_text}
use Rattle.spec_time.specs.caption_time.Convert.{core_units}
use Rattle.spec_time.proofs.caption_stamp.Reading.{time_most}
use Rattle.spec_time.proofs.caption_stamp.Written.{text_23}
use Rattle.spec_map.specs.segment.Segment.{segments_of, map_bad}
use Rattle.spec_caption.specs.declared.caption_fate.Config.{Config}
use Rattle.spec_caption.specs.declared.caption_fate.Decision.{Decision}
use Rattle.spec_caption.specs.declared.caption_fate.Decision.TheVariants.{Strange, Dropped, Kept}
use Rattle.spec_caption.specs.caption_fate.Decide.{decide_of}
use Rattle.spec_caption.specs.caption_fate.Says.{unplaced, short, Part, stays, passes}
use Rattle.spec_caption.specs.caption_fate.Emit.{Emit, warn_if, cue_emit, emit_by, emit_of}
use Rattle.spec_caption.proofs.caption_fate.FineLaws.{Set, decide_fine}
use Rattle.spec_caption.proofs.caption_fate.WordLaws.{Words, decide_words}
use Rattle.spec_ass.specs.declared.ass_columns.Columns.{Columns}
use Rattle.spec_ass.specs.ass_columns.Columns.{columns_in, fields, field_at}
use Rattle.spec_ass.specs.ass_columns.Section.{events_name, bracketed, inside, in_section}
use Rattle.spec_ass.specs.ass_write.Frame.{line_frame}
use Rattle.spec_ass.specs.ass_line.Line.{format_word, dialogue_word, comment_word, LineSays, faulty, says, line_cue, times_say, caption_says, word_says, text_says, line_says}
use Rattle.spec_ass.proofs.ass_line.TellLaws.{render_most}
use Rattle.spec_ass.proofs.ass_write.FitLaws.{rest_long, line_most}
use Rattle.spec_ass.proofs.ass_line.SayLaws.{parts_room}
use Rattle.spec_text.proofs.pattern.PieceLaws.{starts_long}

-- what is emitted for a line of n bytes
pub record Small (n : ℕ) (e : Emit) : Type 0 where
  pub output : length e.out ≤ 3 * n
  pub two_warnings : length e.warnings ≤ 2
  pub warned_long : 7 * length e.warnings ≤ n

nothing : (n : ℕ) (e : Emit) → length e.out ≡ 0 → length e.warnings ≡ 0 → Small n e
nothing n e p q = record { output = omega arith; two_warnings = omega arith; warned_long = omega arith }

abbrev SaysSmall : (kind : ℕ) → (ℕ → ℕ → Decision) → (n : ℕ) → LineSays → Type 0
SaysSmall kind d n (faulty f) = Unit {0}
SaysSmall kind d n (says c p) = Small n (emit_by kind d p)

two_of : (t l : Bool) (n : ℕ) → length (warn_if t 3 n ++ (warn_if l 4 n ++ [])) ≤ 2
two_of true true n = omega arith
two_of true false n = omega arith
two_of false true n = omega arith
two_of false false n = omega arith

module _ (kind : ℕ) (d : ℕ → ℕ → Decision) (wd : (S E : ℕ) → S ≤ core_units → E ≤ core_units → Words (d S E)) where
  stays_small : (c : Columns) (l : List ℕ) → SaysSmall kind d (length l) (says c (stays l))
  unfolding emit_by
  stays_small c l = record { output = omega arith; two_warnings = omega arith; warned_long = omega arith }

  -- a caption line of a word of 8 bytes or more, with the rest r
  module _ (c : Columns) (n : ℕ) (l v r : List ℕ) (hv : 8 ≤ length v) (parts : length v + length r + length (terminator_of l) ≤ length l) where
    cue_small : (S a E b : ℕ) → time_in 0 (field_at c.start (fields c.columns r)) ≡ stamp S a → time_in 0 (field_at c.«end» (fields c.columns r)) ≡ stamp E b
        → (D : Decision) → Words D → Small (length l) (cue_emit kind (line_cue c n v (fields c.columns r) (terminator_of l) S a E b) D)
    cue_small S a E b p q Strange w = nothing (length l) _ refl refl
    cue_small S a E b p q Dropped w = nothing (length l) _ refl refl
    cue_small S a E b p q (Kept R) w =
        let long = rest_long c v r (terminator_of l) S a E b p q in
        let two = two_of (R.start_cut && (line_cue c n v (fields c.columns r) (terminator_of l) S a E b).tagged) R.lost n in
        record {
          output = omega (
            arith,
            render_most (line_frame c v (fields c.columns r) (terminator_of l)) (time_text kind a R.start) (time_text kind b R.stop) (text_23 kind a R.start w.0) (text_23 kind b R.stop w.1),
            line_most c v r (terminator_of l) S a E b p q (omega arith),
          );
          two_warnings = two;
          warned_long = omega (arith, two, long);
        }

    times_small : (X Y : Option Stamp) → time_in 0 (field_at c.start (fields c.columns r)) ≡ X → time_in 0 (field_at c.«end» (fields c.columns r)) ≡ Y
        → SaysSmall kind d (length l) (times_say c n v (fields c.columns r) (terminator_of l) X Y)
    unfolding emit_by
    times_small None Y p q = tt
    times_small (Some S) None p q = tt
    times_small (Some S) (Some E) p q =
        let hs : S.units ≤ core_units = omega (arith, time_most 0 S.units S.mark _ p) in
        let he : E.units ≤ core_units = omega (arith, time_most 0 E.units E.mark _ q) in
        cue_small S.units S.mark E.units E.mark p q (d S.units E.units) (wd S.units E.units hs he)

    caption_small : SaysSmall kind d (length l) (caption_says c n l v r)
    unfolding caption_says emit_by
    caption_small = go (eqb c.start 0) (eqb c.«end» 0) (ltb (length (fields c.columns r)) c.columns)
      where
        go : (x y z : Bool)
            → SaysSmall kind d (length l)
            (cond x (says c (passes unplaced n l))
            (cond y (says c (passes unplaced n l))
            (cond z (says c (passes short n l))
            (times_say c n v (fields c.columns r) (terminator_of l) (time_in 0 (field_at c.start (fields c.columns r))) (time_in 0 (field_at c.«end» (fields c.columns r)))))))
        go true y z = record { output = omega arith; two_warnings = omega arith; warned_long = omega arith }
        go false true z = record { output = omega arith; two_warnings = omega arith; warned_long = omega arith }
        go false false true = record { output = omega arith; two_warnings = omega arith; warned_long = omega arith }
        go false false false = times_small _ _ refl refl

  word_small : (c : Columns) (n : ℕ) (l : List ℕ) → SaysSmall kind d (length l) (word_says c n l (text_of l))
  unfolding word_says
  word_small c n l = go (starts format_word (text_of l)) (starts dialogue_word (text_of l)) refl (starts comment_word (text_of l)) refl
    where
      parts : (v : List ℕ) → starts v (text_of l) ≡ true → length v + length (drop (length v) (text_of l)) + length (terminator_of l) ≤ length l
      parts v e = parts_room l (text_of l) v (drop (length v) (text_of l)) (length v) refl refl refl (starts_long v (text_of l) e)

      go : (x y : Bool) → starts dialogue_word (text_of l) ≡ y → (z : Bool) → starts comment_word (text_of l) ≡ z
          → SaysSmall kind d (length l)
          (cond x (says (columns_in (drop 7 (text_of l))) (stays l))
          (cond y (caption_says c (suc n) l dialogue_word (drop 9 (text_of l)))
          (cond z (caption_says c (suc n) l comment_word (drop 8 (text_of l)))
          (says c (stays l)))))
      go true y p z q = stays_small (columns_in (drop 7 (text_of l))) l
      go false true p z q = caption_small c (suc n) l dialogue_word (drop 9 (text_of l)) (omega arith) (parts dialogue_word p)
      go false false p true q = caption_small c (suc n) l comment_word (drop 8 (text_of l)) (omega arith) (parts comment_word q)
      go false false p false q = stays_small c l

  says_small : (c : Columns) (n : ℕ) (l : List ℕ) → SaysSmall kind d (length l) (line_says c n l)
  unfolding line_says text_says
  says_small c n l = go (bracketed (trim (text_of l))) c.events
    where
      go : (x y : Bool)
          → SaysSmall kind d (length l)
          (cond x (says (in_section (equals events_name (inside (trim (text_of l)))) c) (stays l)) (cond y (word_says c n l (text_of l)) (says c (stays l))))
      go true y = stays_small (in_section (equals events_name (inside (trim (text_of l)))) c) l
      go false true = word_small c n l
      go false false = stays_small c l

  -- for every line, and for every way to decide whose times are words
  pub emit_fits : (c : Columns) (n : ℕ) (l : List ℕ) (e : Columns) (p : Part) → line_says c n l ≡ says e p → Small (length l) (emit_by kind d p)
  emit_fits c n l e p q = subst (SaysSmall kind d (length l)) q (says_small c n l)

-- by document 01, with a map that open accepts
pub line_fits : (s : Config) → Set s → (m : List ℕ) → map_bad m ≡ false → (c : Columns) (n : ℕ) (l : List ℕ) (e : Columns) (p : Part) → line_says c n l ≡ says e p
    → Small (length l) (emit_of s (segments_of m) p)
line_fits s set m g c n l e p q =
    emit_fits s.kind (decide_of s (segments_of m)) (λ S E hs he. subst Words (decide_fine s set m S E g hs he) (decide_words s (segments_of m) S E)) c n l e p q
