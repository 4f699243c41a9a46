-- What a text says is what the plain reader reads, for each kind, finished or not.
use mathlib.Core.Path.{◌≡◌, refl, ap, ap₂, ◌∙◌}
use mathlib.Core.Bool.{Bool, true, false, cond, ◌&&◌, not}
use mathlib.Core.List.{List, [], ◌∷◌}
use Prim.Native.Nat.{ℕ, ◌+◌}
use lib.Dec.{eqb, leb}
use lib.ListN.{length, drop}
use Rattle.spec_base.specs.base.Limits.{most_line}
use Rattle.spec_text.specs.pattern.Find.{starts}
use Rattle.spec_time.specs.caption_time.Kind.{kind_bad}
use Rattle.spec_caption.specs.caption_fate.Bom.{bom, bom_written}
use Rattle.spec_time.proofs.caption_time.Limits.{by_kind}
use Rattle.spec_machine.specs.session_counts.Cut.{closed_lines, unfinished}
use Rattle.spec_machine.specs.session_counts.Machine.{has_bom}
use Rattle.spec_machine.specs.session_counts.Reader.{Reading, fails, ◌⊕◌, read_text}
use Rattle.spec_machine.specs.kinds.Takes.{blank_state, closes, takes, ends, machine_of}
use Rattle.spec_machine.specs.kinds.Kit.{said}
use Rattle.promise.specs.Plain.{lines_read, lines_say, rest_fault, first_fault, opened, read_behind, plain_read}
use Rattle.spec_machine.proofs.kinds.KindLaws.{ends_ass, ends_srt}
use Rattle.promise.proofs.Bare.{passed, opens, read_all, unmarked_text, marked_text}
use Rattle.promise.proofs.PlainAss.{ending, ass_lines, ass_first_lem}
use Rattle.spec_cue.specs.block_timing.Header.{header_due}
use Rattle.promise.proofs.PlainBlocks.{block_lines_lem, block_first_lem}
use Rattle.promise.proofs.PlainVtt.{ends_first, vtt_lines, vtt_first_lem}

-- ---- by kind: the lines, the first line, and a close at the start
pub record Reads (kind : ℕ) : Type 0 where
  pub lines : (f : Bool) (x : ℕ) (ls : List (List ℕ)) (r : List ℕ)
      → read_all (machine_of kind) f x ls r blank_state 0 ≡ lines_say kind f (ending f x ls r) x ls
  pub first : (x : ℕ) (l : List ℕ) → (leb (x + length l) most_line && passed (takes kind blank_state 0 l)) ≡ eqb (first_fault kind x l) 0
  pub closes : passed (ends kind blank_state 0) ≡ not (eqb kind 2)

ass_reads : Reads 0
unfolding lines_say
ass_reads =
    record {
      lines = λ f x ls r. ass_lines f ls x r blank_state 0;
      first = λ x l. ass_first_lem x l;
      closes = ap passed (ends_ass blank_state 0);
    }

srt_due : header_due 1 0 [] ≡ false
unfolding header_due
srt_due = refl

srt_reads : Reads 1
unfolding lines_say
srt_reads =
    record {
      lines = λ f x ls r. block_lines_lem 0 f ls x 0 r srt_due;
      first = λ x l. block_first_lem 0 srt_due x l;
      closes = ap passed (ends_srt blank_state 0);
    }

vtt_reads : Reads 2
unfolding lines_say
vtt_reads =
    record {
      lines = λ f x ls r. vtt_lines f ls x r;
      first = λ x l. vtt_first_lem x l;
      closes = ap passed ends_first;
    }

kind_reads : (kind : ℕ) → kind_bad kind ≡ false → Reads kind
kind_reads kind e = by_kind Reads ass_reads srt_reads vtt_reads kind e

module _ (kind : ℕ) (R : Reads kind) where
  opens_same : (f : Bool) (x : ℕ) (ls : List (List ℕ)) → opens (machine_of kind) f x ls ≡ opened kind f x ls
  opens_same f x [] = ap (λ (b : Bool). f && b) R.closes
  opens_same f x (l ∷ ls) = R.first x l

  -- the rest is tested behind the lines that LF closes; a finish leaves no rest
  end_same : (f : Bool) (x : ℕ) (t : List ℕ) → ending f x (lines_read f t) (unfinished t) ≡ fails (rest_fault f x (closed_lines t) (unfinished t))
  end_same true x t = refl
  end_same false x t = refl

  behind_same : (f : Bool) (x : ℕ) (t : List ℕ) → read_all (machine_of kind) f x (lines_read f t) (unfinished t) blank_state 0 ≡ read_behind kind f x t
  behind_same f x t =
      R.lines f x (lines_read f t) (unfinished t) ∙ ap (λ (z : Reading). lines_say kind f z x (lines_read f t)) (end_same f x t)

  by_mark : (f : Bool) (text : List ℕ) (b : Bool) → has_bom text ≡ b
      → read_text (machine_of kind) f text
      ≡ bom_written (b && opened kind f (cond b 3 0) (lines_read f (cond b (drop 3 text) text))) ⊕ read_behind kind f (cond b 3 0) (cond b (drop 3 text) text)
  by_mark f text true e =
      marked_text (machine_of kind) f text e
      ∙ ap₂ (λ (b : Bool) (r : Reading). bom_written b ⊕ r) (opens_same f 3 (lines_read f (drop 3 text))) (behind_same f 3 (drop 3 text))
  by_mark f text false e = unmarked_text (machine_of kind) f text e ∙ behind_same f 0 text

  text_same : (f : Bool) (text : List ℕ) → said kind f text ≡ plain_read kind f text
  unfolding plain_read has_bom
  text_same f text = by_mark f text (starts bom text) refl

pub said_plain : (kind : ℕ) → kind_bad kind ≡ false → (f : Bool) (text : List ℕ) → said kind f text ≡ plain_read kind f text
said_plain kind e f text = text_same kind (kind_reads kind e) f text
