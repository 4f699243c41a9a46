-- THE WALK IS THE PLAIN READER'S: `walk_plain`.
use mathlib.Core.Path.{◌≡◌, refl, sym, ap, subst}
use mathlib.Core.Bool.{Bool, true, false, ◌&&◌}
use mathlib.Core.List.{List, [], ◌∷◌, ◌++◌, append-nil}
use Prim.Native.Nat.{ℕ, zero, suc, ◌+◌}
use native.Mathlib.Omega.{arith}
use borrow.Author.Tests.{ne_eqb}
use lib.ListN.{length}
use Rattle.spec_text.specs.text.Line.{lines_of}
use Rattle.spec_time.specs.caption_time.Kind.{kind_bad}
use Rattle.spec_time.proofs.caption_time.Limits.{by_kind}
use Rattle.spec_caption.specs.caption_fate.Says.{stays}
use Rattle.spec_caption.specs.caption_fate.Bom.{starts_bom, behind_bom, bom_written}
use Rattle.spec_ass.specs.ass_columns.Columns.{no_columns}
use Rattle.spec_cue.specs.block_timing.Header.{header_due}
use Rattle.spec_format.specs.whole.Srt.{blocks_of}
use Rattle.spec_machine.specs.session_counts.Reader.{Reading, fails, ◌⊕◌}
use Rattle.promise.specs.Plain.{bom_length, unless_fault, head_fault, ass_read, blocks_read, vtt_read, lines_say, opened, plain_read}
use Rattle.promise.proofs.PlainBlocks.{due_past, block_lines_lem}
use Rattle.promise.proofs.LinesCut.{Cut, cut_tail, text_cut}
use Rattle.spec_rows.specs.declared.caption_rows.Said.{Said}
use Rattle.spec_rows.specs.caption_rows.Said.{at_fault, quiet}
use Rattle.spec_rows.specs.caption_rows.Walk.{Walk, ◌then◌, ass_walk, block_walk, head_turn, vtt_walk, walk_behind, walk_of}
use Rattle.spec_rows.proofs.caption_rows.AgreeAss.{Agree, agree_fails, agree_part, ass_agree}
use Rattle.spec_rows.proofs.caption_rows.AgreeBlocks.{block_agree}

module _ (text : List ℕ) (c : Cut (lines_of (behind_bom text))) where
  abbrev L : List (List ℕ)
  L = lines_of (behind_bom text)

  abbrev m : ℕ
  m = bom_length text

  from_mark : m ≡ m + 0
  from_mark = omega arith

  ass_text_lem : Agree 0 text (ass_walk m no_columns 0 m L) (ass_read (fails 0) m no_columns 0 L)
  ass_text_lem = ass_agree text L [] m no_columns 0 m refl refl from_mark

  srt_due : header_due 1 0 [] ≡ false
  unfolding header_due
  srt_due = refl

  srt_text_lem : Agree 1 text (block_walk 1 m m 0 [] 0 L) (blocks_read 1 true (fails 0) m 0 (blocks_of 1 L))
  srt_text_lem = subst (λ (r : Reading). Agree 1 text (block_walk 1 m m 0 [] 0 L) r) (block_lines_lem 0 true L m 0 [] srt_due) (block_agree 0 text L [] [] m m 0 refl c from_mark refl srt_due)

  head_bad : (x : ℕ) (l : List ℕ) (k : ℕ) → head_fault x l ≡ suc k → head_turn x l ≡ at_fault (suc k) 1
  unfolding head_turn
  head_bad x l k e = rw (e, ne_eqb (suc k) 0 (λ q. omega arith))

  head_good : (x : ℕ) (l : List ℕ) → head_fault x l ≡ 0 → head_turn x l ≡ quiet
  unfolding head_turn
  head_good x l e = rw e

  vtt_lines : (ls : List (List ℕ)) → L ≡ ls → Agree 2 text (vtt_walk m m ls) (vtt_read true (fails 0) m ls)
  unfolding vtt_walk vtt_read
  vtt_lines [] e = agree_fails 2 text 24 1
  vtt_lines (l ∷ ls) e = go (head_fault m l) refl
    where
      W : Walk
      W = block_walk 2 0 (m + length l) 1 [] 1 ls

      behind : Agree 2 text (block_walk 2 0 (m + length l) 1 [] 1 ls) (blocks_read 2 true (fails 0) 0 1 (blocks_of 2 ls))
      behind =
          let i : m + length l ≡ m + length (l ++ []) = ap (λ (x : List ℕ). m + length x) (sym (append-nil l)) in
          subst (λ (r : Reading). Agree 2 text (block_walk 2 0 (m + length l) 1 [] 1 ls) r) (block_lines_lem 1 true ls 0 1 [] (due_past 2 0 []))
          (block_agree 1 text ls (l ∷ []) [] 0 (m + length l) 1 e (cut_tail l ls (subst Cut e c)) i refl (due_past 2 0 []))

      go : (k : ℕ) → head_fault m l ≡ k → Agree 2 text (head_turn m l then block_walk 2 0 (m + length l) 1 [] 1 ls) (unless_fault k ((stays l ∷ []) ⊕ blocks_read 2 true (fails 0) 0 1 (blocks_of 2 ls)))
      go zero q =
          subst (λ (s : Said). Agree 2 text (s then block_walk 2 0 (m + length l) 1 [] 1 ls) ((stays l ∷ []) ⊕ blocks_read 2 true (fails 0) 0 1 (blocks_of 2 ls))) (sym (head_good m l q))
          (agree_part 2 text quiet (stays l) (block_walk 2 0 (m + length l) 1 [] 1 ls) (blocks_read 2 true (fails 0) 0 1 (blocks_of 2 ls)) refl refl behind)
      go (suc k) q =
          subst (λ (s : Said). Agree 2 text (s then block_walk 2 0 (m + length l) 1 [] 1 ls) (fails (suc k))) (sym (head_bad m l k q)) (agree_fails 2 text (suc k) 1)

  with_mark : (kind : ℕ) (b : Bool) (w : Walk) (r : Reading) → Agree kind text w r → Agree kind text w (bom_written b ⊕ r)
  with_mark kind true w r a = record { fault = a.fault; rows = a.rows }
  with_mark kind false w r a = record { fault = a.fault; rows = a.rows }

  plain_0 : Agree 0 text (walk_of 0 text) (plain_read 0 true text)
  unfolding walk_of walk_behind plain_read lines_say
  plain_0 = with_mark 0 (starts_bom text && opened 0 true m L) (ass_walk m no_columns 0 m L) (ass_read (fails 0) m no_columns 0 L) ass_text_lem

  plain_1 : Agree 1 text (walk_of 1 text) (plain_read 1 true text)
  unfolding walk_of walk_behind plain_read lines_say
  plain_1 = with_mark 1 (starts_bom text && opened 1 true m L) (block_walk 1 m m 0 [] 0 L) (blocks_read 1 true (fails 0) m 0 (blocks_of 1 L)) srt_text_lem

  plain_2 : Agree 2 text (walk_of 2 text) (plain_read 2 true text)
  unfolding walk_of walk_behind plain_read lines_say
  plain_2 = with_mark 2 (starts_bom text && opened 2 true m L) (vtt_walk m m L) (vtt_read true (fails 0) m L) (vtt_lines L refl)

pub walk_plain : (kind : ℕ) (text : List ℕ) → kind_bad kind ≡ false → Agree kind text (walk_of kind text) (plain_read kind true text)
walk_plain kind text k =
    let c = text_cut true (behind_bom text) in by_kind (λ i. Agree i text (walk_of i text) (plain_read i true text)) (plain_0 text c) (plain_1 text c) (plain_2 text c) kind k
