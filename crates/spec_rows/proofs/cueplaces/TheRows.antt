-- THE ROWS ARE IN PLACE: `rows_stand`.
use mathlib.Core.Path.{◌≡◌, refl, sym, ap, subst}
use mathlib.Core.Bool.{Bool, true, cond}
use mathlib.Core.List.{List, [], ◌∷◌, append-nil}
use Prim.Native.Nat.{ℕ, zero, suc, ◌+◌}
use native.Mathlib.Omega.{arith}
use borrow.Author.Tests.{ne_eqb}
use lib.Dec.{eqb}
use lib.ListN.{length}
use Rattle.spec_text.specs.text.Line.{lines_of}
use Rattle.spec_time.proofs.caption_time.Limits.{by_kind}
use Rattle.spec_caption.specs.caption_fate.Bom.{behind_bom}
use Rattle.spec_ass.specs.ass_columns.Columns.{no_columns}
use Rattle.spec_format.specs.whole.Ass.{columns_behind}
use Rattle.promise.specs.Plain.{bom_length, head_fault}
use Rattle.promise.proofs.LinesCut.{Cut, cut_tail, text_cut}
use Rattle.spec_rows.specs.caption_rows.Said.{at_fault, quiet}
use Rattle.spec_rows.specs.caption_rows.Walk.{Walk, ◌then◌, block_walk, head_turn, vtt_walk, walk_behind, walk_of}
use Rattle.spec_rows.proofs.caption_rows.AgreeText.{walk_plain}
use Rattle.spec_rows.specs.cueplaces.Rows.{byte_behind, RowsStand, RowsInPlace}
use Rattle.spec_rows.proofs.cueplaces.AssRows.{ass_rows_lem, stand_less}
use Rattle.spec_rows.proofs.cueplaces.BlockRows.{block_rows}

none_behind : columns_behind no_columns 0 [] ≡ no_columns
unfolding columns_behind
none_behind = refl

module _ (text : List ℕ) where
  abbrev L : List (List ℕ)
  L = lines_of (behind_bom text)

  abbrev x : ℕ
  x = bom_length text

  from_mark : bom_length text ≡ byte_behind text []
  from_mark = omega arith

  rows_0 : RowsStand 0 text 0 (walk_of 0 text).rows
  unfolding walk_of walk_behind
  rows_0 = ass_rows_lem text (lines_of (behind_bom text)) [] (bom_length text) no_columns 0 (bom_length text) refl refl from_mark (sym none_behind)

  rows_1 : RowsStand 1 text 0 (walk_of 1 text).rows
  unfolding walk_of walk_behind
  rows_1 =
      block_rows 0 text (lines_of (behind_bom text)) [] [] (bom_length text) (bom_length text) 0
      (record { all = refl; cut = text_cut true (behind_bom text); count = refl; filled = refl; closed = refl; head = omega arith }) from_mark

  -- ---- WebVTT: the first line has no row
  head_rows : (y i : ℕ) (l : List ℕ) (w : Walk) → RowsStand 2 text 0 w.rows → RowsStand 2 text 0 (head_turn y l then w).rows
  unfolding head_turn
  head_rows y i l w r = go (head_fault y l)
    where
      go : (k : ℕ) → RowsStand 2 text 0 (cond (eqb k 0) quiet (at_fault k 1) then w).rows
      go zero = r
      go (suc k) = subst (λ (b : Bool). RowsStand 2 text 0 (cond b quiet (at_fault (suc k) 1) then w).rows) (sym (ne_eqb (suc k) 0 (λ q. omega arith))) tt

  vtt_rows : (ls : List (List ℕ)) → lines_of (behind_bom text) ≡ ls → RowsStand 2 text 0 (vtt_walk (bom_length text) (bom_length text) ls).rows
  unfolding vtt_walk
  vtt_rows [] e = tt
  vtt_rows (l ∷ ls) e =
      head_rows (bom_length text) (bom_length text) l (block_walk 2 0 (bom_length text + length l) 1 [] 1 ls)
      (stand_less 2 text 0 1 (block_walk 2 0 (bom_length text + length l) 1 [] 1 ls).rows (omega arith)
      (block_rows 1 text ls (l ∷ []) [] 0 (bom_length text + length l) 1
      (record { all = e; cut = cut_tail l ls (subst Cut e (text_cut true (behind_bom text))); count = refl; filled = refl; closed = refl; head = omega arith })
      (ap (λ (y : List ℕ). bom_length text + length y) (sym (append-nil l)))))

  rows_2 : RowsStand 2 text 0 (walk_of 2 text).rows
  unfolding walk_of walk_behind
  rows_2 = vtt_rows (lines_of (behind_bom text)) refl

pub rows_stand : RowsInPlace
rows_stand kind text g =
    subst (λ (r : List ℕ). RowsStand kind text 0 r) (walk_plain kind text g).rows
    (by_kind (λ i. RowsStand i text 0 (walk_of i text).rows) (rows_0 text) (rows_1 text) (rows_2 text) kind g)
