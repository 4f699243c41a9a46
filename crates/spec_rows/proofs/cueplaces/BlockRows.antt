-- SRT and WebVTT: each row stands on its timing line, and its words are the lines below.
use mathlib.Core.Path.{◌≡◌, refl, sym, ap, subst, ◌∙◌}
use mathlib.Core.Bool.{Bool, true, false, cond}
use mathlib.Core.List.{List, [], ◌∷◌, ◌++◌, append_assoc, append-nil}
use Prim.Native.Nat.{ℕ, zero, suc, ◌+◌, ◌-◌}
use native.Mathlib.Omega.{arith}
use borrow.Author.Tests.{ne_eqb}
use lib.Dec.{eqb, leb}
use lib.ListN.{length, drop, length-append}
use Rattle.std.specs.Prelude.{Option, Some, None}
use Rattle.spec_base.specs.base.Limits.{most_block}
use Rattle.spec_text.specs.pattern.Find.{up_to}
use Rattle.spec_text.specs.text.Line.{lines_of, concat, line_count, text_of, terminator_of}
use Rattle.spec_caption.specs.caption_fate.Bom.{behind_bom}
use Rattle.spec_cue.specs.block_timing.Style.{style_of, stamps_in, blank_in}
use Rattle.spec_cue.specs.block_timing.Arrow.{arrow, Timing, untimed, timed, timing_of}
use Rattle.spec_cue.specs.block_cue.Block.{block_frame, both_say, end_text, trailing, timing_line_says}
use Rattle.promise.specs.Plain.{line_fault}
use Rattle.promise.specs.Whole.{ends_blank}
use Rattle.promise.proofs.LinesCut.{Cut, cut_before, many_append, concat_append}
use Rattle.spec_rows.specs.declared.caption_rows.Said.{Said}
use Rattle.spec_rows.specs.caption_rows.Said.{words_length, at_fault, held_said, block_said}
use Rattle.spec_rows.specs.caption_rows.Walk.{Walk, stopped, ◌then◌, block_turn, block_walk}
use Rattle.spec_rows.proofs.caption_rows.AgreeBlocks.{TimedIn, timed_in}
use Rattle.spec_rows.specs.cueplaces.FaultLine.{none_blank, head_lines}
use Rattle.spec_rows.specs.cueplaces.Rows.{bytes_at, byte_behind, blank_next, BlockRow, RowsStand}
use Rattle.spec_rows.proofs.cueplaces.Bytes.{bytes_there}
use Rattle.spec_rows.proofs.cueplaces.BlockMore.{said_by_lem, said_is}
use Rattle.spec_rows.proofs.cueplaces.BlockStops.{Opened, open_more, open_blank, clause, turn_bad, turn_blank, turn_long, turn_fits, next_blank, next_more, end_is}
use Rattle.spec_rows.proofs.cueplaces.AssRows.{stand_less}
use Rattle.spec_time.specs.declared.caption_stamp.Stamp.{Stamp}

module _ (j : ℕ) (text : List ℕ) where
  abbrev L : List (List ℕ)
  L = lines_of (behind_bom text)

  not_ass : eqb (suc j) 0 ≡ false
  not_ass = ne_eqb (suc j) 0 (λ q. omega arith)

  -- ---- a closed block of the lines ks, behind the lines `done`; i is where it begins, and the rows of w come behind it
  module _ (done ks rest : List (List ℕ)) (e : lines_of (behind_bom text) ≡ done ++ (ks ++ rest)) (c : Cut ks) (filled : none_blank (suc j) ks ≡ true) (opens : ends_blank (suc j) (drop (head_lines (suc j)) done) ≡ true) (closes : blank_next (suc j) rest ≡ true) (i : ℕ) (ei : i ≡ byte_behind text done) (w : Walk)
      (r : RowsStand (suc j) text (line_count done + line_count ks) w.rows) where
    abbrev F : ℕ
    F = suc (line_count done)

    -- its row
    module _ (b : List (List ℕ)) (y : List ℕ) (a : List (List ℕ)) (et : timing_of ks ≡ timed b y a) (ek : ks ≡ b ++ (y ∷ a)) where
      abbrev at : ℕ
      at = i + (length (concat ks) - length (concat a))

      front_long : length (concat ks) ≡ length (concat b ++ y) + length (concat a)
      front_long =
          ap (λ (x : List (List ℕ)). length (concat x)) ek
          ∙ ap length (concat_append b (y ∷ a) ∙ sym (append_assoc (concat b) y (concat a))) ∙ length-append (concat b ++ y) (concat a)

      head_long : length (concat (done ++ (b ++ (y ∷ [])))) ≡ length (concat done) + length (concat b ++ y)
      head_long =
          ap length (concat_append done (b ++ (y ∷ []))) ∙ length-append (concat done) (concat (b ++ (y ∷ [])))
          ∙ ap (λ (x : List ℕ). length (concat done) + length x) (concat_append b (y ∷ []) ∙ ap (λ (x : List ℕ). concat b ++ x) (append-nil y))

      there : bytes_at at (length (concat a)) text ≡ concat a
      there =
          bytes_there text done (ks ++ rest) e (concat b ++ y) (concat a) (concat rest) at
          (concat_append ks rest ∙ ap (λ (x : List (List ℕ)). concat x ++ concat rest) ek ∙ ap (λ (x : List ℕ). x ++ concat rest) (concat_append b (y ∷ a) ∙ sym (append_assoc (concat b) y (concat a))))
          (omega (arith, ei, front_long))

      block_row : BlockRow (suc j) text (F + line_count b) 0 at (length (concat a))
      block_row =
          record {
            before = done;
            above = b;
            timing = y;
            below = a;
            behind = rest;
            cut = e ∙ ap (λ (x : List (List ℕ)). done ++ (x ++ rest)) ek;
            filled = ap (none_blank (suc j)) (sym ek) ∙ filled;
            opens = opens;
            closes = closes;
            arrow = ap timing_of (sym ek) ∙ et;
            number = refl;
            place = omega (arith, ei, front_long, head_long);
            words = there;
            size = refl;
            times = refl;
          }

      behind_row : RowsStand (suc j) text (F + line_count b) w.rows
      behind_row =
          let m : line_count ks ≡ line_count b + suc (line_count a) = ap line_count ek ∙ many_append b (y ∷ a) in
          stand_less (suc j) text (F + line_count b) (line_count done + line_count ks) w.rows (omega (arith, m)) r

      both_rows : (z : Bool) (B t u : List ℕ) (X Y : Option Stamp)
          → RowsStand (suc j) text (line_count done) (held_said (suc j) F i (length (concat ks)) (timed b y a) (both_say (F + line_count b) z (block_frame B t u (concat a)) X Y) then w).rows
      unfolding words_length
      both_rows z B t u None Y = tt
      both_rows z B t u (Some S) None = tt
      both_rows z B t u (Some S) (Some E) = rw not_ass (omega arith, (block_row, behind_row))

    held_rows : (t : Timing) → timing_of ks ≡ t → TimedIn ks t → RowsStand (suc j) text (line_count done) (said_by_lem (suc j) F i (length (concat ks)) ks t then w).rows
    unfolding timing_line_says
    held_rows untimed q h = stand_less (suc j) text (line_count done) (line_count done + line_count ks) w.rows (omega arith) r
    held_rows (timed b y a) q h =
        both_rows b y a q h (stamps_in (suc j) (concat a)) (concat b) (trailing (style_of (suc j)) (text_of y)) (terminator_of y) ((style_of (suc j)).time (up_to arrow (text_of y)))
        ((style_of (suc j)).time (end_text (style_of (suc j)) (text_of y)))

    said_rows : RowsStand (suc j) text (line_count done) (block_said (suc j) F i (concat ks) then w).rows
    said_rows = subst (λ (s : Said). RowsStand (suc j) text (line_count done) (s then w).rows) (sym (said_is (suc j) F i ks c)) (held_rows (timing_of ks) refl (timed_in ks))

  -- ---- the walk
  abbrev Rows : (x i f n : ℕ) → List ℕ → List (List ℕ) → Type 0
  Rows x i f n b ls = RowsStand (suc j) text f (block_walk (suc j) x i f b n ls).rows

  -- what comes behind a line
  abbrev Next : (i f n : ℕ) → (b l : List ℕ) → List (List ℕ) → Walk
  Next i f n b l ls = cond (blank_in (suc j) l) (block_walk (suc j) 0 (i + length b + length l) (suc n) [] (suc n) ls) (block_walk (suc j) 0 i f (b ++ l) (suc n) ls)

  line_rows : (ls done ks : List (List ℕ)) (l : List ℕ) (x i n : ℕ) → Opened (suc j) L done ks (l ∷ ls) n → i ≡ byte_behind text done
      → (Opened (suc j) L (done ++ (ks ++ (l ∷ []))) [] ls (suc n) → Rows 0 (i + length (concat ks) + length l) (line_count (done ++ (ks ++ (l ∷ [])))) (suc n) [] ls)
      → (Opened (suc j) L done (ks ++ (l ∷ [])) ls (suc n) → Rows 0 i (line_count done) (suc n) (concat (ks ++ (l ∷ []))) ls) → Rows x i (line_count done) n (concat ks) (l ∷ ls)
  line_rows ls done ks l x i n o ei shut more =
      subst (λ (w : Walk). RowsStand (suc j) text (line_count done) w.rows) (sym (clause (suc j) L x i (line_count done) n (concat ks) l ls)) (bad (line_fault x l) refl)
    where
      many : line_count (done ++ (ks ++ (l ∷ []))) ≡ suc n
      many = let m1 = many_append done (ks ++ (l ∷ [])) in let m2 = many_append ks (l ∷ []) in omega (arith, m1, m2, o.count)

      by_turn : (s : Said) → block_turn (suc j) x i (line_count done) (concat ks) n l ≡ s → RowsStand (suc j) text (line_count done) (s then Next i (line_count done) n (concat ks) l ls).rows
          → RowsStand (suc j) text (line_count done) (block_turn (suc j) x i (line_count done) (concat ks) n l then Next i (line_count done) n (concat ks) l ls).rows
      by_turn s q h = subst (λ (y : Said). RowsStand (suc j) text (line_count done) (y then Next i (line_count done) n (concat ks) l ls).rows) (sym q) h

      closed : blank_in (suc j) l ≡ true → RowsStand (suc j) text (line_count done + line_count ks) (Next i (line_count done) n (concat ks) l ls).rows
      closed q =
          subst (λ (w : Walk). RowsStand (suc j) text (line_count done + line_count ks) w.rows) (sym (next_blank (suc j) L x i (line_count done) n (concat ks) l q ls))
          (stand_less (suc j) text (line_count done + line_count ks) (suc n) (block_walk (suc j) 0 (i + length (concat ks) + length l) (suc n) [] (suc n) ls).rows (omega (arith, o.count))
          (subst (λ (f : ℕ). Rows 0 (i + length (concat ks) + length l) f (suc n) [] ls) many (shut (open_blank (suc j) L done ks ls l n o q))))

      going : blank_in (suc j) l ≡ false → RowsStand (suc j) text (line_count done) (Next i (line_count done) n (concat ks) l ls).rows
      going q =
          let bytes : concat ks ++ l ≡ concat (ks ++ (l ∷ [])) = sym (concat_append ks (l ∷ []) ∙ ap (λ (y : List ℕ). concat ks ++ y) (append-nil l)) in
          subst (λ (w : Walk). RowsStand (suc j) text (line_count done) w.rows) (sym (next_more (suc j) L x i (line_count done) n (concat ks) l q ls))
          (subst (λ (b : List ℕ). Rows 0 i (line_count done) (suc n) b ls) (sym bytes) (more (open_more (suc j) L done ks ls l n o q)))

      fits : (t : Bool) → leb (length (concat ks) + length l) most_block ≡ t → line_fault x l ≡ 0 → blank_in (suc j) l ≡ false
          → RowsStand (suc j) text (line_count done) (block_turn (suc j) x i (line_count done) (concat ks) n l then Next i (line_count done) n (concat ks) l ls).rows
      fits false p e q = by_turn (at_fault 21 (suc (line_count done))) (turn_long (suc j) L x i (line_count done) n (concat ks) l e q p) tt
      fits true p e q = by_turn (at_fault 0 0) (turn_fits (suc j) L x i (line_count done) n (concat ks) l e q p) (going q)

      blanks : (t : Bool) → blank_in (suc j) l ≡ t → line_fault x l ≡ 0 → RowsStand (suc j) text (line_count done) (block_turn (suc j) x i (line_count done) (concat ks) n l then Next i (line_count done) n (concat ks) l ls).rows
      blanks true q e =
          by_turn (block_said (suc j) (suc (line_count done)) i (concat ks)) (turn_blank (suc j) L x i (line_count done) n (concat ks) l e q)
          (said_rows done ks (l ∷ ls) o.all (cut_before ks (l ∷ ls) o.cut) o.filled o.closed q i ei (Next i (line_count done) n (concat ks) l ls) (closed q))
      blanks false q e = fits (leb (length (concat ks) + length l) most_block) refl e q

      bad : (h : ℕ) → line_fault x l ≡ h → RowsStand (suc j) text (line_count done) (block_turn (suc j) x i (line_count done) (concat ks) n l then Next i (line_count done) n (concat ks) l ls).rows
      bad (suc h) e = by_turn (at_fault (suc h) (suc n)) (turn_bad (suc j) L x i (line_count done) n (concat ks) l h e) tt
      bad zero e = blanks (blank_in (suc j) l) refl e

  placed : (done ks : List (List ℕ)) (l : List ℕ) (i : ℕ) → i ≡ byte_behind text done → i + length (concat ks) + length l ≡ byte_behind text (done ++ (ks ++ (l ∷ [])))
  placed done ks l i ei =
      let a : length (concat (done ++ (ks ++ (l ∷ [])))) ≡ length (concat done) + length (concat (ks ++ (l ∷ []))) = ap length (concat_append done (ks ++ (l ∷ []))) ∙ length-append (concat done) (concat (ks ++ (l ∷ []))) in
      let b : length (concat (ks ++ (l ∷ []))) ≡ length (concat ks) + length (l ++ []) = ap length (concat_append ks (l ∷ [])) ∙ length-append (concat ks) (l ++ []) in
      let d : length (l ++ []) ≡ length l = ap length (append-nil l) in
      omega (arith, a, b, d, ei)

  pub block_rows : (ls done ks : List (List ℕ)) (x i n : ℕ) → Opened (suc j) L done ks ls n → i ≡ byte_behind text done → Rows x i (line_count done) n (concat ks) ls
  block_rows [] done ks x i n o ei =
      subst (λ (w : Walk). RowsStand (suc j) text (line_count done) w.rows) (sym (end_is (suc j) L x i (line_count done) n (concat ks)))
      (said_rows done ks [] o.all (cut_before ks [] o.cut) o.filled o.closed refl i ei (stopped 0 0) tt)
  block_rows (l ∷ ls) done ks x i n o ei =
      line_rows ls done ks l x i n o ei (λ p. block_rows ls (done ++ (ks ++ (l ∷ []))) [] 0 (i + length (concat ks) + length l) (suc n) p (placed done ks l i ei))
      (λ p. block_rows ls done (ks ++ (l ∷ [])) 0 i (suc n) p ei)
