-- A caption takes eight bytes or more of its text: `walk_within`. So six places for each eight bytes are enough: `places_sure`.
use mathlib.Core.Path.{◌≡◌, refl, sym, ap, ◌∙◌}
use mathlib.Core.Bool.{Bool, true, false, cond}
use mathlib.Core.List.{List, [], ◌∷◌, ◌++◌}
use Prim.Native.Nat.{ℕ, zero, suc, ◌+◌, ◌*◌, ◌/◌, ◌≤◌}
use native.Mathlib.Omega.{arith}
use borrow.Author.Tests.{le-leb, lt-leb, leb-true, leb-false}
use lib.Dec.{eqb, leb}
use lib.ListN.{length, drop, length-append, length-drop}
use Rattle.std.specs.Prelude.{Option, Some, None}
use Rattle.spec_base.specs.base.Limits.{most_block}
use Rattle.spec_text.specs.whitespace.White.{trim}
use Rattle.spec_text.specs.pattern.Find.{starts, equals, up_to}
use Rattle.spec_text.specs.text.Line.{lines_of, concat, line_count, text_of, terminator_of}
use Rattle.spec_text.proofs.text.LineLaws.{lines_joined}
use Rattle.spec_time.specs.declared.caption_stamp.Stamp.{Stamp}
use Rattle.spec_time.specs.caption_stamp.Read.{time_in}
use Rattle.spec_caption.specs.caption_fate.Says.{stays}
use Rattle.spec_caption.specs.caption_fate.Bom.{starts_bom, behind_bom}
use Rattle.spec_ass.specs.declared.ass_columns.Columns.{Columns}
use Rattle.spec_ass.specs.ass_columns.Columns.{no_columns, columns_in}
use Rattle.spec_ass.specs.ass_columns.Section.{events_name, bracketed, inside, in_section}
use Rattle.spec_ass.specs.ass_line.Line.{format_word, dialogue_word, comment_word, says, caption_says, word_says, text_says, line_says}
use Rattle.spec_cue.specs.block_timing.Style.{blank_in, style_of, stamps_in}
use Rattle.spec_cue.specs.block_timing.Arrow.{arrow, Timing, untimed, timed, timing_of}
use Rattle.spec_cue.specs.block_timing.Place.{timing_place}
use Rattle.spec_cue.proofs.block_timing.PlaceLaws.{Placed, timing_placed}
use Rattle.spec_cue.specs.block_cue.Block.{both_say, block_frame, end_text, trailing, timing_line_says, timing_says, block_says}
use Rattle.spec_cue.proofs.block_cue.WriteLaws.{line_long}
use Rattle.promise.specs.Plain.{bom_length, line_fault, head_fault}
use Rattle.spec_rows.specs.declared.caption_rows.Said.{Said}
use Rattle.spec_rows.specs.declared.caption_rows.Walked.{Walked}
use Rattle.spec_rows.specs.caption_rows.Said.{at_fault, quiet, line_said, held_said, block_said}
use Rattle.spec_rows.specs.caption_rows.Walk.{Walk, stopped, rows_said, onward, ◌then◌, ass_turn, ass_next, ass_walk, block_turn, block_walk, head_turn, vtt_walk, walk_behind, walk_of, WalkedBy}
use Rattle.spec_rows.proofs.caption_rows.RowLaws.{row_long}
use Rattle.spec_text.proofs.pattern.PieceLaws.{starts_long}
use Rattle.spec_machine.proofs.kinds.ColumnBounds.{text_length}

-- ---- what was said of m bytes: a caption has eight of them
abbrev Paid : (m : ℕ) → Said → Type 0
Paid m s = 8 * cond s.caption 1 0 ≤ m

paid_long : (m : ℕ) (s : Said) → 8 ≤ m → Paid m s
paid_long m s h = go s.caption
  where
    go : (t : Bool) → 8 * cond t 1 0 ≤ m
    go true = omega arith
    go false = omega arith

-- ---- ASS: the word of a caption has eight bytes
module _ (c : Columns) (n i j k m : ℕ) (l t : List ℕ) (h : length t ≤ m) where
  word_paid : Paid m (line_said j i k (word_says c n l t))
  unfolding word_says
  word_paid = go (starts format_word t) (starts dialogue_word t) refl (starts comment_word t) refl
    where
      go : (f d : Bool) → starts dialogue_word t ≡ d → (g : Bool) → starts comment_word t ≡ g
          → Paid m (line_said j i k (cond f (says (columns_in (drop 7 t)) (stays l)) (cond d (caption_says c (suc n) l dialogue_word (drop 9 t)) (cond g (caption_says c (suc n) l comment_word (drop 8 t)) (says c (stays l))))))
      go true d ed g eg = omega arith
      go false true ed g eg = paid_long m (line_said j i k (caption_says c (suc n) l dialogue_word (drop 9 t))) (omega (arith, starts_long dialogue_word t ed))
      go false false ed true eg = paid_long m (line_said j i k (caption_says c (suc n) l comment_word (drop 8 t))) (omega (arith, starts_long comment_word t eg))
      go false false ed false eg = omega arith

  text_paid : Paid m (line_said j i k (text_says c n l t))
  unfolding text_says
  text_paid = go (bracketed (trim t)) c.events
    where
      go : (u v : Bool) → Paid m (line_said j i k (cond u (says (in_section (equals events_name (inside (trim t))) c) (stays l)) (cond v (word_says c n l t) (says c (stays l)))))
      go true v = omega arith
      go false true = word_paid
      go false false = omega arith

ass_paid : (x : ℕ) (c : Columns) (n i : ℕ) (l : List ℕ) → Paid (length l) (ass_turn x c n i l)
unfolding ass_turn line_says
ass_paid x c n i l = go (eqb (line_fault x l) 0)
  where
    go : (t : Bool) → Paid (length l) (cond t (line_said (suc n) i (length (text_of l)) (text_says c n l (text_of l))) (at_fault (line_fault x l) (suc n)))
    go true = text_paid c n i (suc n) (length (text_of l)) (length l) l (text_of l) (text_length l)
    go false = omega arith

-- ---- a block: its timing line has two times and an arrow
module _ (kind first i m : ℕ) where
  timed_paid : (b : List (List ℕ)) (l : List ℕ) (a : List (List ℕ)) → length l ≤ m → Paid m (held_said kind first i m (timed b l a) (timing_line_says (style_of kind) (first + line_count b) (concat b) l (concat a)))
  unfolding timing_line_says
  timed_paid b l a h = go (time_in kind (up_to arrow (text_of l))) refl (time_in kind (end_text (style_of kind) (text_of l))) refl
    where
      go : (X : Option Stamp) → time_in kind (up_to arrow (text_of l)) ≡ X → (Y : Option Stamp) → time_in kind (end_text (style_of kind) (text_of l)) ≡ Y
          → Paid m (held_said kind first i m (timed b l a) (both_say (first + line_count b) (stamps_in kind (concat a)) (block_frame (concat b) (trailing (style_of kind) (text_of l)) (terminator_of l) (concat a)) X Y))
      go None ex Y ey = omega arith
      go (Some S) ex None ey = omega arith
      go (Some S) ex (Some E) ey = omega (arith, line_long kind l S.units E.units S.mark E.mark ex ey)

block_paid : (kind first i : ℕ) (b : List ℕ) → Paid (length b) (block_said kind first i b)
unfolding block_said block_says
block_paid kind first i b = go (timing_of (lines_of b)) (timing_placed (lines_of b) 0 0)
  where
    go : (t : Timing) → Placed t (lines_of b) 0 0 (timing_place (lines_of b) 0 0) → Paid (length b) (held_said kind first i (length b) t (timing_says (style_of kind) first (lines_of b) t))
    go untimed q = omega arith
    go (timed B l A) q =
        let w : length (concat B ++ (l ++ concat A)) ≡ length b = ap length (q.1 ∙ lines_joined b) in
        timed_paid kind first i (length b) B l A (omega (arith, w, length-append (concat B) (l ++ concat A), length-append l (concat A)))

module _ (kind x i f : ℕ) (b : List ℕ) (n : ℕ) (l : List ℕ) where
  turn_paid : Paid (length b) (block_turn kind x i f b n l)
  unfolding block_turn
  turn_paid = go (eqb (line_fault x l) 0) (blank_in kind l) (leb (length b + length l) most_block)
    where
      go : (t u v : Bool) → Paid (length b) (cond t (cond u (block_said kind (suc f) i b) (cond v quiet (at_fault 21 (suc f)))) (at_fault (line_fault x l) (suc n)))
      go true true v = block_paid kind (suc f) i b
      go true false true = omega arith
      go true false false = omega arith
      go false u v = omega arith

  open_paid : blank_in kind l ≡ false → Paid 0 (block_turn kind x i f b n l)
  unfolding block_turn
  open_paid e = go (eqb (line_fault x l) 0) (blank_in kind l) e (leb (length b + length l) most_block)
    where
      go : (t u : Bool) → u ≡ false → (v : Bool) → Paid 0 (cond t (cond u (block_said kind (suc f) i b) (cond v quiet (at_fault 21 (suc f)))) (at_fault (line_fault x l) (suc n)))
      go true true q v = absurd (let z : ◌≡◌ {A = ℕ} 1 0 = ap (λ (t : Bool). cond t 1 0) q in omega arith)
      go true false q true = omega arith
      go true false q false = omega arith
      go false u q v = omega arith

-- ---- a walk over m bytes: six numbers a caption, and eight bytes a caption
pub record Within (m : ℕ) (w : Walk) : Type 0 where
  pub captions : ℕ
  pub rows : length w.rows ≡ 6 * captions
  pub bytes : 8 * captions ≤ m

within_none : (m k n : ℕ) → Within m (stopped k n)
within_none m k n = record { captions = 0; rows = refl; bytes = omega arith }

then_within : (a b m : ℕ) (s : Said) (w : Walk) → Paid a s → Within b w → a + b ≤ m → Within m (s then w)
then_within a b m s w p q h = go s.number
  where
    go : (k : ℕ) → Within m (onward k s w)
    go zero =
        record {
          captions = cond s.caption 1 0 + q.captions;
          rows = let z = length-append (rows_said s) w.rows in let y = row_long s in let x = q.rows in omega (arith, z, y, x);
          bytes = let x = q.bytes in omega (arith, x);
        }
    go (suc k) = within_none m (suc k) s.line

ass_within : (x : ℕ) (c : Columns) (n i : ℕ) (ls : List (List ℕ)) → Within (length (concat ls)) (ass_walk x c n i ls)
unfolding ass_walk
ass_within x c n i [] = within_none 0 0 0
ass_within x c n i (l ∷ ls) =
    then_within (length l) (length (concat ls)) (length (l ++ concat ls)) (ass_turn x c n i l) (ass_walk 0 (ass_next x c n l) (suc n) (i + length l) ls) (ass_paid x c n i l)
    (ass_within 0 (ass_next x c n l) (suc n) (i + length l) ls) (omega (arith, length-append l (concat ls)))

block_within : (kind x i f : ℕ) (b : List ℕ) (n : ℕ) (ls : List (List ℕ)) (m : ℕ) → length b + length (concat ls) ≤ m → Within m (block_walk kind x i f b n ls)
unfolding block_walk
block_within kind x i f b n [] m h = then_within (length b) 0 m (block_said kind (suc f) i b) (stopped 0 0) (block_paid kind (suc f) i b) (within_none 0 0 0) (omega arith)
block_within kind x i f b n (l ∷ ls) m h =
    go (blank_in kind l) refl (block_within kind 0 (i + length b + length l) (suc n) [] (suc n) ls (length (concat ls)) (omega arith))
    (block_within kind 0 i f (b ++ l) (suc n) ls m (omega (arith, length-append b l, length-append l (concat ls))))
  where
    go : (t : Bool) → blank_in kind l ≡ t → Within (length (concat ls)) (block_walk kind 0 (i + length b + length l) (suc n) [] (suc n) ls) → Within m (block_walk kind 0 i f (b ++ l) (suc n) ls)
        → Within m (block_turn kind x i f b n l then cond t (block_walk kind 0 (i + length b + length l) (suc n) [] (suc n) ls) (block_walk kind 0 i f (b ++ l) (suc n) ls))
    go true e u v =
        then_within (length b) (length (concat ls)) m (block_turn kind x i f b n l) (block_walk kind 0 (i + length b + length l) (suc n) [] (suc n) ls) (turn_paid kind x i f b n l) u
        (omega (arith, length-append l (concat ls)))
    go false e u v = then_within 0 m m (block_turn kind x i f b n l) (block_walk kind 0 i f (b ++ l) (suc n) ls) (open_paid kind x i f b n l e) v (omega arith)

head_paid : (x : ℕ) (l : List ℕ) → Paid 0 (head_turn x l)
unfolding head_turn
head_paid x l = go (eqb (head_fault x l) 0)
  where
    go : (t : Bool) → Paid 0 (cond t quiet (at_fault (head_fault x l) 1))
    go true = omega arith
    go false = omega arith

vtt_within : (x i : ℕ) (ls : List (List ℕ)) → Within (length (concat ls)) (vtt_walk x i ls)
unfolding vtt_walk
vtt_within x i [] = within_none 0 24 1
vtt_within x i (l ∷ ls) =
    then_within 0 (length (concat ls)) (length (l ++ concat ls)) (head_turn x l) (block_walk 2 0 (i + length l) 1 [] 1 ls) (head_paid x l)
    (block_within 2 0 (i + length l) 1 [] 1 ls (length (concat ls)) (omega arith)) (omega (arith, length-append l (concat ls)))

behind_within : (kind x : ℕ) (ls : List (List ℕ)) → Within (length (concat ls)) (walk_behind kind x ls)
unfolding walk_behind
behind_within kind x ls = go (eqb kind 0) (eqb kind 2)
  where
    go : (t u : Bool) → Within (length (concat ls)) (cond t (ass_walk x no_columns 0 x ls) (cond u (vtt_walk x x ls) (block_walk kind x x 0 [] 0 ls)))
    go true u = ass_within x no_columns 0 x ls
    go false true = vtt_within x x ls
    go false false = block_within kind x x 0 [] 0 ls (length (concat ls)) (omega arith)

behind_short : (text : List ℕ) → length (behind_bom text) ≤ length text
behind_short text = go (starts_bom text)
  where
    go : (t : Bool) → length (cond t (drop 3 text) text) ≤ length text
    go true = omega (arith, length-drop 3 text)
    go false = omega arith

pub walk_within : (kind : ℕ) (text : List ℕ) → Within (length text) (walk_of kind text)
unfolding walk_of
walk_within kind text =
    let L = lines_of (behind_bom text) in
    let w = behind_within kind (bom_length text) L in
    let e : length (concat L) ≡ length (behind_bom text) = ap length (lines_joined (behind_bom text)) in
    record { captions = w.captions; rows = w.rows; bytes = let b = w.bytes in omega (arith, b, e, behind_short text) }

-- ---- lent places
pub places_sure : (kind : ℕ) (text : List ℕ) (lent : ℕ) → length text / 8 ≤ lent / 6 → true ≡ leb (length (walk_of kind text).rows) lent
places_sure kind text lent h =
    let w = walk_within kind text in
    let r = w.rows in
    let b = w.bytes in
    sym (le-leb (length (walk_of kind text).rows) lent (omega (arith, r, b, h)))

pub places_counted : (kind : ℕ) (text : List ℕ) (lent : ℕ) (w : Walked) (l l' : List ℕ) → WalkedBy (walk_of kind text) w l l' → leb w.captions (lent / 6) ≡ leb (length (walk_of kind text).rows) lent
places_counted kind text lent w l l' g = go (leb w.captions (lent / 6)) refl
  where
    go : (t : Bool) → leb w.captions (lent / 6) ≡ t → t ≡ leb (length (walk_of kind text).rows) lent
    go true e =
        let q = g.captions in
        let h = leb-true w.captions (lent / 6) e in
        sym (le-leb (length (walk_of kind text).rows) lent (omega (arith, q, h)))
    go false e =
        let q = g.captions in
        let h = leb-false w.captions (lent / 6) e in
        sym (lt-leb (length (walk_of kind text).rows) lent (omega (arith, q, h)))
