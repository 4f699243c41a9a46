-- Every cue that the plain reader reads can be written and read again.
use mathlib.Core.Path.{◌≡◌, refl, sym, ap, subst, ◌∙◌}
use mathlib.Core.Bool.{Bool, true, false, cond, ◌&&◌}
use mathlib.Core.List.{List, [], ◌∷◌, ◌++◌}
use Prim.Native.Nat.{ℕ, zero, suc, ◌+◌, ◌*◌}
use Rattle.spec_text.specs.text.Line.{line_count, concat}
use Rattle.spec_time.specs.caption_time.Kind.{kind_bad, units_of}
use Rattle.spec_time.proofs.caption_time.Limits.{by_kind}
use Rattle.spec_caption.specs.caption_fate.Says.{Part, stays, cue, passes}
use Rattle.spec_caption.specs.caption_fate.Bom.{starts_bom, behind_bom, bom_written}
use Rattle.spec_ass.specs.declared.ass_columns.Columns.{Columns}
use Rattle.spec_ass.proofs.ass_columns.ColumnLaws.{Apart}
use Rattle.spec_ass.specs.ass_line.Line.{LineSays, line_says, faulty, says}
use Rattle.spec_ass.specs.ass_line.AssThrough.{columns_after}
use Rattle.spec_ass.specs.ass_columns.Columns.{no_columns}
use Rattle.spec_format.proofs.back.AssLine.{line_back, line_apart}
use Rattle.spec_cue.specs.block_timing.Style.{style_of}
use Rattle.spec_cue.specs.block_cue.Block.{BlockSays, block_says, faulty as blockFaulty, says as block_said}
use Rattle.spec_format.specs.whole.Srt.{Block, blocks_of}
use Rattle.spec_format.proofs.back.TimingLine.{TimeMark, Blocked}
use Rattle.spec_format.proofs.back.TimingBlock.{block_back}
use Rattle.spec_format.proofs.back.BlockKinds.{srt_blocked, Point, vtt_blocked}
use Rattle.spec_format.proofs.back.Stands.{line_stands, block_stands}
use Rattle.spec_format.proofs.whole.BlockShape.{block_lines, blocks_joined}
use Rattle.spec_machine.specs.session_counts.Reader.{Reading, fails, ◌⊕◌}
use Rattle.promise.specs.Plain.{line_fault, unless_fault, line_then, ass_read, body_fault, block_then, body_then, blanks_then, bom_behind, closes_block, blocks_read, head_fault, vtt_read, lines_read, lines_say, opened, bom_length, read_behind, bom_back, plain_read}
use Rattle.promise.specs.Again.{end_seconds, PartAgain, AllAgain}
use Rattle.promise.proofs.LinesCut.{Cut, cut_tail, cut_behind, cut_before, cut_lines, text_cut}

again_append : (kind : ℕ) (xs ys : List Part) → AllAgain kind xs → AllAgain kind ys → AllAgain kind (xs ++ ys)
again_append kind [] ys a b = b
again_append kind (x ∷ xs) ys a b = (a.0, again_append kind xs ys a.1 b)

again_unless : (kind k : ℕ) (r : Reading) → AllAgain kind r.parts → AllAgain kind (unless_fault k r).parts
again_unless kind zero r a = a
again_unless kind (suc k) r a = tt

-- ---- ASS
part_line : (c : Columns) (n : ℕ) (l : List ℕ) → Apart c → (d : Columns) (p : Part) → line_says c n l ≡ says d p → PartAgain 0 p
part_line c n l h d (stays x) e = tt
part_line c n l h d (passes r k x) e = tt
part_line c n l h d (cue q) e = record { columns = c; before = n; line = l; next = d; said = e; stands = line_stands c n l d q e; again = line_back c n l d q e h }

ass_again : (end : Reading) → AllAgain 0 end.parts → (x : ℕ) (c : Columns) (n : ℕ) (ls : List (List ℕ)) → Apart c → AllAgain 0 (ass_read end x c n ls).parts
unfolding ass_read
ass_again end a x c n [] h = a
ass_again end a x c n (l ∷ ls) h =
    again_unless 0 (line_fault x l) (line_then (line_says c n l) (λ d. ass_read end 0 d (suc n) ls))
    (go (line_says c n l) refl (λ d k. ass_again end a 0 d (suc n) ls k))
  where
    go : (y : LineSays) → line_says c n l ≡ y → ((d : Columns) → Apart d → AllAgain 0 (ass_read end 0 d (suc n) ls).parts)
        → AllAgain 0 (line_then y (λ d. ass_read end 0 d (suc n) ls)).parts
    go (faulty f) e k = tt
    go (says d p) e k = (part_line c n l h d p e, k d (subst (λ (z : LineSays). Apart (columns_after c z)) e (line_apart c n l h)))

-- ---- blocks, of a kind whose written blocks read again
module _ (j : ℕ) (Mark : ℕ → Type 0) (K : Blocked (suc j) Mark (end_seconds (suc j) * units_of (suc j))) where
  part_block : (first : ℕ) (ls : List (List ℕ)) → Cut ls → (p : Part) → block_says (style_of (suc j)) first ls ≡ block_said p → PartAgain (suc j) p
  part_block first ls c (stays x) e = tt
  part_block first ls c (passes r k x) e = tt
  part_block first ls c (cue q) e =
      let said = ap (block_says (style_of (suc j)) first) (cut_lines ls c) ∙ e in
      record { first = first; block = concat ls; said = said; stands = block_stands (suc j) first (concat ls) q said; again = block_back (suc j) Mark (end_seconds (suc j) * units_of (suc j)) K first (concat ls) q said }

  body_again : (n : ℕ) (body : List (List ℕ)) (after : Reading) → Cut body → AllAgain (suc j) after.parts → AllAgain (suc j) (body_then (suc j) n body after).parts
  body_again n [] after c a = a
  body_again n (l ∷ ls) after c a = go (block_says (style_of (suc j)) (suc n) (l ∷ ls)) refl
    where
      go : (y : BlockSays) → block_says (style_of (suc j)) (suc n) (l ∷ ls) ≡ y → AllAgain (suc j) (block_then y after).parts
      go (blockFaulty f) e = tt
      go (block_said p) e = (part_block (suc n) (l ∷ ls) c p e, a)

  blanks_again : (ls : List (List ℕ)) (after : Reading) → AllAgain (suc j) after.parts → AllAgain (suc j) (blanks_then ls after).parts
  blanks_again [] after a = a
  blanks_again (l ∷ ls) after a = again_unless (suc j) (line_fault 0 l) ((stays l ∷ []) ⊕ blanks_then ls after) (tt, blanks_again ls after a)

  closes_again : (f : Bool) (x n : ℕ) (body blanks : List (List ℕ)) (after : Reading) → Cut body → AllAgain (suc j) after.parts → AllAgain (suc j) (closes_block (suc j) f x n body blanks after).parts
  closes_again true x n body [] after c a = body_again n body after c a
  closes_again false x n body [] after c a = a
  closes_again true x n body (l ∷ ls) after c a =
      again_unless (suc j) (line_fault (bom_behind x body) l) (body_then (suc j) n body ((stays l ∷ []) ⊕ blanks_then ls after)) (body_again n body ((stays l ∷ []) ⊕ blanks_then ls after) c (tt, blanks_again ls after a))
  closes_again false x n body (l ∷ ls) after c a =
      again_unless (suc j) (line_fault (bom_behind x body) l) (body_then (suc j) n body ((stays l ∷ []) ⊕ blanks_then ls after)) (body_again n body ((stays l ∷ []) ⊕ blanks_then ls after) c (tt, blanks_again ls after a))

  blocks_again : (f : Bool) (end : Reading) → AllAgain (suc j) end.parts → (x n : ℕ) (bs : List Block) → Cut (block_lines bs) → AllAgain (suc j) (blocks_read (suc j) f end x n bs).parts
  unfolding blocks_read
  blocks_again f end a x n [] c = a
  blocks_again f end a x n (b ∷ bs) c =
      let d = cut_behind b.blanks (block_lines bs) (cut_behind b.body (b.blanks ++ block_lines bs) c) in
      again_unless (suc j) (body_fault x 0 b.body) _
      (closes_again f x n b.body b.blanks (blocks_read (suc j) f end 0 (n + line_count b.body + line_count b.blanks) bs) (cut_before b.body (b.blanks ++ block_lines bs) c)
      (blocks_again f end a 0 (n + line_count b.body + line_count b.blanks) bs d))

-- ---- the text
no_columns_apart : Apart no_columns
no_columns_apart e = refl

module _ (f : Bool) (x : ℕ) (t : List ℕ) where
  ass_behind : AllAgain 0 (read_behind 0 f x t).parts
  unfolding lines_say
  ass_behind = ass_again _ tt x no_columns 0 (lines_read f t) no_columns_apart

  srt_behind : AllAgain 1 (read_behind 1 f x t).parts
  unfolding lines_say
  srt_behind = blocks_again 0 TimeMark srt_blocked f _ tt x 0 (blocks_of 1 (lines_read f t)) (subst Cut (sym (blocks_joined 1 (lines_read f t))) (text_cut f t))

  vtt_again : (end : Reading) → AllAgain 2 end.parts → (ls : List (List ℕ)) → Cut ls → AllAgain 2 (vtt_read f end x ls).parts
  unfolding vtt_read
  vtt_again end a [] c = ended f
    where
      ended : (b : Bool) → AllAgain 2 (cond b (fails 24) end).parts
      ended true = tt
      ended false = a
  vtt_again end a (l ∷ ls) c =
      again_unless 2 (head_fault x l) _
      (tt, blocks_again 1 Point vtt_blocked f end a 0 1 (blocks_of 2 ls) (subst Cut (sym (blocks_joined 2 ls)) (cut_tail l ls c)))

  vtt_behind : AllAgain 2 (read_behind 2 f x t).parts
  unfolding lines_say
  vtt_behind = vtt_again _ tt (lines_read f t) (text_cut f t)

mark_again : (kind : ℕ) (b : Bool) → AllAgain kind (bom_written b)
mark_again kind true = (tt, tt)
mark_again kind false = tt

module _ (f : Bool) (text : List ℕ) where
  -- a BOM that is written back, then the lines behind it
  with_mark : (kind : ℕ) → AllAgain kind (read_behind kind f (bom_length text) (behind_bom text)).parts → AllAgain kind (plain_read kind f text).parts
  unfolding plain_read
  with_mark kind a =
      again_append kind (bom_back kind f text) (read_behind kind f (bom_length text) (behind_bom text)).parts (mark_again kind (starts_bom text && opened kind f (bom_length text) (lines_read f (behind_bom text)))) a

  pub text_again : (kind : ℕ) → kind_bad kind ≡ false → AllAgain kind (plain_read kind f text).parts
  text_again kind k =
      by_kind (λ i. AllAgain i (plain_read i f text).parts)
      (with_mark 0 (ass_behind f (bom_length text) (behind_bom text))) (with_mark 1 (srt_behind f (bom_length text) (behind_bom text)))
      (with_mark 2 (vtt_behind f (bom_length text) (behind_bom text))) kind k
