-- A whole SRT text and the plain reader: the same parts without a fault, and before one.
use mathlib.Core.Path.{◌≡◌, refl, sym, ap, ap₂, subst, ◌∙◌}
use mathlib.Core.Bool.{Bool, true, false, cond}
use mathlib.Core.List.{List, [], ◌∷◌, ◌++◌, append-nil}
use Prim.Native.Nat.{ℕ, ◌+◌}
use native.Mathlib.Omega.{arith}
use lib.Dec.{eqb}
use lib.ListN.{length}
use Rattle.spec_base.specs.base.Refusal.{◌or_else◌}
use Rattle.spec_base.proofs.base.RefusalLaws.{else_zero}
use Rattle.spec_text.specs.text.Line.{lines_of, line_count}
use Rattle.spec_caption.specs.caption_fate.Says.{Part}
use Rattle.spec_caption.specs.caption_fate.Bom.{starts_bom, behind_bom}
use Rattle.spec_cue.specs.block_timing.Style.{blank_in}
use Rattle.spec_format.specs.whole.Srt.{Block, onto_block, onto_blanks, blank_onto, blocks_of, blocks_said, srt_said}
use Rattle.spec_format.proofs.whole.BlockShape.{block_lines, blocks_joined, blocks_shape, blocks_only, blocks_blank, blocks_body}
use Rattle.promise.specs.Plain.{bom_length, line_fault, body_line_fault, body_fault, bom_behind, blocks_read, lines_say, opened, bom_back, plain_read}
use Rattle.promise.specs.Whole.{SrtWhole, BlocksStop, SrtBefore}
use Rattle.promise.proofs.WholeAss.{no_fault, mark_back}
use Rattle.promise.proofs.WholeBlocks.{read, cut_blocks, rest_none}

-- ---- the text
pub srt_before : (text : List ℕ) → SrtBefore text
unfolding plain_read lines_say
srt_before text =
    let ls : List (List ℕ) = lines_of (behind_bom text) in
    let r = cut_blocks 1 (blocks_of 1 ls) (bom_length text) 0 (blocks_shape 1 ls) in
    let head : blocks_of 1 (block_lines r.before) ≡ r.before = blocks_only 1 r.before r.shape_before in
    let tail : blocks_of 1 (block_lines r.rest) ≡ r.rest = blocks_only 1 r.rest r.shape_rest in
    let m : 0 + line_count (block_lines r.before) ≡ line_count (block_lines r.before) = omega arith in
    record {
      before = block_lines r.before;
      rest = block_lines r.rest;
      cut = sym (blocks_joined 1 ls) ∙ r.cut;
      closed = r.closed;
      passes = ap (λ (bs : List Block). (read 1 (bom_length text) 0 bs).fault) head ∙ r.passes;
      parts = ap (λ (ps : List Part). bom_back 1 true text ++ ps) (r.parts ∙ ap (blocks_said 1 0) (sym head));
      stops =
          subst (λ (bs : List Block). BlocksStop 1 (bom_behind (bom_length text) (block_lines r.before)) (line_count (block_lines r.before)) bs (plain_read 1 true text).fault) (sym tail)
          (subst (λ (i : ℕ). BlocksStop 1 (bom_behind (bom_length text) (block_lines r.before)) i r.rest (plain_read 1 true text).fault) m r.stops);
    }

-- without a fault a BOM was written back
blank_opens : (x : ℕ) (l : List ℕ) (bs : List Block) → (read 1 x 0 (blank_onto l bs)).fault ≡ 0 → line_fault x l ≡ 0
unfolding blocks_read body_fault
blank_opens x l [] e = no_fault (line_fault x l) _ e
blank_opens x l (b ∷ bs) e = go b.body b.blanks e
  where
    go : (body blanks : List (List ℕ)) → (read 1 x 0 (onto_blanks l body blanks bs)).fault ≡ 0 → line_fault x l ≡ 0
    go [] blanks q = no_fault (line_fault x l) _ q
    go (k ∷ ks) blanks q = no_fault (line_fault x l) _ q

body_opens : (x : ℕ) (l : List ℕ) (bs : List Block) → (read 1 x 0 (onto_block l bs)).fault ≡ 0 → body_line_fault x 0 l ≡ 0
unfolding blocks_read body_fault
body_opens x l [] e = (else_zero (body_line_fault x 0 l) (body_fault 0 (0 + length l) []) (no_fault (body_line_fault x 0 l or_else body_fault 0 (0 + length l) []) _ e)).0
body_opens x l (b ∷ bs) e =
    (else_zero (body_line_fault x 0 l) (body_fault 0 (0 + length l) b.body) (no_fault (body_line_fault x 0 l or_else body_fault 0 (0 + length l) b.body) _ e)).0

opened_all : (x : ℕ) (ls : List (List ℕ)) → (read 1 x 0 (blocks_of 1 ls)).fault ≡ 0 → opened 1 true x ls ≡ true
opened_all x [] e = refl
opened_all x (l ∷ ls) e = go (blank_in 1 l) refl
  where
    go : (t : Bool) → blank_in 1 l ≡ t → eqb (cond t (line_fault x l) (body_line_fault x 0 l)) 0 ≡ true
    go true q = ap (λ (k : ℕ). eqb k 0) (blank_opens x l (blocks_of 1 ls) (ap (λ (bs : List Block). (read 1 x 0 bs).fault) (sym (blocks_blank 1 l ls q)) ∙ e))
    go false q = ap (λ (k : ℕ). eqb k 0) (body_opens x l (blocks_of 1 ls) (ap (λ (bs : List Block). (read 1 x 0 bs).fault) (sym (blocks_body 1 l ls q)) ∙ e))

pub srt_whole : SrtWhole
unfolding plain_read lines_say srt_said
srt_whole text e =
    let r = srt_before text in
    let ls : List (List ℕ) = lines_of (behind_bom text) in
    let none = rest_none 1 (bom_behind (bom_length text) r.before) (line_count r.before) (plain_read 1 true text).fault (blocks_of 1 r.rest) r.stops e in
    let rest : r.rest ≡ [] = sym (blocks_joined 1 r.rest) ∙ ap block_lines none in
    let whole : ls ≡ r.before = r.cut ∙ ap (λ (k : List (List ℕ)). r.before ++ k) rest ∙ append-nil r.before in
    r.parts
    ∙ ap₂ (λ (a b : List Part). a ++ b)
    (mark_back (starts_bom text) (opened 1 true (bom_length text) ls) (opened_all (bom_length text) ls e))
    (ap (λ (k : List (List ℕ)). blocks_said 1 0 (blocks_of 1 k)) (sym whole))
