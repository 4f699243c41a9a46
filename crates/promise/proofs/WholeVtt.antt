-- A whole WebVTT text and the plain reader: the same parts without a fault, and before one.
use mathlib.Core.Path.{◌≡◌, refl, sym, ap, ap₂, subst, ◌∙◌}
use mathlib.Core.Bool.{Bool, true, false, ◌&&◌}
use mathlib.Core.Logic.{inl, inr, ⊎_elim}
use mathlib.Core.List.{List, [], ◌∷◌, ◌++◌, append-nil}
use Prim.Native.Nat.{ℕ, zero, suc, ◌+◌, ◌<◌}
use native.Mathlib.Omega.{arith}
use borrow.Author.Tests.{ne_eqb}
use lib.Dec.{eqb}
use Rattle.spec_text.specs.text.Line.{lines_of, line_count}
use Rattle.spec_caption.specs.caption_fate.Says.{Part, stays}
use Rattle.spec_caption.specs.caption_fate.Bom.{starts_bom, behind_bom, bom_written}
use Rattle.spec_format.specs.whole.Srt.{Block, blocks_of, blocks_said}
use Rattle.spec_format.specs.whole.Vtt.{head_said, vtt_said}
use Rattle.spec_format.proofs.whole.BlockShape.{block_lines, blocks_joined, blocks_shape, blocks_only}
use Rattle.spec_machine.specs.session_counts.Reader.{Reading, fails, ◌⊕◌}
use Rattle.promise.specs.Plain.{bom_length, unless_fault, bom_behind, head_fault, vtt_read, lines_say, opened, plain_read}
use Rattle.promise.specs.Whole.{VttWhole, BlocksStop, FirstStops, VttAtFirst, VttBehind, VttBefore}
use Rattle.promise.proofs.WholeAss.{mark_back}
use Rattle.promise.proofs.WholeBlocks.{read, stops_same, cut_blocks, rest_none}
use Rattle.promise.proofs.PlainBlocks.{mark_zero}

-- ---- a text behind its BOM, where b says whether there is one
abbrev read_by : (b : Bool) → (x : ℕ) → List (List ℕ) → Reading
read_by b x ls = bom_written (b && opened 2 true x ls) ⊕ vtt_read true (fails 0) x ls

unmarked : (b : Bool) → bom_written (b && false) ≡ []
unmarked true = refl
unmarked false = refl

none_by : (b : Bool) (x : ℕ) → read_by b x [] ≡ fails 24
unfolding vtt_read
none_by b x = ap (λ (ps : List Part). ps ⊕ fails 24) (unmarked b)

head_by_lem : (b : Bool) (x : ℕ) (l : List ℕ) (ls : List (List ℕ)) (k : ℕ) → head_fault x l ≡ k
    → read_by b x (l ∷ ls) ≡ bom_written (b && eqb k 0) ⊕ unless_fault k ((stays l ∷ []) ⊕ read 2 0 1 (blocks_of 2 ls))
unfolding vtt_read
head_by_lem b x l ls k e = ap (λ (i : ℕ). bom_written (b && eqb i 0) ⊕ unless_fault i ((stays l ∷ []) ⊕ read 2 0 1 (blocks_of 2 ls))) e

stops_by : (b : Bool) (x : ℕ) (l : List ℕ) (ls : List (List ℕ)) (k : ℕ) → head_fault x l ≡ suc k → read_by b x (l ∷ ls) ≡ fails (suc k)
stops_by b x l ls k e =
    head_by_lem b x l ls (suc k) e
    ∙ ap (λ (t : Bool). bom_written (b && t) ⊕ fails (suc k)) (ne_eqb (suc k) 0 (λ q. omega arith))
    ∙ ap (λ (ps : List Part). ps ⊕ fails (suc k)) (unmarked b)

passes_by : (b : Bool) (x : ℕ) (l : List ℕ) (ls : List (List ℕ)) → head_fault x l ≡ 0
    → read_by b x (l ∷ ls) ≡ bom_written b ⊕ ((stays l ∷ []) ⊕ read 2 0 1 (blocks_of 2 ls))
passes_by b x l ls e =
    head_by_lem b x l ls 0 e ∙ ap (λ (ps : List Part). ps ⊕ ((stays l ∷ []) ⊕ read 2 0 1 (blocks_of 2 ls))) (mark_back b true refl)

-- ---- before a fault
first_stop : (text : List ℕ) (x : ℕ) (ls : List (List ℕ)) (k : ℕ) → x ≡ bom_length text → ls ≡ lines_of (behind_bom text) → read_by (starts_bom text) x ls ≡ fails k → FirstStops x ls k
    → VttAtFirst text
unfolding plain_read lines_say
first_stop text x ls k ex el e f =
    let r : read_by (starts_bom text) (bom_length text) (lines_of (behind_bom text)) ≡ fails k = ap₂ (λ (y : ℕ) (ms : List (List ℕ)). read_by (starts_bom text) y ms) (sym ex) (sym el) ∙ e in
    record {
      parts = ap (λ (y : Reading). y.parts) r;
      stops =
          subst (FirstStops (bom_length text) (lines_of (behind_bom text))) (sym (ap (λ (y : Reading). y.fault) r))
          (subst (λ (y : ℕ). FirstStops y (lines_of (behind_bom text)) k) ex (subst (λ (ms : List (List ℕ)). FirstStops x ms k) el f));
    }

behind_first_lem : (text : List ℕ) (l : List ℕ) (ls : List (List ℕ)) → lines_of (behind_bom text) ≡ l ∷ ls → head_fault (bom_length text) l ≡ 0 → VttBehind text
unfolding plain_read lines_say
behind_first_lem text l ls el e =
    let c = cut_blocks 2 (blocks_of 2 ls) 0 1 (blocks_shape 2 ls) in
    let head : blocks_of 2 (block_lines c.before) ≡ c.before = blocks_only 2 c.before c.shape_before in
    let tail : blocks_of 2 (block_lines c.rest) ≡ c.rest = blocks_only 2 c.rest c.shape_rest in
    let m : 1 + line_count (block_lines c.before) ≡ suc (line_count (block_lines c.before)) = omega arith in
    let r : read_by (starts_bom text) (bom_length text) (lines_of (behind_bom text)) ≡ bom_written (starts_bom text) ⊕ ((stays l ∷ []) ⊕ read 2 0 1 (blocks_of 2 ls)) =
    ap (read_by (starts_bom text) (bom_length text)) el ∙ passes_by (starts_bom text) (bom_length text) l ls e in
    let fault : (read_by (starts_bom text) (bom_length text) (lines_of (behind_bom text))).fault ≡ (read 2 0 1 (blocks_of 2 ls)).fault = ap (λ (y : Reading). y.fault) r in
    record {
      head = l;
      before = block_lines c.before;
      rest = block_lines c.rest;
      cut = el ∙ ap (λ (ms : List (List ℕ)). l ∷ ms) (sym (blocks_joined 2 ls) ∙ c.cut);
      heads = e;
      closed = λ h. c.closed (subst (λ (i : ℕ). 0 < i) fault h);
      passes = ap (λ (bs : List Block). (read 2 0 1 bs).fault) head ∙ c.passes;
      parts =
          ap (λ (y : Reading). y.parts) r
          ∙ ap (λ (ps : List Part). bom_written (starts_bom text) ++ (stays l ∷ ps)) (c.parts ∙ ap (blocks_said 2 1) (sym head));
      stops =
          subst (λ (bs : List Block). BlocksStop 2 0 (suc (line_count (block_lines c.before))) bs (read_by (starts_bom text) (bom_length text) (lines_of (behind_bom text))).fault) (sym tail)
          (stops_same 2 c.rest (bom_behind 0 (block_lines c.before)) 0 (1 + line_count (block_lines c.before)) (suc (line_count (block_lines c.before)))
          (read 2 0 1 (blocks_of 2 ls)).fault (read_by (starts_bom text) (bom_length text) (lines_of (behind_bom text))).fault
          (mark_zero (block_lines c.before)) m (sym fault) c.stops);
    }

pub vtt_before : (text : List ℕ) → VttBefore text
vtt_before text = by_lines (lines_of (behind_bom text)) refl
  where
    by_head : (l : List ℕ) (ls : List (List ℕ)) → lines_of (behind_bom text) ≡ l ∷ ls → (k : ℕ) → head_fault (bom_length text) l ≡ k → VttBefore text
    by_head l ls el zero e = inr (behind_first_lem text l ls el e)
    by_head l ls el (suc k) e =
        inl (first_stop text (bom_length text) (l ∷ ls) (suc k) refl (sym el) (stops_by (starts_bom text) (bom_length text) l ls k e) (sym e, omega arith))

    by_lines : (ls : List (List ℕ)) → lines_of (behind_bom text) ≡ ls → VttBefore text
    by_lines [] el = inl (first_stop text (bom_length text) [] 24 refl (sym el) (none_by (starts_bom text) (bom_length text)) refl)
    by_lines (l ∷ ls) el = by_head l ls el (head_fault (bom_length text) l) refl

-- ---- without a fault
first_positive : (x : ℕ) (ls : List (List ℕ)) (k : ℕ) → FirstStops x ls k → 0 < k
first_positive x [] k h = omega (arith, h)
first_positive x (l ∷ ls) k h = h.1

whole_behind : (text : List ℕ) → (plain_read 2 true text).fault ≡ 0 → VttBehind text → (plain_read 2 true text).parts ≡ vtt_said text
unfolding vtt_said
whole_behind text e r =
    let none = rest_none 2 0 (suc (line_count r.before)) (plain_read 2 true text).fault (blocks_of 2 r.rest) r.stops e in
    let rest : r.rest ≡ [] = sym (blocks_joined 2 r.rest) ∙ ap block_lines none in
    let whole : lines_of (behind_bom text) ≡ r.head ∷ r.before = r.cut ∙ ap (λ (k : List (List ℕ)). r.head ∷ (r.before ++ k)) rest ∙ ap (λ (k : List (List ℕ)). r.head ∷ k) (append-nil r.before) in
    r.parts ∙ ap (λ (ms : List (List ℕ)). bom_written (starts_bom text) ++ head_said ms) (sym whole)

pub vtt_whole : VttWhole
vtt_whole text e =
    ⊎_elim
    (λ r. absurd (let z : 0 < (plain_read 2 true text).fault = first_positive (bom_length text) (lines_of (behind_bom text)) (plain_read 2 true text).fault r.stops in omega arith))
    (λ r. whole_behind text e r) (vtt_before text)
