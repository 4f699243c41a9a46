-- Blocks and the plain reader: the same parts without a fault, and before one; the blocks are cut where the reader stops.
use mathlib.Core.Path.{◌≡◌, refl, sym, ap, subst, ◌∙◌}
use mathlib.Core.Bool.{true}
use mathlib.Core.List.{List, [], ◌∷◌, ◌++◌, map, append-nil, append_assoc}
use Prim.Native.Nat.{ℕ, zero, suc, ◌+◌, ◌<◌}
use native.Mathlib.Omega.{arith}
use Rattle.spec_base.specs.base.Refusal.{◌or_else◌}
use Rattle.spec_text.specs.text.Line.{line_count}
use Rattle.spec_caption.specs.caption_fate.Says.{Part, stays, fault_number}
use Rattle.spec_cue.specs.block_timing.Style.{style_of}
use Rattle.spec_cue.specs.block_cue.Block.{BlockSays, block_says, faulty as blockFaulty, says as block_said}
use Rattle.spec_format.specs.whole.Srt.{Block, block_of, block_said_then, body_said, blocks_said}
use Rattle.spec_format.proofs.whole.BlockShape.{block_lines, AllBlank, Lines, BlankBehind, Others, Blocks, lines_more, others_blocks}
use Rattle.spec_machine.specs.session_counts.Reader.{Reading, fails, ◌⊕◌}
use Rattle.promise.specs.Plain.{line_fault, unless_fault, body_fault, block_then, body_then, blanks_then, bom_behind, closes_block, blocks_read}
use Rattle.promise.specs.Whole.{block_time_fault, body_time_fault, first_blank_fault, block_fault, BlocksStop, ends_blank}
use Rattle.promise.proofs.LinesCut.{many_append}
use Rattle.promise.proofs.WholeAss.{number_positive}
use Rattle.promise.proofs.PlainBlocks.{mark_zero}

-- ---- a block by itself
abbrev part_of : BlockSays → List Part
part_of (blockFaulty f) = []
part_of (block_said p) = p ∷ []

block_faulty : (s : BlockSays) (k : ℕ) (r : Reading) → block_time_fault s ≡ suc k → block_then s r ≡ fails (suc k)
block_faulty (blockFaulty f) k r e = ap fails e
block_faulty (block_said p) k r e = absurd (let z : ◌≡◌ {A = ℕ} 0 (suc k) = e in omega arith)

block_passes : (s : BlockSays) (r : Reading) → block_time_fault s ≡ 0 → block_then s r ≡ part_of s ⊕ r
block_passes (blockFaulty f) r e = absurd (let z : 0 < fault_number f = number_positive f in omega arith)
block_passes (block_said p) r e = refl

block_said_lem : (s : BlockSays) (ps : List Part) → block_time_fault s ≡ 0 → block_said_then s ps ≡ part_of s ++ ps
block_said_lem (blockFaulty f) ps e = absurd (let z : 0 < fault_number f = number_positive f in omega arith)
block_said_lem (block_said p) ps e = refl

-- its blank lines, the first of them tested before the block's time
abbrev blanks_read : List (List ℕ) → Reading → Reading
blanks_read [] r = r
blanks_read (l ∷ ls) r = (stays l ∷ []) ⊕ blanks_then ls r

-- ---- blank lines: all pass, or they are cut at the first that has a fault
data Blanks (ls : List (List ℕ)) : Type 0 where
  all : ((r : Reading) → blanks_then ls r ≡ map stays ls ⊕ r) → Blanks ls
  some : (p : List (List ℕ)) → (l : List ℕ) → (q : List (List ℕ)) → (k : ℕ) → ls ≡ p ++ (l ∷ q) → line_fault 0 l ≡ suc k
      → ((r : Reading) → blanks_then ls r ≡ map stays p ⊕ fails (suc k)) → ((r : Reading) → blanks_then p r ≡ map stays p ⊕ r) → Blanks ls

module _ (l : List ℕ) (ls : List (List ℕ)) where
  then_blank : (k : ℕ) → line_fault 0 l ≡ k → (r : Reading) → blanks_then (l ∷ ls) r ≡ unless_fault k ((stays l ∷ []) ⊕ blanks_then ls r)
  then_blank k e r = ap (λ (i : ℕ). unless_fault i ((stays l ∷ []) ⊕ blanks_then ls r)) e

  blanks_next : line_fault 0 l ≡ 0 → Blanks ls → Blanks (l ∷ ls)
  blanks_next e (all f) = all (λ r. then_blank 0 e r ∙ ap (λ (z : Reading). (stays l ∷ []) ⊕ z) (f r))
  blanks_next e (some p m q k c g f h) =
      some (l ∷ p) m q k (ap (λ (z : List (List ℕ)). l ∷ z) c) g
      (λ r. then_blank 0 e r ∙ ap (λ (z : Reading). (stays l ∷ []) ⊕ z) (f r))
      (λ r. ap (λ (i : ℕ). unless_fault i ((stays l ∷ []) ⊕ blanks_then p r)) e ∙ ap (λ (z : Reading). (stays l ∷ []) ⊕ z) (h r))

  blanks_by : (k : ℕ) → line_fault 0 l ≡ k → Blanks ls → Blanks (l ∷ ls)
  blanks_by zero e b = blanks_next e b
  blanks_by (suc k) e b = some [] l ls k refl e (λ r. then_blank (suc k) e r) (λ r. refl)

blanks_cut : (ls : List (List ℕ)) → Blanks ls
blanks_cut [] = all (λ r. refl)
blanks_cut (l ∷ ls) = blanks_by l ls (line_fault 0 l) refl (blanks_cut ls)

-- ---- lines in a row
mark_lines : (x : ℕ) (ks : List (List ℕ)) → Lines ks → bom_behind x ks ≡ 0
mark_lines x [] h = absurd h
mark_lines x (k ∷ ks) h = refl

lines_either : (ks ls more : List (List ℕ)) → Lines (ks ++ ls) → Lines (ks ++ (ls ++ more))
lines_either [] [] more h = absurd h
lines_either [] (l ∷ ls) more h = tt
lines_either (k ∷ ks) ls more h = tt

lines_last : (ks : List (List ℕ)) (l : List ℕ) (ls : List (List ℕ)) → Lines (ks ++ (l ∷ ls))
lines_last [] l ls = tt
lines_last (k ∷ ks) l ls = tt

ended_lines : (l : List ℕ) (ls : List (List ℕ)) (bs : List Block) → BlankBehind (l ∷ ls) bs
ended_lines l ls [] = tt
ended_lines l ls (b ∷ bs) = tt

-- ---- by kind
module _ (kind : ℕ) where
  abbrev body_parts : (n : ℕ) → List (List ℕ) → List Part
  body_parts n [] = []
  body_parts n (l ∷ ls) = part_of (block_says (style_of kind) (suc n) (l ∷ ls))

  body_faulty : (n : ℕ) (body : List (List ℕ)) (k : ℕ) (r : Reading) → body_time_fault kind n body ≡ suc k → body_then kind n body r ≡ fails (suc k)
  body_faulty n [] k r e = absurd (let z : ◌≡◌ {A = ℕ} 0 (suc k) = e in omega arith)
  body_faulty n (l ∷ ls) k r e = block_faulty (block_says (style_of kind) (suc n) (l ∷ ls)) k r e

  body_passes : (n : ℕ) (body : List (List ℕ)) (r : Reading) → body_time_fault kind n body ≡ 0 → body_then kind n body r ≡ body_parts n body ⊕ r
  body_passes n [] r e = refl
  body_passes n (l ∷ ls) r e = block_passes (block_says (style_of kind) (suc n) (l ∷ ls)) r e

  body_said_lem : (n : ℕ) (body : List (List ℕ)) (ps : List Part) → body_time_fault kind n body ≡ 0 → body_said kind n body ps ≡ body_parts n body ++ ps
  body_said_lem n [] ps e = refl
  body_said_lem n (l ∷ ls) ps e = block_said_lem (block_says (style_of kind) (suc n) (l ∷ ls)) ps e

  closes_read : (x n : ℕ) (body blanks : List (List ℕ)) (r : Reading)
      → closes_block kind true x n body blanks r ≡ unless_fault (first_blank_fault (bom_behind x body) blanks) (body_then kind n body (blanks_read blanks r))
  closes_read x n body [] r = refl
  closes_read x n body (l ∷ ls) r = refl

  module _ (n : ℕ) (body : List (List ℕ)) where
    faults : (f g k : ℕ) (r : Reading) → f or_else (g or_else body_time_fault kind n body) ≡ suc k → unless_fault f (unless_fault g (body_then kind n body r)) ≡ fails (suc k)
    unfolding ◌or_else◌
    faults (suc f) g k r e = ap fails e
    faults zero (suc g) k r e = ap fails e
    faults zero zero k r e = body_faulty n body k r e

    no_faults : (f g : ℕ) (r : Reading) → f or_else (g or_else body_time_fault kind n body) ≡ 0 → unless_fault f (unless_fault g (body_then kind n body r)) ≡ body_parts n body ⊕ r
    unfolding ◌or_else◌
    no_faults (suc f) g r e = absurd (let z : ◌≡◌ {A = ℕ} (suc f) 0 = e in omega arith)
    no_faults zero (suc g) r e = absurd (let z : ◌≡◌ {A = ℕ} (suc g) 0 = e in omega arith)
    no_faults zero zero r e = body_passes n body r e

    no_time_fault : (f g : ℕ) → f or_else (g or_else body_time_fault kind n body) ≡ 0 → body_time_fault kind n body ≡ 0
    unfolding ◌or_else◌
    no_time_fault (suc f) g e = absurd (let z : ◌≡◌ {A = ℕ} (suc f) 0 = e in omega arith)
    no_time_fault zero (suc g) e = absurd (let z : ◌≡◌ {A = ℕ} (suc g) 0 = e in omega arith)
    no_time_fault zero zero e = e

  blank_part : (p q : List (List ℕ)) → AllBlank kind true (p ++ q) → AllBlank kind true p × AllBlank kind true q
  blank_part [] q h = (tt, h)
  blank_part (l ∷ p) q h = ((h.0, (blank_part p q h.1).0), (blank_part p q h.1).1)

  ends_lines : (ks ls : List (List ℕ)) → Lines ls → ends_blank kind (ks ++ ls) ≡ ends_blank kind ls
  ends_lines [] ls h = refl
  ends_lines (k ∷ []) [] h = absurd h
  ends_lines (k ∷ []) (l ∷ ls) h = refl
  ends_lines (k ∷ m ∷ ks) ls h = ends_lines (m ∷ ks) ls h

  ends_blanks : (ks ls : List (List ℕ)) → AllBlank kind true ks → ends_blank kind ls ≡ true → ends_blank kind (ks ++ ls) ≡ true
  ends_blanks [] ls h e = e
  ends_blanks (k ∷ []) [] h e = h.0
  ends_blanks (k ∷ []) (l ∷ ls) h e = e
  ends_blanks (k ∷ m ∷ ks) ls h e = ends_blanks (m ∷ ks) ls h.1 e

  -- ---- blocks, cut where the reader stops
  abbrev pub read : (x n : ℕ) → List Block → Reading
  read x n bs = blocks_read kind true (fails 0) x n bs

  pub record Cut (x n : ℕ) (bs : List Block) : Type 0 where
    pub before : List Block
    pub rest : List Block
    pub cut : block_lines bs ≡ block_lines before ++ block_lines rest
    pub shape_before : Blocks kind before
    pub shape_rest : Blocks kind rest
    pub others : Others kind bs → Others kind before
    pub ended : (ls : List (List ℕ)) → BlankBehind ls bs → BlankBehind ls before
    pub closed : 0 < (read x n bs).fault → ends_blank kind (block_lines before) ≡ true
    pub passes : (read x n before).fault ≡ 0
    pub parts : (read x n bs).parts ≡ blocks_said kind n before
    pub stops : BlocksStop kind (bom_behind x (block_lines before)) (n + line_count (block_lines before)) rest (read x n bs).fault

  pub stops_same : (rest : List Block) (x y n m k j : ℕ) → x ≡ y → n ≡ m → k ≡ j → BlocksStop kind x n rest k → BlocksStop kind y m rest j
  stops_same rest x y n m k j p r s h =
      subst (λ (i : ℕ). BlocksStop kind y m rest i) s
      (subst (λ (i : ℕ). BlocksStop kind y i rest k) r
      (subst (λ (i : ℕ). BlocksStop kind i n rest k) p h))

  -- a fault behind a block: blank lines end the block
  has_blank : (n : ℕ) (blanks : List (List ℕ)) (bs : List Block) → 0 < (read 0 n bs).fault → BlankBehind blanks bs → Lines blanks
  unfolding blocks_read
  has_blank n blanks [] g h = absurd (let z : 0 < 0 = g in omega arith)
  has_blank n blanks (b ∷ bs) g h = h

  module _ (x n : ℕ) (body : List (List ℕ)) where
    abbrev next : List (List ℕ) → ℕ
    next blanks = n + line_count body + line_count blanks

    read_block : (blanks : List (List ℕ)) (bs : List Block)
        → read x n (block_of body blanks ∷ bs)
        ≡ unless_fault (body_fault x 0 body) (unless_fault (first_blank_fault (bom_behind x body) blanks) (body_then kind n body (blanks_read blanks (read 0 (next blanks) bs))))
    unfolding blocks_read
    read_block blanks bs = ap (unless_fault (body_fault x 0 body)) (closes_read x n body blanks (read 0 (next blanks) bs))

    read_fault : (blanks : List (List ℕ)) (bs : List Block) (k : ℕ) → block_fault kind x n body blanks ≡ suc k → read x n (block_of body blanks ∷ bs) ≡ fails (suc k)
    read_fault blanks bs k e =
        read_block blanks bs
        ∙ faults n body (body_fault x 0 body) (first_blank_fault (bom_behind x body) blanks) k (blanks_read blanks (read 0 (next blanks) bs)) e

    read_pass : (blanks : List (List ℕ)) (bs : List Block) → block_fault kind x n body blanks ≡ 0
        → read x n (block_of body blanks ∷ bs) ≡ body_parts n body ⊕ blanks_read blanks (read 0 (next blanks) bs)
    read_pass blanks bs e =
        read_block blanks bs
        ∙ no_faults n body (body_fault x 0 body) (first_blank_fault (bom_behind x body) blanks) (blanks_read blanks (read 0 (next blanks) bs)) e

    said_pass : (blanks : List (List ℕ)) (bs : List Block) → block_fault kind x n body blanks ≡ 0
        → blocks_said kind n (block_of body blanks ∷ bs) ≡ body_parts n body ++ (map stays blanks ++ blocks_said kind (next blanks) bs)
    unfolding blocks_said
    said_pass blanks bs e =
        body_said_lem n body (map stays blanks ++ blocks_said kind (next blanks) bs)
        (no_time_fault n body (body_fault x 0 body) (first_blank_fault (bom_behind x body) blanks) e)

    -- a block with a fault
    here : (blanks : List (List ℕ)) (bs : List Block) (k : ℕ) → Blocks kind (block_of body blanks ∷ bs) → block_fault kind x n body blanks ≡ suc k → Cut x n (block_of body blanks ∷ bs)
    unfolding blocks_read blocks_said
    here blanks bs k h e =
        let z : 0 < suc k = omega arith in
        let m : n ≡ n + 0 = omega arith in
        let r = read_fault blanks bs k e in
        record {
          before = [];
          rest = block_of body blanks ∷ bs;
          cut = refl;
          shape_before = tt;
          shape_rest = h;
          others = λ o. tt;
          ended = λ ls o. tt;
          closed = λ o. refl;
          passes = refl;
          parts = ap (λ (y : Reading). y.parts) r;
          stops =
              stops_same (block_of body blanks ∷ bs) x x n (n + 0) (suc k) (read x n (block_of body blanks ∷ bs)).fault refl m
              (sym (ap (λ (y : Reading). y.fault) r)) (sym e, z);
        }

    -- a block whose blank lines pass up to one that has a fault
    within : (l₀ : List ℕ) (ls p : List (List ℕ)) (l : List ℕ) (q : List (List ℕ)) (k : ℕ) (bs : List Block) → Blocks kind (block_of body (l₀ ∷ ls) ∷ bs)
        → block_fault kind x n body (l₀ ∷ ls) ≡ 0 → ls ≡ p ++ (l ∷ q) → line_fault 0 l ≡ suc k
        → ((r : Reading) → blanks_then ls r ≡ map stays p ⊕ fails (suc k)) → ((r : Reading) → blanks_then p r ≡ map stays p ⊕ r)
        → Cut x n (block_of body (l₀ ∷ ls) ∷ bs)
    unfolding blocks_read blocks_said body_fault ◌or_else◌
    within l₀ ls p l q k bs h e c g f all-p =
        let z : 0 < suc k = omega arith in
        let blank : AllBlank kind true (p ++ (l ∷ q)) = subst (λ (y : List (List ℕ)). AllBlank kind true y) c h.1.1 in
        let first : AllBlank kind true (l₀ ∷ p) = (h.1.0, (blank_part p (l ∷ q) blank).0) in
        let head : List (List ℕ) = body ++ ((l₀ ∷ p) ++ []) in
        let tail : List (List ℕ) = (l ∷ q) ++ block_lines bs in
        let r : read x n (block_of body (l₀ ∷ ls) ∷ bs) ≡ body_parts n body ⊕ ((stays l₀ ∷ []) ⊕ (map stays p ⊕ fails (suc k))) =
        read_pass (l₀ ∷ ls) bs e ∙ ap (λ (y : Reading). body_parts n body ⊕ ((stays l₀ ∷ []) ⊕ y)) (f (read 0 (next (l₀ ∷ ls)) bs)) in
        let own : block_fault kind 0 (n + line_count head) [] (l ∷ q) ≡ suc k = ap (λ (i : ℕ). i or_else 0) g in
        record {
          before = block_of body (l₀ ∷ p) ∷ [];
          rest = block_of [] (l ∷ q) ∷ bs;
          cut =
              ap (λ (y : List (List ℕ)). body ++ (l₀ ∷ y)) (ap (λ (y : List (List ℕ)). y ++ block_lines bs) c ∙ append_assoc p (l ∷ q) (block_lines bs))
              ∙ sym (append_assoc body (l₀ ∷ p) tail)
              ∙ ap (λ (y : List (List ℕ)). (body ++ (l₀ ∷ y)) ++ tail) (sym (append-nil p));
          shape_before = (h.0, first, lines_last body l₀ p, tt, tt);
          shape_rest = (tt, (blank_part p (l ∷ q) blank).1, tt, ended_lines l q bs, h.4);
          others = λ o. (o.0, first, o.2, tt, tt);
          ended = λ w o. o;
          closed = λ o. ends_lines body ((l₀ ∷ p) ++ []) tt ∙ ends_blanks (l₀ ∷ p) [] first refl;
          passes =
              ap (λ (y : Reading). y.fault) (read_pass (l₀ ∷ p) [] e)
              ∙ ap (λ (y : Reading). y.fault) (all-p (fails 0));
          parts = ap (λ (y : Reading). y.parts) r ∙ sym (said_pass (l₀ ∷ p) [] e);
          stops =
              stops_same (block_of [] (l ∷ q) ∷ bs) 0 (bom_behind x head) (n + line_count head) (n + line_count head) (suc k) (read x n (block_of body (l₀ ∷ ls) ∷ bs)).fault
              (sym (mark_lines x head (lines_last body l₀ (p ++ [])))) refl (sym (ap (λ (y : Reading). y.fault) r)) (sym own, z);
        }

    -- a block that passes
    behind : (blanks : List (List ℕ)) (bs : List Block) → Blocks kind (block_of body blanks ∷ bs) → block_fault kind x n body blanks ≡ 0
        → ((r : Reading) → blanks_read blanks r ≡ map stays blanks ⊕ r) → Cut 0 (next blanks) bs → Cut x n (block_of body blanks ∷ bs)
    behind blanks bs h e f c =
        let head : List (List ℕ) = block_lines c.before in
        let tail : List (List ℕ) = block_lines c.rest in
        let reads : (cs : List Block) → read x n (block_of body blanks ∷ cs) ≡ body_parts n body ⊕ (map stays blanks ⊕ read 0 (next blanks) cs) =
        λ cs. read_pass blanks cs e ∙ ap (λ (y : Reading). body_parts n body ⊕ y) (f (read 0 (next blanks) cs)) in
        let m : next blanks + line_count head ≡ n + line_count (body ++ (blanks ++ head)) =
        omega (arith, many_append body (blanks ++ head), many_append blanks head) in
        record {
          before = block_of body blanks ∷ c.before;
          rest = c.rest;
          cut =
              ap (λ (y : List (List ℕ)). body ++ (blanks ++ y)) c.cut
              ∙ ap (λ (y : List (List ℕ)). body ++ y) (sym (append_assoc blanks head tail))
              ∙ sym (append_assoc body (blanks ++ head) tail);
          shape_before = (h.0, h.1, h.2, c.ended blanks h.3, c.others h.4);
          shape_rest = c.shape_rest;
          others = λ o. (o.0, o.1, o.2, c.ended blanks o.3, c.others o.4);
          ended = λ w o. o;
          closed =
              λ o. let g : 0 < (read 0 (next blanks) bs).fault = subst (λ (i : ℕ). 0 < i) (ap (λ (y : Reading). y.fault) (reads bs)) o in
              ends_lines body (blanks ++ head) (lines_more blanks head (has_blank (next blanks) blanks bs g h.3))
              ∙ ends_blanks blanks head h.1 (c.closed g);
          passes = ap (λ (y : Reading). y.fault) (reads c.before) ∙ c.passes;
          parts =
              ap (λ (y : Reading). y.parts) (reads bs)
              ∙ ap (λ (y : List Part). body_parts n body ++ (map stays blanks ++ y)) c.parts
              ∙ sym (said_pass blanks c.before e);
          stops =
              stops_same c.rest (bom_behind 0 head) (bom_behind x (body ++ (blanks ++ head))) (next blanks + line_count head) (n + line_count (body ++ (blanks ++ head)))
              (read 0 (next blanks) bs).fault (read x n (block_of body blanks ∷ bs)).fault
              (mark_zero head ∙ sym (mark_lines x (body ++ (blanks ++ head)) (lines_either body blanks head h.2))) m
              (sym (ap (λ (y : Reading). y.fault) (reads bs))) c.stops;
        }

    by_blanks : (l : List ℕ) (ls : List (List ℕ)) (bs : List Block) → Blocks kind (block_of body (l ∷ ls) ∷ bs) → block_fault kind x n body (l ∷ ls) ≡ 0
        → Cut 0 (next (l ∷ ls)) bs → Blanks ls → Cut x n (block_of body (l ∷ ls) ∷ bs)
    by_blanks l ls bs h e c (all f) = behind (l ∷ ls) bs h e (λ r. ap (λ (y : Reading). (stays l ∷ []) ⊕ y) (f r)) c
    by_blanks l ls bs h e c (some p m q k d g f i) = within l ls p m q k bs h e d g f i

    by_fault : (blanks : List (List ℕ)) (bs : List Block) (k : ℕ) → block_fault kind x n body blanks ≡ k → Blocks kind (block_of body blanks ∷ bs)
        → Cut 0 (next blanks) bs → Cut x n (block_of body blanks ∷ bs)
    by_fault blanks bs (suc k) e h c = here blanks bs k h e
    by_fault [] bs zero e h c = behind [] bs h e (λ r. refl) c
    by_fault (l ∷ ls) bs zero e h c = by_blanks l ls bs h e c (blanks_cut ls)

  pub cut_blocks : (bs : List Block) (x n : ℕ) → Blocks kind bs → Cut x n bs
  unfolding blocks_read blocks_said
  cut_blocks [] x n h =
      record {
        before = [];
        rest = [];
        cut = refl;
        shape_before = tt;
        shape_rest = tt;
        others = λ o. tt;
        ended = λ ls o. tt;
        closed = λ o. refl;
        passes = refl;
        parts = refl;
        stops = refl;
      }
  cut_blocks (b ∷ bs) x n h =
      by_fault x n b.body b.blanks bs (block_fault kind x n b.body b.blanks) refl h
      (cut_blocks bs 0 (n + line_count b.body + line_count b.blanks) (others_blocks kind bs h.4))

  -- without a fault nothing is left behind the cut
  pub rest_none : (x n k : ℕ) (rest : List Block) → BlocksStop kind x n rest k → k ≡ 0 → rest ≡ []
  rest_none x n k [] h e = refl
  rest_none x n k (b ∷ bs) h e = absurd (let z : 0 < k = h.1 in omega arith)
