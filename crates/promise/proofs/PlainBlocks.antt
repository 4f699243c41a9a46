-- SRT and WebVTT: lines, read one after the other by the machine, are their blocks as the plain reader reads them.
use mathlib.Core.Path.{◌≡◌, refl, sym, ap, ap₂, ◌∙◌}
use mathlib.Core.Bool.{Bool, true, false, cond, ◌&&◌}
use mathlib.Core.List.{List, [], ◌∷◌, ◌++◌, append-nil, append_assoc}
use Prim.Native.Nat.{ℕ, zero, suc, ◌+◌, ◌-◌}
use native.Mathlib.Omega.{arith}
use borrow.Author.Tests.{ne_eqb}
use lib.Dec.{eqb, leb}
use lib.ListN.{length, length-append}
use Rattle.spec_base.specs.base.Limits.{most_line, most_block}
use Rattle.spec_base.specs.base.Refusal.{◌or_else◌, fault_unless}
use Rattle.spec_base.proofs.base.RefusalLaws.{else_none, else_zero}
use Rattle.spec_text.specs.utf8.Utf8.{utf8}
use Rattle.spec_text.specs.text.Line.{concat, line_count}
use Rattle.spec_caption.specs.caption_fate.Says.{Part, stays, not_utf8}
use Rattle.spec_cue.specs.block_timing.Style.{style_of, blank_in}
use Rattle.spec_cue.specs.block_timing.Header.{header_due}
use Rattle.spec_cue.specs.block_cue.Block.{BlockSays, block_says, faulty as blockFaulty, says as block_said}
use Rattle.spec_format.specs.whole.Srt.{Block, block_of, onto_block, onto_blanks, blank_onto, blocks_of}
use Rattle.spec_machine.specs.session_counts.Machine.{Machine, Says, faulty}
use Rattle.spec_machine.specs.session_counts.Reader.{Reading, fails, ◌⊕◌, read_line, read_close}
use Rattle.spec_machine.specs.kinds.Takes.{State, blank_state, with_block, of_block, closes, adds, block_takes, takes, block_ends, ends, machine_of}
use Rattle.promise.specs.Plain.{line_fault, body_line_fault, unless_fault, body_fault, block_then, body_then, blanks_then, bom_behind, closes_block, blocks_read, rest_fault}
use Rattle.spec_format.proofs.whole.BlockShape.{blocks_none, blocks_blank, blocks_body}
use Rattle.promise.proofs.Bare.{passed, end_of, read_all}
use Rattle.promise.proofs.PlainAss.{rest_behind, ending}
use Rattle.spec_machine.proofs.kinds.KindLaws.{count_snoc}

-- ---- the blocks of lines behind the lines that are held
abbrev prefix : List (List ℕ) → List Block → List Block
prefix [] [] = []
prefix (k ∷ ks) [] = block_of (k ∷ ks) [] ∷ []
prefix ks (b ∷ bs) = block_of (ks ++ b.body) b.blanks ∷ bs

prefix_none : (bs : List Block) → prefix [] bs ≡ bs
prefix_none [] = refl
prefix_none (b ∷ bs) = refl

prefix_onto : (ks : List (List ℕ)) (l : List ℕ) (bs : List Block) → prefix ks (onto_block l bs) ≡ prefix (ks ++ (l ∷ [])) bs
prefix_onto [] l [] = refl
prefix_onto (k ∷ ks) l [] = refl
prefix_onto ks l (b ∷ bs) = ap (λ (x : List (List ℕ)). block_of x b.blanks ∷ bs) (sym (append_assoc ks (l ∷ []) b.body))

-- ---- faults of lines in a row
body_none : (x size : ℕ) → body_fault x size [] ≡ 0
unfolding body_fault
body_none x size = refl

pub mark_zero : (ks : List (List ℕ)) → bom_behind 0 ks ≡ 0
mark_zero [] = refl
mark_zero (k ∷ ks) = refl

body_append : (ks more : List (List ℕ)) (x size : ℕ) → body_fault x size ks ≡ 0
    → body_fault x size (ks ++ more) ≡ body_fault (bom_behind x ks) (size + length (concat ks)) more
unfolding body_fault
body_append [] more x size e = let z : size ≡ size + 0 = omega arith in ap (λ (k : ℕ). body_fault x k more) z
body_append (k ∷ ks) more x size e =
    let f = else_zero (body_line_fault x size k) (body_fault 0 (size + length k) ks) e in
    let z : size + length k + length (concat ks) ≡ size + length (k ++ concat ks) = omega (arith, length-append k (concat ks)) in
    else_none (body_fault 0 (size + length k) (ks ++ more)) f.0
    ∙ body_append ks more 0 (size + length k) f.1
    ∙ ap₂ (λ (a b : ℕ). body_fault a b more) (mark_zero ks) z

or_else_lem : (a b c j : ℕ) → a or_else b ≡ suc j → (b ≡ suc j → c ≡ suc j) → a or_else c ≡ suc j
unfolding ◌or_else◌
or_else_lem zero b c j q ih = ih q
or_else_lem (suc a) b c j q ih = q

body_faulty : (ks more : List (List ℕ)) (x size j : ℕ) → body_fault x size ks ≡ suc j → body_fault x size (ks ++ more) ≡ suc j
unfolding body_fault
body_faulty [] more x size j e = absurd (let z : ◌≡◌ {A = ℕ} 0 (suc j) = e in omega arith)
body_faulty (k ∷ ks) more x size j e =
    or_else_lem (body_line_fault x size k) (body_fault 0 (size + length k) ks) (body_fault 0 (size + length k) (ks ++ more)) j e
    (λ q. body_faulty ks more 0 (size + length k) j q)

first_line : (n n0 k : ℕ) → n ≡ n0 + k → suc n - k ≡ suc n0
first_line n n0 k e = omega arith

mark_snoc : (x : ℕ) (ks : List (List ℕ)) (l : List ℕ) → bom_behind x (ks ++ (l ∷ [])) ≡ 0
mark_snoc x [] l = refl
mark_snoc x (k ∷ ks) l = refl

else_same : (a : ℕ) → a or_else 0 ≡ a
unfolding ◌or_else◌
else_same zero = refl
else_same (suc a) = refl

body_one : (x size : ℕ) (l : List ℕ) → body_fault x size (l ∷ []) ≡ body_line_fault x size l
unfolding body_fault
body_one x size l = else_same (body_line_fault x size l)

body_snoc : (ks : List (List ℕ)) (l : List ℕ) (x : ℕ) → body_fault x 0 ks ≡ 0 → body_fault x 0 (ks ++ (l ∷ [])) ≡ body_line_fault (bom_behind x ks) (length (concat ks)) l
body_snoc ks l x e =
    let z : 0 + length (concat ks) ≡ length (concat ks) = omega arith in
    body_append ks (l ∷ []) x 0 e ∙ body_one (bom_behind x ks) (0 + length (concat ks)) l
    ∙ ap (λ (i : ℕ). body_line_fault (bom_behind x ks) i l) z

-- ---- no header is due behind a line
pub due_past : (kind n : ℕ) (b : List (List ℕ)) → header_due kind (suc n) b ≡ false
unfolding header_due
due_past kind n b = go (eqb kind 2)
  where
    go : (t : Bool) → (t && false) ≡ false
    go true = refl
    go false = refl

-- ---- a kind of blocks, where no header is due
module _ (j0 : ℕ) where
  abbrev M : Machine State
  M = machine_of (suc j0)

  takes_block : (s : State) (n : ℕ) (l : List ℕ) → header_due (suc j0) n s.block ≡ false → takes (suc j0) s n l ≡ block_takes (style_of (suc j0)) s n l
  unfolding takes
  takes_block s n l d = rw (ne_eqb (suc j0) 0 (λ q. omega arith), d)

  ends_block : (s : State) (n : ℕ) → header_due (suc j0) n s.block ≡ false → ends (suc j0) s n ≡ closes (style_of (suc j0)) s n s.block []
  unfolding ends block_ends
  ends_block s n d = rw (ne_eqb (suc j0) 0 (λ q. omega arith), d)

  -- ---- the plain reader, clause by clause
  read_none : (f : Bool) (z : Reading) (x n : ℕ) → blocks_read (suc j0) f z x n [] ≡ z
  unfolding blocks_read
  read_none f z x n = refl

  read_block : (f : Bool) (z : Reading) (x n : ℕ) (body blanks : List (List ℕ)) (bs : List Block)
      → blocks_read (suc j0) f z x n (block_of body blanks ∷ bs)
      ≡ unless_fault (body_fault x 0 body) (closes_block (suc j0) f x n body blanks (blocks_read (suc j0) f z 0 (n + line_count body + line_count blanks) bs))
  unfolding blocks_read
  read_block f z x n body blanks bs = refl

  -- a fault in the lines that stand first
  read_faulty : (f : Bool) (z : Reading) (x n j : ℕ) (ks : List (List ℕ)) (bs : List Block) → body_fault x 0 ks ≡ suc j
      → blocks_read (suc j0) f z x n (prefix ks bs) ≡ fails (suc j)
  read_faulty f z x n j [] bs e = absurd (let q : ◌≡◌ {A = ℕ} 0 (suc j) = sym (body_none x 0) ∙ e in omega arith)
  read_faulty f z x n j (k ∷ ks) [] e =
      read_block f z x n (k ∷ ks) [] []
      ∙ ap (λ (i : ℕ). unless_fault i (closes_block (suc j0) f x n (k ∷ ks) [] (blocks_read (suc j0) f z 0 (n + line_count (k ∷ ks) + 0) []))) e
  read_faulty f z x n j (k ∷ ks) (b ∷ bs) e =
      read_block f z x n ((k ∷ ks) ++ b.body) b.blanks bs
      ∙ ap (λ (i : ℕ). unless_fault i (closes_block (suc j0) f x n ((k ∷ ks) ++ b.body) b.blanks (blocks_read (suc j0) f z 0 (n + line_count ((k ∷ ks) ++ b.body) + line_count b.blanks) bs)))
      (body_faulty (k ∷ ks) b.body x 0 j e)

  -- blank lines with no block before them
  read_blanks : (f : Bool) (z : Reading) (n : ℕ) (blanks : List (List ℕ)) (bs : List Block)
      → blocks_read (suc j0) f z 0 n (block_of [] blanks ∷ bs) ≡ blanks_then blanks (blocks_read (suc j0) f z 0 (n + line_count blanks) bs)
  read_blanks f z n blanks bs =
      read_block f z 0 n [] blanks bs
      ∙ ap (λ (i : ℕ). unless_fault i (closes_block (suc j0) f 0 n [] blanks (blocks_read (suc j0) f z 0 (n + 0 + line_count blanks) bs))) (body_none 0 0)
      ∙ go f blanks (blocks_read (suc j0) f z 0 (n + 0 + line_count blanks) bs)
      ∙ (let e : n + 0 + line_count blanks ≡ n + line_count blanks = omega arith in ap (λ (i : ℕ). blanks_then blanks (blocks_read (suc j0) f z 0 i bs)) e)
    where
      go : (f : Bool) (blanks : List (List ℕ)) (after : Reading) → closes_block (suc j0) f 0 n [] blanks after ≡ blanks_then blanks after
      go true [] after = refl
      go false [] after = refl
      go true (l ∷ ls) after = refl
      go false (l ∷ ls) after = refl

  -- a block that a blank line closes
  closes_at : (f : Bool) (x n : ℕ) (body : List (List ℕ)) (l : List ℕ) (ls : List (List ℕ)) (after : Reading)
      → closes_block (suc j0) f x n body (l ∷ ls) after ≡ unless_fault (line_fault (bom_behind x body) l) (body_then (suc j0) n body ((stays l ∷ []) ⊕ blanks_then ls after))
  closes_at true x n body l ls after = refl
  closes_at false x n body l ls after = refl

  read_closed : (f : Bool) (z : Reading) (x n : ℕ) (ks : List (List ℕ)) (l : List ℕ) (ls : List (List ℕ)) (bs : List Block) → body_fault x 0 ks ≡ 0
      → blocks_read (suc j0) f z x n (prefix ks (block_of [] (l ∷ ls) ∷ bs))
      ≡ unless_fault (line_fault (bom_behind x ks) l) (body_then (suc j0) n ks ((stays l ∷ []) ⊕ blanks_then ls (blocks_read (suc j0) f z 0 (suc (n + line_count ks) + line_count ls) bs)))
  read_closed f z x n ks l ls bs e =
      ap (λ (b : List (List ℕ)). blocks_read (suc j0) f z x n (block_of b (l ∷ ls) ∷ bs)) (append-nil ks)
      ∙ read_block f z x n ks (l ∷ ls) bs
      ∙ ap (λ (i : ℕ). unless_fault i (closes_block (suc j0) f x n ks (l ∷ ls) (blocks_read (suc j0) f z 0 (n + line_count ks + line_count (l ∷ ls)) bs))) e
      ∙ closes_at f x n ks l ls (blocks_read (suc j0) f z 0 (n + line_count ks + line_count (l ∷ ls)) bs)
      ∙ (let q : n + line_count ks + suc (line_count ls) ≡ suc (n + line_count ks) + line_count ls = omega arith in
      ap (λ (i : ℕ). unless_fault (line_fault (bom_behind x ks) l) (body_then (suc j0) n ks ((stays l ∷ []) ⊕ blanks_then ls (blocks_read (suc j0) f z 0 i bs)))) q)

  -- a blank line, whatever comes behind it
  read_blank : (f : Bool) (z : Reading) (x n : ℕ) (ks : List (List ℕ)) (l : List ℕ) (bs : List Block) → body_fault x 0 ks ≡ 0
      → blocks_read (suc j0) f z x n (prefix ks (blank_onto l bs))
      ≡ unless_fault (line_fault (bom_behind x ks) l) (body_then (suc j0) n ks ((stays l ∷ []) ⊕ blocks_read (suc j0) f z 0 (suc (n + line_count ks)) bs))
  read_blank f z x n ks l bs e = by_blocks bs
    where
      rest : Reading → Reading
      rest r = unless_fault (line_fault (bom_behind x ks) l) (body_then (suc j0) n ks ((stays l ∷ []) ⊕ r))

      same : (i : ℕ) (bs : List Block) → i ≡ suc (n + line_count ks) → rest (blocks_read (suc j0) f z 0 i bs) ≡ rest (blocks_read (suc j0) f z 0 (suc (n + line_count ks)) bs)
      same i bs q = ap (λ (i : ℕ). rest (blocks_read (suc j0) f z 0 i bs)) q

      by_body : (body blanks : List (List ℕ)) (bs : List Block) → blocks_read (suc j0) f z x n (prefix ks (onto_blanks l body blanks bs)) ≡ rest (blocks_read (suc j0) f z 0 (suc (n + line_count ks)) (block_of body blanks ∷ bs))
      by_body [] blanks bs =
          read_closed f z x n ks l blanks bs e
          ∙ ap rest (sym (read_blanks f z (suc (n + line_count ks)) blanks bs))
      by_body (k ∷ body) blanks bs =
          read_closed f z x n ks l [] (block_of (k ∷ body) blanks ∷ bs) e
          ∙ same (suc (n + line_count ks) + 0) (block_of (k ∷ body) blanks ∷ bs) (omega arith)

      by_blocks : (bs : List Block) → blocks_read (suc j0) f z x n (prefix ks (blank_onto l bs)) ≡ rest (blocks_read (suc j0) f z 0 (suc (n + line_count ks)) bs)
      by_blocks [] = read_closed f z x n ks l [] [] e ∙ same (suc (n + line_count ks) + 0) [] (omega arith)
      by_blocks (b ∷ bs) = by_body b.body b.blanks bs

  -- ---- the machine, line by line
  -- a block that a line or a finish ends
  of_block_lem : (s : State) (more : List Part) (x : BlockSays) (after : State → Reading)
      → read_line M true (of_block s more x) after ≡ block_then x (more ⊕ after (with_block [] s))
  of_block_lem s more (blockFaulty f) after = refl
  of_block_lem s more (block_said p) after = refl

  closes_then : (s : State) (n n0 : ℕ) (ks : List (List ℕ)) (more : List Part) (after : State → Reading) → n ≡ n0 + line_count ks
      → read_line M true (closes (style_of (suc j0)) s n ks more) after ≡ body_then (suc j0) n0 ks (more ⊕ after (with_block [] s))
  closes_then s n n0 [] more after e = refl
  closes_then s n n0 (k ∷ ks) more after e =
      of_block_lem s more (block_says (style_of (suc j0)) (suc n - line_count (k ∷ ks)) (k ∷ ks)) after
      ∙ ap (λ (i : ℕ). block_then (block_says (style_of (suc j0)) i (k ∷ ks)) (more ⊕ after (with_block [] s))) (first_line n n0 (line_count (k ∷ ks)) e)

  blank_checks : (a b : Bool) (x : Says State) (after : State → Reading) (r : Reading) → read_line M true x after ≡ r
      → read_line M a (cond b x (faulty not_utf8)) after ≡ unless_fault (fault_unless a 19 or_else fault_unless b 20) r
  unfolding fault_unless ◌or_else◌
  blank_checks true true x after r e = e
  blank_checks true false x after r e = refl
  blank_checks false b x after r e = refl

  takes_blank : (s : State) (n : ℕ) (l : List ℕ) → header_due (suc j0) n s.block ≡ false → blank_in (suc j0) l ≡ true → takes (suc j0) s n l ≡ cond (utf8 l) (closes (style_of (suc j0)) s n s.block (stays l ∷ [])) (faulty not_utf8)
  unfolding block_takes
  takes_blank s n l d e = takes_block s n l d ∙ rw e

  takes_body : (s : State) (n : ℕ) (l : List ℕ) → header_due (suc j0) n s.block ≡ false → blank_in (suc j0) l ≡ false
      → takes (suc j0) s n l ≡ cond (utf8 l) (adds (leb (length (concat s.block) + length l) most_block) s l) (faulty not_utf8)
  unfolding block_takes
  takes_body s n l d e = takes_block s n l d ∙ rw e

  blank_line_lem : (x : ℕ) (s : State) (n n0 : ℕ) (l : List ℕ) (after : State → Reading) → n ≡ n0 + line_count s.block → header_due (suc j0) n s.block ≡ false → blank_in (suc j0) l ≡ true
      → read_line M (leb (x + length l) most_line) (takes (suc j0) s n l) after
      ≡ unless_fault (line_fault x l) (body_then (suc j0) n0 s.block ((stays l ∷ []) ⊕ after (with_block [] s)))
  unfolding line_fault
  blank_line_lem x s n n0 l after e d p =
      ap (λ (y : Says State). read_line M (leb (x + length l) most_line) y after) (takes_blank s n l d p)
      ∙ blank_checks (leb (x + length l) most_line) (utf8 l) (closes (style_of (suc j0)) s n s.block (stays l ∷ [])) after
      (body_then (suc j0) n0 s.block ((stays l ∷ []) ⊕ after (with_block [] s))) (closes_then s n n0 s.block (stays l ∷ []) after e)

  body_checks : (a b c : Bool) (s : State) (l : List ℕ) (after : State → Reading)
      → read_line M a (cond b (adds c s l) (faulty not_utf8)) after
      ≡ unless_fault ((fault_unless a 19 or_else fault_unless b 20) or_else fault_unless c 21) (after (with_block (s.block ++ (l ∷ [])) s))
  unfolding fault_unless ◌or_else◌
  body_checks true true true s l after = refl
  body_checks true true false s l after = refl
  body_checks true false c s l after = refl
  body_checks false b c s l after = refl

  body_line : (x : ℕ) (s : State) (n : ℕ) (l : List ℕ) (after : State → Reading) → header_due (suc j0) n s.block ≡ false → blank_in (suc j0) l ≡ false
      → read_line M (leb (x + length l) most_line) (takes (suc j0) s n l) after
      ≡ unless_fault (body_line_fault x (length (concat s.block)) l) (after (with_block (s.block ++ (l ∷ [])) s))
  unfolding body_line_fault line_fault
  body_line x s n l after d p =
      ap (λ (y : Says State). read_line M (leb (x + length l) most_line) y after) (takes_body s n l d p)
      ∙ body_checks (leb (x + length l) most_line) (utf8 l) (leb (length (concat s.block) + length l) most_block) s l after

  -- ---- the end
  close_block : (s : State) (x : BlockSays) → read_close M (of_block s [] x) ≡ block_then x (fails 0)
  close_block s (blockFaulty f) = refl
  close_block s (block_said p) = refl

  close_read : (s : State) (n n0 : ℕ) (ks : List (List ℕ)) → n ≡ n0 + line_count ks → read_close M (closes (style_of (suc j0)) s n ks []) ≡ body_then (suc j0) n0 ks (fails 0)
  close_read s n n0 [] e = refl
  close_read s n n0 (k ∷ ks) e =
      close_block s (block_says (style_of (suc j0)) (suc n - line_count (k ∷ ks)) (k ∷ ks))
      ∙ ap (λ (i : ℕ). block_then (block_says (style_of (suc j0)) i (k ∷ ks)) (fails 0)) (first_line n n0 (line_count (k ∷ ks)) e)

  -- lines that no blank line has closed
  read_open : (f : Bool) (z : Reading) (x n : ℕ) (ks : List (List ℕ)) → body_fault x 0 ks ≡ 0 → blocks_read (suc j0) f z x n (prefix ks []) ≡ closes_block (suc j0) f x n ks [] z
  read_open true z x n [] e = read_none true z x n
  read_open false z x n [] e = read_none false z x n
  read_open f z x n (k ∷ ks) e =
      read_block f z x n (k ∷ ks) [] []
      ∙ ap (λ (i : ℕ). unless_fault i (closes_block (suc j0) f x n (k ∷ ks) [] (blocks_read (suc j0) f z 0 (n + line_count (k ∷ ks) + 0) []))) e
      ∙ ap (closes_block (suc j0) f x n (k ∷ ks) []) (read_none f z 0 (n + line_count (k ∷ ks) + 0))

  end_read : (f : Bool) (x : ℕ) (r : List ℕ) (s : State) (n n0 : ℕ) → n ≡ n0 + line_count s.block → header_due (suc j0) n s.block ≡ false → body_fault x 0 s.block ≡ 0
      → end_of M f (bom_behind x s.block) r s n ≡ blocks_read (suc j0) f (ending f (bom_behind x s.block) [] r) x n0 (prefix s.block [])
  end_read true x r s n n0 e d g =
      ap (read_close M) (ends_block s n d) ∙ close_read s n n0 s.block e
      ∙ sym (read_open true (fails 0) x n0 s.block g)
  end_read false x r s n n0 e d g = sym (read_open false (ending false (bom_behind x s.block) [] r) x n0 s.block g)

  -- ---- all lines: s holds the open block's lines, which have passed their checks, and n0 lines came before them; no header is due
  abbrev Reads : Bool → List (List ℕ) → List ℕ → Type 0
  Reads f ls r =
      (x : ℕ) (s : State) (n n0 : ℕ) → n ≡ n0 + line_count s.block → header_due (suc j0) n s.block ≡ false → body_fault x 0 s.block ≡ 0
      → read_all M f (bom_behind x s.block) ls r s n ≡ blocks_read (suc j0) f (ending f (bom_behind x s.block) ls r) x n0 (prefix s.block (blocks_of (suc j0) ls))

  by_fault : (f : Bool) (l : List ℕ) (ls : List (List ℕ)) (r : List ℕ) → Reads f ls r → (x : ℕ) (s : State) (n n0 : ℕ) → n ≡ n0 + line_count s.block → body_fault x 0 s.block ≡ 0
      → (k : ℕ) → body_line_fault (bom_behind x s.block) (length (concat s.block)) l ≡ k
      → unless_fault k (read_all M f 0 ls r (with_block (s.block ++ (l ∷ [])) s) (suc n))
      ≡ blocks_read (suc j0) f (ending f (bom_behind x s.block) (l ∷ ls) r) x n0 (prefix (s.block ++ (l ∷ [])) (blocks_of (suc j0) ls))
  by_fault f l ls r ih x s n n0 e g zero h =
      let q : suc n ≡ n0 + line_count (s.block ++ (l ∷ [])) = omega (arith, count_snoc s.block l) in
      ap (λ (i : ℕ). read_all M f i ls r (with_block (s.block ++ (l ∷ [])) s) (suc n)) (sym (mark_snoc x s.block l))
      ∙ ih x (with_block (s.block ++ (l ∷ [])) s) (suc n) n0 q (due_past (suc j0) n (s.block ++ (l ∷ []))) (body_snoc s.block l x g ∙ h)
      ∙ ap (λ (i : ℕ). blocks_read (suc j0) f (fails i) x n0 (prefix (s.block ++ (l ∷ [])) (blocks_of (suc j0) ls)))
      (ap (λ (i : ℕ). rest_fault f i ls r) (mark_snoc x s.block l) ∙ rest_behind f (bom_behind x s.block) l ls r)
  by_fault f l ls r ih x s n n0 e g (suc j) h =
      sym (read_faulty f (ending f (bom_behind x s.block) (l ∷ ls) r) x n0 j (s.block ++ (l ∷ [])) (blocks_of (suc j0) ls) (body_snoc s.block l x g ∙ h))

  blank_next_lem : (f : Bool) (l : List ℕ) (ls : List (List ℕ)) (r : List ℕ) → Reads f ls r → blank_in (suc j0) l ≡ true → Reads f (l ∷ ls) r
  blank_next_lem f l ls r ih p x s n n0 e d g =
      let y : ℕ = bom_behind x s.block in
      let q : suc n ≡ suc n + 0 = omega arith in
      let m : suc n ≡ suc (n0 + line_count s.block) = omega arith in
      blank_line_lem y s n n0 l (λ t. read_all M f 0 ls r t (suc n)) e d p
      ∙ ap (λ (w : Reading). unless_fault (line_fault y l) (body_then (suc j0) n0 s.block ((stays l ∷ []) ⊕ w)))
      (ih 0 (with_block [] s) (suc n) (suc n) q (due_past (suc j0) n []) (body_none 0 0)
      ∙ ap (λ (bs : List Block). blocks_read (suc j0) f (ending f 0 ls r) 0 (suc n) bs) (prefix_none (blocks_of (suc j0) ls))
      ∙ ap₂ (λ (i j : ℕ). blocks_read (suc j0) f (fails i) 0 j (blocks_of (suc j0) ls)) (rest_behind f y l ls r) m)
      ∙ sym (read_blank f (ending f y (l ∷ ls) r) x n0 s.block l (blocks_of (suc j0) ls) g)
      ∙ ap (λ (bs : List Block). blocks_read (suc j0) f (ending f y (l ∷ ls) r) x n0 (prefix s.block bs)) (sym (blocks_blank (suc j0) l ls p))

  body_next : (f : Bool) (l : List ℕ) (ls : List (List ℕ)) (r : List ℕ) → Reads f ls r → blank_in (suc j0) l ≡ false → Reads f (l ∷ ls) r
  body_next f l ls r ih p x s n n0 e d g =
      let y : ℕ = bom_behind x s.block in
      let z : Reading = ending f y (l ∷ ls) r in
      let ks : List (List ℕ) = s.block ++ (l ∷ []) in
      body_line y s n l (λ t. read_all M f 0 ls r t (suc n)) d p
      ∙ by_fault f l ls r ih x s n n0 e g (body_line_fault y (length (concat s.block)) l) refl
      ∙ ap (blocks_read (suc j0) f z x n0) (sym (prefix_onto s.block l (blocks_of (suc j0) ls)))
      ∙ ap (λ (bs : List Block). blocks_read (suc j0) f z x n0 (prefix s.block bs)) (sym (blocks_body (suc j0) l ls p))

  next_line : (f : Bool) (l : List ℕ) (ls : List (List ℕ)) (r : List ℕ) → Reads f ls r → (b : Bool) → blank_in (suc j0) l ≡ b → Reads f (l ∷ ls) r
  next_line f l ls r ih true p = blank_next_lem f l ls r ih p
  next_line f l ls r ih false p = body_next f l ls r ih p

  pub block_reads : (f : Bool) (ls : List (List ℕ)) (r : List ℕ) → Reads f ls r
  block_reads f [] r x s n n0 e d g =
      end_read f x r s n n0 e d g
      ∙ ap (λ (bs : List Block). blocks_read (suc j0) f (ending f (bom_behind x s.block) [] r) x n0 (prefix s.block bs)) (sym (blocks_none (suc j0)))
  block_reads f (l ∷ ls) r x s n n0 e d g = next_line f l ls r (block_reads f ls r) (blank_in (suc j0) l) refl x s n n0 e d g

  -- from an empty block
  pub block_lines_lem : (f : Bool) (ls : List (List ℕ)) (x n : ℕ) (r : List ℕ) → header_due (suc j0) n [] ≡ false
      → read_all M f x ls r blank_state n ≡ blocks_read (suc j0) f (ending f x ls r) x n (blocks_of (suc j0) ls)
  block_lines_lem f ls x n r d =
      let z : n ≡ n + 0 = omega arith in
      block_reads f ls r x blank_state n n z d (body_none x 0)
      ∙ ap (blocks_read (suc j0) f (ending f x ls r) x n) (prefix_none (blocks_of (suc j0) ls))

  -- ---- the first line passes with its checks
  blank_passes : (a b : Bool) (l : List ℕ) → (a && passed (cond b (closes (style_of (suc j0)) blank_state 0 [] (stays l ∷ [])) (faulty not_utf8))) ≡ eqb (fault_unless a 19 or_else fault_unless b 20) 0
  unfolding fault_unless ◌or_else◌
  blank_passes true true l = refl
  blank_passes true false l = refl
  blank_passes false b l = refl

  body_passes : (a b c : Bool) (l : List ℕ)
      → (a && passed (cond b (adds c blank_state l) (faulty not_utf8))) ≡ eqb ((fault_unless a 19 or_else fault_unless b 20) or_else fault_unless c 21) 0
  unfolding fault_unless ◌or_else◌
  body_passes true true true l = refl
  body_passes true true false l = refl
  body_passes true false c l = refl
  body_passes false b c l = refl

  first_by : header_due (suc j0) 0 [] ≡ false → (x : ℕ) (l : List ℕ) (t : Bool) → blank_in (suc j0) l ≡ t
      → (leb (x + length l) most_line && passed (takes (suc j0) blank_state 0 l)) ≡ eqb (cond t (line_fault x l) (body_line_fault x 0 l)) 0
  unfolding line_fault body_line_fault
  first_by d x l true p =
      ap (λ (y : Says State). leb (x + length l) most_line && passed y) (takes_blank blank_state 0 l d p)
      ∙ blank_passes (leb (x + length l) most_line) (utf8 l) l
  first_by d x l false p =
      ap (λ (y : Says State). leb (x + length l) most_line && passed y) (takes_body blank_state 0 l d p)
      ∙ body_passes (leb (x + length l) most_line) (utf8 l) (leb (0 + length l) most_block) l

  pub block_first_lem : header_due (suc j0) 0 [] ≡ false → (x : ℕ) (l : List ℕ) → (leb (x + length l) most_line && passed (takes (suc j0) blank_state 0 l)) ≡ eqb (cond (blank_in (suc j0) l) (line_fault x l) (body_line_fault x 0 l)) 0
  block_first_lem d x l = first_by d x l (blank_in (suc j0) l) refl
