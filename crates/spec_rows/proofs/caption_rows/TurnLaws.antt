-- Laws of one line taken.
use mathlib.Core.Path.{◌≡◌, refl, sym, ap, ap₂, ◌∙◌}
use mathlib.Core.Bool.{Bool, true, false, cond}
use mathlib.Core.List.{List}
use Prim.Native.Nat.{ℕ, suc, ◌+◌, ◌≤◌, ◌<◌, ◌^◌}
use native.Mathlib.Omega.{arith}
use native.Mathlib.Numerals.{add-one}
use borrow.Author.Tests.{eq-eqb, ne_eqb, le-leb, lt-leb}
use lib.Dec.{eqb}
use lib.ListN.{length}
use Rattle.spec_base.specs.base.Limits.{most_line, most_block}
use Rattle.spec_base.specs.base.Refusal.{◌or_else◌, fault_unless}
use Rattle.spec_text.specs.utf8.Utf8.{utf8}
use Rattle.spec_text.specs.text.Line.{text_of}
use Rattle.spec_text.specs.pattern.Find.{starts}
use Rattle.spec_caption.specs.caption_fate.Bom.{bom}
use Rattle.spec_ass.specs.declared.ass_columns.Columns.{Columns}
use Rattle.spec_ass.specs.ass_line.Line.{line_says}
use Rattle.spec_ass.specs.ass_line.AssThrough.{columns_after}
use Rattle.spec_cue.specs.block_timing.Style.{blank_in}
use Rattle.promise.specs.Plain.{bom_length, line_fault}
use Rattle.spec_rows.specs.declared.caption_rows.Said.{Said}
use Rattle.spec_rows.specs.caption_rows.Said.{at_fault, line_said, block_said}
use Rattle.spec_rows.specs.caption_rows.Walk.{ass_turn, ass_next, block_turn, block_from, block_first}
use Rattle.spec_machine.proofs.kinds.ColumnBounds.{text_length}

-- ---- 19, 20
pub fault_19 : (x : ℕ) (l : List ℕ) → most_line < x + length l → 19 ≡ line_fault x l
unfolding line_fault ◌or_else◌ fault_unless
fault_19 x l h = rw (lt-leb (x + length l) most_line h)

pub fault_20 : (x : ℕ) (l : List ℕ) (b : Bool) → x + length l ≤ most_line → b ≡ utf8 l → b ≡ false → 20 ≡ line_fault x l
unfolding line_fault ◌or_else◌ fault_unless
fault_20 x l b h e f = rw (le-leb (x + length l) most_line h, sym e ∙ f)

pub fault_none : (x : ℕ) (l : List ℕ) (b : Bool) → x + length l ≤ most_line → b ≡ utf8 l → b ≡ true → 0 ≡ line_fault x l
unfolding line_fault ◌or_else◌ fault_unless
fault_none x l b h e f = rw (le-leb (x + length l) most_line h, sym e ∙ f)

-- ---- the BOM
pub mark_yes : (t : List ℕ) (b : Bool) → b ≡ starts bom t → b ≡ true → 3 ≡ bom_length t
mark_yes t b e f = ap (λ (x : Bool). cond x 3 0) (sym f ∙ e)

pub mark_no : (t : List ℕ) (b : Bool) → b ≡ starts bom t → b ≡ false → 0 ≡ bom_length t
mark_no t b e f = ap (λ (x : Bool). cond x 3 0) (sym f ∙ e)

-- ---- an ASS line
pub ass_fault_lem : (x : ℕ) (c : Columns) (n i f k : ℕ) (l : List ℕ) (t : Said) → f ≡ line_fault x l → (f ≡ 0 → ⊥) → k ≡ n + 1 → t ≡ at_fault f k
    → (t ≡ ass_turn x c n i l) × (c ≡ ass_next x c n l)
unfolding ass_turn ass_next
ass_fault_lem x c n i f k l t e z ek et =
    let q : eqb (line_fault x l) 0 ≡ false = ap (λ (m : ℕ). eqb m 0) (sym e) ∙ ne_eqb f 0 z in
    (rw q (et ∙ ap₂ (λ (a b : ℕ). at_fault a b) e (ek ∙ add-one n)), rw q)

pub fault_s : (x : ℕ) (c : Columns) (n i f k : ℕ) (l : List ℕ) (t : Said) → f ≡ line_fault x l → (f ≡ 0 → ⊥) → k ≡ n + 1 → t ≡ at_fault f k → t ≡ ass_turn x c n i l
fault_s x c n i f k l t e z ek et = (ass_fault_lem x c n i f k l t e z ek et).0

pub fault_c : (x : ℕ) (c : Columns) (n f : ℕ) (l : List ℕ) → f ≡ line_fault x l → (f ≡ 0 → ⊥) → c ≡ ass_next x c n l
fault_c x c n f l e z = (ass_fault_lem x c n 0 f (n + 1) l (at_fault f (n + 1)) e z refl refl).1

pub turn_read : (x : ℕ) (c d : Columns) (n i f : ℕ) (l : List ℕ) (t : Said) → f ≡ line_fault x l → f ≡ 0
    → (t ≡ line_said (suc n) i (length (text_of l)) (line_says c n l)) × (d ≡ columns_after c (line_says c n l))
    → (t ≡ ass_turn x c n i l) × (d ≡ ass_next x c n l)
unfolding ass_turn ass_next
turn_read x c d n i f l t e z p =
    let q : eqb (line_fault x l) 0 ≡ true = ap (λ (m : ℕ). eqb m 0) (sym e) ∙ eq-eqb f 0 z in
    (rw q p.0, rw q p.1)

pub read_s : (x : ℕ) (c : Columns) (n i f : ℕ) (l : List ℕ) (t : Said) → f ≡ line_fault x l → f ≡ 0 → t ≡ line_said (suc n) i (length (text_of l)) (line_says c n l) → t ≡ ass_turn x c n i l
read_s x c n i f l t e z p = (turn_read x c (columns_after c (line_says c n l)) n i f l t e z (p, refl)).0

pub read_c : (x : ℕ) (c d : Columns) (n f : ℕ) (l : List ℕ) → f ≡ line_fault x l → f ≡ 0 → d ≡ columns_after c (line_says c n l) → d ≡ ass_next x c n l
read_c x c d n f l e z p = (turn_read x c d n 0 f l (line_said (suc n) 0 (length (text_of l)) (line_says c n l)) e z (refl, p)).1

-- ---- a line of blocks
module _ (kind x i f : ℕ) (b : List ℕ) (n : ℕ) (l : List ℕ) (m : ℕ) (em : m ≡ line_fault x l) where
  module _ (z : m ≡ 0 → ⊥) where
    ill : eqb (line_fault x l) 0 ≡ false
    ill = ap (λ (j : ℕ). eqb j 0) (sym em) ∙ ne_eqb m 0 z

    pub turn_fault : (t : Said) (k : ℕ) → k ≡ n + 1 → t ≡ at_fault m k → t ≡ block_turn kind x i f b n l
    unfolding block_turn
    turn_fault t k ek et = rw ill (et ∙ ap₂ (λ (a b : ℕ). at_fault a b) em (ek ∙ add-one n))

    pub fault_from : i ≡ block_from kind x i b l
    unfolding block_from
    fault_from = rw ill

    pub fault_first : f ≡ block_first kind x f n l
    unfolding block_first
    fault_first = rw ill

  module _ (z : m ≡ 0) (w : Bool) (ew : w ≡ blank_in kind l) where
    fine : eqb (line_fault x l) 0 ≡ true
    fine = ap (λ (j : ℕ). eqb j 0) (sym em) ∙ eq-eqb m 0 z

    module _ (p : w ≡ true) where
      shut : blank_in kind l ≡ true
      shut = sym ew ∙ p

      pub turn_blank : (t : Said) (k : ℕ) → k ≡ f + 1 → t ≡ block_said kind k i b → t ≡ block_turn kind x i f b n l
      unfolding block_turn
      turn_blank t k ek et = rw (fine, shut) (et ∙ ap (λ (j : ℕ). block_said kind j i b) (ek ∙ add-one f))

      pub blank_from : i + length b + length l ≡ block_from kind x i b l
      unfolding block_from
      blank_from = rw (fine, shut)

      pub blank_first : n + 1 ≡ block_first kind x f n l
      unfolding block_first
      blank_first = rw (fine, shut) (add-one n)

    module _ (p : w ≡ false) where
      open_line : blank_in kind l ≡ false
      open_line = sym ew ∙ p

      pub turn_long : (t : Said) (k : ℕ) → most_block < length b + length l → k ≡ f + 1 → t ≡ at_fault 21 k → t ≡ block_turn kind x i f b n l
      unfolding block_turn
      turn_long t k h ek et = rw (fine, open_line, lt-leb (length b + length l) most_block h) (et ∙ ap (at_fault 21) (ek ∙ add-one f))

      pub turn_more : (t : Said) → length b + length l ≤ most_block → t ≡ at_fault 0 0 → t ≡ block_turn kind x i f b n l
      unfolding block_turn
      turn_more t h et = rw (fine, open_line, le-leb (length b + length l) most_block h) et

      pub open_from : i ≡ block_from kind x i b l
      unfolding block_from
      open_from = rw (fine, open_line)

      pub open_first : f ≡ block_first kind x f n l
      unfolding block_first
      open_first = rw (fine, open_line)

pub ass_room : (i : ℕ) (l : List ℕ) → i + length l < 2 ^ 64 → i + length (text_of l) < 2 ^ 64
ass_room i l h = omega (arith, text_length l)
