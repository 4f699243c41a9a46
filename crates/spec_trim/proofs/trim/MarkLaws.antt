-- Where `++` stands first, told from two bytes at a time; texts that need no trimming.
use mathlib.Core.Path.{◌≡◌, refl, sym, ap, ◌∙◌}
use mathlib.Core.Bool.{Bool, true, false, cond, true≢false}
use mathlib.Core.List.{List, [], ◌∷◌}
use Prim.Native.Nat.{ℕ, zero, suc, ◌+◌, ◌-◌, ◌≤◌, ◌<◌}
use native.Mathlib.Nat.{le_of_suc-le-suc, not-suc-le-zero}
use native.Mathlib.Omega.{arith}
use native.Mathlib.Numerals.{add-one}
use borrow.Author.Tests.{lt-ltb, le-ltb, lt-leb, eq-eqb, ne_eqb, ltb-true, ltb-false}
use lib.Dec.{eqb, ltb}
use lib.ListN.{length, drop, get_or, length-drop}
use lib.Seq.{drop-nil, take-length}
use Rattle.spec_base.proofs.base.Laws.{yes!, no! }
use Rattle.spec_text.specs.whitespace.White.{white, white_high, white_head, white_tail, trim_tail, trim}
use Rattle.spec_text.specs.pattern.Find.{starts, first}
use Rattle.spec_text.proofs.pattern.Laws.{first_hit, first_miss, first_end, stands_other}
use Rattle.spec_text.proofs.whitespace.Laws.{white_ascii, head_none, keep_found}
use Rattle.spec_text.proofs.whitespace.LastBytes.{tail_ascii}
use Rattle.spec_trim.specs.trim.Token.{mark}

-- ---- the mark
-- it stands at i where both bytes are a plus, and not where one is none
mark_both : (s : List ℕ) (i : ℕ) → suc i < length s → get_or s i 0 ≡ 0x2B → get_or s (suc i) 0 ≡ 0x2B → starts mark (drop i s) ≡ true
unfolding starts
mark_both [] i h a b = absurd (not-suc-le-zero h)
mark_both (x ∷ []) zero h a b = absurd (omega arith)
mark_both (x ∷ y ∷ s) zero h a b = sym (yes! _ (eq-eqb 0x2B x (sym a)) (yes! _ (eq-eqb 0x2B y (sym b)) refl))
mark_both (x ∷ s) (suc i) h a b = mark_both s i (le_of_suc-le-suc h) a b

same_cond : (t : Bool) → cond t false false ≡ false
same_cond true = refl
same_cond false = refl

mark_second : (s : List ℕ) (i : ℕ) → (get_or s (suc i) 0 ≡ 0x2B → ⊥) → starts mark (drop i s) ≡ false
unfolding starts
mark_second [] i n = ap (starts mark) (drop-nil i)
mark_second (x ∷ []) zero n = same_cond (eqb 0x2B x)
mark_second (x ∷ y ∷ s) zero n = ap (λ (t : Bool). cond (eqb 0x2B x) (cond t true false) false) (ne_eqb 0x2B y (λ q. n (sym q))) ∙ same_cond (eqb 0x2B x)
mark_second (x ∷ s) (suc i) n = mark_second s i n

mark_first : (s : List ℕ) (i : ℕ) → (get_or s i 0 ≡ 0x2B → ⊥) → starts mark (drop i s) ≡ false
mark_first s i n = sym (stands_other mark s i (get_or s i 0) (λ e. omega arith) refl n)

mark_short : (s : List ℕ) (i : ℕ) → length s ≤ suc i → starts mark (drop i s) ≡ false
unfolding starts
mark_short [] i h = ap (starts mark) (drop-nil i)
mark_short (x ∷ []) zero h = same_cond (eqb 0x2B x)
mark_short (x ∷ y ∷ s) zero h = absurd (omega arith)
mark_short (x ∷ s) (suc i) h = mark_short s i (le_of_suc-le-suc h)

-- the turns of the loop
module _ (s : List ℕ) (i : ℕ) (inv : first mark s ≡ i + first mark (drop i s)) where
  pub mark_found : i + 1 < length s → get_or s (i + 1) 0 ≡ 0x2B → get_or s i 0 ≡ 0x2B → i ≡ first mark s
  mark_found h b a =
      let e : suc i ≡ i + 1 = omega arith in
      let z : 0 ≡ first mark (drop i s) = first_hit mark (drop i s) (mark_both s i (omega arith) a (ap (λ (k : ℕ). get_or s k 0) e ∙ b)) in
      omega arith

  pub mark_one : i + 1 < length s → (get_or s i 0 ≡ 0x2B → ⊥) → first mark s ≡ i + 1 + first mark (drop (i + 1) s)
  mark_one h n =
      let z : first mark (drop i s) ≡ suc (first mark (drop (suc i) s)) = first_miss mark s i (omega arith) (mark_first s i n) in
      rw add-one (omega arith)

  pub mark_two : i + 1 < length s → (get_or s (i + 1) 0 ≡ 0x2B → ⊥) → first mark s ≡ i + 2 + first mark (drop (i + 2) s)
  mark_two h n =
      let e : suc i ≡ i + 1 = omega arith in
      let m : get_or s (suc i) 0 ≡ 0x2B → ⊥ = λ q. n (ap (λ (k : ℕ). get_or s k 0) (sym e) ∙ q) in
      let z : first mark (drop i s) ≡ suc (first mark (drop (suc i) s)) = first_miss mark s i (omega arith) (mark_second s i m) in
      let w : first mark (drop (suc i) s) ≡ suc (first mark (drop (suc (suc i)) s)) = first_miss mark s (suc i) (omega arith) (mark_first s (suc i) m) in
      let f : suc (suc i) ≡ i + 2 = omega arith in
      let v : first mark (drop (suc (suc i)) s) ≡ first mark (drop (i + 2) s) = ap (λ (k : ℕ). first mark (drop k s)) f in
      omega arith

  pub mark_none : i ≤ length s → length s ≤ i + 1 → length s ≡ first mark s
  mark_none l h = go (ltb i (length s)) refl
    where
      go : (t : Bool) → ltb i (length s) ≡ t → length s ≡ first mark s
      go true q =
          let k : i < length s = ltb-true i (length s) q in
          let z : first mark (drop i s) ≡ suc (first mark (drop (suc i) s)) = first_miss mark s i k (mark_short s i (omega arith)) in
          let w : 0 ≡ first mark (drop (suc i) s) = first_end mark (drop (suc i) s) (simp length-drop (omega arith)) in
          omega arith
      go false q =
          let k : length s ≤ i = ltb-false i (length s) q in
          let w : 0 ≡ first mark (drop i s) = first_end mark (drop i s) (simp length-drop (omega arith)) in
          omega arith

-- ---- a text that begins and ends with a byte from 21 to 7F is trimmed
plain_bounds : (a : ℕ) (p : Bool) → p ≡ cond (ltb a 0x21) false (ltb a 0x80) → p ≡ true → (0x21 ≤ a) × (a < 0x80)
plain_bounds a p e h = go (ltb a 0x21) (ltb a 0x80) refl refl (sym e ∙ h)
  where
    go : (x y : Bool) → ltb a 0x21 ≡ x → ltb a 0x80 ≡ y → cond x false y ≡ true → (0x21 ≤ a) × (a < 0x80)
    go true y u v q = absurd (true≢false (sym q))
    go false true u v q = (ltb-false a 0x21 u, ltb-true a 0x80 v)
    go false false u v q = absurd (true≢false (sym q))

plain_white : (a : ℕ) → 0x21 ≤ a → a < 0x80 → white a ≡ false
unfolding white white_high
plain_white a l h =
    sym (no! _ (le-ltb a 0x9 (omega arith)) (no! _ (lt-leb a 0xD (omega arith)) (no! _ (ne_eqb a 0x20 (λ e. omega arith)) (no! _ (ne_eqb a 0x85 (λ e. omega arith))
    (no! _ (ne_eqb a 0xA0 (λ e. omega arith)) (no! _ (ne_eqb a 0x1680 (λ e. omega arith)) (yes! _ (lt-ltb a 0x2000 (omega arith)) refl)))))))

plain_none : (a : ℕ) → 0x21 ≤ a → a < 0x80 → ◌≡◌ {A = ℕ} 0 (cond (white a) 1 0)
plain_none a l h = no! _ (plain_white a l h) refl

some_byte : (s : List ℕ) (a : ℕ) → a ≡ get_or s 0 0 → 0x21 ≤ a → 0 < length s
some_byte [] a e h = absurd (omega arith)
some_byte (x ∷ s) a e h = omega arith

pub trim_plain : (s : List ℕ) (a n b : ℕ) (p q : Bool) → a ≡ get_or s 0 0 → p ≡ cond (ltb a 0x21) false (ltb a 0x80) → p ≡ true
    → n ≡ length s - 1 → b ≡ get_or s n 0 → q ≡ cond (ltb b 0x21) false (ltb b 0x80) → q ≡ true → s ≡ trim s
unfolding trim
trim_plain s a n b p q ea ep hp en eb eq hq =
    let u : (0x21 ≤ a) × (a < 0x80) = plain_bounds a p ep hp in
    let v : (0x21 ≤ b) × (b < 0x80) = plain_bounds b q eq hq in
    let l : 0 < length s = some_byte s a ea u.0 in
    let h : 0 ≡ white_head s = white_ascii s a 0 ea u.1 (plain_none a u.0 u.1) in
    let t : 0 ≡ white_tail s = tail_ascii s n b 0 en eb v.1 (plain_none b v.0 v.1) in
    keep_found s s s (length s) 0 refl l (sym (take-length s)) t refl (sym (take-length s)) ∙ ap trim_tail (head_none s 0 l h refl)
