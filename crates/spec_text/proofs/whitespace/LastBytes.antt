-- The last bytes of a text: how white space at the end is told from the last one, two or three bytes.
use mathlib.Core.Path.{◌≡◌, refl, sym, ap, subst, ◌∙◌}
use mathlib.Core.Bool.{Bool, true, false}
use mathlib.Core.List.{List, [], ◌∷◌, ◌++◌}
use Prim.Native.Nat.{ℕ, ◌+◌, ◌-◌, ◌≤◌, ◌<◌}
use native.Mathlib.Nat.{le_refl}
use native.Mathlib.Omega.{arith}
use borrow.Author.Tests.{lt-ltb, le-ltb, lt-leb, ne_eqb, ltb-true}
use lib.Dec.{eqb, ltb}
use lib.ListN.{length, take, drop, get_or, length-append}
use lib.Seq.{take-suc, get_or-drop, get_or-append-add, drop-append-add, take-length}
use mathlib.Core.Bool.{cond}
use Rattle.spec_text.specs.utf8.Utf8.{lead_len, second_low, second_high, tail, width_by, char_width, code_by, code_head}
use Rattle.spec_base.specs.base.Part.{last}
use Rattle.spec_text.specs.whitespace.White.{white, white_high, white_head, ends_white, white_tail}
use Rattle.spec_base.proofs.base.Laws.{yes!, no! }
use Rattle.spec_text.proofs.whitespace.Laws.{white_ascii}

-- ---- bounds on a character's width
-- no character begins with a continuation byte
stray : (b : ℕ) (r : List ℕ) → 0x80 ≤ b → b < 0xC2 → char_width (b ∷ r) ≡ 0
unfolding char_width width_by lead_len
stray b r l h =
    let n : 0 ≡ lead_len b = no! _ (le-ltb _ _ l) (yes! _ (lt-ltb _ _ h) refl) in
    sym (subst (λ (n : ℕ). 0 ≡ width_by n b (get_or r 0 0) (get_or r 1 0) (get_or r 2 0)) n refl)

pub low_least : (a : ℕ) → 0x80 ≤ second_low a
unfolding second_low
low_least a = go (eqb a 0xE0) (eqb a 0xF0)
  where
    go : (x y : Bool) → 0x80 ≤ cond x 0xA0 (cond y 0x90 0x80)
    go true y = omega arith
    go false true = omega arith
    go false false = omega arith

pub high_most : (a : ℕ) → second_high a ≤ 0xBF
unfolding second_high
high_most a = go (eqb a 0xED) (eqb a 0xF4)
  where
    go : (x y : Bool) → cond x 0x9F (cond y 0x8F 0xBF) ≤ 0xBF
    go true y = omega arith
    go false true = omega arith
    go false false = omega arith

-- a second byte outside 80 to BF makes no character of two bytes or more
short_low : (n a b c d : ℕ) → b < 0x80 → width_by n a b c d ≤ 1
unfolding width_by
short_low n a b c d h = go (ltb n 2) refl
  where
    go : (x : Bool) → ltb n 2 ≡ x → cond x n (cond (ltb b (second_low a)) 0 (cond (ltb (second_high a) b) 0 (cond (eqb n 2) 2 (cond (tail c) (cond (eqb n 3) 3 (cond (tail d) 4 0)) 0)))) ≤ 1
    go true e = omega (arith, ltb-true n 2 e)
    go false e = subst (λ (m : ℕ). m ≤ 1) (yes! _ (lt-ltb b (second_low a) (omega (arith, low_least a))) refl) (omega arith)

short_high : (n a b c d : ℕ) → 0xBF < b → width_by n a b c d ≤ 1
unfolding width_by
short_high n a b c d h = go (ltb n 2) (ltb b (second_low a)) refl
  where
    go : (x y : Bool) → ltb n 2 ≡ x → cond x n (cond y 0 (cond (ltb (second_high a) b) 0 (cond (eqb n 2) 2 (cond (tail c) (cond (eqb n 3) 3 (cond (tail d) 4 0)) 0)))) ≤ 1
    go true y e = omega (arith, ltb-true n 2 e)
    go false true e = omega arith
    go false false e = subst (λ (m : ℕ). m ≤ 1) (yes! _ (lt-ltb (second_high a) b (omega (arith, high_most a))) refl) (omega arith)

-- a third byte below 80 makes none of three or more
short_third : (n a b c d : ℕ) → c < 0x80 → width_by n a b c d ≤ 2
unfolding width_by tail
short_third n a b c d h = go (ltb n 2) (ltb b (second_low a)) (ltb (second_high a) b) (eqb n 2) refl
  where
    go : (x y z w : Bool) → ltb n 2 ≡ x → cond x n (cond y 0 (cond z 0 (cond w 2 (cond (cond (ltb c 0x80) false (ltb c 0xC0)) (cond (eqb n 3) 3 (cond (tail d) 4 0)) 0)))) ≤ 2
    go true y z w e = omega (arith, ltb-true n 2 e)
    go false true z w e = omega arith
    go false false true w e = omega arith
    go false false false true e = omega arith
    go false false false false e = subst (λ (m : ℕ). m ≤ 2) (no! _ (sym (yes! _ (lt-ltb c 0x80 h) refl)) refl) (omega arith)

head_most : (l : List ℕ) → white_head l ≤ char_width l
unfolding white_head
head_most l = go (white (code_head l))
  where
    go : (x : Bool) → cond x (char_width l) 0 ≤ char_width l
    go true = le_refl _
    go false = omega arith

-- ---- the last bytes of s ++ e
last_within : (s e : List ℕ) (k : ℕ) → k ≤ length e → last (s ++ e) k ≡ drop (length e - k) e
unfolding last
last_within s e k h =
    let n : length (s ++ e) - k ≡ length s + (length e - k) = rw length-append (omega arith) in
    ap (λ (m : ℕ). drop m (s ++ e)) n ∙ drop-append-add s e (length e - k)

-- byte j of the last k bytes of s ++ e, where these reach i bytes into s, or s has fewer
last_byte : (s e : List ℕ) (k i j : ℕ) → k ≡ i + length e → i ≤ length s → get_or (last (s ++ e) k) (i + j) 0 ≡ get_or e j 0
unfolding last
last_byte s e k i j q h =
    let n : length (s ++ e) - k + (i + j) ≡ length s + j = rw length-append (omega arith) in
    get_or-drop (length (s ++ e) - k) (s ++ e) (i + j) 0 ∙ ap (λ (m : ℕ). get_or (s ++ e) m 0) n ∙ get_or-append-add s e j 0

last_all : (s e : List ℕ) (k : ℕ) → length s + length e ≤ k → last (s ++ e) k ≡ s ++ e
unfolding last
last_all s e k h =
    let n : length (s ++ e) - k ≡ 0 = rw length-append (omega arith) in
    ap (λ (m : ℕ). drop m (s ++ e)) n

not_ends : (s : List ℕ) (k m : ℕ) → char_width (last s k) ≤ m → m < k → ends_white s k ≡ false
unfolding ends_white
not_ends s k m h l = ne_eqb (white_head (last s k)) k (λ e. omega (arith, head_most (last s k)))

width_low : (l : List ℕ) → get_or l 1 0 < 0x80 → char_width l ≤ 1
unfolding char_width
width_low l h = short_low _ _ _ _ _ h

width_high : (l : List ℕ) → 0xBF < get_or l 1 0 → char_width l ≤ 1
unfolding char_width
width_high l h = short_high _ _ _ _ _ h

width_third : (l : List ℕ) → get_or l 2 0 < 0x80 → char_width l ≤ 2
unfolding char_width
width_third l h = short_third _ _ _ _ _ h

-- e, whole, at the end
own : (s e : List ℕ) (w : Bool) → white_head (e ++ []) ≡ cond w (length e) 0 → e ++ [] ≡ e → ends_white (s ++ e) (length e) ≡ eqb (cond w (length e) 0) (length e)
unfolding ends_white
own s e w h n =
    let z : length e - length e ≡ 0 = omega arith in
    ap (λ (l : List ℕ). eqb (white_head l) (length e)) (last_within s e (length e) (le_refl _) ∙ ap (λ (m : ℕ). drop m e) z ∙ sym n) ∙ ap (λ (m : ℕ). eqb m (length e)) h

-- a continuation byte begins what is looked at
stray_end : (s e : List ℕ) (k b : ℕ) (r : List ℕ) → k ≤ length e → 0 < k → drop (length e - k) e ≡ b ∷ r → 0x80 ≤ b → b < 0xC2 → ends_white (s ++ e) k ≡ false
stray_end s e k b r h p q l m =
    not_ends (s ++ e) k 0 (subst (λ (n : ℕ). n ≤ 0) (sym (ap char_width (last_within s e k h ∙ q) ∙ stray b r l m)) (omega arith)) p

tail_1 : (l : List ℕ) (w : Bool) → ends_white l 1 ≡ eqb (cond w 1 0) 1 → ends_white l 2 ≡ false → ends_white l 3 ≡ false → white_tail l ≡ cond w 1 0
unfolding white_tail
tail_1 l true a b c = sym (yes! _ a refl)
tail_1 l false a b c = sym (no! _ a (no! _ b (no! _ c refl)))

tail_2 : (l : List ℕ) (w : Bool) → ends_white l 1 ≡ false → ends_white l 2 ≡ eqb (cond w 2 0) 2 → ends_white l 3 ≡ false → white_tail l ≡ cond w 2 0
unfolding white_tail
tail_2 l true a b c = sym (no! _ a (yes! _ b refl))
tail_2 l false a b c = sym (no! _ a (no! _ b (no! _ c refl)))

tail_3 : (l : List ℕ) (w : Bool) → ends_white l 1 ≡ false → ends_white l 2 ≡ false → ends_white l 3 ≡ eqb (cond w 3 0) 3 → white_tail l ≡ cond w 3 0
unfolding white_tail
tail_3 l true a b c = sym (no! _ a (no! _ b (yes! _ c refl)))
tail_3 l false a b c = sym (no! _ a (no! _ b (no! _ c refl)))

tail_none : (l : List ℕ) → ends_white l 1 ≡ false → ends_white l 2 ≡ false → ends_white l 3 ≡ false → white_tail l ≡ 0
unfolding white_tail
tail_none l a b c = sym (no! _ a (no! _ b (no! _ c refl)))

-- ---- one byte
second_1 : (u : ℕ) → u < 0x80 → (s : List ℕ) → get_or (last (s ++ (u ∷ [])) 2) 1 0 < 0x80
second_1 u h [] = subst (λ (l : List ℕ). get_or l 1 0 < 0x80) (sym (last_all [] (u ∷ []) 2 (omega arith))) (omega arith)
second_1 u h (x ∷ s) = subst (λ (n : ℕ). n < 0x80) (sym (last_byte (x ∷ s) (u ∷ []) 2 1 0 refl (omega arith))) h

third_1 : (u : ℕ) → u < 0x80 → (s : List ℕ) → get_or (last (s ++ (u ∷ [])) 3) 2 0 < 0x80
third_1 u h [] = subst (λ (l : List ℕ). get_or l 2 0 < 0x80) (sym (last_all [] (u ∷ []) 3 (omega arith))) (omega arith)
third_1 u h (x ∷ []) = subst (λ (l : List ℕ). get_or l 2 0 < 0x80) (sym (last_all (x ∷ []) (u ∷ []) 3 (omega arith))) (omega arith)
third_1 u h (x ∷ y ∷ s) = subst (λ (n : ℕ). n < 0x80) (sym (last_byte (x ∷ y ∷ s) (u ∷ []) 3 2 0 refl (omega arith))) h

pub case_1 : (u : ℕ) (w : Bool) → u < 0x80 → white_head ((u ∷ []) ++ []) ≡ cond w 1 0 → (s : List ℕ) → white_tail (s ++ (u ∷ [])) ≡ cond w 1 0
case_1 u w h e s =
    tail_1 (s ++ (u ∷ [])) w (own s (u ∷ []) w e refl)
    (not_ends _ 2 1 (width_low _ (second_1 u h s)) (omega arith))
    (not_ends _ 3 2 (width_third _ (third_1 u h s)) (omega arith))

-- a last byte below 80 is told by itself
pub tail_ascii : (s : List ℕ) (n a w : ℕ) → n ≡ length s - 1 → a ≡ get_or s n 0 → a < 0x80 → w ≡ cond (white a) 1 0 → w ≡ white_tail s
unfolding white_tail ends_white last white_head white code_head code_by char_width width_by lead_len
tail_ascii [] n a w en ea h e = e ∙ ap (λ (u : ℕ). cond (white u) 1 0) ea
tail_ascii (x ∷ s) n a w en ea h e =
    let k : n ≡ length s = omega arith in
    let f : get_or (x ∷ s) (length s) 0 ≡ a = ap (λ (m : ℕ). get_or (x ∷ s) m 0) (sym k) ∙ sym ea in
    let q : (x ∷ s) ≡ take (length s) (x ∷ s) ++ (a ∷ []) =
    sym (take-length (x ∷ s)) ∙ take-suc (x ∷ s) (length s) 0 (omega arith) ∙ ap (λ (b : ℕ). take (length s) (x ∷ s) ++ (b ∷ [])) f in
    e ∙ sym (ap white_tail q ∙ case_1 a (white a) h (sym (white_ascii (a ∷ []) a _ refl h refl)) (take (length s) (x ∷ s)))

-- ---- two bytes
third_2 : (a b : ℕ) → 0xBF < a → 2 ≡ char_width (a ∷ b ∷ []) → (s : List ℕ) → ends_white (s ++ (a ∷ b ∷ [])) 3 ≡ false
third_2 a b h e [] = not_ends _ 3 2 (subst (λ (l : List ℕ). char_width l ≤ 2) (sym (last_all [] (a ∷ b ∷ []) 3 (omega arith))) (omega arith)) (omega arith)
third_2 a b h e (x ∷ s) =
    not_ends _ 3 1 (width_high _ (subst (λ (n : ℕ). 0xBF < n) (sym (last_byte (x ∷ s) (a ∷ b ∷ []) 3 1 0 refl (omega arith))) h)) (omega arith)

pub case_2 : (a b : ℕ) (w : Bool) → 0xBF < a → 0x80 ≤ b → b < 0xC2 → 2 ≡ char_width (a ∷ b ∷ []) → white_head ((a ∷ b ∷ []) ++ []) ≡ cond w 2 0 → (s : List ℕ) → white_tail (s ++ (a ∷ b ∷ [])) ≡ cond w 2 0
case_2 a b w h l m n e s =
    tail_2 (s ++ (a ∷ b ∷ [])) w (stray_end s (a ∷ b ∷ []) 1 b [] (omega arith) (omega arith) refl l m) (own s (a ∷ b ∷ []) w e refl) (third_2 a b h n s)

pub case_3 : (a b c : ℕ) (w : Bool) → 0x80 ≤ b → b < 0xC2 → 0x80 ≤ c → c < 0xC2 → white_head ((a ∷ b ∷ c ∷ []) ++ []) ≡ cond w 3 0 → (s : List ℕ) → white_tail (s ++ (a ∷ b ∷ c ∷ [])) ≡ cond w 3 0
case_3 a b c w lb mb lc mc e s =
    tail_3 (s ++ (a ∷ b ∷ c ∷ [])) w
    (stray_end s (a ∷ b ∷ c ∷ []) 1 c [] (omega arith) (omega arith) refl lc mc)
    (stray_end s (a ∷ b ∷ c ∷ []) 2 b (c ∷ []) (omega arith) (omega arith) refl lb mb)
    (own s (a ∷ b ∷ c ∷ []) w e refl)

pub case_4 : (a b c d : ℕ) → 0x80 ≤ b → b < 0xC2 → 0x80 ≤ c → c < 0xC2 → 0x80 ≤ d → d < 0xC2 → (s : List ℕ) → white_tail (s ++ (a ∷ b ∷ c ∷ d ∷ [])) ≡ 0
case_4 a b c d lb mb lc mc ld md s =
    tail_none (s ++ (a ∷ b ∷ c ∷ d ∷ []))
    (stray_end s (a ∷ b ∷ c ∷ d ∷ []) 1 d [] (omega arith) (omega arith) refl ld md)
    (stray_end s (a ∷ b ∷ c ∷ d ∷ []) 2 c (d ∷ []) (omega arith) (omega arith) refl lc mc)
    (stray_end s (a ∷ b ∷ c ∷ d ∷ []) 3 b (c ∷ d ∷ []) (omega arith) (omega arith) refl lb mb)

pub white_far : (u : ℕ) → 0x10000 ≤ u → white u ≡ false
unfolding white white_high
white_far u h =
    sym (no! _ (le-ltb u 0x9 (omega arith)) (no! _ (lt-leb u 0xD (omega arith)) (no! _ (ne_eqb u 0x20 (λ e. omega arith)) (no! _ (ne_eqb u 0x85 (λ e. omega arith)) (no! _ (ne_eqb u 0xA0 (λ e. omega arith)) (no! _ (ne_eqb u 0x1680 (λ e. omega arith))
    (no! _ (le-ltb u 0x2000 (omega arith)) (no! _ (lt-leb u 0x200A (omega arith)) (no! _ (ne_eqb u 0x2028 (λ e. omega arith)) (no! _ (ne_eqb u 0x2029 (λ e. omega arith)) (no! _ (ne_eqb u 0x202F (λ e. omega arith)) (no! _ (ne_eqb u 0x205F (λ e. omega arith)) (sym (ne_eqb u 0x3000 (λ e. omega arith)))))))))))))))
