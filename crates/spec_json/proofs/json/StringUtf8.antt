-- The bytes that a string stands for are UTF-8 where the text is.
use Prim.Native.Nat.{ℕ, zero, suc, ◌+◌, ◌*◌, ◌-◌, ◌≤◌, ◌<◌}
use mathlib.Core.Path.{◌≡◌, refl, sym, ap, subst, ◌∙◌}
use mathlib.Core.Bool.{Bool, true, false, ◌&&◌, cond, true≢false}
use mathlib.Core.List.{List, [], ◌∷◌, ◌++◌}
use native.Mathlib.Omega.{arith}
use borrow.Author.Tests.{eqb-true, eqb-false, eq-eqb, ne_eqb, ltb-true, ltb-false, lt-ltb, le-ltb, leb-true, leb-false, le-leb, lt-leb}
use lib.Dec.{eqb, ltb, leb}
use lib.ListN.{length, get_or, drop, length-drop, length-append}
use lib.Seq.{get_or-drop}
use Rattle.spec_base.proofs.base.Laws.{and_left, and_right}
use Rattle.spec_text.specs.utf8.Utf8.{utf8}
use Rattle.spec_text.specs.unicode.Encode.{encode, Scalar, Scalars, none, more, encode_all}
use Rattle.spec_text.proofs.unicode.Encoding.{encode_long, utf8_encoded}
use Rattle.spec_text.proofs.unicode.Trailing.{enc_1}
use Rattle.spec_text.proofs.unicode.Decoding.{all_taken, only_those}
use Rattle.spec_json.specs.json.Str.{hex_digit, hex_word, is_high, is_low, short_escape, pair_follows, unicode_width, unicode_point, escape_width, escape_bytes, char_wide, char_bytes, chars_bytes}
use Rattle.spec_json.proofs.json.StringLaws.{char_in}
use Rattle.spec_json.proofs.json.CharsLaws.{bytes_stop, bytes_step, plain_bytes}
use Rattle.spec_text.proofs.unicode.Utf8Parts.{High, encode_high, low_head, none_utf8, low_past}

-- ---- hexadecimal digits are below 80
hex_low : (b : ℕ) → hex_digit b < 16 → b < 0x80
unfolding hex_digit
hex_low b h = go (leb b 0x66) refl
  where
    go : (t : Bool) → leb b 0x66 ≡ t → b < 0x80
    go true e = omega (arith, leb-true b 0x66 e)
    go false e =
        let l : 0x66 < b = leb-false b 0x66 e in
        absurd (let z : hex_digit b ≡ 16 = rw (le-ltb b 0x30 (omega arith), lt-leb b 0x39 (omega arith), le-ltb b 0x41 (omega arith), lt-leb b 0x46 (omega arith), le-ltb b 0x61 (omega arith), e) in omega arith)

hex_last : (s : List ℕ) → hex_word s < 65536 → get_or s 3 0 < 0x80
unfolding hex_word
hex_last s h = hex_low (get_or s 3 0) (go (ltb (hex_digit (get_or s 0 0)) 16) (ltb (hex_digit (get_or s 1 0)) 16) (ltb (hex_digit (get_or s 2 0)) 16) (ltb (hex_digit (get_or s 3 0)) 16) refl h)
  where
    go : (x y z t : Bool) → ltb (hex_digit (get_or s 3 0)) 16 ≡ t
        → cond x (cond y (cond z (cond t (hex_digit (get_or s 0 0) * 4096 + hex_digit (get_or s 1 0) * 256 + hex_digit (get_or s 2 0) * 16 + hex_digit (get_or s 3 0)) 65536) 65536) 65536) 65536 < 65536 → hex_digit (get_or s 3 0) < 16
    go false y z t e l = absurd (omega arith)
    go true false z t e l = absurd (omega arith)
    go true true false t e l = absurd (omega arith)
    go true true true false e l = absurd (omega arith)
    go true true true true e l = ltb-true (hex_digit (get_or s 3 0)) 16 e

-- ---- short escapes
short_low : (e : ℕ) → short_escape e < 0x80
unfolding short_escape
short_low e = go (eqb e 0x22) (eqb e 0x5C) (eqb e 0x2F) (eqb e 0x62) (eqb e 0x66) (eqb e 0x6E) (eqb e 0x72) (eqb e 0x74)
  where
    go : (a b c d f g h k : Bool) → cond a 0x22 (cond b 0x5C (cond c 0x2F (cond d 0x08 (cond f 0x0C (cond g 0x0A (cond h 0x0D (cond k 0x09 0))))))) < 0x80
    go true b c d f g h k = omega arith
    go false true c d f g h k = omega arith
    go false false true d f g h k = omega arith
    go false false false true f g h k = omega arith
    go false false false false true g h k = omega arith
    go false false false false false true h k = omega arith
    go false false false false false false true k = omega arith
    go false false false false false false false true = omega arith
    go false false false false false false false false = omega arith

short_seen : (e : ℕ) → (short_escape e ≡ 0 → ⊥) → e < 0x80
unfolding short_escape
short_seen e h = go (ltb e 0x80) refl
  where
    go : (t : Bool) → ltb e 0x80 ≡ t → e < 0x80
    go true p = ltb-true e 0x80 p
    go false p =
        let l : 0x80 ≤ e = ltb-false e 0x80 p in
        absurd (h (rw (
          ne_eqb e 0x22 (λ z. omega (arith, z)),
          ne_eqb e 0x5C (λ z. omega (arith, z)),
          ne_eqb e 0x2F (λ z. omega (arith, z)),
          ne_eqb e 0x62 (λ z. omega (arith, z)),
          ne_eqb e 0x66 (λ z. omega (arith, z)),
          ne_eqb e 0x6E (λ z. omega (arith, z)),
          ne_eqb e 0x72 (λ z. omega (arith, z)),
          ne_eqb e 0x74 (λ z. omega (arith, z)),
        )))

-- ---- what an escape stands for is UTF-8 by itself, and its last byte is below 80
-- behind `\u`: a code unit that is no surrogate, or a pair
abbrev Wide : (x y p z : Bool) → ℕ
Wide x y p z = cond x (cond y (cond p 12 0) (cond z 0 6)) 0

module _ (s : List ℕ) (n : unicode_width s ≡ 0 → ⊥) where
  abbrev X : ℕ
  X = hex_word s

  abbrev L : ℕ
  L = hex_word (drop 6 s)

  between : (l h u : ℕ) → (leb l u && ltb u h) ≡ true → (l ≤ u) × (u < h)
  between l h u e = (leb-true l u (and_left (leb l u) (ltb u h) e), ltb-true u h (and_right (leb l u) (ltb u h) e))

  outside : (l h u : ℕ) → (leb l u && ltb u h) ≡ false → l ≤ u → u < h → ⊥
  outside l h u e a b = true≢false (sym (λ i. le-leb l u a i && lt-ltb u h b i) ∙ e)

  by_tests : (x y z p : Bool) → ltb X 65536 ≡ x → is_high X ≡ y → is_low X ≡ z → pair_follows s ≡ p → (Wide x y p z ≡ 0 → ⊥)
      → (Scalar (cond y (0x10000 + (X - 0xD800) * 1024 + (L - 0xDC00)) X)) × (get_or s (Wide x y p z - 3) 0 < 0x80)
  by_tests false y z p ex ey ez ep h = absurd (h refl)
  by_tests true true z false ex ey ez ep h = absurd (h refl)
  by_tests true true z true ex ey ez ep h =
      let a = between 0xD800 0xDC00 X ey in
      let low : is_low L ≡ true = and_right (eqb (get_or s 5 0) 0x75) (is_low L) (and_right (eqb (get_or s 4 0) 0x5C) _ ep) in
      let b = between 0xDC00 0xE000 L low in (
        record { below = omega (arith, a.0, a.1, b.0, b.1); plain = λ l m. omega (arith, a.0, a.1, b.0, b.1, l, m) },
        subst (λ (c : ℕ). c < 0x80) (get_or-drop 6 s 3 0) (hex_last (drop 6 s) (omega (arith, b.1))),
      )
  by_tests true false true p ex ey ez ep h = absurd (h refl)
  by_tests true false false p ex ey ez ep h =
      let small : X < 65536 = ltb-true X 65536 ex in
      (record { below = omega (arith, small); plain = λ l m. plain l m (ltb X 0xDC00) refl }, hex_last s small)
    where
      plain : 0xD800 ≤ X → X < 0xE000 → (t : Bool) → ltb X 0xDC00 ≡ t → ⊥
      plain l m true q = outside 0xD800 0xDC00 X ey l (ltb-true X 0xDC00 q)
      plain l m false q = outside 0xDC00 0xE000 X ez (ltb-false X 0xDC00 q) m

  point : (Scalar (unicode_point s)) × (get_or s (unicode_width s - 3) 0 < 0x80)
  unfolding unicode_width unicode_point
  point = by_tests (ltb X 65536) (is_high X) (is_low X) (pair_follows s) refl refl refl refl n

unicode_wide : (s : List ℕ) → (unicode_width s ≡ 0 → ⊥) → 2 < unicode_width s
unfolding unicode_width
unicode_wide s n = go (ltb (hex_word s) 65536) (is_high (hex_word s)) (pair_follows s) (is_low (hex_word s)) n
  where
    go : (x y p z : Bool) → (Wide x y p z ≡ 0 → ⊥) → 2 < Wide x y p z
    go false y p z h = absurd (h refl)
    go true true true z h = omega arith
    go true true false z h = absurd (h refl)
    go true false p true h = absurd (h refl)
    go true false p false h = omega arith

-- behind a backslash
module _ (y : List ℕ) where
  abbrev Two : Bool → ℕ
  Two u = cond u 0 2

  abbrev Esc : Bool → ℕ
  Esc t = cond t (unicode_width (drop 1 y)) (cond (eqb (short_escape (get_or y 0 0)) 0) 0 2)

  escape_utf8 : (escape_width y ≡ 0 → ⊥) → (r : List ℕ) → utf8 (escape_bytes y ++ r) ≡ utf8 r
  escape_utf8 n r = go (eqb (get_or y 0 0) 0x75) n
    where
      go : (t : Bool) → (Esc t ≡ 0 → ⊥) → utf8 (cond t (encode (unicode_point (drop 1 y))) (short_escape (get_or y 0 0) ∷ []) ++ r) ≡ utf8 r
      go true h = utf8_encoded (unicode_point (drop 1 y)) (point (drop 1 y) h).0 r
      go false h = low_head (short_escape (get_or y 0 0)) r (short_low (get_or y 0 0))

  escape_last : (escape_width y ≡ 0 → ⊥) → (1 < escape_width y) × (get_or y (escape_width y - 2) 0 < 0x80)
  escape_last n = go (eqb (get_or y 0 0) 0x75) n
    where
      short : (u : Bool) → eqb (short_escape (get_or y 0 0)) 0 ≡ u → (Two u ≡ 0 → ⊥) → (1 < Two u) × (get_or y (Two u - 2) 0 < 0x80)
      short true p h = absurd (h refl)
      short false p h = (omega arith, short_seen (get_or y 0 0) (eqb-false (short_escape (get_or y 0 0)) 0 p))

      go : (t : Bool) → (Esc t ≡ 0 → ⊥) → (1 < Esc t) × (get_or y (Esc t - 2) 0 < 0x80)
      go false h = short (eqb (short_escape (get_or y 0 0)) 0) refl h
      go true h =
          let w = unicode_width (drop 1 y) in
          let l : 2 < w = unicode_wide (drop 1 y) h in
          let z : 1 + (w - 3) ≡ w - 2 = omega arith in
          (omega arith, subst (λ (k : ℕ). get_or y k 0 < 0x80) z (subst (λ (c : ℕ). c < 0x80) (get_or-drop 1 y (w - 3) 0) (point (drop 1 y) h).1))

-- ---- one character of a string
wide_escape : (t : List ℕ) → get_or t 0 0 ≡ 0x5C → char_wide t ≡ escape_width (drop 1 t)
unfolding char_wide
wide_escape t e = rw (le-ltb (get_or t 0 0) 0x20 (omega (arith, e)), ne_eqb (get_or t 0 0) 0x22 (λ z. omega (arith, e, z)), eq-eqb (get_or t 0 0) 0x5C e)

bytes_escape : (t : List ℕ) → get_or t 0 0 ≡ 0x5C → char_bytes t ≡ escape_bytes (drop 1 t)
unfolding char_bytes
bytes_escape t e = rw (eq-eqb (get_or t 0 0) 0x5C e)

wide_other : (b : ℕ) (r : List ℕ) → (char_wide (b ∷ r) ≡ 0 → ⊥) → (b ≡ 0x5C → ⊥) → char_wide (b ∷ r) ≡ 1
unfolding char_wide
wide_other b r n h = go (ltb b 0x20) (eqb b 0x22) (eqb b 0x5C) (ne_eqb b 0x5C h) n
  where
    go : (x y z : Bool) → z ≡ false → (◌≡◌ {A = ℕ} (cond x 0 (cond y 0 (cond z (escape_width r) 1))) 0 → ⊥) → ◌≡◌ {A = ℕ} (cond x 0 (cond y 0 (cond z (escape_width r) 1))) 1
    go true y z e k = absurd (k refl)
    go false true z e k = absurd (k refl)
    go false false true e k = absurd (true≢false e)
    go false false false e k = refl

other_step : (b : ℕ) (r : List ℕ) → (char_wide (b ∷ r) ≡ 0 → ⊥) → (b ≡ 0x5C → ⊥) → chars_bytes (b ∷ r) 0 ≡ b ∷ chars_bytes r 0
other_step b r n h =
    bytes_step (b ∷ r) 1 (sym (wide_other b r n h)) (λ z. omega arith) ∙ ap (λ (l : List ℕ). l ++ chars_bytes r 0) (plain_bytes b r h)

high_wide : (b : ℕ) (r : List ℕ) → 0x80 ≤ b → char_wide (b ∷ r) ≡ 1
unfolding char_wide
high_wide b r h = rw (le-ltb b 0x20 (omega arith), ne_eqb b 0x22 (λ z. omega (arith, z)), ne_eqb b 0x5C (λ z. omega (arith, z)))

-- bytes from 80 on stand for themselves
high_chars : (e x : List ℕ) → High e → chars_bytes (e ++ x) 0 ≡ e ++ chars_bytes x 0
high_chars [] x h = refl
high_chars (b ∷ r) x h =
    other_step b (r ++ x) (λ z. let w = high_wide b (r ++ x) h.0 in omega arith) (λ z. omega (arith, z, h.0)) ∙ ap (λ (l : List ℕ). b ∷ l) (high_chars r x h.1)

-- ---- all of them, by a bound on the length
module _ (n : ℕ) (ih : (x : List ℕ) → length x ≤ n → utf8 x ≡ true → utf8 (chars_bytes x 0) ≡ true) where
  escaped_on : (t : List ℕ) → length t ≤ suc n → utf8 t ≡ true → (char_wide t ≡ 0 → ⊥) → get_or t 0 0 ≡ 0x5C → utf8 (chars_bytes t 0) ≡ true
  escaped_on t l e ne h =
      let w = char_wide t in
      let y = drop 1 t in
      let same : w ≡ escape_width y = wide_escape t h in
      let ne' : escape_width y ≡ 0 → ⊥ = λ z. ne (same ∙ z) in
      let last = escape_last y ne' in
      let at : 1 + (escape_width y - 2) ≡ w - 1 = omega (arith, last.0, same) in
      let low : get_or t (w - 1) 0 < 0x80 = subst (λ (k : ℕ). get_or t k 0 < 0x80) at (subst (λ (c : ℕ). c < 0x80) (get_or-drop 1 t (escape_width y - 2) 0) last.1) in
      let on : suc (w - 1) ≡ w = omega (arith, last.0, same) in
      let left : utf8 (drop w t) ≡ true = ap (λ (k : ℕ). utf8 (drop k t)) (sym on) ∙ low_past t e (w - 1) low in
      ap utf8 (bytes_step t w refl ne ∙ ap (λ (v : List ℕ). v ++ chars_bytes (drop w t) 0) (bytes_escape t h))
      ∙ escape_utf8 y ne' (chars_bytes (drop w t) 0)
      ∙ ih (drop w t) (omega (arith, length-drop w t, last.0, same, char_in t)) left

  low_on : (b : ℕ) (r : List ℕ) → suc (length r) ≤ suc n → utf8 (b ∷ r) ≡ true → (char_wide (b ∷ r) ≡ 0 → ⊥) → (b ≡ 0x5C → ⊥) → b < 0x80 → utf8 (chars_bytes (b ∷ r) 0) ≡ true
  low_on b r l e ne h k = ap utf8 (other_step b r ne h) ∙ low_head b (chars_bytes r 0) k ∙ ih r (omega arith) (sym (low_head b r k) ∙ e)

  -- a character of bytes from 80 on
  row_on : (t us : List ℕ) → Scalars us → t ≡ encode_all us → length t ≤ suc n → 0x80 ≤ get_or t 0 0 → utf8 (chars_bytes t 0) ≡ true
  unfolding encode_all
  row_on t us none q l h = absurd (let z : get_or t 0 0 ≡ 0 = ap (λ (x : List ℕ). get_or x 0 0) q in omega arith)
  row_on t us (more {u = u} {us = vs} ok r) q l h =
      let x = encode_all vs in
      let high : 0x80 ≤ u = above (ltb u 0x80) refl in
      let size : length t ≡ length (encode u) + length x = ap length q ∙ length-append (encode u) x in
      ap (λ (y : List ℕ). utf8 (chars_bytes y 0)) q ∙ ap utf8 (high_chars (encode u) x (encode_high u high))
      ∙ utf8_encoded u ok (chars_bytes x 0) ∙ ih x (omega (arith, size, encode_long u ok)) (all_taken vs r)
    where
      above : (t' : Bool) → ltb u 0x80 ≡ t' → 0x80 ≤ u
      above true p = absurd (let z : get_or t 0 0 ≡ u = ap (λ (y : List ℕ). get_or y 0 0) (q ∙ ap (λ (y : List ℕ). y ++ encode_all vs) (sym (enc_1 u (ltb-true u 0x80 p)))) in omega (arith, ltb-true u 0x80 p))
      above false p = ltb-false u 0x80 p

  step : (t : List ℕ) → length t ≤ suc n → utf8 t ≡ true → utf8 (chars_bytes t 0) ≡ true
  step [] l e = ap utf8 (bytes_stop [] (let z = char_in [] in omega arith)) ∙ none_utf8
  step (b ∷ r) l e = go (eqb (char_wide (b ∷ r)) 0) refl
    where
      other : (char_wide (b ∷ r) ≡ 0 → ⊥) → (b ≡ 0x5C → ⊥) → (t : Bool) → ltb b 0x80 ≡ t → utf8 (chars_bytes (b ∷ r) 0) ≡ true
      other ne h true p = low_on b r l e ne h (ltb-true b 0x80 p)
      other ne h false p = let d = only_those (b ∷ r) e in row_on (b ∷ r) d.0 d.1 d.2 l (ltb-false b 0x80 p)

      by_head : (char_wide (b ∷ r) ≡ 0 → ⊥) → (t : Bool) → eqb b 0x5C ≡ t → utf8 (chars_bytes (b ∷ r) 0) ≡ true
      by_head ne true p = escaped_on (b ∷ r) l e ne (eqb-true b 0x5C p)
      by_head ne false p = other ne (eqb-false b 0x5C p) (ltb b 0x80) refl

      go : (t : Bool) → eqb (char_wide (b ∷ r)) 0 ≡ t → utf8 (chars_bytes (b ∷ r) 0) ≡ true
      go true p = ap utf8 (bytes_stop (b ∷ r) (eqb-true (char_wide (b ∷ r)) 0 p)) ∙ none_utf8
      go false p = by_head (eqb-false (char_wide (b ∷ r)) 0 p) (eqb b 0x5C) refl

within : (n : ℕ) (t : List ℕ) → length t ≤ n → utf8 t ≡ true → utf8 (chars_bytes t 0) ≡ true
within zero [] l e = ap utf8 (bytes_stop [] (let z = char_in [] in omega arith)) ∙ none_utf8
within zero (b ∷ r) l e = absurd (omega arith)
within (suc n) t l e = step n (within n) t l e

-- the characters up to a closing quotation mark stand for UTF-8
pub chars_utf8 : (t : List ℕ) → utf8 t ≡ true → utf8 (chars_bytes t 0) ≡ true
chars_utf8 t e = within (length t) t (omega arith) e
