-- `specs/Utf8.antt` is RFC 3629: what the encoding writes for a scalar value is a character, of the same width, and reads as that value.
use mathlib.Core.Path.{◌≡◌, refl, sym, ap, subst, ◌∙◌}
use mathlib.Core.Bool.{Bool, true, false}
use mathlib.Core.List.{List, [], ◌∷◌, ◌++◌}
use Prim.Native.Nat.{ℕ, ◌+◌, ◌*◌, ◌/◌, ◌%◌, ◌≤◌, ◌<◌}
use native.Mathlib.Omega.{arith}
use borrow.Author.Tests.{lt-ltb, le-ltb, ltb-true, ltb-false, eqb-true}
use lib.Dec.{eqb, ltb}
use lib.ListN.{length, get_or, length-append}
use lib.Seq.{drop_at}
use mathlib.Core.Bool.{cond}
use Rattle.spec_text.specs.utf8.Utf8.{lead_len, second_low, second_high, tail, width_by, char_width, utf8, code_by, code_head}
use Rattle.spec_text.specs.whitespace.White.{white, white_head, trim_head}
use Rattle.spec_text.specs.unicode.Encode.{encode, Scalar}
use Rattle.spec_base.proofs.base.Laws.{yes!, no! }
use Rattle.spec_text.proofs.utf8.Laws.{utf8_step}
use Rattle.spec_text.proofs.whitespace.Laws.{head_step, head_none}

lead_1 : (a : ℕ) → a < 0x80 → 1 ≡ lead_len a
unfolding lead_len
lead_1 a h = yes! _ (lt-ltb _ _ h) refl

lead_2 : (a : ℕ) → 0xC2 ≤ a → a < 0xE0 → 2 ≡ lead_len a
unfolding lead_len
lead_2 a l h = no! _ (le-ltb a 0x80 (omega arith)) (no! _ (le-ltb _ _ l) (yes! _ (lt-ltb _ _ h) refl))

lead_3 : (a : ℕ) → 0xE0 ≤ a → a < 0xF0 → 3 ≡ lead_len a
unfolding lead_len
lead_3 a l h = no! _ (le-ltb a 0x80 (omega arith)) (no! _ (le-ltb a 0xC2 (omega arith)) (no! _ (le-ltb _ _ l) (yes! _ (lt-ltb _ _ h) refl)))

lead_4 : (a : ℕ) → 0xF0 ≤ a → a < 0xF5 → 4 ≡ lead_len a
unfolding lead_len
lead_4 a l h =
    no! _ (le-ltb a 0x80 (omega arith)) (no! _ (le-ltb a 0xC2 (omega arith)) (no! _ (le-ltb a 0xE0 (omega arith)) (no! _ (le-ltb _ _ l) (yes! _ (lt-ltb _ _ h) refl))))

low : (a b : ℕ) → (a ≡ 0xE0 → 0xA0 ≤ b) → (a ≡ 0xF0 → 0x90 ≤ b) → 0x80 ≤ b → second_low a ≤ b
unfolding second_low
low a b p q h = go (eqb a 0xE0) (eqb a 0xF0) refl refl
  where
    go : (x y : Bool) → eqb a 0xE0 ≡ x → eqb a 0xF0 ≡ y → cond x 0xA0 (cond y 0x90 0x80) ≤ b
    go true y e f = p (eqb-true _ _ e)
    go false true e f = q (eqb-true _ _ f)
    go false false e f = h

high : (a b : ℕ) → (a ≡ 0xED → b ≤ 0x9F) → (a ≡ 0xF4 → b ≤ 0x8F) → b ≤ 0xBF → b ≤ second_high a
unfolding second_high
high a b p q h = go (eqb a 0xED) (eqb a 0xF4) refl refl
  where
    go : (x y : Bool) → eqb a 0xED ≡ x → eqb a 0xF4 ≡ y → b ≤ cond x 0x9F (cond y 0x8F 0xBF)
    go true y e f = p (eqb-true _ _ e)
    go false true e f = q (eqb-true _ _ f)
    go false false e f = h

tail_of : (b : ℕ) → 0x80 ≤ b → b ≤ 0xBF → tail b ≡ true
unfolding tail
tail_of b l h = sym (no! _ (le-ltb _ _ l) (sym (lt-ltb b 0xC0 (omega arith))))

width_2 : (a b c d : ℕ) → second_low a ≤ b → b ≤ second_high a → 2 ≡ width_by 2 a b c d
unfolding width_by
width_2 a b c d l h = no! _ (le-ltb _ _ l) (no! _ (le-ltb _ _ h) refl)

width_3 : (a b c d : ℕ) → second_low a ≤ b → b ≤ second_high a → tail c ≡ true → 3 ≡ width_by 3 a b c d
unfolding width_by
width_3 a b c d l h t = no! _ (le-ltb _ _ l) (no! _ (le-ltb _ _ h) (yes! _ t refl))

width_4 : (a b c d : ℕ) → second_low a ≤ b → b ≤ second_high a → tail c ≡ true → tail d ≡ true → 4 ≡ width_by 4 a b c d
unfolding width_by
width_4 a b c d l h t u = no! _ (le-ltb _ _ l) (no! _ (le-ltb _ _ h) (yes! _ t (yes! _ u refl)))

low_bits : (x : ℕ) → x < 64 → (0x80 + x) % 64 ≡ x
low_bits x h = omega arith

low_bits_4 : (x : ℕ) → x < 5 → (0xF0 + x) % 8 ≡ x
low_bits_4 x h = omega arith

join_1 : (u : ℕ) → u / 64 * 64 + u % 64 ≡ u
join_1 u = omega arith

join_2 : (u : ℕ) → u / 4096 * 64 + u / 64 % 64 ≡ u / 64
join_2 u = omega arith

join_3 : (u : ℕ) → u / 262144 * 64 + u / 4096 % 64 ≡ u / 4096
join_3 u = omega arith

top_below : (u : ℕ) → u < 0x110000 → u / 262144 < 5
top_below u h = omega arith

mod_below : (x : ℕ) → x % 64 < 64
mod_below x = omega arith

sum_4 : (u a b c d p q r : ℕ) → r ≡ a → a * 64 + b ≡ p → p * 64 + c ≡ q → q * 64 + d ≡ u → r * 262144 + b * 4096 + c * 64 + d ≡ u
sum_4 u a b c d p q r e f g h = omega arith

code_4 : (u : ℕ) → u < 0x110000 → (0xF0 + u / 262144) % 8 * 262144 + (0x80 + u / 4096 % 64) % 64 * 4096 + (0x80 + u / 64 % 64) % 64 * 64 + (0x80 + u % 64) % 64 ≡ u
code_4 u h =
    rw (low_bits (u / 4096 % 64) (mod_below _), low_bits (u / 64 % 64) (mod_below _), low_bits (u % 64) (mod_below _))
    (sum_4 u (u / 262144) (u / 4096 % 64) (u / 64 % 64) (u % 64) (u / 4096) (u / 64) ((0xF0 + u / 262144) % 8) (low_bits_4 _ (top_below u h)) (join_3 u) (join_2 u) (join_1 u))

-- a character of n bytes a b c d
module _ (u : ℕ) (ok : Scalar u) where
  one : u < 0x80 → (s : List ℕ) → 1 ≡ char_width (u ∷ s)
  unfolding char_width width_by
  one h s = subst (λ (n : ℕ). 1 ≡ width_by n u (get_or s 0 0) (get_or s 1 0) (get_or s 2 0)) (lead_1 u h) refl

  two : 0x80 ≤ u → u < 0x800 → (s : List ℕ) → 2 ≡ char_width ((0xC0 + u / 64) ∷ (0x80 + u % 64) ∷ s)
  unfolding char_width
  two l h s =
      subst (λ (n : ℕ). 2 ≡ width_by n (0xC0 + u / 64) (0x80 + u % 64) (get_or s 0 0) (get_or s 1 0)) (lead_2 (0xC0 + u / 64) (omega arith) (omega arith))
      (width_2 _ _ _ _ (low (0xC0 + u / 64) (0x80 + u % 64) (λ e. omega arith) (λ e. omega arith) (omega arith)) (high (0xC0 + u / 64) (0x80 + u % 64) (λ e. omega arith) (λ e. omega arith) (omega arith)))

  -- after ED stands no byte above 9F
  surrogate : 0xE0 + u / 4096 ≡ 0xED → 0x80 + u / 64 % 64 ≤ 0x9F
  surrogate e = go (ltb u 0xD800) refl
    where
      go : (x : Bool) → ltb u 0xD800 ≡ x → 0x80 + u / 64 % 64 ≤ 0x9F
      go true f = omega (arith, ltb-true u 0xD800 f)
      go false f = absurd (ok.plain (ltb-false u 0xD800 f) (omega arith))

  three : 0x800 ≤ u → u < 0x10000 → (s : List ℕ) → 3 ≡ char_width ((0xE0 + u / 4096) ∷ (0x80 + u / 64 % 64) ∷ (0x80 + u % 64) ∷ s)
  unfolding char_width
  three l h s =
      subst (λ (n : ℕ). 3 ≡ width_by n (0xE0 + u / 4096) (0x80 + u / 64 % 64) (0x80 + u % 64) (get_or s 0 0)) (lead_3 (0xE0 + u / 4096) (omega arith) (omega arith))
      (width_3 _ _ _ _ (low (0xE0 + u / 4096) (0x80 + u / 64 % 64) (λ e. omega arith) (λ e. omega arith) (omega arith)) (high (0xE0 + u / 4096) (0x80 + u / 64 % 64) (λ e. surrogate e) (λ e. omega arith) (omega arith)) (tail_of (0x80 + u % 64) (omega arith) (omega arith)))

  four : 0x10000 ≤ u → (s : List ℕ) → 4 ≡ char_width ((0xF0 + u / 262144) ∷ (0x80 + u / 4096 % 64) ∷ (0x80 + u / 64 % 64) ∷ (0x80 + u % 64) ∷ s)
  unfolding char_width
  four l s =
      subst (λ (n : ℕ). 4 ≡ width_by n (0xF0 + u / 262144) (0x80 + u / 4096 % 64) (0x80 + u / 64 % 64) (0x80 + u % 64)) (lead_4 (0xF0 + u / 262144) (omega arith) (omega (arith, ok.below)))
      (width_4 _ _ _ _ (low (0xF0 + u / 262144) (0x80 + u / 4096 % 64) (λ e. omega arith) (λ e. omega arith) (omega arith)) (high (0xF0 + u / 262144) (0x80 + u / 4096 % 64) (λ e. omega arith) (λ e. omega (arith, ok.below)) (omega arith)) (tail_of (0x80 + u / 64 % 64) (omega arith) (omega arith)) (tail_of (0x80 + u % 64) (omega arith) (omega arith)))

  -- the four forms, by the tests on u
  form : Bool → Bool → Bool → List ℕ
  form x y z =
      cond x (u ∷ [])
      (cond y ((0xC0 + u / 64) ∷ (0x80 + u % 64) ∷ [])
      (cond z ((0xE0 + u / 4096) ∷ (0x80 + u / 64 % 64) ∷ (0x80 + u % 64) ∷ [])
      ((0xF0 + u / 262144) ∷ (0x80 + u / 4096 % 64) ∷ (0x80 + u / 64 % 64) ∷ (0x80 + u % 64) ∷ [])))

  -- the encoding of u, before s, has the width that `char_width` finds
  pub encoded : (s : List ℕ) → length (encode u) ≡ char_width (encode u ++ s)
  unfolding encode form
  encoded s = go (ltb u 0x80) (ltb u 0x800) (ltb u 0x10000) refl refl refl
    where
      go : (x y z : Bool) → ltb u 0x80 ≡ x → ltb u 0x800 ≡ y → ltb u 0x10000 ≡ z → length (form x y z) ≡ char_width (form x y z ++ s)
      go true y z e f g = one (ltb-true _ _ e) s
      go false true z e f g = two (ltb-false _ _ e) (ltb-true _ _ f) s
      go false false true e f g = three (ltb-false _ _ f) (ltb-true _ _ g) s
      go false false false e f g = four (ltb-false _ _ g) s

  pub encode_long : 0 < length (encode u)
  unfolding encode form
  encode_long = go (ltb u 0x80) (ltb u 0x800) (ltb u 0x10000)
    where
      go : (x y z : Bool) → 0 < length (form x y z)
      go true y z = omega arith
      go false true z = omega arith
      go false false true = omega arith
      go false false false = omega arith

  -- a text is UTF-8 after a scalar value's encoding exactly where it is by itself
  pub utf8_encoded : (s : List ℕ) → utf8 (encode u ++ s) ≡ utf8 s
  utf8_encoded s =
      utf8_step (encode u ++ s) (length (encode u)) (subst (λ (n : ℕ). 0 < n) (sym (length-append (encode u) s)) (omega (arith, encode_long))) (encoded s) (λ e. omega (arith, encode_long))
      ∙ ap utf8 (drop_at (encode u) s (length (encode u)) refl)

  code_form : (s : List ℕ) → code_by (length (encode u)) (get_or (encode u ++ s) 0 0) (get_or (encode u ++ s) 1 0) (get_or (encode u ++ s) 2 0) (get_or (encode u ++ s) 3 0) ≡ u
  unfolding encode form code_by
  code_form s = go (ltb u 0x80) (ltb u 0x800) (ltb u 0x10000) refl refl refl
    where
      go : (x y z : Bool) → ltb u 0x80 ≡ x → ltb u 0x800 ≡ y → ltb u 0x10000 ≡ z
          → code_by (length (form x y z)) (get_or (form x y z ++ s) 0 0) (get_or (form x y z ++ s) 1 0) (get_or (form x y z ++ s) 2 0) (get_or (form x y z ++ s) 3 0) ≡ u
      go true y z e f g = refl
      go false true z e f g = omega (arith, ltb-true u 0x800 f)
      go false false true e f g = omega (arith, ltb-true u 0x10000 g)
      go false false false e f g = code_4 u ok.below

  -- and the character at its head reads as that value
  pub code_encoded : (s : List ℕ) → code_head (encode u ++ s) ≡ u
  unfolding code_head
  code_encoded s =
      ap (λ (n : ℕ). code_by n (get_or (encode u ++ s) 0 0) (get_or (encode u ++ s) 1 0) (get_or (encode u ++ s) 2 0) (get_or (encode u ++ s) 3 0)) (sym (encoded s)) ∙ code_form s

  -- ---- white space at the head of an encoded text
  pub white_encoded : (s : List ℕ) → white_head (encode u ++ s) ≡ cond (white u) (length (encode u)) 0
  unfolding white_head
  white_encoded s = rw (code_encoded s, ← encoded s)

  -- a scalar value at the head is taken off where it is white space, and else the text stays as it is
  pub head_white : (s : List ℕ) → white u ≡ true → trim_head (encode u ++ s) ≡ trim_head s
  head_white s h =
      head_step (encode u ++ s) (length (encode u)) (subst (λ (n : ℕ). 0 < n) (sym (length-append (encode u) s)) (omega (arith, encode_long))) (sym (white_encoded s ∙ ap (λ (t : Bool). cond t (length (encode u)) 0) h)) (λ e. omega (arith, encode_long))
      ∙ ap trim_head (drop_at (encode u) s (length (encode u)) refl)

  pub head_other : (s : List ℕ) → white u ≡ false → trim_head (encode u ++ s) ≡ encode u ++ s
  head_other s h =
      sym (head_none (encode u ++ s) 0 (subst (λ (n : ℕ). 0 < n) (sym (length-append (encode u) s)) (omega (arith, encode_long))) (sym (white_encoded s ∙ ap (λ (t : Bool). cond t (length (encode u)) 0) h)) refl)
