-- A string is as wide, and stands for the same bytes, in the front of a text that holds it; and so is a scalar.
use Prim.Native.Nat.{ℕ, zero, suc, ◌≤◌}
use mathlib.Core.Path.{◌≡◌, refl, ap, ◌∙◌}
use mathlib.Core.Bool.{Bool, true, false, cond}
use mathlib.Core.List.{List, [], ◌∷◌, ◌++◌}
use native.Mathlib.Omega.{arith}
use lib.Dec.{eqb, ltb}
use lib.ListN.{get_or, take}
use lib.Seq.{get_or-take}
use Rattle.spec_base.specs.base.Width.{by_width}
use Rattle.spec_text.specs.unicode.Encode.{encode}
use Rattle.spec_json.specs.json.Space.{more}
use Rattle.spec_json.specs.json.Str.{unicode_width, unicode_point, short_escape, escape_width, escape_bytes, char_wide, char_bytes, chars_width, chars_bytes, string_width, string_bytes}
use Rattle.spec_json.specs.json.Num.{number_width}
use Rattle.spec_json.specs.json.Value.{literal_width, scalar_width}
use Rattle.spec_json.proofs.json.FrontLaws.{Front, number_front, literal_keep, unicode_least, unicode_front, point_front}

-- ---- a character
char_front : Front char_wide
unfolding char_wide short_escape
char_front [] n k e h = absurd (omega arith)
char_front (b ∷ s) zero k e h = absurd (omega arith)
char_front (b ∷ s) (suc n) k e h = go (ltb b 0x20) (eqb b 0x22) (eqb b 0x5C) e
  where
    escape : (t : List ℕ) (n : ℕ) → escape_width t ≡ suc k → suc k ≤ suc n → escape_width (take n t) ≡ suc k
    escape [] n e h = absurd (omega arith)
    escape (c ∷ t) zero e h = by (eqb c 0x75) (eqb (short_escape c) 0) e
      where
        by : (x y : Bool) → cond x (unicode_width t) (cond y 0 2) ≡ suc k → escape_width [] ≡ suc k
        by true y e = let z = unicode_least t k e in absurd (omega arith)
        by false true e = absurd (omega arith)
        by false false e = absurd (omega arith)
    escape (c ∷ t) (suc n) e h = by (eqb c 0x75) (eqb (short_escape c) 0) e
      where
        by : (x y : Bool) → cond x (unicode_width t) (cond y 0 2) ≡ suc k → cond x (unicode_width (take n t)) (cond y 0 2) ≡ suc k
        by true y e = unicode_front t n k e (omega arith)
        by false y e = e

    go : (x y z : Bool) → cond x 0 (cond y 0 (cond z (escape_width s) 1)) ≡ suc k → cond x 0 (cond y 0 (cond z (escape_width (take n s)) 1)) ≡ suc k
    go true y z e = absurd (omega arith)
    go false true z e = absurd (omega arith)
    go false false true e = escape s n e h
    go false false false e = e

bytes_front : (s : List ℕ) (n k : ℕ) → char_wide s ≡ suc k → suc k ≤ n → char_bytes (take n s) ≡ char_bytes s
unfolding char_wide char_bytes short_escape
bytes_front [] n k e h = absurd (omega arith)
bytes_front (b ∷ s) zero k e h = absurd (omega arith)
bytes_front (b ∷ s) (suc n) k e h = go (ltb b 0x20) (eqb b 0x22) (eqb b 0x5C) e
  where
    escape : (t : List ℕ) (n : ℕ) → escape_width t ≡ suc k → suc k ≤ suc n → escape_bytes (take n t) ≡ escape_bytes t
    escape [] n e h = absurd (omega arith)
    escape (c ∷ t) zero e h = by (eqb c 0x75) (eqb (short_escape c) 0) e
      where
        by : (x y : Bool) → cond x (unicode_width t) (cond y 0 2) ≡ suc k → escape_bytes [] ≡ escape_bytes (c ∷ t)
        by true y e = let z = unicode_least t k e in absurd (omega arith)
        by false true e = absurd (omega arith)
        by false false e = absurd (omega arith)
    escape (c ∷ t) (suc n) e h = by (eqb c 0x75) e
      where
        by : (x : Bool) → cond x (unicode_width t) (cond (eqb (short_escape c) 0) 0 2) ≡ suc k → cond x (encode (unicode_point (take n t))) (short_escape c ∷ []) ≡ cond x (encode (unicode_point t)) (short_escape c ∷ [])
        by true e = ap encode (point_front t n k e (omega arith))
        by false e = refl

    go : (x y z : Bool) → cond x 0 (cond y 0 (cond z (escape_width s) 1)) ≡ suc k → cond z (escape_bytes (take n s)) (b ∷ []) ≡ cond z (escape_bytes s) (b ∷ [])
    go true y z e = absurd (omega arith)
    go false true z e = absurd (omega arith)
    go false false true e = escape s n e h
    go false false false e = refl

-- ---- characters up to a quotation mark
more_suc : (x k : ℕ) → more x ≡ suc k → x ≡ k
more_suc zero k e = absurd (omega arith)
more_suc (suc x) k e = omega arith

-- what is passed over is within the width
skip_in : (s : List ℕ) (j k : ℕ) → chars_width s j ≡ suc k → j ≤ k
unfolding chars_width
skip_in [] j k e = absurd (omega arith)
skip_in (b ∷ s) zero k e = omega arith
skip_in (b ∷ s) (suc j) k e = go k (more_suc (chars_width s j) k e) e (skip_in s j)
  where
    go : (k : ℕ) → chars_width s j ≡ k → more (chars_width s j) ≡ suc k → ((k : ℕ) → chars_width s j ≡ suc k → j ≤ k) → suc j ≤ k
    go zero q e ih = let z : more (chars_width s j) ≡ 0 = ap more q in absurd (omega arith)
    go (suc k) q e ih = let z = ih k q in omega arith

-- one character and what is behind it
module _ (b : ℕ) (s : List ℕ) (n k : ℕ) (h : suc k ≤ suc n)
    (ih : (j k : ℕ) → chars_width s j ≡ suc k → suc k ≤ n → chars_width (take n s) j ≡ suc k) where
  behind : (j : ℕ) → more (chars_width s j) ≡ suc k → more (chars_width (take n s) j) ≡ suc k
  behind j e = go k (more_suc (chars_width s j) k e) e h
    where
      go : (k : ℕ) → chars_width s j ≡ k → more (chars_width s j) ≡ suc k → suc k ≤ suc n → more (chars_width (take n s) j) ≡ suc k
      go zero q e h = let z : more (chars_width s j) ≡ 0 = ap more q in absurd (omega arith)
      go (suc k) q e h = ap more (ih j k q (omega arith))

  char_in_front : (w : ℕ) → char_wide (b ∷ s) ≡ suc w → more (chars_width s w) ≡ suc k → char_wide (b ∷ take n s) ≡ suc w
  char_in_front w q e = go k (more_suc (chars_width s w) k e) e h
    where
      go : (k : ℕ) → chars_width s w ≡ k → more (chars_width s w) ≡ suc k → suc k ≤ suc n → char_wide (b ∷ take n s) ≡ suc w
      go zero r e h = let z : more (chars_width s w) ≡ 0 = ap more r in absurd (omega arith)
      go (suc k) r e h = let z = skip_in s w k r in char_front (b ∷ s) (suc n) w q (omega arith)

abbrev width_by : (t : Bool) (w : ℕ) → List ℕ → ℕ
width_by t w s = elim t [ true ↦ 1 | false ↦ by_width w 0 (λ k. more (chars_width s k)) ]

chars_front : (s : List ℕ) (n j k : ℕ) → chars_width s j ≡ suc k → suc k ≤ n → chars_width (take n s) j ≡ suc k
unfolding chars_width
chars_front [] n j k e h = absurd (omega arith)
chars_front (b ∷ s) zero j k e h = absurd (omega arith)
chars_front (b ∷ s) (suc n) (suc j) k e h = behind b s n k h (λ j k. chars_front s n j k) j e
chars_front (b ∷ s) (suc n) zero k e h = go (eqb b 0x22) (char_wide (b ∷ s)) refl e (behind b s n k h (λ j k. chars_front s n j k)) (char_in_front b s n k h (λ j k. chars_front s n j k))
  where
    go : (t : Bool) (w : ℕ) → char_wide (b ∷ s) ≡ w → width_by t w s ≡ suc k → ((j : ℕ) → more (chars_width s j) ≡ suc k → more (chars_width (take n s) j) ≡ suc k)
        → ((w : ℕ) → char_wide (b ∷ s) ≡ suc w → more (chars_width s w) ≡ suc k → char_wide (b ∷ take n s) ≡ suc w) → width_by t (char_wide (b ∷ take n s)) (take n s) ≡ suc k
    go true w q e on at = e
    go false zero q e on at = absurd (omega arith)
    go false (suc w) q e on at = ap (λ (x : ℕ). width_by false x (take n s)) (at w q e) ∙ on w e

abbrev bytes_by : (t : Bool) (w : ℕ) → List ℕ → List ℕ → List ℕ
bytes_by t w v s = elim t [ true ↦ [] | false ↦ by_width w [] (λ k. v ++ chars_bytes s k) ]

chars_bytes_front : (s : List ℕ) (n j k : ℕ) → chars_width s j ≡ suc k → suc k ≤ n → chars_bytes (take n s) j ≡ chars_bytes s j
unfolding chars_width chars_bytes
chars_bytes_front [] n j k e h = absurd (omega arith)
chars_bytes_front (b ∷ s) zero j k e h = absurd (omega arith)
chars_bytes_front (b ∷ s) (suc n) (suc j) k e h = go k (more_suc (chars_width s j) k e) e h (chars_bytes_front s n j)
  where
    go : (k : ℕ) → chars_width s j ≡ k → more (chars_width s j) ≡ suc k → suc k ≤ suc n → ((k : ℕ) → chars_width s j ≡ suc k → suc k ≤ n → chars_bytes (take n s) j ≡ chars_bytes s j) → chars_bytes (take n s) j ≡ chars_bytes s j
    go zero q e h ih = let z : more (chars_width s j) ≡ 0 = ap more q in absurd (omega arith)
    go (suc k) q e h ih = ih k q (omega arith)
chars_bytes_front (b ∷ s) (suc n) zero k e h = go (eqb b 0x22) (char_wide (b ∷ s)) refl e (λ j. chars_bytes_front s n j) (char_in_front b s n k h (λ j k. chars_front s n j k))
  where
    go : (t : Bool) (w : ℕ) → char_wide (b ∷ s) ≡ w → width_by t w s ≡ suc k → ((j k : ℕ) → chars_width s j ≡ suc k → suc k ≤ n → chars_bytes (take n s) j ≡ chars_bytes s j)
        → ((w : ℕ) → char_wide (b ∷ s) ≡ suc w → more (chars_width s w) ≡ suc k → char_wide (b ∷ take n s) ≡ suc w)
        → bytes_by t (char_wide (b ∷ take n s)) (char_bytes (b ∷ take n s)) (take n s) ≡ bytes_by t w (char_bytes (b ∷ s)) s
    go true w q e ih at = refl
    go false zero q e ih at = absurd (omega arith)
    go false (suc w) q e ih at =
        by k (more_suc (chars_width s w) k e) e h
      where
        by : (k : ℕ) → chars_width s w ≡ k → more (chars_width s w) ≡ suc k → suc k ≤ suc n → bytes_by false (char_wide (b ∷ take n s)) (char_bytes (b ∷ take n s)) (take n s) ≡ char_bytes (b ∷ s) ++ chars_bytes s w
        by zero r f l = let z : more (chars_width s w) ≡ 0 = ap more r in absurd (omega arith)
        by (suc k) r f l =
            let z = skip_in s w k r in
            ap (λ (x : ℕ). bytes_by false x (char_bytes (b ∷ take n s)) (take n s)) (at w q e)
            ∙ ap (λ (v : List ℕ). v ++ chars_bytes (take n s) w) (bytes_front (b ∷ s) (suc n) w q (omega arith))
            ∙ ap (λ (v : List ℕ). char_bytes (b ∷ s) ++ v) (ih w k r (omega arith))

-- ---- strings
pub string_front : Front string_width
unfolding string_width
string_front [] n k e h = absurd (omega arith)
string_front (b ∷ s) zero k e h = absurd (omega arith)
string_front (b ∷ s) (suc n) k e h = go (eqb b 0x22) e
  where
    go : (t : Bool) → cond t (more (chars_width s 0)) 0 ≡ suc k → cond t (more (chars_width (take n s) 0)) 0 ≡ suc k
    go true e = behind b s n k h (λ j k. chars_front s n j k) 0 e
    go false e = absurd (omega arith)

pub string_bytes_front : (s : List ℕ) (n k : ℕ) → string_width s ≡ suc k → suc k ≤ n → string_bytes (take n s) ≡ string_bytes s
unfolding string_width string_bytes
string_bytes_front [] n k e h = absurd (omega arith)
string_bytes_front (b ∷ s) zero k e h = absurd (omega arith)
string_bytes_front (b ∷ s) (suc n) k e h = go (eqb b 0x22) k e h
  where
    go : (t : Bool) (k : ℕ) → cond t (more (chars_width s 0)) 0 ≡ suc k → suc k ≤ suc n → chars_bytes (take n s) 0 ≡ chars_bytes s 0
    go true zero e h = let z : more (chars_width s 0) ≡ 0 = ap more (more_suc (chars_width s 0) 0 e) in absurd (omega arith)
    go true (suc k) e h = chars_bytes_front s n 0 k (more_suc (chars_width s 0) (suc k) e) (omega arith)
    go false k e h = absurd (omega arith)

-- ---- scalars
pub scalar_front : Front scalar_width
unfolding scalar_width
scalar_front s n k e h = go (eqb (get_or s 0 0) 0x22) (literal_width s) refl refl e
  where
    go : (t : Bool) (w : ℕ) → eqb (get_or s 0 0) 0x22 ≡ t → literal_width s ≡ w → cond t (string_width s) (by_width w (number_width s) (λ k. suc k)) ≡ suc k → scalar_width (take n s) ≡ suc k
    go true w p q e = rw (get_or-take n s 0 0 (omega arith), p) (string_front s n k e h)
    go false zero p q e = rw (get_or-take n s 0 0 (omega arith), p, literal_keep s n (omega arith) ∙ q) (number_front s n k e h)
    go false (suc w) p q e = rw (get_or-take n s 0 0 (omega arith), p, literal_keep s n (omega arith) ∙ q) e
