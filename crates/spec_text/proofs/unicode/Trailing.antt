-- What `trim_tail` takes off the end: a scalar value at the end of a text is taken off exactly where it is white space.
use mathlib.Core.Path.{◌≡◌, refl, sym, ap, subst, ◌∙◌, fun_ext}
use mathlib.Core.Bool.{Bool, true, false}
use mathlib.Core.List.{List, [], ◌∷◌, ◌++◌}
use Prim.Native.Nat.{ℕ, zero, suc, ◌+◌, ◌-◌, ◌/◌, ◌%◌, ◌≤◌, ◌<◌}
use native.Mathlib.Nat.{le_trans, le_refl}
use native.Mathlib.Omega.{arith}
use borrow.Author.Tests.{lt-ltb, le-ltb, ltb-true, ltb-false}
use lib.Dec.{ltb}
use lib.ListN.{length, take, length-append}
use lib.Seq.{take-append-le, take-length}
use mathlib.Core.Bool.{cond}
use Rattle.spec_base.specs.base.Width.{by_width}
use Rattle.spec_text.specs.utf8.Utf8.{char_width}
use Rattle.spec_text.specs.whitespace.White.{white, white_head, white_tail, keep_from, trim_tail}
use Rattle.spec_text.specs.unicode.Encode.{encode, Scalar}
use Rattle.spec_base.proofs.base.Laws.{yes!, no! }
use Rattle.spec_text.proofs.whitespace.Laws.{keep_step, keep_none}
use Rattle.spec_text.proofs.unicode.Encoding.{encoded, encode_long, white_encoded}
use Rattle.spec_text.proofs.whitespace.LastBytes.{case_1, case_2, case_3, case_4, white_far}

-- ---- the four forms of the encoding
pub enc_1 : (u : ℕ) → u < 0x80 → u ∷ [] ≡ encode u
unfolding encode
enc_1 u h = yes! _ (lt-ltb _ _ h) refl

pub enc_2 : (u : ℕ) → 0x80 ≤ u → u < 0x800 → (0xC0 + u / 64) ∷ (0x80 + u % 64) ∷ [] ≡ encode u
unfolding encode
enc_2 u l h = no! _ (le-ltb _ _ l) (yes! _ (lt-ltb _ _ h) refl)

pub enc_3 : (u : ℕ) → 0x800 ≤ u → u < 0x10000 → (0xE0 + u / 4096) ∷ (0x80 + u / 64 % 64) ∷ (0x80 + u % 64) ∷ [] ≡ encode u
unfolding encode
enc_3 u l h = no! _ (le-ltb u 0x80 (omega arith)) (no! _ (le-ltb _ _ l) (yes! _ (lt-ltb _ _ h) refl))

pub enc_4 : (u : ℕ) → 0x10000 ≤ u → (0xF0 + u / 262144) ∷ (0x80 + u / 4096 % 64) ∷ (0x80 + u / 64 % 64) ∷ (0x80 + u % 64) ∷ [] ≡ encode u
unfolding encode
enc_4 u l = no! _ (le-ltb u 0x80 (omega arith)) (no! _ (le-ltb u 0x800 (omega arith)) (no! _ (le-ltb _ _ l) refl))

module _ (u : ℕ) (ok : Scalar u) where
  at_head : (e : List ℕ) → e ≡ encode u → white_head (e ++ []) ≡ cond (white u) (length e) 0
  at_head e q = subst (λ (l : List ℕ). white_head (l ++ []) ≡ cond (white u) (length l) 0) (sym q) (white_encoded u ok [])

  wide : (e : List ℕ) → e ≡ encode u → length e ≡ char_width (e ++ [])
  wide e q = subst (λ (l : List ℕ). length l ≡ char_width (l ++ [])) (sym q) (encoded u ok [])

  -- the white space that a text ends with is told by its last scalar value
  pub tail_encoded : (s : List ℕ) → white_tail (s ++ encode u) ≡ cond (white u) (length (encode u)) 0
  tail_encoded s = go (ltb u 0x80) (ltb u 0x800) (ltb u 0x10000) refl refl refl
    where
      goal : List ℕ → Type 0
      goal l = white_tail (s ++ l) ≡ cond (white u) (length l) 0

      go : (x y z : Bool) → ltb u 0x80 ≡ x → ltb u 0x800 ≡ y → ltb u 0x10000 ≡ z → white_tail (s ++ encode u) ≡ cond (white u) (length (encode u)) 0
      go true y z e f g =
          let q = enc_1 u (ltb-true _ _ e) in
          subst goal q (case_1 u (white u) (ltb-true _ _ e) (at_head _ q) s)
      go false true z e f g =
          let q = enc_2 u (ltb-false _ _ e) (ltb-true _ _ f) in
          subst goal q (case_2 (0xC0 + u / 64) (0x80 + u % 64) (white u) (omega (arith, ltb-false u 0x80 e)) (omega arith) (omega arith) (wide _ q) (at_head _ q) s)
      go false false true e f g =
          let q = enc_3 u (ltb-false _ _ f) (ltb-true _ _ g) in
          subst goal q (case_3 (0xE0 + u / 4096) (0x80 + u / 64 % 64) (0x80 + u % 64) (white u) (omega arith) (omega arith) (omega arith) (omega arith) (at_head _ q) s)
      go false false false e f g =
          let q = enc_4 u (ltb-false _ _ g) in
          subst goal q (case_4 (0xF0 + u / 262144) (0x80 + u / 4096 % 64) (0x80 + u / 64 % 64) (0x80 + u % 64) (omega arith) (omega arith) (omega arith) (omega arith) (omega arith) (omega arith) s
          ∙ ap (λ (t : Bool). cond t 4 0) (sym (white_far u (ltb-false _ _ g))))

-- ---- what is kept of s is told by s
keep_prefix : (s e : List ℕ) (m k : ℕ) → m ≤ length s → keep_from (s ++ e) m k ≡ keep_from s m k
unfolding keep_from
keep_prefix s e zero k h = refl
keep_prefix s e (suc m) (suc k) h = keep_prefix s e m k (omega arith)
keep_prefix s e (suc m) zero h =
    ap (λ (t : List ℕ). by_width (white_tail t) (suc m) (λ k. keep_from (s ++ e) m k)) (take-append-le (suc m) s e h)
    ∙ ap (λ (f : ℕ → ℕ). by_width (white_tail (take (suc m) s)) (suc m) f) (fun_ext (λ k. keep_prefix s e m k (omega arith)))

keep_most : (s : List ℕ) (n k : ℕ) → keep_from s n k ≤ n
unfolding keep_from
keep_most s zero k = le_refl 0
keep_most s (suc n) (suc k) = le_trans (keep_most s n k) (omega arith)
keep_most s (suc n) zero = go (λ k. keep_most s n k) (white_tail (take (suc n) s))
  where
    go : ((k : ℕ) → keep_from s n k ≤ n) → (w : ℕ) → by_width w (suc n) (λ k. keep_from s n k) ≤ suc n
    go ih zero = le_refl (suc n)
    go ih (suc k) = le_trans (ih k) (omega arith)

module _ (u : ℕ) (ok : Scalar u) where
  ends_with : (s : List ℕ) (w : Bool) → white u ≡ w → cond w (length (encode u)) 0 ≡ white_tail (take (length (s ++ encode u)) (s ++ encode u))
  ends_with s w h = sym (ap white_tail (take-length (s ++ encode u)) ∙ tail_encoded u ok s ∙ ap (λ (t : Bool). cond t (length (encode u)) 0) h)

  -- a scalar value at the end is taken off where it is white space, and else the text stays as it is
  pub tail_white : (s : List ℕ) → white u ≡ true → trim_tail (s ++ encode u) ≡ trim_tail s
  unfolding trim_tail
  tail_white s h =
      let p : 0 < length (encode u) = encode_long u ok in
      let n : length (s ++ encode u) ≡ length s + length (encode u) = length-append s (encode u) in
      let m : length (s ++ encode u) - length (encode u) ≡ length s = omega arith in
      ap (λ (k : ℕ). take k (s ++ encode u))
      (keep_step (s ++ encode u) _ (length (s ++ encode u)) (length (encode u)) (omega arith) refl (ends_with s true h) (λ z. omega arith)
      ∙ ap (λ (k : ℕ). keep_from (s ++ encode u) k 0) m
      ∙ keep_prefix s (encode u) (length s) 0 (le_refl _))
      ∙ take-append-le _ s (encode u) (keep_most s (length s) 0)

  pub tail_other : (s : List ℕ) → white u ≡ false → trim_tail (s ++ encode u) ≡ s ++ encode u
  unfolding trim_tail
  tail_other s h =
      let p : 0 < length (encode u) = encode_long u ok in
      let n : length (s ++ encode u) ≡ length s + length (encode u) = length-append s (encode u) in
      ap (λ (k : ℕ). take k (s ++ encode u)) (sym (keep_none (s ++ encode u) _ (length (s ++ encode u)) 0 (omega arith) refl (ends_with s false h) refl))
      ∙ take-length (s ++ encode u)
