-- A part of a UTF-8 text that begins and ends with a byte below 80 is UTF-8.
use Prim.Native.Nat.{ℕ, zero, suc, ◌+◌, ◌-◌, ◌/◌, ◌%◌, ◌≤◌, ◌<◌}
use mathlib.Core.Path.{◌≡◌, refl, sym, ap, subst, ◌∙◌}
use mathlib.Core.Bool.{Bool, true, false, cond}
use mathlib.Core.List.{List, [], ◌∷◌, ◌++◌}
use native.Mathlib.Omega.{arith}
use borrow.Author.Tests.{ltb-true, ltb-false}
use lib.Dec.{ltb}
use lib.ListN.{length, get_or, take, drop, drop_of_length-le, get_or-append}
use lib.Seq.{drop-cons, drop-append-add, take-append-add, get_or-append-add, drop-nil, take-append_seam, drop-append_seam}
use Rattle.spec_text.specs.utf8.Utf8.{utf8}
use Rattle.spec_text.proofs.utf8.Laws.{utf8_end}
use Rattle.spec_text.specs.unicode.Encode.{encode, Scalar, Scalars, none, more, encode_all}
use Rattle.spec_text.proofs.unicode.Encoding.{utf8_encoded}
use Rattle.spec_text.proofs.unicode.Trailing.{enc_1}
use Rattle.spec_text.proofs.unicode.Decoding.{all_taken, only_those}
use Rattle.spec_text.specs.text.Line.{ends_line}
use Rattle.spec_text.proofs.text.LfLaws.{ends_last}

-- ---- a byte below 80 is a character
low_scalar : (b : ℕ) → b < 0x80 → Scalar b
low_scalar b h = record { below = omega arith; plain = λ l m. omega arith }

pub low_head : (b : ℕ) (r : List ℕ) → b < 0x80 → utf8 (b ∷ r) ≡ utf8 r
low_head b r h = ap (λ (e : List ℕ). utf8 (e ++ r)) (enc_1 b h) ∙ utf8_encoded b (low_scalar b h) r

pub none_utf8 : utf8 [] ≡ true
none_utf8 = sym (utf8_end [] (omega arith))

-- ---- the others have bytes from 80 on
abbrev pub High : List ℕ → Type 0
High [] = Unit {0}
High (b ∷ r) = (0x80 ≤ b) × High r

pub encode_high : (u : ℕ) → 0x80 ≤ u → High (encode u)
unfolding encode
encode_high u h = go (ltb u 0x80) (ltb u 0x800) (ltb u 0x10000) refl
  where
    go : (x y z : Bool) → ltb u 0x80 ≡ x
        → High
        (cond x (u ∷ [])
        (cond y ((0xC0 + u / 64) ∷ (0x80 + u % 64) ∷ [])
        (cond z ((0xE0 + u / 4096) ∷ (0x80 + u / 64 % 64) ∷ (0x80 + u % 64) ∷ [])
        ((0xF0 + u / 262144) ∷ (0x80 + u / 4096 % 64) ∷ (0x80 + u / 64 % 64) ∷ (0x80 + u % 64) ∷ []))))
    go true y z e = (h, tt)
    go false true z e = (omega arith, (omega arith, tt))
    go false false true e = (omega arith, (omega arith, (omega arith, tt)))
    go false false false e = (omega arith, (omega arith, (omega arith, (omega arith, tt))))

high_at_lem : (e : List ℕ) → High e → (k : ℕ) → k < length e → 0x80 ≤ get_or e k 0
high_at_lem [] h k l = absurd (omega arith)
high_at_lem (b ∷ r) h zero l = h.0
high_at_lem (b ∷ r) h (suc k) l = high_at_lem r h.1 k (omega arith)

-- a byte below 80 within a character is the whole of it
low_whole : (u : ℕ) → Scalar u → (k : ℕ) → k < length (encode u) → get_or (encode u) k 0 < 0x80 → (k ≡ 0) × (u < 0x80)
low_whole u ok k l h = go (ltb u 0x80) refl
  where
    go : (t : Bool) → ltb u 0x80 ≡ t → (k ≡ 0) × (u < 0x80)
    go true e =
        let low : u < 0x80 = ltb-true u 0x80 e in
        let n : length (encode u) ≡ 1 = ap length (sym (enc_1 u low)) in
        (omega (arith, n, l), low)
    go false e = absurd (omega (arith, h, high_at_lem (encode u) (encode_high u (ltb-false u 0x80 e)) k l))

-- ---- what is left from a byte below 80 on
drop_row : (us : List ℕ) → Scalars us → (k : ℕ) → get_or (encode_all us) k 0 < 0x80 → utf8 (drop k (encode_all us)) ≡ true
unfolding encode_all
drop_row us none k h = ap utf8 (drop-nil k) ∙ none_utf8
drop_row us (more {u = u} {us = vs} ok r) k h = go (ltb k (length (encode u))) refl (drop_row vs r)
  where
    go : (t : Bool) → ltb k (length (encode u)) ≡ t → ((i : ℕ) → get_or (encode_all vs) i 0 < 0x80 → utf8 (drop i (encode_all vs)) ≡ true) → utf8 (drop k (encode u ++ encode_all vs)) ≡ true
    go true q ih =
        let l : k < length (encode u) = ltb-true k (length (encode u)) q in
        let b : get_or (encode u) k 0 < 0x80 = subst (λ (n : ℕ). n < 0x80) (get_or-append (encode u) (encode_all vs) 0 k l) h in
        ap (λ (n : ℕ). utf8 (drop n (encode u ++ encode_all vs))) (low_whole u ok k l b).0 ∙ utf8_encoded u ok (encode_all vs) ∙ all_taken vs r
    go false q ih =
        let l : length (encode u) ≤ k = ltb-false k (length (encode u)) q in
        let z : k ≡ length (encode u) + (k - length (encode u)) = omega arith in
        let j = k - length (encode u) in
        let b : get_or (encode_all vs) j 0 < 0x80 =
        subst (λ (n : ℕ). n < 0x80) (ap (λ (n : ℕ). get_or (encode u ++ encode_all vs) n 0) z ∙ get_or-append-add (encode u) (encode_all vs) j 0) h in
        ap (λ (n : ℕ). utf8 (drop n (encode u ++ encode_all vs))) z ∙ ap utf8 (drop-append-add (encode u) (encode_all vs) j) ∙ ih j b

pub low_drop : (s : List ℕ) → utf8 s ≡ true → (k : ℕ) → get_or s k 0 < 0x80 → utf8 (drop k s) ≡ true
low_drop s e k h =
    let r = only_those s e in
    ap (λ (l : List ℕ). utf8 (drop k l)) r.2 ∙ drop_row r.0 r.1 k (subst (λ (l : List ℕ). get_or l k 0 < 0x80) r.2 h)

-- and from behind it
pub low_past : (s : List ℕ) → utf8 s ≡ true → (k : ℕ) → get_or s k 0 < 0x80 → utf8 (drop (suc k) s) ≡ true
low_past s e k h = go (ltb k (length s)) refl
  where
    go : (t : Bool) → ltb k (length s) ≡ t → utf8 (drop (suc k) s) ≡ true
    go true q = sym (low_head (get_or s k 0) (drop (suc k) s) h) ∙ ap utf8 (sym (drop-cons s k 0 (ltb-true k (length s) q))) ∙ low_drop s e k h
    go false q = let l : length s ≤ suc k = omega (arith, ltb-false k (length s) q) in ap utf8 (drop_of_length-le s l) ∙ none_utf8

-- ---- what stands up to a byte below 80, with it
take_row : (us : List ℕ) → Scalars us → (k : ℕ) → get_or (encode_all us) k 0 < 0x80 → utf8 (take (suc k) (encode_all us)) ≡ true
unfolding encode_all
take_row us none k h = none_utf8
take_row us (more {u = u} {us = vs} ok r) k h = go (ltb k (length (encode u))) refl (take_row vs r)
  where
    go : (t : Bool) → ltb k (length (encode u)) ≡ t → ((i : ℕ) → get_or (encode_all vs) i 0 < 0x80 → utf8 (take (suc i) (encode_all vs)) ≡ true)
        → utf8 (take (suc k) (encode u ++ encode_all vs)) ≡ true
    go true q ih =
        let l : k < length (encode u) = ltb-true k (length (encode u)) q in
        let b : get_or (encode u) k 0 < 0x80 = subst (λ (n : ℕ). n < 0x80) (get_or-append (encode u) (encode_all vs) 0 k l) h in
        let w = low_whole u ok k l b in
        ap (λ (n : ℕ). utf8 (take (suc n) (encode u ++ encode_all vs))) w.0
        ∙ ap (λ (x : List ℕ). utf8 (take 1 (x ++ encode_all vs))) (sym (enc_1 u w.1))
        ∙ low_head u [] w.1 ∙ none_utf8
    go false q ih =
        let l : length (encode u) ≤ k = ltb-false k (length (encode u)) q in
        let j = k - length (encode u) in
        let y : k ≡ length (encode u) + j = omega arith in
        let z : suc k ≡ length (encode u) + suc j = omega arith in
        let b : get_or (encode_all vs) j 0 < 0x80 =
        subst (λ (n : ℕ). n < 0x80) (ap (λ (n : ℕ). get_or (encode u ++ encode_all vs) n 0) y ∙ get_or-append-add (encode u) (encode_all vs) j 0) h in
        ap (λ (n : ℕ). utf8 (take n (encode u ++ encode_all vs))) z ∙ ap utf8 (take-append-add (encode u) (encode_all vs) (suc j))
        ∙ utf8_encoded u ok (take (suc j) (encode_all vs)) ∙ ih j b

pub low_take : (s : List ℕ) → utf8 s ≡ true → (k : ℕ) → get_or s k 0 < 0x80 → utf8 (take (suc k) s) ≡ true
low_take s e k h =
    let r = only_those s e in
    ap (λ (l : List ℕ). utf8 (take (suc k) l)) r.2 ∙ take_row r.0 r.1 k (subst (λ (l : List ℕ). get_or l k 0 < 0x80) r.2 h)

-- ---- a line that LF ends, at the head of a UTF-8 text: it is UTF-8, and so is what follows it
module _ (l s : List ℕ) (e : ends_line l ≡ true) (h : utf8 (l ++ s) ≡ true) where
  abbrev k : ℕ
  k = length l - 1

  all : suc k ≡ length l
  all = let n = (ends_last l e).0 in omega arith

  low : get_or (l ++ s) k 0 < 0x80
  low =
      let n = ends_last l e in
      let i : k < length l = omega (arith, n.0) in
      omega (arith, get_or-append l s 0 k i, n.1)

  pub line_head : utf8 l ≡ true
  line_head = ap utf8 (sym (take-append_seam l s)) ∙ ap (λ (n : ℕ). utf8 (take n (l ++ s))) (sym all) ∙ low_take (l ++ s) h k low

  pub line_tail : utf8 s ≡ true
  line_tail = ap utf8 (sym (drop-append_seam l s)) ∙ ap (λ (n : ℕ). utf8 (drop n (l ++ s))) (sym all) ∙ low_past (l ++ s) h k low
