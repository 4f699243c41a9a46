-- `blank` is document 01's "trimmed empty": a text that is not blank is not empty when it is trimmed at both ends.
use mathlib.Core.Path.{◌≡◌, refl, sym, ap, subst, ◌∙◌}
use mathlib.Core.Bool.{Bool, true, false, cond}
use mathlib.Core.List.{List, [], ◌∷◌, ◌++◌, append-nil}
use Prim.Native.Nat.{ℕ, zero, suc, ◌-◌, ◌≤◌, ◌<◌}
use native.Mathlib.Omega.{arith}
use borrow.Author.Tests.{leb-true, leb-false, eqb-true}
use lib.Dec.{leb}
use lib.ListN.{length, take, drop, take-append-drop, drop_of_length-le}
use lib.Seq.{take-nil, length-take-le}
use Rattle.spec_base.specs.base.Width.{by_width}
use Rattle.spec_base.specs.base.Part.{last}
use Rattle.spec_text.specs.utf8.Utf8.{char_width, code_head}
use Rattle.spec_text.specs.whitespace.White.{white, white_head, ends_white, white_tail, head_from, keep_from, trim_head, trim_tail, trim}
use Rattle.spec_text.specs.text.Line.{is_empty, blank}
use Rattle.spec_text.specs.unicode.Encode.{encode}
use Rattle.spec_text.proofs.unicode.Encoding.{white_encoded, encode_long}
use Rattle.spec_text.proofs.unicode.Decoding.{decoded}

-- a front of u that is a white-space character as a whole stands at u's head
front_white : (u : List ℕ) (m : ℕ) → 0 < m → m ≤ length u → m ≤ white_head (take m u) → white_head u ≡ 0 → ⊥
unfolding white_head
front_white u m p h w z = go (white (code_head (take m u))) refl w
  where
    n : length (take m u) ≡ m
    n = length-take-le m u h

    go : (t : Bool) → white (code_head (take m u)) ≡ t → m ≤ cond t (char_width (take m u)) 0 → ⊥
    go true e k =
        let d = decoded (take m u) (omega (arith, n)) (λ q. omega arith) in
        let v : ℕ = code_head (take m u) in
        let c : length (take m u) ≤ char_width (take m u) = omega (arith, n) in
        let r : drop (char_width (take m u)) (take m u) ≡ [] = drop_of_length-le (take m u) c in
        let f : take m u ≡ encode v = d.1 ∙ ap (λ (l : List ℕ). encode v ++ l) r ∙ append-nil (encode v) in
        let g : u ≡ encode v ++ drop m u = sym (take-append-drop m u) ∙ ap (λ (l : List ℕ). l ++ drop m u) f in
        let x : length (encode v) ≡ 0 = sym (ap (λ (t : Bool). cond t (length (encode v)) 0) e) ∙ sym (white_encoded v d.0 (drop m u)) ∙ ap white_head (sym g) ∙ z in
        omega (arith, encode_long v d.0)
    go false e k = omega arith

-- so less than a whole front is taken off at its end
ends_less : (u : List ℕ) (n k : ℕ) → suc n ≤ length u → white_head u ≡ 0 → ends_white (take (suc n) u) k ≡ true → k ≤ n
unfolding ends_white last
ends_less u n k h z e = go (leb k n) refl
  where
    l : length (take (suc n) u) ≡ suc n
    l = length-take-le (suc n) u h

    go : (t : Bool) → leb k n ≡ t → k ≤ n
    go true q = leb-true k n q
    go false q =
        let m : n < k = leb-false k n q in
        let r : length (take (suc n) u) - k ≡ 0 = omega (arith, l) in
        let f : white_head (take (suc n) u) ≡ k = ap (λ (j : ℕ). white_head (drop j (take (suc n) u))) (sym r) ∙ eqb-true _ k e in
        absurd (front_white u (suc n) (omega arith) h (omega arith) z)

tail_less : (u : List ℕ) (n : ℕ) → suc n ≤ length u → white_head u ≡ 0 → white_tail (take (suc n) u) ≤ n
unfolding white_tail
tail_less u n h z = go (ends_white (take (suc n) u) 1) (ends_white (take (suc n) u) 2) (ends_white (take (suc n) u) 3) (ends_less u n 1 h z) (ends_less u n 2 h z) (ends_less u n 3 h z)
  where
    go : (a b c : Bool) → (a ≡ true → 1 ≤ n) → (b ≡ true → 2 ≤ n) → (c ≡ true → 3 ≤ n) → cond a 1 (cond b 2 (cond c 3 0)) ≤ n
    go true b c f g e = f refl
    go false true c f g e = g refl
    go false false true f g e = e refl
    go false false false f g e = omega arith

keep_some : (u : List ℕ) → white_head u ≡ 0 → (n k : ℕ) → k < n → n ≤ length u → 0 < keep_from u n k
unfolding keep_from
keep_some u z zero k p h = absurd (omega arith)
keep_some u z (suc n) (suc k) p h = keep_some u z n k (omega arith) (omega arith)
keep_some u z (suc n) zero p h = go (white_tail (take (suc n) u)) (tail_less u n h z) (keep_some u z n)
  where
    go : (w : ℕ) → w ≤ n → ((k : ℕ) → k < n → n ≤ length u → 0 < keep_from u n k) → 0 < by_width w (suc n) (λ k. keep_from u n k)
    go zero q ih = omega arith
    go (suc k) q ih = ih k (omega arith) (omega arith)

-- what is left at the head is no white space
head_stays : (s : List ℕ) (k : ℕ) → 0 < length (head_from s k) → white_head (head_from s k) ≡ 0
unfolding head_from
head_stays [] k h = absurd (omega arith)
head_stays (b ∷ r) (suc k) h = head_stays r k h
head_stays (b ∷ r) zero h = go (white_head (b ∷ r)) refl (head_stays r) h
  where
    go : (w : ℕ) → white_head (b ∷ r) ≡ w → ((k : ℕ) → 0 < length (head_from r k) → white_head (head_from r k) ≡ 0)
        → 0 < length (by_width w (b ∷ r) (λ k. head_from r k)) → white_head (by_width w (b ∷ r) (λ k. head_from r k)) ≡ 0
    go zero e ih p = e
    go (suc k) e ih p = ih k p

take_some : (n b : ℕ) (r : List ℕ) → 0 < n → is_empty (take n (b ∷ r)) ≡ false
take_some zero b r h = absurd (omega arith)
take_some (suc n) b r h = refl

pub blank_trimmed : (s : List ℕ) → is_empty (trim s) ≡ blank s
unfolding blank trim trim_tail trim_head
blank_trimmed s = go (head_from s 0) refl
  where
    go : (u : List ℕ) → head_from s 0 ≡ u → is_empty (take (keep_from u (length u) 0) u) ≡ is_empty u
    go [] e = ap is_empty (take-nil (keep_from [] 0 0))
    go (b ∷ r) e =
        let z : white_head (b ∷ r) ≡ 0 = subst (λ (l : List ℕ). 0 < length l → white_head l ≡ 0) e (head_stays s 0) (omega arith) in
        take_some _ b r (keep_some (b ∷ r) z (length (b ∷ r)) 0 (omega arith) (omega arith))
