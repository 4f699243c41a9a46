-- A text that reads as a time holds only digits, `+`, `:`, the mark and White_Space: no other character of one byte stands in it.
use mathlib.Core.Path.{◌≡◌, refl, sym, ap, subst, ◌∙◌}
use mathlib.Core.Bool.{Bool, true, false, cond, true≢false}
use mathlib.Core.Logic.{⊎_elim}
use mathlib.Core.List.{List, [], ◌∷◌}
use Prim.Native.Nat.{ℕ, zero, suc, ◌+◌, ◌-◌, ◌≤◌, ◌<◌, min}
use native.Mathlib.Omega.{arith}
use borrow.Author.Tests.{ltb-true, ltb-false, leb-true, eqb-true, eqb-false}
use lib.Dec.{ltb, leb, eqb}
use lib.ListN.{length, take, drop, get_or, length-drop, length-take}
use lib.Seq.{take-nil, take_at, get_or-drop, get_or-take, length-take-le}
use Rattle.std.specs.Prelude.{Option, Some, None}
use Rattle.spec_base.specs.base.Width.{by_width}
use Rattle.spec_base.specs.base.Part.{last}
use Rattle.spec_base.specs.base.Limits.{most_hours, most_minutes, most_seconds}
use Rattle.spec_text.specs.text.Number.{digit, digits, value_from, natural, unsigned, number}
use Rattle.spec_text.specs.utf8.Utf8.{char_width, code_head}
use Rattle.spec_text.specs.whitespace.White.{white, white_head, ends_white, white_tail, head_from, keep_from, trim_head, trim_tail, trim}
use Rattle.spec_text.specs.pattern.Find.{starts, first, up_to, past}
use Rattle.spec_text.specs.unicode.Encode.{encode}
use Rattle.spec_text.proofs.unicode.Encoding.{encoded}
use Rattle.spec_text.proofs.unicode.Decoding.{decoded}
use Rattle.spec_text.proofs.unicode.Trailing.{enc_1, enc_2, enc_3, enc_4}
use Rattle.spec_time.specs.caption_time.Kind.{units_of}
use Rattle.spec_time.specs.caption_stamp.Read.{stamp, colon, mark_in, time_with, time_in}
use Rattle.spec_time.proofs.caption_stamp.Reading.{parts, read_known, mark_one}
use Rattle.spec_text.proofs.pattern.Free.{Free}

free_at : (c : ℕ) (s : List ℕ) (i : ℕ) → Free c s → i < length s → c ≡ get_or s i 0 → ⊥
free_at c [] i f h e = absurd (omega arith)
free_at c (b ∷ s) zero f h e = f.0 e
free_at c (b ∷ s) (suc i) f h e = free_at c s i f.1 (omega arith) e

at_free : (c : ℕ) (s : List ℕ) → ((i : ℕ) → i < length s → c ≡ get_or s i 0 → ⊥) → Free c s
at_free c [] h = tt
at_free c (b ∷ s) h = (h 0 (omega arith), at_free c s (λ i l. h (suc i) (omega arith)))

-- ---- a byte that is no White_Space is in no White_Space character
module _ (c : ℕ) (low : c < 0x80) (other : white c ≡ false) where
  encode_free : (u : ℕ) → white u ≡ true → Free c (encode u)
  encode_free u w = go (ltb u 0x80) (ltb u 0x800) (ltb u 0x10000) refl refl refl
    where
      go : (x y z : Bool) → ltb u 0x80 ≡ x → ltb u 0x800 ≡ y → ltb u 0x10000 ≡ z → Free c (encode u)
      go true y z e f g = subst (Free c) (enc_1 u (ltb-true u 0x80 e)) ((λ q. true≢false (sym w ∙ ap white (sym q) ∙ other)), tt)
      go false true z e f g =
          subst (Free c) (enc_2 u (ltb-false u 0x80 e) (ltb-true u 0x800 f)) ((λ q. omega arith), ((λ q. omega arith), tt))
      go false false true e f g =
          subst (Free c) (enc_3 u (ltb-false u 0x800 f) (ltb-true u 0x10000 g)) ((λ q. omega arith), ((λ q. omega arith), ((λ q. omega arith), tt)))
      go false false false e f g =
          subst (Free c) (enc_4 u (ltb-false u 0x10000 g)) ((λ q. omega arith), ((λ q. omega arith), ((λ q. omega arith), ((λ q. omega arith), tt))))

  take_free : (s : List ℕ) (k : ℕ) → k ≡ 0 → Free c (take k s)
  take_free s k e = subst (λ (n : ℕ). Free c (take n s)) (sym e) tt

  white_free : (s : List ℕ) (k : ℕ) → white_head s ≡ k → Free c (take k s)
  unfolding white_head
  white_free [] k e = subst (Free c) (sym (take-nil k)) tt
  white_free (b ∷ r) k e = go (white (code_head (b ∷ r))) refl e (eqb k 0) refl
    where
      go : (t : Bool) → white (code_head (b ∷ r)) ≡ t → cond t (char_width (b ∷ r)) 0 ≡ k → (z : Bool) → eqb k 0 ≡ z → Free c (take k (b ∷ r))
      go false w q z p = take_free (b ∷ r) k (sym q)
      go true w q true p = take_free (b ∷ r) k (eqb-true k 0 p)
      go true w q false p =
          let d = decoded (b ∷ r) (omega arith) (λ y. eqb-false k 0 p (sym q ∙ y)) in
          let u = code_head (b ∷ r) in
          let v = drop (char_width (b ∷ r)) (b ∷ r) in
          let n : length (encode u) ≡ k = encoded u d.0 v ∙ ap char_width (sym d.1) ∙ q in
          subst (Free c) (sym (ap (take k) d.1 ∙ take_at (encode u) v k n)) (encode_free u w)

  -- ---- at the head, and at the end
  head_free : (s : List ℕ) (k : ℕ) → Free c (take k s) → Free c (head_from s k) → Free c s
  unfolding head_from
  head_free [] k f g = tt
  head_free (b ∷ r) (suc k) f g = (f.0, head_free r k f.1 g)
  head_free (b ∷ r) zero f g = go (white_head (b ∷ r)) refl (head_free r) g
    where
      go : (w : ℕ) → white_head (b ∷ r) ≡ w → ((k : ℕ) → Free c (take k r) → Free c (head_from r k) → Free c r) → Free c (by_width w (b ∷ r) (λ k. head_from r k)) → Free c (b ∷ r)
      go zero e ih h = h
      go (suc k) e ih h =
          let t : Free c (take (suc k) (b ∷ r)) = white_free (b ∷ r) (suc k) e in
          (t.0, ih k t.1 h)

  ends_free : (t : List ℕ) (k : ℕ) → ends_white t k ≡ true → (i : ℕ) → length t - k ≤ i → i < length t → c ≡ get_or t i 0 → ⊥
  unfolding ends_white last
  ends_free t k e i l h q =
      let d = length t - k in
      let f : Free c (take k (drop d t)) = white_free (drop d t) k (eqb-true (white_head (drop d t)) k e) in
      let j : i ≡ d + (i - d) = omega arith in
      let n : length (take k (drop d t)) ≡ min k (length t - d) = length-take k (drop d t) ∙ ap (min k) (length-drop d t) in
      free_at c (take k (drop d t)) (i - d) f (omega arith)
      (q ∙ ap (λ (x : ℕ). get_or t x 0) j ∙ sym (get_or-drop d t (i - d) 0) ∙ sym (get_or-take k (drop d t) (i - d) 0 (omega arith)))

  tail_at : (t : List ℕ) (k : ℕ) → white_tail t ≡ k → (i : ℕ) → length t - k ≤ i → i < length t → c ≡ get_or t i 0 → ⊥
  unfolding white_tail
  tail_at t k e i l h = go (ends_white t 1) refl (ends_white t 2) refl (ends_white t 3) refl e
    where
      by : (j : ℕ) → ends_white t j ≡ true → j ≡ k → c ≡ get_or t i 0 → ⊥
      by j p q = ends_free t j p i (omega arith) h

      go : (x : Bool) → ends_white t 1 ≡ x → (y : Bool) → ends_white t 2 ≡ y → (z : Bool) → ends_white t 3 ≡ z → cond x 1 (cond y 2 (cond z 3 0)) ≡ k → c ≡ get_or t i 0 → ⊥
      go true p y q z r e = by 1 p e
      go false p true q z r e = by 2 q e
      go false p false q true r e = by 3 r e
      go false p false q false r e = λ u. omega arith

  -- the first n bytes of s: none of the last k of them is c, and none that are kept
  keep_free : (s : List ℕ) (n k : ℕ) → n ≤ length s → ((i : ℕ) → n - k ≤ i → i < n → c ≡ get_or s i 0 → ⊥) → ((i : ℕ) → i < keep_from s n k → i < length s → c ≡ get_or s i 0 → ⊥)
      → (i : ℕ) → i < n → c ≡ get_or s i 0 → ⊥
  unfolding keep_from
  keep_free s zero k h f g i l e = omega arith
  keep_free s (suc n) (suc k) h f g i l e = go (ltb i n) refl (keep_free s n k (omega arith) (λ j a b. f j (omega arith) (omega arith)) g)
    where
      go : (t : Bool) → ltb i n ≡ t → ((i : ℕ) → i < n → c ≡ get_or s i 0 → ⊥) → ⊥
      go true q ih = ih i (ltb-true i n q) e
      go false q ih = f i (omega (arith, ltb-false i n q)) l e
  keep_free s (suc n) zero h f g i l e = go (white_tail (take (suc n) s)) refl g (keep_free s n)
    where
      size : length (take (suc n) s) ≡ suc n
      size = length-take-le (suc n) s h

      here : (k : ℕ) → white_tail (take (suc n) s) ≡ k → (i : ℕ) → suc n - k ≤ i → i < suc n → c ≡ get_or s i 0 → ⊥
      here k q i a b p = tail_at (take (suc n) s) k q i (omega (arith, size)) (omega (arith, size)) (p ∙ sym (get_or-take (suc n) s i 0 b))

      go : (w : ℕ) → white_tail (take (suc n) s) ≡ w → ((i : ℕ) → i < by_width w (suc n) (λ k. keep_from s n k) → i < length s → c ≡ get_or s i 0 → ⊥)
          → ((k : ℕ) → n ≤ length s → ((i : ℕ) → n - k ≤ i → i < n → c ≡ get_or s i 0 → ⊥) → ((i : ℕ) → i < keep_from s n k → i < length s → c ≡ get_or s i 0 → ⊥) → (i : ℕ) → i < n → c ≡ get_or s i 0 → ⊥) → ⊥
      go zero q g ih = g i l (omega arith) e
      go (suc k) q g ih = below (ltb i n) refl
        where
          below : (t : Bool) → ltb i n ≡ t → ⊥
          below true p = ih k (omega arith) (λ j a b. here (suc k) q j (omega arith) (omega arith)) g i (ltb-true i n p) e
          below false p = here (suc k) q i (omega (arith, ltb-false i n p)) l e

  kept_at : (s : List ℕ) (n : ℕ) → Free c (take n s) → (i : ℕ) → i < n → i < length s → c ≡ get_or s i 0 → ⊥
  kept_at s n f i a b e = free_at c (take n s) i f (omega (arith, length-take n s)) (e ∙ sym (get_or-take n s i 0 a))

  pub trim_free : (s : List ℕ) → Free c (trim s) → Free c s
  unfolding trim trim_tail trim_head
  trim_free s f =
      let h = head_from s 0 in
      head_free s 0 tt (at_free c h (keep_free h (length h) 0 (omega arith) (λ j a b. absurd (omega arith)) (λ j a b. kept_at h (keep_from h (length h) 0) f j a b)))

-- ---- a byte that is no digit and no `+` is in no number
module _ (c : ℕ) (no_digit : (b : ℕ) → 48 ≤ b → b ≤ 57 → c ≡ b → ⊥) (no_plus : c ≡ 43 → ⊥) where
  digits_free : (s : List ℕ) → digits s ≡ true → Free c s
  unfolding digits digit
  digits_free [] e = tt
  digits_free (b ∷ s) e = go (ltb b 48) refl (leb b 57) refl e (digits_free s)
    where
      go : (x : Bool) → ltb b 48 ≡ x → (y : Bool) → leb b 57 ≡ y → cond (cond x false y) (digits s) false ≡ true → (digits s ≡ true → Free c s) → Free c (b ∷ s)
      go true p y q e ih = absurd (true≢false (sym e))
      go false p false q e ih = absurd (true≢false (sym e))
      go false p true q e ih = (no_digit b (ltb-false b 48 p) (leb-true b 57 q), ih e)

  natural_free : (most v : ℕ) (s : List ℕ) → natural most s ≡ Some v → Free c s
  unfolding natural
  natural_free most v [] e = tt
  natural_free most v (b ∷ s) e = go (digits (b ∷ s)) refl e
    where
      go : (d : Bool) → digits (b ∷ s) ≡ d → cond d (cond (leb (value_from 0 (b ∷ s)) most) (Some (value_from 0 (b ∷ s))) None) None ≡ Some v → Free c (b ∷ s)
      go true p e = digits_free (b ∷ s) p
      go false p e = absurd (let z : ◌≡◌ {A = ℕ} 0 1 = ap (λ (x : Option ℕ). elim x [ Some k ↦ 1 | None ↦ 0 ]) e in omega arith)

  number_free : (most v : ℕ) (s : List ℕ) → number most s ≡ Some v → Free c s
  unfolding number unsigned
  number_free most v [] e = tt
  number_free most v (b ∷ s) e = go (eqb b 43) refl e
    where
      go : (t : Bool) → eqb b 43 ≡ t → natural most (cond t s (b ∷ s)) ≡ Some v → Free c (b ∷ s)
      go true p e = ((λ q. no_plus (q ∙ eqb-true b 43 p)), natural_free most v s e)
      go false p e = natural_free most v (b ∷ s) e

-- about another byte d: what stands before it and what stands behind it
parts_free : (c d : ℕ) → (c ≡ d → ⊥) → (s : List ℕ) → Free c (up_to (d ∷ []) s) → Free c (past (d ∷ []) s) → Free c s
unfolding up_to past first starts
parts_free c d n [] f g = tt
parts_free c d n (b ∷ s) f g = go (eqb d b) refl f g (parts_free c d n s)
  where
    go : (t : Bool) → eqb d b ≡ t → Free c (take (cond (cond t true false) zero (suc (first (d ∷ []) s))) (b ∷ s))
        → Free c (drop (cond (cond t true false) zero (suc (first (d ∷ []) s)) + 1) (b ∷ s))
        → (Free c (take (first (d ∷ []) s) s) → Free c (drop (first (d ∷ []) s + 1) s) → Free c s) → Free c (b ∷ s)
    go true e f g ih = ((λ q. n (q ∙ sym (eqb-true d b e))), g)
    go false e f g ih =
        let z : suc (first (d ∷ []) s) + 1 ≡ suc (first (d ∷ []) s + 1) = omega arith in
        (f.0, ih f.1 (subst (λ (k : ℕ). Free c (drop k (b ∷ s))) z g))

-- ---- a time that was read
module _ (c : ℕ) (low : c < 0x80) (other : white c ≡ false) (no_digit : (b : ℕ) → 48 ≤ b → b ≤ 57 → c ≡ b → ⊥) (no_plus : c ≡ 43 → ⊥) (no_colon : c ≡ 58 → ⊥) where
  pub with_free : (U n mark k : ℕ) (text : List ℕ) → (c ≡ mark → ⊥) → time_with U mark text ≡ stamp n k → Free c text
  with_free U n mark k text no-mark e =
      let p = parts U n mark k text e in
      let sign : List ℕ = mark ∷ [] in
      let r1 = past colon text in
      let r2 = past colon r1 in
      let free : (most v : ℕ) (s : List ℕ) → number most s ≡ Some v → Free c s = number_free c no_digit no_plus in
      parts_free c 58 no_colon text (free most_hours p.hours (up_to colon text) p.is_hours)
      (parts_free c 58 no_colon r1 (free most_minutes p.minutes (up_to colon r1) p.is_minutes)
      (parts_free c mark no-mark r2 (free most_seconds p.seconds (up_to sign r2) p.is_seconds) (free (U - 1) p.fraction (past sign r2) p.is_fraction)))

  pub read_free : (kind n k : ℕ) (text : List ℕ) → (c ≡ 44 → ⊥) → (c ≡ 46 → ⊥) → time_in kind text ≡ stamp n k → Free c text
  read_free kind n k text no-comma no-point e =
      let p = read_known kind n k text e in
      let no-mark : c ≡ mark_in kind (trim text) → ⊥ = λ q. ⊎_elim (λ r. no-comma (q ∙ r)) (λ r. no-point (q ∙ r)) (mark_one kind (trim text) p.good) in
      trim_free c low other text (p.inside c (with_free (units_of kind) n (mark_in kind (trim text)) k p.row no-mark p.reads))
