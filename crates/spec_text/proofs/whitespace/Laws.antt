-- Laws about the definitions of `specs/` that this crate's proofs and its clients' cite.
use mathlib.Core.Path.{◌≡◌, refl, sym, ap, subst, ◌∙◌}
use mathlib.Core.Bool.{Bool, true, false}
use mathlib.Core.List.{List, [], ◌∷◌}
use Prim.Native.Nat.{ℕ, zero, suc, ◌-◌, ◌≤◌, ◌<◌}
use native.Mathlib.Nat.{not-suc-le-zero, zero-sub, sub-zero, suc-sub-suc}
use lib.ListN.{length, take, drop, get_or}
use mathlib.Core.Bool.{cond}
use Rattle.spec_base.specs.base.Width.{by_width}
use Rattle.spec_base.proofs.base.Laws.{yes!, no! }
use Rattle.spec_text.proofs.utf8.Laws.{width_one}
use Rattle.spec_text.specs.utf8.Utf8.{char_width, code_by, code_head}
use Rattle.spec_text.specs.whitespace.White.{white, white_head, white_tail, head_from, keep_from, trim_head, trim_tail}

-- ---- white space
pub white_some : (s : List ℕ) (u w : ℕ) (t : Bool) → u ≡ code_head s → t ≡ white u → t ≡ true → w ≡ char_width s → w ≡ white_head s
unfolding white_head
white_some s u w t e f p d = yes! _ (ap white (sym e) ∙ sym f ∙ p) d

pub white_none : (s : List ℕ) (u : ℕ) (t : Bool) → u ≡ code_head s → t ≡ white u → t ≡ false → 0 ≡ white_head s
unfolding white_head
white_none s u t e f p = no! _ (ap white (sym e) ∙ sym f ∙ p) refl

-- a byte below 80 at the head is a code point by itself
code_one : (s : List ℕ) (a : ℕ) → a ≡ get_or s 0 0 → a < 0x80 → a ≡ code_head s
unfolding code_head code_by
code_one s a e h = subst (λ (n : ℕ). a ≡ code_by n (get_or s 0 0) (get_or s 1 0) (get_or s 2 0) (get_or s 3 0)) (width_one s a e h) e

pub white_ascii : (s : List ℕ) (a w : ℕ) → a ≡ get_or s 0 0 → a < 0x80 → w ≡ cond (white a) 1 0 → w ≡ white_head s
unfolding white_head
white_ascii s a w e h d =
    d ∙ ap (λ (u : ℕ). cond (white u) 1 0) (code_one s a e h) ∙ ap (λ (n : ℕ). cond (white (code_head s)) n 0) (width_one s a e h)

-- ---- white space at the head
skip_head : (s : List ℕ) (k : ℕ) → head_from s k ≡ head_from (drop k s) 0
unfolding head_from
skip_head [] zero = refl
skip_head [] (suc k) = refl
skip_head (b ∷ r) zero = refl
skip_head (b ∷ r) (suc k) = skip_head r k

pub head_end : (t : List ℕ) → length t ≤ 0 → t ≡ trim_head t
unfolding trim_head head_from
head_end [] h = refl
head_end (b ∷ r) h = absurd (not-suc-le-zero h)

pub head_none : (t : List ℕ) (w : ℕ) → 0 < length t → w ≡ white_head t → w ≡ 0 → t ≡ trim_head t
unfolding trim_head head_from
head_none [] w l e z = absurd (not-suc-le-zero l)
head_none (b ∷ r) w l e z = ap (λ (n : ℕ). by_width n (b ∷ r) (λ k. head_from r k)) (sym z ∙ e)

pub head_step : (t : List ℕ) (w : ℕ) → 0 < length t → w ≡ white_head t → (w ≡ 0 → ⊥) → trim_head t ≡ trim_head (drop w t)
unfolding trim_head head_from
head_step [] w l e n = absurd (not-suc-le-zero l)
head_step (b ∷ r) zero l e n = absurd (n refl)
head_step (b ∷ r) (suc k) l e n = ap (λ (n : ℕ). by_width n (b ∷ r) (λ k. head_from r k)) (sym e) ∙ skip_head r k

pub head_again : (s t u : List ℕ) (w : ℕ) → trim_head s ≡ trim_head t → 0 < length t → w ≡ white_head t → (w ≡ 0 → ⊥) → u ≡ drop w t → trim_head s ≡ trim_head u
head_again s t u w inv l e n d = inv ∙ head_step t w l e n ∙ ap trim_head (sym d)

pub head_found : (s t : List ℕ) (w : ℕ) → trim_head s ≡ trim_head t → 0 < length t → w ≡ white_head t → w ≡ 0 → t ≡ trim_head s
head_found s t w inv l e z = head_none t w l e z ∙ sym inv

pub head_empty : (s t : List ℕ) → trim_head s ≡ trim_head t → length t ≤ 0 → t ≡ trim_head s
head_empty s t inv h = head_end t h ∙ sym inv

-- ---- white space at the end
skip_keep : (s : List ℕ) (n k : ℕ) → keep_from s n k ≡ keep_from s (n - k) 0
unfolding keep_from
skip_keep s zero k = ap (λ (m : ℕ). keep_from s m 0) (sym (zero-sub k))
skip_keep s (suc n) zero = ap (λ (m : ℕ). keep_from s m 0) (sym (sub-zero (suc n)))
skip_keep s (suc n) (suc k) = skip_keep s n k ∙ ap (λ (m : ℕ). keep_from s m 0) (sym (suc-sub-suc n k))

pub keep_none : (s t : List ℕ) (n w : ℕ) → 0 < n → t ≡ take n s → w ≡ white_tail t → w ≡ 0 → n ≡ keep_from s n 0
unfolding keep_from
keep_none s t zero w l et e z = absurd (not-suc-le-zero l)
keep_none s t (suc n) w l et e z = ap (λ (m : ℕ). by_width m (suc n) (λ k. keep_from s n k)) (sym z ∙ e ∙ ap white_tail et)

pub keep_step : (s t : List ℕ) (n w : ℕ) → 0 < n → t ≡ take n s → w ≡ white_tail t → (w ≡ 0 → ⊥) → keep_from s n 0 ≡ keep_from s (n - w) 0
unfolding keep_from
keep_step s t zero w l et e nz = absurd (not-suc-le-zero l)
keep_step s t (suc n) zero l et e nz = absurd (nz refl)
keep_step s t (suc n) (suc k) l et e nz =
    ap (λ (m : ℕ). by_width m (suc n) (λ k. keep_from s n k)) (sym (e ∙ ap white_tail et)) ∙ skip_keep s n k ∙ ap (λ (m : ℕ). keep_from s m 0) (sym (suc-sub-suc n k))

pub keep_found : (s r t : List ℕ) (n w : ℕ) → keep_from s (length s) 0 ≡ keep_from s n 0 → 0 < n → t ≡ take n s → w ≡ white_tail t → w ≡ 0 → r ≡ take n s → r ≡ trim_tail s
unfolding trim_tail
keep_found s r t n w inv l et e z d = d ∙ ap (λ (m : ℕ). take m s) (keep_none s t n w l et e z ∙ sym inv)

pub keep_again : (s t : List ℕ) (n m w : ℕ) → keep_from s (length s) 0 ≡ keep_from s n 0 → 0 < n → t ≡ take n s → w ≡ white_tail t → (w ≡ 0 → ⊥) → m ≡ n - w → keep_from s (length s) 0 ≡ keep_from s m 0
keep_again s t n m w inv l et e z d = inv ∙ keep_step s t n w l et e z ∙ ap (λ (k : ℕ). keep_from s k 0) (sym d)

pub keep_empty : (s r : List ℕ) (n : ℕ) → keep_from s (length s) 0 ≡ keep_from s n 0 → n ≤ 0 → r ≡ take 0 s → r ≡ trim_tail s
unfolding trim_tail keep_from
keep_empty s r zero inv h d = d ∙ ap (λ (m : ℕ). take m s) (sym inv)
keep_empty s r (suc n) inv h d = absurd (not-suc-le-zero h)
