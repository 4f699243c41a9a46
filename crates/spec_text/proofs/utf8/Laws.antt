-- Laws about the definitions of `specs/` that this crate's proofs and its clients' cite.
use mathlib.Core.Path.{◌≡◌, refl, sym, ap, subst, ◌∙◌}
use mathlib.Core.Bool.{Bool, true, false}
use mathlib.Core.List.{List, [], ◌∷◌}
use Prim.Native.Nat.{ℕ, zero, suc, ◌+◌, ◌≤◌, ◌<◌, max}
use native.Mathlib.Nat.{le_of_suc-le-suc, not-suc-le-zero}
use native.Mathlib.Omega.{arith}
use native.Mathlib.Numerals.{add-one}
use borrow.Author.Tests.{lt-ltb, le-ltb, ltb-true, ne_eqb}
use lib.Dec.{ltb}
use lib.ListN.{length, drop, get_or, length-drop}
use mathlib.Core.Bool.{cond}
use Rattle.spec_base.specs.base.Width.{by_width}
use Rattle.spec_base.proofs.base.Laws.{yes!, no! }
use Rattle.spec_text.specs.utf8.Utf8.{lead_len, second_low, second_high, tail, width_by, char_width, utf8_from, utf8, ascii_run}

-- ---- UTF-8
-- a byte below 80 is a character by itself
pub width_one : (s : List ℕ) (a : ℕ) → a ≡ get_or s 0 0 → a < 0x80 → 1 ≡ char_width s
unfolding char_width width_by lead_len
width_one s a e h =
    let n : 1 ≡ lead_len (get_or s 0 0) = yes! _ (lt-ltb _ _ (subst (λ (x : ℕ). x < 0x80) e h)) refl in
    subst (λ (n : ℕ). 1 ≡ width_by n (get_or s 0 0) (get_or s 1 0) (get_or s 2 0) (get_or s 3 0)) n refl

skip_utf8 : (s : List ℕ) (k : ℕ) → utf8_from s k ≡ utf8_from (drop k s) 0
unfolding utf8_from
skip_utf8 [] zero = refl
skip_utf8 [] (suc k) = refl
skip_utf8 (b ∷ r) zero = refl
skip_utf8 (b ∷ r) (suc k) = skip_utf8 r k

pub utf8_end : (t : List ℕ) → length t ≤ 0 → true ≡ utf8 t
unfolding utf8 utf8_from
utf8_end [] h = refl
utf8_end (b ∷ r) h = absurd (not-suc-le-zero h)

pub utf8_bad : (t : List ℕ) (w : ℕ) → 0 < length t → w ≡ char_width t → w ≡ 0 → false ≡ utf8 t
unfolding utf8 utf8_from
utf8_bad [] w l e z = absurd (not-suc-le-zero l)
utf8_bad (b ∷ r) w l e z = ap (λ (n : ℕ). by_width n false (λ k. utf8_from r k)) (sym z ∙ e)

pub utf8_step : (t : List ℕ) (w : ℕ) → 0 < length t → w ≡ char_width t → (w ≡ 0 → ⊥) → utf8 t ≡ utf8 (drop w t)
unfolding utf8 utf8_from
utf8_step [] w l e n = absurd (not-suc-le-zero l)
utf8_step (b ∷ r) zero l e n = absurd (n refl)
utf8_step (b ∷ r) (suc k) l e n = ap (λ (n : ℕ). by_width n false (λ k. utf8_from r k)) (sym e) ∙ skip_utf8 r k

-- a run of bytes below 80
utf8_ascii : (t : List ℕ) → utf8 t ≡ utf8 (drop (ascii_run t) t)
unfolding ascii_run
utf8_ascii [] = refl
utf8_ascii (b ∷ r) = go (utf8_ascii r) (ltb b 0x80) refl
  where
    go : utf8 r ≡ utf8 (drop (ascii_run r) r) → (x : Bool) → ltb b 0x80 ≡ x → utf8 (b ∷ r) ≡ utf8 (drop (cond x (suc (ascii_run r)) zero) (b ∷ r))
    go ih true e = utf8_step (b ∷ r) 1 (omega arith) (width_one (b ∷ r) b refl (ltb-true b 0x80 e)) (λ z. omega arith) ∙ ih
    go ih false e = refl

run_none : (s : List ℕ) (i : ℕ) → i < length s → 0x80 ≤ get_or s i 0 → ascii_run (drop i s) ≡ 0
unfolding ascii_run
run_none [] i l h = absurd (not-suc-le-zero l)
run_none (b ∷ s) zero l h = sym (no! _ (le-ltb b 0x80 h) refl)
run_none (b ∷ s) (suc i) l h = run_none s i (le_of_suc-le-suc l) h

run_some : (s : List ℕ) (i : ℕ) → i < length s → get_or s i 0 < 0x80 → ascii_run (drop i s) ≡ suc (ascii_run (drop (suc i) s))
unfolding ascii_run
run_some [] i l h = absurd (not-suc-le-zero l)
run_some (b ∷ s) zero l h = sym (yes! _ (lt-ltb b 0x80 h) refl)
run_some (b ∷ s) (suc i) l h = run_some s i (le_of_suc-le-suc l) h

run_end : (s : List ℕ) (i : ℕ) → length s ≤ i → ascii_run (drop i s) ≡ 0
unfolding ascii_run
run_end [] zero h = refl
run_end [] (suc i) h = refl
run_end (b ∷ s) zero h = absurd (not-suc-le-zero h)
run_end (b ∷ s) (suc i) h = run_end s i (le_of_suc-le-suc h)

utf8_run : (t v : List ℕ) (n : ℕ) → n ≡ ascii_run t → v ≡ drop n t → utf8 t ≡ utf8 v
utf8_run t v n en ev = utf8_ascii t ∙ ap (λ (m : ℕ). utf8 (drop m t)) (sym en) ∙ ap utf8 (sym ev)

pub run_found : (s : List ℕ) (i : ℕ) → ascii_run s ≡ i + ascii_run (drop i s) → i < length s → 0x80 ≤ get_or s i 0 → i ≡ ascii_run s
run_found s i inv l h = let z : ascii_run (drop i s) ≡ 0 = run_none s i l h in omega arith

pub run_again : (s : List ℕ) (i : ℕ) → ascii_run s ≡ i + ascii_run (drop i s) → i < length s → get_or s i 0 < 0x80 → ascii_run s ≡ i + 1 + ascii_run (drop (i + 1) s)
run_again s i inv l h =
    let z : ascii_run (drop i s) ≡ suc (ascii_run (drop (suc i) s)) = run_some s i l h in
    rw add-one (omega arith)

pub run_all : (s : List ℕ) (i : ℕ) → ascii_run s ≡ i + ascii_run (drop i s) → length s ≤ i → i ≡ ascii_run s
run_all s i inv h = let z : ascii_run (drop i s) ≡ 0 = run_end s i h in omega arith

pub utf8_passed : (s t : List ℕ) → utf8 s ≡ utf8 t → length t ≤ 0 → true ≡ utf8 s
utf8_passed s t inv h = utf8_end t h ∙ sym inv

-- ---- 32 bytes at once
pub plain_none : (s : List ℕ) (i : ℕ) → ascii_run (drop i s) ≡ 0 + ascii_run (drop (i + 0) s)
plain_none s i =
    let y : i ≡ i + 0 = omega arith in
    let w : ascii_run (drop i s) ≡ ascii_run (drop (i + 0) s) = ap (λ (j : ℕ). ascii_run (drop j s)) y in
    omega arith

pub plain_more : (s : List ℕ) (i k most x : ℕ) → i + 32 ≤ length s → k < 32 → x ≡ max most (get_or s (i + k) 0)
    → (most < 0x80 → ascii_run (drop i s) ≡ k + ascii_run (drop (i + k) s)) → x < 0x80 → ascii_run (drop i s) ≡ k + 1 + ascii_run (drop (i + (k + 1)) s)
plain_more s i k most x n m e inv h =
    let l : i + k < length s = omega arith in
    let p : most < 0x80 = omega arith in
    let q : get_or s (i + k) 0 < 0x80 = omega arith in
    let z : ascii_run (drop (i + k) s) ≡ suc (ascii_run (drop (suc (i + k)) s)) = run_some s (i + k) l q in
    let y : suc (i + k) ≡ i + (k + 1) = omega arith in
    let w : ascii_run (drop (suc (i + k)) s) ≡ ascii_run (drop (i + (k + 1)) s) = ap (λ (j : ℕ). ascii_run (drop j s)) y in
    let v = inv p in
    omega arith

pub plain_all : (s : List ℕ) (i k most : ℕ) → k ≤ 32 → 32 ≤ k → (most < 0x80 → ascii_run (drop i s) ≡ k + ascii_run (drop (i + k) s)) → ltb most 0x80 ≡ true
    → ascii_run (drop i s) ≡ 32 + ascii_run (drop (i + 32) s)
plain_all s i k most a b inv e =
    let z : k ≡ 32 = omega arith in
    subst (λ (j : ℕ). ascii_run (drop i s) ≡ j + ascii_run (drop (i + j) s)) z (inv (ltb-true most 0x80 e))

pub run_block : (s : List ℕ) (i : ℕ) (r : Bool) → ascii_run s ≡ i + ascii_run (drop i s) → (r ≡ true → ascii_run (drop i s) ≡ 32 + ascii_run (drop (i + 32) s)) → r ≡ true
    → ascii_run s ≡ i + 32 + ascii_run (drop (i + 32) s)
run_block s i r inv f e = let z = f e in omega arith

-- a character of three bytes
pub width_three : (s : List ℕ) → 0xE1 ≤ get_or s 0 0 → get_or s 0 0 ≤ 0xEC → 0x80 ≤ get_or s 1 0 → get_or s 1 0 ≤ 0xBF → 0x80 ≤ get_or s 2 0 → get_or s 2 0 ≤ 0xBF → 3 ≡ char_width s
unfolding char_width width_by lead_len second_low second_high tail
width_three s h k b1 b2 c1 c2 =
    let a = get_or s 0 0 in
    let b = get_or s 1 0 in
    let c = get_or s 2 0 in
    let n : 3 ≡ lead_len a = no! _ (le-ltb a 0x80 (omega arith)) (no! _ (le-ltb a 0xC2 (omega arith)) (no! _ (le-ltb a 0xE0 (omega arith)) (yes! _ (lt-ltb a 0xF0 (omega arith)) refl))) in
    let lo : 0x80 ≡ second_low a = no! _ (ne_eqb a 0xE0 (λ z. omega arith)) (no! _ (ne_eqb a 0xF0 (λ z. omega arith)) refl) in
    let hi : 0xBF ≡ second_high a = no! _ (ne_eqb a 0xED (λ z. omega arith)) (no! _ (ne_eqb a 0xF4 (λ z. omega arith)) refl) in
    let tc : true ≡ tail c = no! _ (le-ltb c 0x80 c1) (sym (lt-ltb c 0xC0 (omega arith))) in
    let w : 3 ≡ width_by 3 a b c (get_or s 3 0) =
    no! _ (le-ltb b (second_low a) (subst (λ (x : ℕ). x ≤ b) lo b1)) (no! _ (le-ltb (second_high a) b (subst (λ (x : ℕ). b ≤ x) hi b2)) (yes! _ (sym tc) refl)) in
    subst (λ (n : ℕ). 3 ≡ width_by n a b c (get_or s 3 0)) n w

-- ---- is_utf8's steps
run_head : (t : List ℕ) → 0 < length t → get_or t 0 0 < 0x80 → ascii_run t ≡ suc (ascii_run (drop 1 t))
unfolding ascii_run
run_head [] l h = absurd (not-suc-le-zero l)
run_head (b ∷ r) l h = sym (yes! _ (lt-ltb b 0x80 h) refl)

pub ascii_less : (t v : List ℕ) (a n : ℕ) → 0 < length t → a ≡ get_or t 0 0 → a < 0x80 → n ≡ ascii_run t → v ≡ drop n t → length v < length t
ascii_less t v a n l ea h en ev =
    let z : ascii_run t ≡ suc (ascii_run (drop 1 t)) = run_head t l (omega arith) in
    omega (arith, ap length ev, length-drop n t)

pub ascii_again : (s t v : List ℕ) (n : ℕ) → utf8 s ≡ utf8 t → n ≡ ascii_run t → v ≡ drop n t → utf8 s ≡ utf8 v
ascii_again s t v n inv en ev = inv ∙ utf8_run t v n en ev

pub three_less : (t x : List ℕ) → 3 ≤ length t → x ≡ drop 3 t → length x < length t
three_less t x l e = omega (arith, ap length e, length-drop 3 t)

pub char_less : (t u : List ℕ) (w : ℕ) → 0 < length t → (w ≡ 0 → ⊥) → u ≡ drop w t → length u < length t
char_less t u zero l n e = absurd (n refl)
char_less t u (suc k) l n e = omega (arith, ap length e, length-drop (suc k) t)

pub char_again : (s t u : List ℕ) (w : ℕ) → utf8 s ≡ utf8 t → 0 < length t → w ≡ char_width t → (w ≡ 0 → ⊥) → u ≡ drop w t → utf8 s ≡ utf8 u
char_again s t u w inv l e n eu = inv ∙ utf8_step t w l e n ∙ ap utf8 (sym eu)

pub char_refused : (s t : List ℕ) (w : ℕ) → utf8 s ≡ utf8 t → 0 < length t → w ≡ char_width t → w ≡ 0 → false ≡ utf8 s
char_refused s t w inv l e z = utf8_bad t w l e z ∙ sym inv

pub three_on : (s t x : List ℕ) (r : Bool) → utf8 s ≡ utf8 t → 3 ≤ length t
    → (r ≡ true → (0xE1 ≤ get_or t 0 0) × (get_or t 0 0 ≤ 0xEC) × (0x80 ≤ get_or t 1 0) × (get_or t 1 0 ≤ 0xBF) × (0x80 ≤ get_or t 2 0) × (get_or t 2 0 ≤ 0xBF)) → r ≡ true → x ≡ drop 3 t → utf8 s ≡ utf8 x
three_on s t x r inv l f e ex =
    let p = f e in
    inv ∙ utf8_step t 3 (omega arith) (width_three t p.0 p.1 p.2 p.3 p.4 p.5) (λ z. omega arith) ∙ ap utf8 (sym ex)
