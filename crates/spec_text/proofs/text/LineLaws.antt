-- Laws of lines, of trimmed texts, and of numbers that are read.
use mathlib.Core.Path.{◌≡◌, refl, sym, ap, subst, ◌∙◌}
use mathlib.Core.Bool.{Bool, true, false, cond}
use mathlib.Core.List.{List, [], ◌∷◌, ◌++◌, append_assoc}
use Prim.Native.Nat.{ℕ, zero, suc, ◌+◌, ◌-◌, ◌≤◌, ◌<◌}
use native.Mathlib.Nat.{not-suc-le-zero}
use native.Mathlib.Omega.{arith}
use native.Mathlib.Numerals.{add-one}
use borrow.Author.Tests.{eq-eqb, ne_eqb, leb-true, eqb-true, eqb-false}
use lib.Dec.{eqb, leb}
use lib.Seq.{drop-cons}
use lib.ListN.{length, take, drop, get_or, length-drop, length-take, take-append-drop, drop_of_length-le}
use mathlib.Core.Bool.{true≢false}
use Rattle.std.specs.Prelude.{Option, Some, None}
use Rattle.spec_base.specs.base.Width.{by_width}
use Rattle.spec_base.proofs.base.Laws.{yes!, no! }
use Rattle.spec_text.specs.whitespace.White.{white_head, head_from, keep_from, trim_head, trim_tail, trim}
use Rattle.spec_text.specs.text.Number.{digits, value_from, natural, unsigned, number}
use Rattle.spec_text.specs.pattern.Piece.{onto_first}
use Rattle.spec_text.specs.text.Line.{line_length, lines_of, concat, terminator_length, text_of, terminator_of, is_empty, blank, ends_line, has_lf}

-- ---- the calls
pub text_found : (l r : List ℕ) (n m : ℕ) → n ≡ terminator_length l → m ≡ length l - n → r ≡ take m l → r ≡ text_of l
unfolding text_of
text_found l r n m e f g = g ∙ ap (λ (k : ℕ). take k l) (f ∙ ap (λ (k : ℕ). length l - k) e)

pub terminator_found : (l r : List ℕ) (n m : ℕ) → n ≡ terminator_length l → m ≡ length l - n → r ≡ drop m l → r ≡ terminator_of l
unfolding terminator_of
terminator_found l r n m e f g = g ∙ ap (λ (k : ℕ). drop k l) (f ∙ ap (λ (k : ℕ). length l - k) e)

module _ (l : List ℕ) (a b i j : ℕ) (ei : i ≡ length l - 1) (ea : a ≡ get_or l i 0) (ej : j ≡ length l - 2) (eb : b ≡ get_or l j 0) where
  pub ends_two : a ≡ 10 → b ≡ 13 → 2 ≡ terminator_length l
  unfolding terminator_length
  ends_two p q = yes! _ (eq-eqb _ _ (ap (λ (k : ℕ). get_or l k 0) (sym ei) ∙ sym ea ∙ p)) (yes! _ (eq-eqb _ _ (ap (λ (k : ℕ). get_or l k 0) (sym ej) ∙ sym eb ∙ q)) refl)

  pub ends_one : a ≡ 10 → (b ≡ 13 → ⊥) → 1 ≡ terminator_length l
  unfolding terminator_length
  ends_one p q = yes! _ (eq-eqb _ _ (ap (λ (k : ℕ). get_or l k 0) (sym ei) ∙ sym ea ∙ p)) (no! _ (ne_eqb _ _ (λ z. q (eb ∙ ap (λ (k : ℕ). get_or l k 0) ej ∙ z))) refl)

pub ends_none : (l : List ℕ) (a i : ℕ) → i ≡ length l - 1 → a ≡ get_or l i 0 → (a ≡ 10 → ⊥) → 0 ≡ terminator_length l
unfolding terminator_length
ends_none l a i ei ea p = no! _ (ne_eqb _ _ (λ z. p (ea ∙ ap (λ (k : ℕ). get_or l k 0) ei ∙ z))) refl

pub empty_zero : (l : List ℕ) → eqb (length l) 0 ≡ is_empty l
empty_zero [] = refl
empty_zero (b ∷ l) = ne_eqb (length (b ∷ l)) 0 (λ e. omega arith)

pub blank_found : (l t : List ℕ) → t ≡ trim_head l → eqb (length t) 0 ≡ blank l
unfolding blank
blank_found l t e = ap (λ (x : List ℕ). eqb (length x) 0) e ∙ empty_zero (trim_head l)

-- ---- the length of a line
pub line_hit : (s : List ℕ) (i : ℕ) → line_length s ≡ i + line_length (drop i s) → i < length s → get_or s i 0 ≡ 10 → i + 1 ≡ line_length s
unfolding line_length
line_hit s i inv h e = let z : line_length (drop i s) ≡ 1 = rw (drop-cons s i 0 h, eq-eqb (get_or s i 0) 10 e) in omega arith

pub line_miss : (s : List ℕ) (i : ℕ) → line_length s ≡ i + line_length (drop i s) → i < length s → (get_or s i 0 ≡ 10 → ⊥) → line_length s ≡ i + 1 + line_length (drop (i + 1) s)
unfolding line_length
line_miss s i inv h e = let z : line_length (drop i s) ≡ suc (line_length (drop (suc i) s)) = rw (drop-cons s i 0 h, ne_eqb (get_or s i 0) 10 e) in rw add-one (omega arith)

pub line_end_lem : (s : List ℕ) (i : ℕ) → line_length s ≡ i + line_length (drop i s) → length s ≤ i → i ≡ line_length s
unfolding line_length
line_end_lem s i inv h = let z : line_length (drop i s) ≡ 0 = rw (drop_of_length-le s h) in omega arith

-- ---- 16 bytes without LF
line_on : (s : List ℕ) (i : ℕ) → i < length s → (get_or s i 0 ≡ 10 → ⊥) → line_length (drop i s) ≡ suc (line_length (drop (suc i) s))
unfolding line_length
line_on s i h e = rw (drop-cons s i 0 h, ne_eqb (get_or s i 0) 10 e)

pub free_none : (s : List ℕ) (i : ℕ) → line_length (drop i s) ≡ 0 + line_length (drop (i + 0) s)
free_none s i =
    let y : i ≡ i + 0 = omega arith in
    let w : line_length (drop i s) ≡ line_length (drop (i + 0) s) = ap (λ (j : ℕ). line_length (drop j s)) y in
    omega arith

pub free_more : (s : List ℕ) (i k most x : ℕ) → i + 16 ≤ length s → k < 16 → x ≡ cond (eqb (get_or s (i + k) 0) 10) 1 most
    → (most ≡ 0 → line_length (drop i s) ≡ k + line_length (drop (i + k) s)) → x ≡ 0 → line_length (drop i s) ≡ k + 1 + line_length (drop (i + (k + 1)) s)
free_more s i k most x n m e inv h = go (eqb (get_or s (i + k) 0) 10) refl e
  where
    go : (t : Bool) → eqb (get_or s (i + k) 0) 10 ≡ t → x ≡ cond t 1 most → line_length (drop i s) ≡ k + 1 + line_length (drop (i + (k + 1)) s)
    go true q e = absurd (omega arith)
    go false q e =
        let z : line_length (drop (i + k) s) ≡ suc (line_length (drop (suc (i + k)) s)) = line_on s (i + k) (omega arith) (eqb-false _ _ q) in
        let y : suc (i + k) ≡ i + (k + 1) = omega arith in
        let w : line_length (drop (suc (i + k)) s) ≡ line_length (drop (i + (k + 1)) s) = ap (λ (j : ℕ). line_length (drop j s)) y in
        let v = inv (sym e ∙ h) in
        omega arith

pub free_all : (s : List ℕ) (i k most : ℕ) → k ≤ 16 → 16 ≤ k → (most ≡ 0 → line_length (drop i s) ≡ k + line_length (drop (i + k) s)) → eqb most 0 ≡ true
    → line_length (drop i s) ≡ 16 + line_length (drop (i + 16) s)
free_all s i k most a b inv e =
    let z : k ≡ 16 = omega arith in
    subst (λ (j : ℕ). line_length (drop i s) ≡ j + line_length (drop (i + j) s)) z (inv (eqb-true most 0 e))

pub line_block : (s : List ℕ) (i : ℕ) (r : Bool) → line_length s ≡ i + line_length (drop i s) → (r ≡ true → line_length (drop i s) ≡ 16 + line_length (drop (i + 16) s)) → r ≡ true
    → line_length s ≡ i + 16 + line_length (drop (i + 16) s)
line_block s i r inv f e = let z = f e in omega arith

-- the first line, and the rest
pub line_some : (s : List ℕ) → 0 < length s → 0 < line_length s
unfolding line_length
line_some [] h = absurd (not-suc-le-zero h)
line_some (b ∷ s) h = go (eqb b 10)
  where
    go : (t : Bool) → 0 < cond t 1 (suc (line_length s))
    go true = omega arith
    go false = omega arith

pub line_le : (s : List ℕ) → line_length s ≤ length s
unfolding line_length
line_le [] = omega arith
line_le (b ∷ s) = go (eqb b 10) (line_le s)
  where
    go : (t : Bool) → line_length s ≤ length s → cond t 1 (suc (line_length s)) ≤ suc (length s)
    go true h = omega arith
    go false h = omega arith

onto_cut : (b : ℕ) (ls : List (List ℕ)) (s : List ℕ) → (0 < length s → ls ≡ take (line_length s) s ∷ lines_of (drop (line_length s) s)) → (length s ≡ 0 → ls ≡ []) → onto_first b ls ≡ (b ∷ take (line_length s) s) ∷ lines_of (drop (line_length s) s)
unfolding line_length lines_of
onto_cut b ls [] f g = ap (onto_first b) (g refl)
onto_cut b ls (x ∷ s) f g = ap (onto_first b) (f (omega arith))

lines_none : (s : List ℕ) → length s ≡ 0 → lines_of s ≡ []
unfolding lines_of
lines_none [] h = refl
lines_none (b ∷ s) h = absurd (omega arith)

pub lines_cut : (s : List ℕ) → 0 < length s → lines_of s ≡ take (line_length s) s ∷ lines_of (drop (line_length s) s)
unfolding lines_of line_length
lines_cut [] h = absurd (not-suc-le-zero h)
lines_cut (b ∷ s) h = go (eqb b 10) (lines_cut s)
  where
    go : (t : Bool) → (0 < length s → lines_of s ≡ take (line_length s) s ∷ lines_of (drop (line_length s) s))
        → cond t ((b ∷ []) ∷ lines_of s) (onto_first b (lines_of s)) ≡ take (cond t 1 (suc (line_length s))) (b ∷ s) ∷ lines_of (drop (cond t 1 (suc (line_length s))) (b ∷ s))
    go true ih = refl
    go false ih = onto_cut b (lines_of s) s ih (lines_none s)

pub lines_end : (s : List ℕ) → length s ≤ 0 → lines_of s ≡ []
lines_end s h = lines_none s (omega arith)

-- text and terminator are the line
pub text_terminator : (l : List ℕ) → text_of l ++ terminator_of l ≡ l
unfolding text_of terminator_of
text_terminator l = take-append-drop (length l - terminator_length l) l

-- the lines of s are s
joined_onto : (b : ℕ) (ls : List (List ℕ)) → concat (onto_first b ls) ≡ b ∷ concat ls
joined_onto b [] = refl
joined_onto b (l ∷ ls) = refl

pub lines_joined : (s : List ℕ) → concat (lines_of s) ≡ s
unfolding lines_of
lines_joined [] = refl
lines_joined (b ∷ s) = go (eqb b 10) (lines_joined s)
  where
    go : (t : Bool) → concat (lines_of s) ≡ s → concat (cond t ((b ∷ []) ∷ lines_of s) (onto_first b (lines_of s))) ≡ b ∷ s
    go true ih = ap (λ (x : List ℕ). b ∷ x) ih
    go false ih = joined_onto b (lines_of s) ∙ ap (λ (x : List ℕ). b ∷ x) ih

-- trimming makes nothing longer
head_from_lem : (s : List ℕ) (k : ℕ) → length (head_from s k) ≤ length s
unfolding head_from
head_from_lem [] k = omega arith
head_from_lem (b ∷ r) (suc k) = omega (arith, head_from_lem r k)
head_from_lem (b ∷ r) zero = go (white_head (b ∷ r)) (λ k. head_from_lem r k)
  where
    go : (w : ℕ) → ((k : ℕ) → length (head_from r k) ≤ length r) → length (by_width w (b ∷ r) (λ k. head_from r k)) ≤ suc (length r)
    go zero ih = omega arith
    go (suc k) ih = omega (arith, ih k)

pub trim_head_length : (s : List ℕ) → length (trim_head s) ≤ length s
unfolding trim_head
trim_head_length s = head_from_lem s 0

pub trim_length : (s : List ℕ) → length (trim s) ≤ length s
unfolding trim trim_tail
trim_length s =
    let a : length (take (keep_from (trim_head s) (length (trim_head s)) 0) (trim_head s)) ≤ length (trim_head s) = simp length-take (omega arith) in
    omega (arith, trim_head_length s)

no_value : {A : Type 0} (v : ℕ) → None ≡ Some v → A
no_value v e = absurd (let z : ◌≡◌ {A = ℕ} 0 1 = ap (λ (x : Option ℕ). elim x [ Some k ↦ 1 | None ↦ 0 ]) e in omega arith)

natural_most : (most v : ℕ) (s : List ℕ) → natural most s ≡ Some v → v ≤ most
unfolding natural
natural_most most v [] e = no_value v e
natural_most most v (b ∷ s) e = go (digits (b ∷ s)) (leb (value_from 0 (b ∷ s)) most) refl e
  where
    go : (d l : Bool) → leb (value_from 0 (b ∷ s)) most ≡ l → cond d (cond l (Some (value_from 0 (b ∷ s))) None) None ≡ Some v → v ≤ most
    go true true q f = subst (λ (n : ℕ). n ≤ most) (ap (λ (x : Option ℕ). elim x [ Some k ↦ k | None ↦ 0 ]) f) (leb-true _ _ q)
    go true false q f = no_value v f
    go false l q f = no_value v f

-- a number that is read has a byte
pub number_some : (most v : ℕ) (s : List ℕ) → number most s ≡ Some v → 0 < length s
unfolding number natural unsigned
number_some most v [] e = absurd (let z : ◌≡◌ {A = ℕ} 0 1 = ap (λ (x : Option ℕ). elim x [ Some k ↦ 1 | None ↦ 0 ]) e in omega arith)
number_some most v (b ∷ s) e = omega arith

-- and is at most the bound
pub number_most : (most v : ℕ) (s : List ℕ) → number most s ≡ Some v → v ≤ most
unfolding number
number_most most v s e = natural_most most v (unsigned s) e

-- ---- what a session needs: lines put one behind the other are those lines
pub line_then_lem : (l s : List ℕ) → ends_line l ≡ true → lines_of (l ++ s) ≡ l ∷ lines_of s
unfolding lines_of ends_line
line_then_lem [] s e = absurd (true≢false (sym e))
line_then_lem (b ∷ l) s e = go (eqb b 10) l e (line_then_lem l s)
  where
    go : (t : Bool) (l : List ℕ) → cond t (is_empty l) (ends_line l) ≡ true → (ends_line l ≡ true → lines_of (l ++ s) ≡ l ∷ lines_of s)
        → cond t ((b ∷ []) ∷ lines_of (l ++ s)) (onto_first b (lines_of (l ++ s))) ≡ (b ∷ l) ∷ lines_of s
    go true [] q ih = refl
    go true (c ∷ l) q ih = absurd (true≢false (sym q))
    go false l q ih = ap (onto_first b) (ih q)

pub line_last : (l : List ℕ) → 0 < length l → has_lf l ≡ false → lines_of l ≡ l ∷ []
unfolding lines_of has_lf
line_last [] h e = absurd (not-suc-le-zero h)
line_last (b ∷ l) h e = go (eqb b 10) l e (line_last l)
  where
    go : (t : Bool) (l : List ℕ) → cond t true (has_lf l) ≡ false → (0 < length l → has_lf l ≡ false → lines_of l ≡ l ∷ [])
        → cond t ((b ∷ []) ∷ lines_of l) (onto_first b (lines_of l)) ≡ (b ∷ l) ∷ []
    go true l q ih = absurd (true≢false q)
    go false [] q ih = refl
    go false (c ∷ l) q ih = ap (onto_first b) (ih (omega arith) q)

-- finished lines, each with its LF
abbrev pub Finished : List (List ℕ) → Type 0
Finished [] = Unit
Finished (l ∷ ls) = (ends_line l ≡ true) × Finished ls

pub lines_back : (ls : List (List ℕ)) (r : List ℕ) → Finished ls → lines_of (concat ls ++ r) ≡ ls ++ lines_of r
lines_back [] r f = refl
lines_back (l ∷ ls) r f =
    ap lines_of (append_assoc l (concat ls) r) ∙ line_then_lem l (concat ls ++ r) f.0 ∙ ap (λ (x : List (List ℕ)). l ∷ x) (lines_back ls r f.1)

-- what is left behind a line is shorter
pub line_less : (t u : List ℕ) (n : ℕ) → n ≡ line_length t → 0 < length t → u ≡ drop n t → length u < length t
line_less t u n e h d = let a = line_some t h in subst (λ (x : List ℕ). length x < length t) (sym d) (simp length-drop (omega arith))
