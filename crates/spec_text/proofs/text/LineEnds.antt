-- A line as its text and its terminator: another text before the same terminator, with no new CR or LF at its end, is a line with that text and that terminator.
use mathlib.Core.Path.{◌≡◌, refl, sym, ap, ◌∙◌}
use mathlib.Core.Bool.{Bool, true, false, cond, true≢false}
use mathlib.Core.List.{List, [], ◌∷◌, ◌++◌, append-nil}
use Prim.Native.Nat.{ℕ, zero, suc, ◌+◌, ◌-◌, ◌≤◌, ◌<◌}
use native.Mathlib.Omega.{arith}
use borrow.Author.Tests.{eq-eqb, ne_eqb, eqb-true, eqb-false}
use lib.Dec.{eqb}
use lib.Seq.{take_at, drop_at, take_all, drop-cons, get_or-append_seam, get_or-append-add, get_or-take, get_or-drop, length-take-le}
use lib.ListN.{length, take, drop, get_or, length-append, length-drop, drop_of_length-le}
use Rattle.spec_text.specs.text.Line.{terminator_length, text_of, terminator_of}

-- the last byte; 0 where there is none
abbrev pub last_of : List ℕ → ℕ
last_of l = get_or l (length l - 1) 0

pub last_append : (xs ys : List ℕ) → 0 < length ys → last_of (xs ++ ys) ≡ last_of ys
last_append xs ys h =
    let i : length (xs ++ ys) - 1 ≡ length xs + (length ys - 1) = omega (arith, length-append xs ys) in
    ap (λ (k : ℕ). get_or (xs ++ ys) k 0) i ∙ get_or-append-add xs ys (length ys - 1) 0

pub last_drop : (n : ℕ) (s : List ℕ) → 0 < length (drop n s) → last_of (drop n s) ≡ last_of s
last_drop n s h =
    let i : n + (length (drop n s) - 1) ≡ length s - 1 = omega (arith, length-drop n s) in
    get_or-drop n s (length (drop n s) - 1) 0 ∙ ap (λ (k : ℕ). get_or s k 0) i

-- a last byte that is not 0 stands there
pub last_some : (s : List ℕ) → 0 < last_of s → 0 < length s
last_some [] h = h
last_some (b ∷ s) h = omega arith

-- ---- a text and the terminator behind it: none where the text does not end in LF, LF where it does not end in CR, or CR LF
abbrev pub Ended : (text terminator : List ℕ) → Type 0
Ended t [] = last_of t ≡ 10 → ⊥
Ended t (a ∷ []) = (a ≡ 10) × (last_of t ≡ 13 → ⊥)
Ended t (a ∷ b ∷ []) = (a ≡ 13) × (b ≡ 10)
Ended t (a ∷ b ∷ c ∷ x) = ⊥

pub ended_swap : (t u x : List ℕ) → (last_of u ≡ 10 → last_of t ≡ 10) → (last_of u ≡ 13 → last_of t ≡ 13) → Ended t x → Ended u x
ended_swap t u [] f g e = λ q. e (f q)
ended_swap t u (a ∷ []) f g e = (e.0, λ q. e.1 (g q))
ended_swap t u (a ∷ b ∷ []) f g e = e
ended_swap t u (a ∷ b ∷ c ∷ x) f g e = e

get_front : (xs ys : List ℕ) (i : ℕ) → i < length xs → get_or (xs ++ ys) i 0 ≡ get_or xs i 0
get_front [] ys i h = absurd (omega arith)
get_front (x ∷ xs) ys zero h = refl
get_front (x ∷ xs) ys (suc i) h = get_front xs ys i (omega arith)

before_last : (t : List ℕ) (a : ℕ) → a ≡ 10 → (last_of t ≡ 13 → ⊥) → get_or (t ++ a ∷ []) (length t - 1) 0 ≡ 13 → ⊥
before_last [] a e n q = omega arith
before_last (b ∷ t) a e n q = n (sym (get_front (b ∷ t) (a ∷ []) (length (b ∷ t) - 1) (omega arith)) ∙ q)

ended_length : (t x : List ℕ) → Ended t x → terminator_length (t ++ x) ≡ length x
unfolding terminator_length
ended_length t [] e = rw (append-nil t, ne_eqb (last_of t) 10 e)
ended_length t (a ∷ []) e =
    let n : length (t ++ a ∷ []) ≡ length t + 1 = length-append t (a ∷ []) in
    let i : length (t ++ a ∷ []) - 1 ≡ length t = omega arith in
    let j : length (t ++ a ∷ []) - 2 ≡ length t - 1 = omega arith in
    rw (i, j, eq-eqb _ 10 (get_or-append_seam t a [] 0 ∙ e.0), ne_eqb _ 13 (before_last t a e.0 e.1))
ended_length t (a ∷ b ∷ []) e =
    let n : length (t ++ a ∷ b ∷ []) ≡ length t + 2 = length-append t (a ∷ b ∷ []) in
    let i : length (t ++ a ∷ b ∷ []) - 1 ≡ length t + 1 = omega arith in
    let j : length (t ++ a ∷ b ∷ []) - 2 ≡ length t = omega arith in
    rw (i, j, eq-eqb _ 10 (get_or-append-add t (a ∷ b ∷ []) 1 0 ∙ e.1), eq-eqb _ 13 (get_or-append_seam t a (b ∷ []) 0 ∙ e.0))
ended_length t (a ∷ b ∷ c ∷ x) e = absurd e

cut_place : (t x : List ℕ) → Ended t x → length t ≡ length (t ++ x) - terminator_length (t ++ x)
cut_place t x e = omega (arith, ended_length t x e, length-append t x)

pub text_again : (t x : List ℕ) → Ended t x → text_of (t ++ x) ≡ t
unfolding text_of
text_again t x e = take_at t x _ (cut_place t x e)

pub terminator_again : (t x : List ℕ) → Ended t x → terminator_of (t ++ x) ≡ x
unfolding terminator_of
terminator_again t x e = drop_at t x _ (cut_place t x e)

-- ---- the text and the terminator of a line are such
ended_of : (l t x : List ℕ) → text_of l ≡ t → terminator_of l ≡ x → Ended t x → Ended (text_of l) (terminator_of l)
ended_of l t x et ex e = rw (et, ex) e

drop_end : (l : List ℕ) (k : ℕ) → length l ≡ suc k → drop k l ≡ get_or l k 0 ∷ []
drop_end l k n = let h : length l ≤ suc k = omega arith in drop-cons l k 0 (omega arith) ∙ ap (λ (x : List ℕ). get_or l k 0 ∷ x) (drop_of_length-le l h)

open_ended : (l : List ℕ) → (last_of l ≡ 10 → ⊥) → Ended (text_of l) (terminator_of l)
unfolding text_of terminator_of terminator_length
open_ended l h =
    let n : terminator_length l ≡ 0 = rw (ne_eqb (last_of l) 10 h) in
    let m : length l ≤ length l - 0 = omega arith in
    ended_of l l [] (ap (λ (k : ℕ). take (length l - k) l) n ∙ take_all (length l - 0) l (omega arith)) (ap (λ (k : ℕ). drop (length l - k) l) n ∙ drop_of_length-le l m) h

lf_ended : (l : List ℕ) (k : ℕ) → length l ≡ suc k → last_of l ≡ 10 → Ended (text_of l) (terminator_of l)
unfolding text_of terminator_of terminator_length
lf_ended l k n h = go (eqb (get_or l (length l - 2) 0) 13) refl
  where
    last : get_or l k 0 ≡ 10
    last = ap (λ (i : ℕ). get_or l i 0) (omega arith) ∙ h

    size : (t : Bool) → eqb (get_or l (length l - 2) 0) 13 ≡ t → terminator_length l ≡ cond t 2 1
    size t e = rw (eq-eqb (last_of l) 10 h, e)

    go : (t : Bool) → eqb (get_or l (length l - 2) 0) 13 ≡ t → Ended (text_of l) (terminator_of l)
    go true e = two k n (eqb-true (get_or l (length l - 2) 0) 13 e)
      where
        two : (k : ℕ) → length l ≡ suc k → get_or l (length l - 2) 0 ≡ 13 → Ended (text_of l) (terminator_of l)
        two zero m q = absurd (let z : get_or l (length l - 2) 0 ≡ get_or l (length l - 1) 0 = ap (λ (i : ℕ). get_or l i 0) (omega arith) in omega arith)
        two (suc j) m q =
            let g : get_or l j 0 ≡ 13 = ap (λ (i : ℕ). get_or l i 0) (omega arith) ∙ q in
            let f : get_or l (suc j) 0 ≡ 10 = ap (λ (i : ℕ). get_or l i 0) (omega arith) ∙ h in
            let c : length l - terminator_length l ≡ j = omega (arith, size true e) in
            ended_of l (take j l) (13 ∷ 10 ∷ [])
            (ap (λ (i : ℕ). take i l) c)
            (ap (λ (i : ℕ). drop i l) c ∙ drop-cons l j 0 (omega arith) ∙ ap (λ (i : ℕ). i ∷ drop (suc j) l) g ∙ ap (λ (x : List ℕ). 13 ∷ x) (drop_end l (suc j) m ∙ ap (λ (i : ℕ). i ∷ []) f))
            (refl, refl)
    go false e =
        let c : length l - terminator_length l ≡ k = omega (arith, size false e) in
        ended_of l (take k l) (10 ∷ []) (ap (λ (i : ℕ). take i l) c) (ap (λ (i : ℕ). drop i l) c ∙ drop_end l k n ∙ ap (λ (i : ℕ). i ∷ []) last) (refl, cr k n)
      where
        cr : (k : ℕ) → length l ≡ suc k → last_of (take k l) ≡ 13 → ⊥
        cr zero m q = omega arith
        cr (suc j) m q =
            let s : length (take (suc j) l) ≡ suc j = length-take-le (suc j) l (omega arith) in
            let g : get_or (take (suc j) l) j 0 ≡ 13 = ap (λ (i : ℕ). get_or (take (suc j) l) i 0) (omega arith) ∙ q in
            true≢false (sym (eq-eqb (get_or l (length l - 2) 0) 13 (ap (λ (i : ℕ). get_or l i 0) (omega arith) ∙ sym (get_or-take (suc j) l j 0 (omega arith)) ∙ g)) ∙ e)

last_long : (l : List ℕ) → last_of l ≡ 10 → length l ≡ suc (length l - 1)
last_long [] h = absurd (omega arith)
last_long (b ∷ l) h = omega arith

pub line_ended : (l : List ℕ) → Ended (text_of l) (terminator_of l)
line_ended l = go (eqb (last_of l) 10) refl
  where
    go : (t : Bool) → eqb (last_of l) 10 ≡ t → Ended (text_of l) (terminator_of l)
    go true e = lf_ended l (length l - 1) (last_long l (eqb-true (last_of l) 10 e)) (eqb-true (last_of l) 10 e)
    go false e = open_ended l (eqb-false (last_of l) 10 e)
