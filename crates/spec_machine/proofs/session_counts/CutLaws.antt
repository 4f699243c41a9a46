-- What the cut into lines means: nothing is lost, each line ends in its only LF, the rest has none. And lines with a rest are cut as they stand.
use mathlib.Core.Path.{◌≡◌, refl, sym, ap, ◌∙◌}
use mathlib.Core.Bool.{Bool, true, false, cond, true≢false}
use mathlib.Core.List.{List, [], ◌∷◌, ◌++◌, append_assoc}
use Prim.Native.Nat.{ℕ, ◌+◌}
use native.Mathlib.Omega.{arith}
use lib.Dec.{eqb}
use lib.ListN.{length, length-append}
use Rattle.spec_text.specs.text.Line.{lines_of, concat, is_empty, ends_line, has_lf}
use Rattle.spec_text.proofs.text.LineLaws.{Finished, lines_back, line_last, lines_end}
use Rattle.spec_machine.specs.session_counts.Cut.{Cut, push, cut, is_lf, closed_lines, unfinished}

abbrev cut_of : List (List ℕ) → List ℕ → Cut ℕ
cut_of ls r = record { pieces = ls; rest = r }

push_joined : (t : Bool) (b : ℕ) (ls : List (List ℕ)) (r : List ℕ) → concat (push t b (cut_of ls r)).pieces ++ (push t b (cut_of ls r)).rest ≡ b ∷ concat ls ++ r
push_joined true b ls r = refl
push_joined false b [] r = refl
push_joined false b (l ∷ ls) r = refl

-- the lines and the rest, joined, are the text
pub cut_joined : (t : List ℕ) → concat (closed_lines t) ++ unfinished t ≡ t
cut_joined [] = refl
cut_joined (b ∷ t) = push_joined (eqb b 10) b (closed_lines t) (unfinished t) ∙ ap (λ (l : List ℕ). b ∷ l) (cut_joined t)

pub cut_length : (t : List ℕ) → length (concat (closed_lines t)) + length (unfinished t) ≡ length t
cut_length t = sym (length-append (concat (closed_lines t)) (unfinished t)) ∙ ap length (cut_joined t)

-- each line ends in its only LF
ends_now : (b : ℕ) → eqb b 10 ≡ true → ends_line (b ∷ []) ≡ true
unfolding ends_line
ends_now b p = rw p

ends_later : (b : ℕ) (l : List ℕ) → eqb b 10 ≡ false → ends_line l ≡ true → ends_line (b ∷ l) ≡ true
unfolding ends_line
ends_later b l p e = rw p e

push_ends : (t : Bool) (b : ℕ) → eqb b 10 ≡ t → (ls : List (List ℕ)) (r : List ℕ) → Finished ls → Finished (push t b (cut_of ls r)).pieces
push_ends true b p ls r e = (ends_now b p, e)
push_ends false b p [] r e = tt
push_ends false b p (l ∷ ls) r e = (ends_later b l p e.0, e.1)

pub cut_ends : (t : List ℕ) → Finished (closed_lines t)
cut_ends [] = tt
cut_ends (b ∷ t) = push_ends (eqb b 10) b refl (closed_lines t) (unfinished t) (cut_ends t)

-- the rest has no LF
pub has_none : has_lf [] ≡ false
unfolding has_lf
has_none = refl

pub has_later : (b : ℕ) (l : List ℕ) → eqb b 10 ≡ false → has_lf l ≡ false → has_lf (b ∷ l) ≡ false
unfolding has_lf
has_later b l p e = rw p e

push_rest : (t : Bool) (b : ℕ) → eqb b 10 ≡ t → (ls : List (List ℕ)) (r : List ℕ) → has_lf r ≡ false → has_lf (push t b (cut_of ls r)).rest ≡ false
push_rest true b p ls r e = e
push_rest false b p [] r e = has_later b r p e
push_rest false b p (l ∷ ls) r e = e

pub cut_open : (t : List ℕ) → has_lf (unfinished t) ≡ false
cut_open [] = has_none
cut_open (b ∷ t) = push_rest (eqb b 10) b refl (closed_lines t) (unfinished t) (cut_open t)

-- ---- the lines of a text are those that LF closes, and the rest where it is not empty
abbrev pub rest_lines : List ℕ → List (List ℕ)
rest_lines [] = []
rest_lines (b ∷ r) = (b ∷ r) ∷ []

rest_lines_lem : (r : List ℕ) → has_lf r ≡ false → lines_of r ≡ rest_lines r
rest_lines_lem [] e = lines_end [] (omega arith)
rest_lines_lem (b ∷ r) e = line_last (b ∷ r) (omega arith) e

pub lines_of_cut : (t : List ℕ) → lines_of t ≡ closed_lines t ++ rest_lines (unfinished t)
lines_of_cut t =
    ap lines_of (sym (cut_joined t)) ∙ lines_back (closed_lines t) (unfinished t) (cut_ends t)
    ∙ ap (λ (x : List (List ℕ)). closed_lines t ++ x) (rest_lines_lem (unfinished t) (cut_open t))

-- ---- finished lines and an unfinished one can be told apart again
pub cut_rest : (h : List ℕ) → has_lf h ≡ false → cut is_lf h ≡ cut_of [] h
unfolding has_lf
cut_rest [] e = refl
cut_rest (b ∷ h) e = go (eqb b 10) e (λ (q : has_lf h ≡ false). cut_rest h q)
  where
    go : (t : Bool) → cond t true (has_lf h) ≡ false → (has_lf h ≡ false → cut is_lf h ≡ cut_of [] h) → push t b (cut is_lf h) ≡ cut_of [] (b ∷ h)
    go true e ih = absurd (true≢false e)
    go false e ih = ap (λ (c : Cut ℕ). push false b c) (ih e)

pub cut_line : (l t : List ℕ) → ends_line l ≡ true → cut is_lf (l ++ t) ≡ cut_of (l ∷ closed_lines t) (unfinished t)
unfolding ends_line
cut_line [] t e = absurd (true≢false (sym e))
cut_line (b ∷ l) t e = go (eqb b 10) e (λ (q : ends_line l ≡ true). cut_line l t q)
  where
    alone : (k : List ℕ) → is_empty k ≡ true → push true b (cut is_lf (k ++ t)) ≡ cut_of ((b ∷ k) ∷ closed_lines t) (unfinished t)
    alone [] q = refl
    alone (x ∷ k) q = absurd (true≢false (sym q))

    go : (z : Bool) → cond z (is_empty l) (ends_line l) ≡ true
        → (ends_line l ≡ true → cut is_lf (l ++ t) ≡ cut_of (l ∷ closed_lines t) (unfinished t))
        → push z b (cut is_lf (l ++ t)) ≡ cut_of ((b ∷ l) ∷ closed_lines t) (unfinished t)
    go true q ih = alone l q
    go false q ih = ap (λ (c : Cut ℕ). push false b c) (ih q)

pub cut_held : (ls : List (List ℕ)) (h : List ℕ) → Finished ls → has_lf h ≡ false → cut is_lf (concat ls ++ h) ≡ cut_of ls h
cut_held [] h e f = cut_rest h f
cut_held (l ∷ ls) h e f =
    ap (cut is_lf) (append_assoc l (concat ls) h) ∙ cut_line l (concat ls ++ h) e.0
    ∙ ap (λ (c : Cut ℕ). cut_of (l ∷ c.pieces) c.rest) (cut_held ls h e.1 f)
