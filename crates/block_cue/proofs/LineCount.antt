-- The lines of a block, counted by their LFs.
use mathlib.Core.Path.{◌≡◌, refl, sym, ap, ◌∙◌}
use mathlib.Core.Bool.{Bool, true, false, cond}
use mathlib.Core.List.{List, [], ◌∷◌}
use Prim.Native.Nat.{ℕ, suc, ◌+◌, ◌-◌, ◌≤◌, ◌<◌}
use native.Mathlib.Omega.{arith}
use borrow.Author.Tests.{eq-eqb, ne_eqb}
use lib.Dec.{eqb}
use lib.ListN.{length, get_or}
use Rattle.std.specs.List.{count_by}
use Rattle.std.proofs.lemmas.List.Sums.{sum_by-cons}
use Rattle.spec_text.specs.pattern.Piece.{onto_first}
use Rattle.spec_text.specs.text.Line.{lines_of, line_count}

abbrev feed : ℕ → Bool
feed b = eqb b 10

feeds : (b : ℕ) (s : List ℕ) → count_by feed (b ∷ s) ≡ cond (feed b) 1 0 + count_by feed s
feeds b s = sum_by-cons (λ x. cond (feed x) 1 0) b s

-- how many lines have no LF
abbrev open_lines : List ℕ → ℕ
open_lines [] = 0
open_lines (b ∷ []) = cond (eqb b 10) 0 1
open_lines (b ∷ d ∷ s) = open_lines (d ∷ s)

onto : (b : ℕ) (ls : List (List ℕ)) → 0 < line_count ls → line_count (onto_first b ls) ≡ line_count ls
onto b [] h = absurd (omega arith)
onto b (l ∷ ls) h = refl

onto_some : (b : ℕ) (ls : List (List ℕ)) → 0 < line_count (onto_first b ls)
onto_some b [] = omega arith
onto_some b (l ∷ ls) = omega arith

some_line : (b : ℕ) (s : List ℕ) → 0 < line_count (lines_of (b ∷ s))
unfolding lines_of
some_line b s = go (eqb b 10)
  where
    go : (t : Bool) → 0 < line_count (cond t ((b ∷ []) ∷ lines_of s) (onto_first b (lines_of s)))
    go true = omega arith
    go false = onto_some b (lines_of s)

one : (b : ℕ) → line_count (lines_of (b ∷ [])) ≡ cond (feed b) 1 0 + count_by feed [] + cond (eqb b 10) 0 1
unfolding lines_of
one b = go (eqb b 10)
  where
    go : (t : Bool) → line_count (cond t ((b ∷ []) ∷ []) (onto_first b [])) ≡ cond t 1 0 + 0 + cond t 0 1
    go true = refl
    go false = refl

more : (b d n : ℕ) (s : List ℕ) → line_count (lines_of (d ∷ s)) ≡ n → line_count (lines_of (b ∷ d ∷ s)) ≡ cond (feed b) 1 0 + n
unfolding lines_of
more b d n s e = go (eqb b 10) (some_line d s)
  where
    go : (t : Bool) → 0 < line_count (lines_of (d ∷ s)) → line_count (cond t ((b ∷ []) ∷ lines_of (d ∷ s)) (onto_first b (lines_of (d ∷ s)))) ≡ cond t 1 0 + n
    go true h = omega arith
    go false h = omega (arith, onto b (lines_of (d ∷ s)) h)

none : line_count (lines_of []) ≡ 0
unfolding lines_of
none = refl

counted : (s : List ℕ) → line_count (lines_of s) ≡ count_by feed s + open_lines s
counted [] = none
counted (b ∷ []) = one b ∙ ap (λ (n : ℕ). n + cond (eqb b 10) 0 1) (sym (feeds b []))
counted (b ∷ d ∷ s) = more b d _ s (counted (d ∷ s)) ∙ omega (arith, feeds b (d ∷ s))

-- the last byte
open_ended : (s : List ℕ) → get_or s (length s - 1) 0 ≡ 10 → open_lines s ≡ 0
open_ended [] h = refl
open_ended (b ∷ []) h = rw (eq-eqb b 10 h)
open_ended (b ∷ d ∷ s) h =
    let z : length (b ∷ d ∷ s) - 1 ≡ suc (length (d ∷ s) - 1) = omega arith in
    open_ended (d ∷ s) (ap (λ (k : ℕ). get_or (b ∷ d ∷ s) k 0) (sym z) ∙ h)

open_open : (s : List ℕ) → 1 ≤ length s → (get_or s (length s - 1) 0 ≡ 10 → ⊥) → open_lines s ≡ 1
open_open [] l h = absurd (omega arith)
open_open (b ∷ []) l h = rw (ne_eqb b 10 h)
open_open (b ∷ d ∷ s) l h =
    let z : length (b ∷ d ∷ s) - 1 ≡ suc (length (d ∷ s) - 1) = omega arith in
    open_open (d ∷ s) (omega arith) (λ e. h (ap (λ (k : ℕ). get_or (b ∷ d ∷ s) k 0) z ∙ e))

pub no_lines : (s : List ℕ) → length s < 1 → 0 ≡ line_count (lines_of s)
no_lines [] h = sym none
no_lines (b ∷ s) h = absurd (omega arith)

module _ (s : List ℕ) (n : ℕ) (e : n ≡ count_by (λ b. eqb b 10) s) where
  pub ended : get_or s (length s - 1) 0 ≡ 10 → n ≡ line_count (lines_of s)
  ended h = omega (arith, counted s, open_ended s h)

  pub one_open : 1 ≤ length s → (get_or s (length s - 1) 0 ≡ 10 → ⊥) → n + 1 ≡ line_count (lines_of s)
  one_open l h = omega (arith, counted s, open_open s l h)
