use mathlib.Core.Path.{◌≡◌, refl}
use mathlib.Core.Bool.{Bool, true, false, cond}
use mathlib.Core.List.{List, [], ◌∷◌}
use Prim.Native.Nat.{ℕ, ◌≤◌, ◌<◌}
use native.Mathlib.Omega.{arith}
use borrow.Author.Tests.{eq-eqb, le-leb, lt-leb, lt-ltb, le-ltb}
use borrow.Author.Rules.{rules}
use lib.Dec.{eqb, ltb}
use lib.ListN.{length, get_or}
use Rattle.spec_text.specs.text.Number.{digit}
use Rattle.spec_cue.specs.block_timing.Style.{stamp_head}
use Rattle.spec_cue.proofs.block_timing.VttLaws.{head_none}
use Rattle.block_timing.proofs.stamps.stamp_head.Goals as goal

digit_low : (b : ℕ) → b < 48 → digit b ≡ false
unfolding digit
digit_low b h = rw (lt-ltb b 48 h)

digit_high : (b : ℕ) → 57 < b → digit b ≡ false
unfolding digit
digit_high b h = rw (lt-leb b 57 h) (go (ltb b 48))
  where
    go : (t : Bool) → cond t false false ≡ false
    go true = refl
    go false = refl

yes : (s : List ℕ) → get_or s 0 0 ≡ 60 → 48 ≤ get_or s 1 0 → get_or s 1 0 ≤ 57 → true ≡ stamp_head s
unfolding stamp_head digit
yes s e l h = rw (eq-eqb (get_or s 0 0) 60 e, le-ltb (get_or s 1 0) 48 l, le-leb (get_or s 1 0) 57 h)

no_digit : (s : List ℕ) → digit (get_or s 1 0) ≡ false → false ≡ stamp_head s
unfolding stamp_head
no_digit s e = rw e (go (eqb (get_or s 0 0) 60))
  where
    go : (t : Bool) → false ≡ cond t false false
    go true = refl
    go false = refl

short : (s : List ℕ) → length s < 2 → false ≡ stamp_head s
short [] h = no_digit [] (digit_low 0 (omega arith))
short (b ∷ []) h = no_digit (b ∷ []) (digit_low 0 (omega arith))
short (b ∷ d ∷ s) h = absurd (omega arith)

low : (s : List ℕ) → get_or s 1 0 < 48 → false ≡ stamp_head s
low s h = no_digit s (digit_low (get_or s 1 0) h)

high : (s : List ℕ) → 57 < get_or s 1 0 → false ≡ stamp_head s
high s h = no_digit s (digit_high (get_or s 1 0) h)

other : (s : List ℕ) → (get_or s 0 0 ≡ 60 → ⊥) → false ≡ stamp_head s
other s n = head_none s (get_or s 0 0) refl n

pub returns-in-60 : goal.returns-in-60
returns-in-60 c = let s = c.args.s.now in
    let e : get_or s 0 0 ≡ 60 = search rules in
    let a : 48 ≤ get_or s 1 0 = omega arith in
    let b : get_or s 1 0 ≤ 57 = omega arith in
    yes s e a b

pub returns-in_default : goal.returns-in_default
returns-in_default c = search (short, low, high, other)

pub returns-in_default-2 : goal.returns-in_default-2
returns-in_default-2 c = search (short, low, high, other)

pub returns-in_default-3 : goal.returns-in_default-3
returns-in_default-3 c = search (short, low, high, other)

pub returns-in_default-4 : goal.returns-in_default-4
returns-in_default-4 c = search (short, low, high, other)
