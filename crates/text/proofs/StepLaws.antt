-- Steps of the loops over digits and over bytes that are no LF.
use Prim.Native.Nat.{ℕ, ◌+◌, ◌-◌, ◌≤◌, ◌<◌}
use mathlib.Core.Path.{◌≡◌, refl, sym, ap, ◌∙◌}
use mathlib.Core.Bool.{Bool, true, false, cond, ◌||◌, not}
use mathlib.Core.List.{List, [], ◌∷◌}
use lib.Dec.{eqb}
use lib.ListN.{length, take, drop, get_or, length-take}
use lib.Seq.{get_or-drop}
use borrow.Author.Tests.{eqb-true, ltb-false}
use native.Mathlib.Omega.{arith}
use Rattle.std.specs.Prelude.{None}
use Rattle.std.proofs.lemmas.Grind.{common_steps}
use Rattle.std.proofs.lemmas.List.{get_or-take}
use Rattle.spec_base.proofs.base.Laws.{or_left, or_right}
use Rattle.spec_text.specs.text.Number.{digit, natural}
use Rattle.spec_text.specs.text.Line.{line_length}
use Rattle.spec_text.proofs.text.Laws.{natural_empty}
use Rattle.spec_text.proofs.text.LineLaws.{free_more, line_end_lem}

-- what `is_empty` says of a number
pub natural_none : (most : ℕ) (s : List ℕ) (e : Bool) → e ≡ eqb (length s) 0 → e ≡ true → None ≡ natural most s
natural_none most s e q h = natural_empty most s (eqb-true _ _ (sym q ∙ h))

pub digit_least : (b : ℕ) → digit b ≡ true → 0x30 ≤ b
unfolding digit
digit_least b e = grind (arith, common_steps)

-- a byte of the 16 from i on
pub free_on : (s : List ℕ) (i k : ℕ) (found : Bool) → i + 16 ≤ length s → k < length (take (i + 16 - i) (drop i s))
    → (found ≡ false → line_length (drop i s) ≡ k + line_length (drop (i + k) s)) → (found || eqb (get_or (take (i + 16 - i) (drop i s)) k 0) 10) ≡ false
    → line_length (drop i s) ≡ k + 1 + line_length (drop (i + (k + 1)) s)
free_on s i k found l h inv e =
    let n : k < 16 = omega (arith, length-take (i + 16 - i) (drop i s)) in
    let m : k < i + 16 - i = omega arith in
    let g : get_or (take (i + 16 - i) (drop i s)) k 0 ≡ get_or s (i + k) 0 = get_or-take _ _ _ _ m ∙ get_or-drop i s k 0 in
    let x : 0 ≡ cond (eqb (get_or s (i + k) 0) 10) 1 0 = ap (λ (t : Bool). cond t 1 0) (sym (or_right _ _ e)) ∙ ap (λ (b : ℕ). cond (eqb b 10) 1 0) g in
    free_more s i k 0 0 l n x (λ z. inv (or_left _ _ e)) refl

-- no LF: the line is the whole text
pub line_whole : (s : List ℕ) (i : ℕ) → line_length s ≡ i + line_length (drop i s) → i ≤ length s → length s ≤ i → length s ≡ line_length s
line_whole s i inv l h = let e : length s ≡ i = omega arith in e ∙ line_end_lem s i inv h
