-- Tests joined by `||` and `&&`, as code with early returns has them.
use mathlib.Core.Path.{◌≡◌, sym, ap, ◌∙◌}
use mathlib.Core.Bool.{Bool, true, false, ◌&&◌, ◌||◌}
use Rattle.spec_base.proofs.base.Laws.{calls}

pub or_yes : {t : Bool} (b : Bool) → t ≡ true → true ≡ (t || b)
or_yes b e = ap (λ (t : Bool). t || b) (sym e)

pub or_no : {t b r : Bool} → t ≡ false → r ≡ b → r ≡ (t || b)
or_no {t} {b} {r} e p = p ∙ ap (λ (t : Bool). t || b) (sym e)

pub and_yes : {t b r : Bool} → t ≡ true → r ≡ b → r ≡ (t && b)
and_yes {t} {b} {r} e p = p ∙ ap (λ (t : Bool). t && b) (sym e)

pub and_no : {t : Bool} (b : Bool) → t ≡ false → false ≡ (t && b)
and_no b e = ap (λ (t : Bool). t && b) (sym e)

pub ruleset tests = (calls, or_yes, or_no, and_yes, and_no)
