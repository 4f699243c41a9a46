use mathlib.Core.Path.{◌≡◌, refl, ap, ◌∙◌}
use mathlib.Core.Bool.{Bool, false}
use mathlib.Core.List.{List, [], ◌∷◌}
use Prim.Native.Nat.{ℕ, ◌-◌, ◌<◌}
use native.Mathlib.Omega.{arith}
use lib.ListN.{length, take, drop}
use Rattle.spec_text.specs.pattern.Find.{equals}
use Rattle.spec_ass.specs.ass_columns.Section.{events_name, inside}
use Rattle.ass_columns.proofs.section.names_events.Goals as goal

short : (t : List ℕ) → length t < 2 → false ≡ equals events_name (inside t)
unfolding inside equals
short [] h = refl
short (b ∷ []) h = refl
short (b ∷ d ∷ t) h = absurd (omega arith)

inner : (t : List ℕ) (f : Bool) → f ≡ equals events_name (take (length t - 1 - 1) (drop 1 t)) → f ≡ equals events_name (inside t)
unfolding inside
inner t f e =
    let z : length t - 1 - 1 ≡ length t - 2 = omega arith in
    e ∙ ap (λ (n : ℕ). equals events_name (take n (drop 1 t))) z

pub returns-in_default : goal.returns-in_default
returns-in_default c = search short

pub returns-in-len2-up : goal.returns-in-len2-up
returns-in-len2-up c = inner _ _ c.equals.ensures
