-- What stands in a lent place after an answer: its value with 0, and what stood there with a refusal. By computation.
use mathlib.Core.Path.{◌≡◌, refl}
use mathlib.Core.List.{[], ◌∷◌}
use Rattle.spec_base.specs.base.Refusal.{left_in}

pub left_rows : left_in 0 5 9 ∷ left_in 15 5 9 ∷ left_in 29 0 9 ∷ [] ≡ 5 ∷ 9 ∷ 9 ∷ []
unfolding left_in
left_rows = refl
