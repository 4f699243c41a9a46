-- The last bytes of a list: by computation.
use mathlib.Core.Path.{◌≡◌, refl}
use mathlib.Core.List.{[], ◌∷◌}
use Rattle.spec_base.specs.base.Part.{last}

-- none, two of three, all, and where there are fewer
last_rows : last (1 ∷ 2 ∷ 3 ∷ []) 0 ∷ last (1 ∷ 2 ∷ 3 ∷ []) 2 ∷ last (1 ∷ 2 ∷ 3 ∷ []) 3 ∷ last (1 ∷ 2 ∷ 3 ∷ []) 4 ∷ last [] 1 ∷ []
    ≡ [] ∷ (2 ∷ 3 ∷ []) ∷ (1 ∷ 2 ∷ 3 ∷ []) ∷ (1 ∷ 2 ∷ 3 ∷ []) ∷ [] ∷ []
unfolding last
last_rows = refl
