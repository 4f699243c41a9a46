-- The outcome of a session, before its end and after it: by computation.
use mathlib.Core.Path.{◌≡◌, refl}
use mathlib.Core.Bool.{true, false}
use mathlib.Core.List.{[], ◌∷◌}
use Rattle.spec_machine.specs.session_counts.Session.{is_outcome, outcome_bad}

-- a session that goes on has 0; an ended one has 0 or a fault of a text: 19 to 22, or 24
outcome_rows : outcome_bad false 0 ∷ outcome_bad false 20 ∷ outcome_bad true 0 ∷ outcome_bad true 18 ∷ outcome_bad true 19 ∷ outcome_bad true 22 ∷ outcome_bad true 23 ∷ outcome_bad true 24 ∷ outcome_bad true 25 ∷ []
    ≡ false ∷ true ∷ false ∷ true ∷ false ∷ false ∷ true ∷ false ∷ true ∷ []
unfolding outcome_bad is_outcome
outcome_rows = refl
