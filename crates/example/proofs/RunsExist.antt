-- Every list of calls has a run from every session: the contracts say all of each result.
use mathlib.Core.Path.{refl}
use mathlib.Core.List.{List, [], ◌∷◌}
use Rattle.spec_session.specs.declared.session_state.Session.{Session}
use Rattle.spec_session.specs.session.SessionCalls.{next_of}
use Rattle.promise.specs.Runs.{Met, Ran}
use Rattle.example.specs.Calls.{Asked, feeding, finishing, asked_call, made_by, makes}

made_met : (s : Session) (a : Asked) → Met s (made_by s a)
made_met s (feeding m piece out places) =
    ((refl, refl), record { number = refl; written = refl; warned = refl; session = refl; text = refl; warnings = refl })
made_met s (finishing m out places) =
    ((refl, refl), record { number = refl; written = refl; warned = refl; session = refl; text = refl; warnings = refl })

pub made_ran : (s : Session) (asked : List Asked) → Ran s (makes s asked)
made_ran s [] = tt
made_ran s (feeding m piece out places ∷ later) =
    (made_met s (feeding m piece out places), made_ran (next_of s (asked_call (feeding m piece out places))) later)
made_ran s (finishing m out places ∷ later) =
    (made_met s (finishing m out places), made_ran (next_of s (asked_call (finishing m out places))) later)
