-- Which numbers refuse a call over bytes, what a refusal leaves of a told length, and which call is an empty piece: by computation.
use mathlib.Core.Path.{◌≡◌, refl}
use mathlib.Core.Bool.{Bool, true, false}
use mathlib.Core.List.{List, [], ◌∷◌, map}
use Rattle.spec_session.specs.session.SessionCalls.{feed_call, finish_call}
use Rattle.spec_parking.specs.session_bytes.ByteCalls.{refuses, empty_piece, told_in}

pub refuses_rows : map refuses (0 ∷ 14 ∷ 15 ∷ 16 ∷ 17 ∷ 18 ∷ 19 ∷ 20 ∷ 21 ∷ 22 ∷ 24 ∷ 26 ∷ 27 ∷ 28 ∷ [])
    ≡ false ∷ false ∷ true ∷ true ∷ true ∷ true ∷ false ∷ false ∷ false ∷ false ∷ false ∷ false ∷ true ∷ false ∷ []
unfolding refuses
refuses_rows = refl

-- with 0, with 22, refused
pub told_rows : told_in 0 5 9 ∷ told_in 22 5 9 ∷ told_in 16 5 9 ∷ told_in 27 5 9 ∷ [] ≡ 5 ∷ 5 ∷ 9 ∷ 9 ∷ []
unfolding told_in refuses
told_rows = refl

-- no byte, one byte, a finish
pub empty_rows : empty_piece (feed_call [] [] 0 0) ∷ empty_piece (feed_call [] (10 ∷ []) 0 0) ∷ empty_piece (finish_call [] 0 0) ∷ [] ≡ true ∷ false ∷ false ∷ []
empty_rows = refl
