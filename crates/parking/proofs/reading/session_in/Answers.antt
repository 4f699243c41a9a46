use mathlib.Core.Path.{◌≡◌, ap, ◌∙◌}
use mathlib.Core.List.{List}
use Prim.Native.Nat.{ℕ}
use lib.ListN.{take}
use Rattle.spec_base.specs.base.Limits.{most_held}
use Rattle.spec_session.specs.declared.session_state.Session.{Session}
use Rattle.spec_session.specs.declared.session_state.Head.{Head}
use Rattle.spec_parked_blocks.specs.parked_blocks.Sealed.{room_of}
use Rattle.spec_parking.specs.parking.Parked.{session_in}
use Rattle.spec_parking.specs.parking.Head.{head_in}
use Rattle.parking.proofs.reading.session_in.Goals as goal

with_room : (s room held : List ℕ) (h : Head) → h ≡ head_in s → room ≡ room_of s → held ≡ take most_held room
    → ◌≡◌ {A = Session} (record { config = h.config; ended = h.ended; outcome = h.outcome; taken = h.taken; lines = h.lines; counts = h.counts; columns = h.columns; held_len = h.held_len; held = held }) (session_in s)
unfolding head_in session_in
with_room s room held h e r d =
    let q : held ≡ take most_held (room_of s) = d ∙ ap (take most_held) r in
    λ i. record { config = (e i).config; ended = (e i).ended; outcome = (e i).outcome; taken = (e i).taken; lines = (e i).lines; counts = (e i).counts; columns = (e i).columns; held_len = (e i).held_len; held = q i }

pub returns : goal.returns
returns c = with_room _ _ _ _ c.head_in-head.ensures c.requires.0 c.held_in.ensures
