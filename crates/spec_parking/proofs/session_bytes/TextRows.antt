-- The text of a feed and the bytes afterwards: by computation.
use mathlib.Core.Path.{◌≡◌, refl}
use mathlib.Core.Bool.{true, false}
use mathlib.Core.List.{[], ◌∷◌}
use lib.ListN.{length, replicate}
use Rattle.spec_base.specs.base.Refusal.{◌or_else◌, fault_unless}
use Rattle.spec_sheet.specs.checked_blocks.Block.{word_at, block_holds}
use Rattle.spec_machine.specs.session_counts.Session.{is_outcome}
use Rattle.spec_parked_blocks.specs.parked_blocks.Sealed.{bodies, all_hold, all_zero, is_row}
use Rattle.spec_parking.specs.parking.Parked.{unused_zero, is_parked}
use Rattle.spec_parking.specs.parking.Head.{head_in}
use Rattle.spec_parking.specs.session_bytes.ByteCalls.{refuses}
use Rattle.spec_parking.specs.session_bytes.Text.{feed_number, feed_text, kept_text}

unsound : feed_number [] ≡ 27
unfolding feed_number is_parked is_row unused_zero is_outcome fault_unless ◌or_else◌ all_hold block_holds bodies all_zero word_at
unsound = refl

-- nothing held: the piece, as much of it as a call may have
text : feed_text [] (7 ∷ 8 ∷ []) ≡ 7 ∷ 8 ∷ []
unfolding feed_text bodies word_at
text = refl

cut : length (feed_text [] (replicate 1025 7)) ≡ 1024
unfolding feed_text bodies word_at
cut = refl

-- refused, or with nothing fed, the bytes stay
stays : kept_text 16 false (head_in []) [] 0 (7 ∷ []) ≡ kept_text 0 true (head_in []) [] 0 (7 ∷ [])
unfolding kept_text refuses
stays = refl
