-- Open over bytes: its numbers, the first words that it stores, and that a refusal stores nothing. By computation.
use mathlib.Core.Path.{◌≡◌, refl}
use mathlib.Core.List.{[], ◌∷◌}
use lib.ListN.{take, replicate}
use Rattle.spec_base.specs.base.Put.{put}
use Rattle.spec_base.specs.base.Refusal.{◌or_else◌, fault_unless}
use Rattle.spec_time.specs.caption_time.Kind.{kind_bad}
use Rattle.spec_time.specs.caption_time.Convert.{timescale_bad}
use Rattle.spec_map.specs.segment.Segment.{segments_of, any_bad, map_bad}
use Rattle.spec_session.specs.session_state.View.{stored}
use Rattle.spec_session.specs.session.SessionCalls.{open_of}
use Rattle.spec_parked_blocks.specs.parked_blocks.Sealed.{word_bytes, words_bytes, sealed, row_of}
use Rattle.spec_parking.specs.parking.Parked.{head_words, parked_of}
use Rattle.spec_parking.specs.session_bytes.ByteCalls.{open_number, open_bytes}

-- open's own numbers come before 16 for the bytes; 9,216 are enough
pub number_rows : open_number 2 0 [] 0 ∷ open_number 3 1 [] 9216 ∷ open_number 2 1 [] 9215 ∷ open_number 2 1 [] 9216 ∷ [] ≡ 15 ∷ 16 ∷ 16 ∷ 0 ∷ []
unfolding open_number open_of ◌or_else◌ fault_unless timescale_bad kind_bad map_bad any_bad segments_of
number_rows = refl

-- a WebVTT session of T 7: the block's number, mark 2, kind 2, T, not ended
pub word_row : take 20 (open_bytes 2 7 [] (replicate 9216 5)) ≡ 0 ∷ 0 ∷ 0 ∷ 0 ∷ 2 ∷ 0 ∷ 0 ∷ 0 ∷ 2 ∷ 0 ∷ 0 ∷ 0 ∷ 7 ∷ 0 ∷ 0 ∷ 0 ∷ 0 ∷ 0 ∷ 0 ∷ 0 ∷ []
unfolding open_bytes open_number open_of stored parked_of row_of sealed head_words words_bytes word_bytes put ◌or_else◌ fault_unless timescale_bad kind_bad map_bad any_bad segments_of
word_row = refl

-- refused, the bytes stay
pub refused_row : open_bytes 3 7 [] (5 ∷ 6 ∷ []) ≡ 5 ∷ 6 ∷ []
unfolding open_bytes open_number open_of put ◌or_else◌ fault_unless timescale_bad kind_bad map_bad any_bad segments_of
refused_row = refl
