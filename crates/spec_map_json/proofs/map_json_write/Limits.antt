-- The writer's number by rows, for no segments: a path of 1,024 bytes is taken, one of 1,025 is 16 whatever its bytes; a short path that is not UTF-8 is 20; too short a lent text is 16.
use mathlib.Core.Path.{◌≡◌, refl}
use mathlib.Core.List.{[], ◌∷◌}
use lib.ListN.{replicate}
use Rattle.spec_base.specs.base.Refusal.{◌or_else◌, fault_unless}
use Rattle.spec_text.specs.utf8.Utf8.{lead_len, second_low, second_high, tail, width_by, char_width, utf8_from, utf8}
use Rattle.spec_time.specs.caption_time.Convert.{timescale_bad}
use Rattle.spec_map.specs.segment.Segment.{segments_of, any_bad, map_bad}
use Rattle.spec_map_json.specs.map_json_write.MapWritten.{write_number}

pub write_rows :
    write_number [] 1 (replicate 1024 97) (32 ∷ []) 1
    ∷ write_number [] 1 (replicate 1025 97) (32 ∷ []) 1
    ∷ write_number [] 1 (replicate 1025 255) (32 ∷ []) 1
    ∷ write_number [] 1 (255 ∷ []) (32 ∷ []) 1
    ∷ write_number [] 1 (97 ∷ []) (32 ∷ []) 0
    ∷ write_number [] 0 (replicate 1025 97) (32 ∷ []) 1
    ∷ []
    ≡ 0 ∷ 16 ∷ 16 ∷ 20 ∷ 16 ∷ 15 ∷ []
unfolding write_number ◌or_else◌ fault_unless utf8 utf8_from char_width width_by lead_len second_low second_high tail timescale_bad map_bad any_bad segments_of
write_rows = refl
