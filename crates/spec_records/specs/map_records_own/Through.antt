-- What a map tells of itself and of a caption: the answer of the map call, and the segment that the caption meets.
use Rattle.std.specs.Prelude.{ℕ}
use Rattle.spec_map.specs.segmap.Map.{Map, made_of}
use Rattle.spec_caption.specs.caption_fate.Hit.{find_hit, hit_of}
use Rattle.spec_records.specs.declared.map_records_own.Through.{Through}

-- a and b are the ticks of the caption's start and end; a refused map has no segments, and so no hit
unfoldable pub through_of : Map → (a b : ℕ) → Through
through_of m a b = record { made = made_of m; hit = hit_of (find_hit m.segments a b) }
