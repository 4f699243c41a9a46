-- Document 01's example: the map of its small sheet and of `Trim(0,2) ++ Trim(6,8)`, outward, and a setting for each kind.
use Rattle.std.specs.Prelude.{List, ℕ}
use Rattle.spec_base.specs.base.Limits.{most_work}
use Rattle.spec_base.specs.base.Ascii.{ascii}
use Rattle.sheet_vectors.specs.Small.{small_sheet}
use Rattle.spec_map.specs.declared.segment.Segment.{Segment}
use Rattle.spec_map.specs.segmap.Map.{Map, map_of}
use Rattle.spec_caption.specs.declared.caption_fate.Config.{Config}

abbrev pub the_list : List ℕ
the_list = ascii "Trim(0,2) ++ Trim(6,8)"

abbrev pub the_map : Map
the_map = map_of small_sheet the_list 0 6144 most_work

abbrev pub the_segments : List Segment
the_segments = the_map.segments

-- a kind, at the sheet's timescale
abbrev pub setting : ℕ → Config
setting kind = record { kind = kind; timescale = 30000 }
