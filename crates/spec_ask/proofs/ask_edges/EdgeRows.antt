-- The edges of document 01's worked segments in hundredths of a second, and the fates of its captions by them (0 dropped, 1 clipped, 2 shifted): by computation.
use mathlib.Core.Path.{◌≡◌, refl}
use mathlib.Core.List.{List, [], ◌∷◌}
use Rattle.spec_time.specs.caption_time.Kind.{kind_bad, units_of}
use Rattle.spec_time.specs.caption_time.Convert.{scaled_up, end_units, core_holds, end_within}
use Rattle.spec_map.specs.segment.Segment.{segment, end_bad}
use Rattle.spec_caption.specs.caption_fate.Fates.{passed, dropped, shifted, clipped}
use Rattle.spec_ask.specs.declared.ask_edges.Edge.{Edge}
use Rattle.spec_ask.specs.ask_edges.Edge.{edge, edges_of, edge_within, fate_grade, grade_through}

-- ticks 6006 to 10010 at 30,000 a second; without length; past 2^53
pub edge_rows : (edge_within 0 30000 6006 4004 ≡ edge 34 21 21 34) × (edge_within 0 30000 6006 0 ≡ edge 0 0 0 0) × (edge_within 0 30000 9007199254740992 1 ≡ edge 0 0 0 0)
    × (edges_of 30000 100 (segment 0 3 0 3 0 3003 ∷ segment 5 5 5000 0 3003 0 ∷ []) ≡ edge 11 1 0 11 ∷ [])
unfolding edge_within edges_of end_bad end_within core_holds kind_bad units_of end_units scaled_up
edge_rows = (refl, refl, refl, refl)

abbrev worked : List Edge
worked = edge 11 1 0 11 ∷ edge 34 21 21 34 ∷ []

pub grade_rows :
    grade_through worked 5 25
    ∷ grade_through worked 12 20
    ∷ grade_through worked 21 25
    ∷ grade_through worked 20 21
    ∷ grade_through worked 0 0
    ∷ grade_through worked 5 5
    ∷ grade_through worked 7 5
    ∷ []
    ≡ 1 ∷ 0 ∷ 2 ∷ 1 ∷ 0 ∷ 2 ∷ 2 ∷ []
unfolding grade_through
grade_rows = refl

pub fate_rows : fate_grade passed ∷ fate_grade dropped ∷ fate_grade (clipped 1 2) ∷ fate_grade (shifted 1 2) ∷ [] ≡ 0 ∷ 0 ∷ 1 ∷ 2 ∷ []
fate_rows = refl
