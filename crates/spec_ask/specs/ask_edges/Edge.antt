-- A segment's edges in units of 1/U second. A caption read as S to E meets a segment of positive length exactly where S < till and from ≤ E, and lies
-- in it whole exactly where low ≤ S and E < high: ticks are rounded down, so that tick k is reached by the least time that is k rounded up.
use Rattle.std.specs.Prelude.{Bool, true, false, ◌&&◌, cond, List, [], ◌∷◌, ℕ, suc, ◌+◌, ltb, leb, eqb}
use Rattle.spec_time.specs.caption_time.Convert.{end_units, end_within}
use Rattle.spec_map.specs.declared.segment.Segment.{Segment}
use Rattle.spec_map.specs.segment.Segment.{source_of, end_bad}
use Rattle.spec_ask.specs.declared.ask_edges.Edge.{Edge}
use Rattle.spec_caption.specs.caption_fate.Fates.{Fate, passed, dropped, shifted, clipped}

abbrev pub edge : (till from low high : ℕ) → Edge
edge t f l h = record { till = t; from = f; low = l; high = h }

-- the edges of a segment from source tick q on, d ticks long
abbrev pub edge_at : (T U q d : ℕ) → Edge
edge_at T U q d = edge (end_units T U (q + d)) (end_units T U (suc q)) (end_units T U q) (end_units T U (suc (q + d)))

-- those of the segments of positive length
unfoldable pub edges_of : (T U : ℕ) → List Segment → List Edge
edges_of T U [] = []
edges_of T U (x ∷ xs) = cond (eqb x.duration 0) (edges_of T U xs) (edge_at T U (source_of x) x.duration ∷ edges_of T U xs)

-- by the code, at every input: a segment without length, or past the tick limit, has edges that no caption meets
unfoldable pub edge_within : (kind T q d : ℕ) → Edge
edge_within kind T q d =
    cond (eqb d 0) (edge 0 0 0 0)
    (cond (end_bad q d) (edge 0 0 0 0)
    (edge (end_within kind T (q + d)) (end_within kind T (q + 1)) (end_within kind T q) (end_within kind T (q + d + 1))))

-- ---- fates as numbers: 0 dropped (or passed), 1 clipped, 2 shifted
abbrev pub fate_grade : Fate → ℕ
fate_grade passed = 0
fate_grade dropped = 0
fate_grade (clipped s e) = 1
fate_grade (shifted s e) = 2

abbrev pub grade_by : (met whole : Bool) → (others : ℕ) → ℕ
grade_by true true r = 2
grade_by true false r = 1
grade_by false w r = r

unfoldable pub grade_through : List Edge → (S E : ℕ) → ℕ
grade_through [] S E = 0
grade_through (e ∷ es) S E = grade_by (ltb S e.till && leb e.from E) (leb e.low S && ltb E e.high) (grade_through es S E)
