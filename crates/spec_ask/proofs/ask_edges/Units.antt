-- The fate of a caption by the edges of the map is its fate by the caption rules.
use mathlib.Core.Path.{◌≡◌, refl, sym, ap, ap₂, ◌∙◌}
use mathlib.Core.Bool.{Bool, true, false, ◌&&◌, ◌||◌, not, cond, true≢false}
use mathlib.Core.List.{List, [], ◌∷◌}
use Prim.Native.Nat.{ℕ, zero, suc, ◌+◌, ◌<◌}
use native.Mathlib.Omega.{arith}
use borrow.Author.Tests.{lt-ltb, le-ltb, eqb-true}
use lib.Dec.{ltb, leb, eqb, leb-suc-suc}
use Rattle.spec_time.specs.caption_time.Kind.{units_of}
use Rattle.spec_time.specs.caption_time.Convert.{ticks_of}
use Rattle.spec_map.specs.declared.segment.Segment.{Segment}
use Rattle.spec_map.specs.segment.Segment.{source_of}
use Rattle.spec_caption.specs.declared.caption_fate.Config.{Config}
use Rattle.spec_caption.specs.caption_fate.Hit.{meets_parts, meets, Found, hit, find_from, met_of}
use Rattle.spec_caption.specs.caption_fate.Lost.{lost_rule}
use Rattle.spec_caption.specs.caption_fate.Decide.{retimed_at, decide_hit, decide_ticks, decide_of}
use Rattle.spec_caption.specs.caption_fate.Fates.{shifted, clipped, fate_by, fate_of}
use Rattle.spec_ask.specs.ask_edges.Edge.{edge_at, edges_of, fate_grade, grade_by, grade_through}
use Rattle.spec_ask.proofs.ask_edges.Reach.{at_least, below}
use Rattle.spec_base.proofs.base.Laws.{leb_not}

-- uncut at both ends: whole in the segment
grade_for : (s e : ℕ) (sc ec : Bool) (r : ℕ) → fate_grade (cond (sc || ec) (clipped s e) (shifted s e)) ≡ grade_by true (not sc && not ec) r
grade_for s e true ec r = refl
grade_for s e false true r = refl
grade_for s e false false r = refl

module _ (T U : ℕ) (hT : 0 < T) (hU : 0 < U) (S E : ℕ) where
  abbrev a : ℕ
  a = ticks_of T U S

  abbrev b : ℕ
  b = ticks_of T U E

  -- a segment of positive length is met
  met_units : (q d : ℕ) → 0 < d → meets_parts q d a b ≡ (ltb S (edge_at T U q d).till && leb (edge_at T U q d).from E)
  unfolding meets_parts
  met_units q d h =
      ap (λ (t : Bool). t && (ltb a (q + d) && ltb q b)) (lt-ltb 0 d h)
      ∙ ap₂ ◌&&◌ (below T U hT hU S (q + d)) (at_least T U hT hU E (suc q))

  -- and the caption lies in it whole
  whole_units : (q d : ℕ) → (not (ltb a q) && not (ltb (q + d) b)) ≡ (leb (edge_at T U q d).low S && ltb E (edge_at T U q d).high)
  whole_units q d =
      ap₂ ◌&&◌ (sym (leb_not q a) ∙ at_least T U hT hU S q) (sym (leb_not b (q + d)) ∙ sym (leb-suc-suc b (q + d)) ∙ below T U hT hU E (suc (q + d)))

  -- a segment without length is never met
  empty_missed : (q d : ℕ) → d ≡ 0 → meets_parts q d a b ≡ false
  unfolding meets_parts
  empty_missed q d e = ap (λ (t : Bool). t && (ltb a (q + d) && ltb q b)) (le-ltb 0 d (omega arith))

  abbrev grade_found : Found → ℕ
  grade_found f = fate_grade (fate_by (decide_hit T U a b f))

  pos_of : (k : ℕ) → eqb k 0 ≡ false → 0 < k
  pos_of zero q = absurd (true≢false q)
  pos_of (suc k) q = omega arith

  module _ (i : ℕ) (x : Segment) (xs : List Segment) (ih : grade_found (find_from (suc i) xs a b) ≡ grade_through (edges_of T U xs) S E) where
    abbrev q : ℕ
    q = source_of x

    abbrev d : ℕ
    d = x.duration

    by_met : (t : Bool) → grade_found (cond t (hit i x xs) (find_from (suc i) xs a b))
        ≡ grade_by t (leb (edge_at T U q d).low S && ltb E (edge_at T U q d).high) (grade_through (edges_of T U xs) S E)
    by_met true =
        let r = retimed_at T U a b (lost_rule xs a b) (met_of i x) in
        grade_for r.start r.stop (ltb a q) (ltb (q + d) b) (grade_through (edges_of T U xs) S E)
        ∙ ap (λ (w : Bool). grade_by true w (grade_through (edges_of T U xs) S E)) (whole_units q d)
    by_met false = ih

    by_length : (z : Bool) → eqb x.duration 0 ≡ z
        → grade_found (cond (meets x a b) (hit i x xs) (find_from (suc i) xs a b))
        ≡ grade_through (cond z (edges_of T U xs) (edge_at T U q d ∷ edges_of T U xs)) S E
    unfolding grade_through
    by_length true e = ap (λ (t : Bool). grade_found (cond t (hit i x xs) (find_from (suc i) xs a b))) (empty_missed q d (eqb-true d 0 e)) ∙ ih
    by_length false e =
        by_met (meets x a b)
        ∙ ap (λ (t : Bool). grade_by t (leb (edge_at T U q d).low S && ltb E (edge_at T U q d).high) (grade_through (edges_of T U xs) S E)) (met_units q d (pos_of d e))

  grades : (i : ℕ) (m : List Segment) → grade_found (find_from i m a b) ≡ grade_through (edges_of T U m) S E
  unfolding find_from edges_of grade_through
  grades i [] = refl
  grades i (x ∷ xs) = by_length i x xs (grades (suc i) xs) (eqb x.duration 0) refl

-- the fate of a caption by the caption rules, as a number
pub fate_grades : (c : Config) (m : List Segment) → 0 < c.timescale → 0 < units_of c.kind → (S E : ℕ)
    → fate_grade (fate_of c m S E) ≡ grade_through (edges_of c.timescale (units_of c.kind) m) S E
unfolding fate_of decide_of decide_ticks
fate_grades c m hT hU S E = grades c.timescale (units_of c.kind) hT hU S E 0 m
