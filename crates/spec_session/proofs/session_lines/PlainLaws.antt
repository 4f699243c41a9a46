-- A line and the end of a block through a map without bounds, or with the bounds of its groups: the answers are those of the map's segments.
use mathlib.Core.Path.{◌≡◌, refl, ap, subst, ◌∙◌}
use mathlib.Core.Bool.{Bool, false}
use mathlib.Core.List.{List, []}
use Prim.Native.Nat.{ℕ}
use lib.ListN.{length, take}
use Rattle.spec_text.specs.text.Line.{lines_of}
use Rattle.spec_map.specs.declared.segment.Segment.{Segment}
use Rattle.spec_map.specs.segment.Segment.{segments_of, map_bad}
use Rattle.spec_map.specs.segment.Groups.{groups_of}
use Rattle.spec_caption.specs.declared.caption_fate.Config.{Config}
use Rattle.spec_caption.specs.caption_fate.Grouped.{bounded_by, segments_by}
use Rattle.spec_caption.proofs.caption_fate.GroupedLaws.{groups_right}
use Rattle.spec_ass.specs.declared.ass_columns.Columns.{Columns}
use Rattle.spec_cue.specs.block_timing.Style.{style_of}
use Rattle.spec_cue.specs.block_timing.Header.{header_due}
use Rattle.spec_machine.specs.declared.session_counts.Counts.{Counts}
use Rattle.spec_machine.specs.kinds.Takes.{blank_state, closes}
use Rattle.spec_session.specs.declared.session_lines.Taken.{Taken}
use Rattle.spec_session.specs.declared.session_lines.Ended.{Ended}
use Rattle.spec_session.specs.session_lines.LinesThrough.{answer_in, lent_bad, end_in, take_in, EndTells, LineTells}
use Rattle.spec_session.proofs.session_lines.LentLaws.{end_lent}

no_bounds : (m g : List ℕ) → g ≡ take 0 m → segments_by g m ≡ segments_of m
unfolding bounded_by
no_bounds m g e = rw e refl

pub line_plain : (c : Config) (m g : List ℕ) (n : ℕ) (t : Counts) (k : Columns) (held : List ℕ) (s : ℕ) (r : Taken) (o o' w w' : List ℕ) → g ≡ take 0 m
    → LineTells (take_in c (segments_by g m) n t k held s (length o) (length w)) t r o o' w w' → LineTells (take_in c (segments_of m) n t k held s (length o) (length w)) t r o o' w w'
line_plain c m g n t k held s r o o' w w' e q = subst (λ (x : List Segment). LineTells (take_in c x n t k held s (length o) (length w)) t r o o' w w') (no_bounds m g e) q

pub end_plain : (c : Config) (m g : List ℕ) (n : ℕ) (t : Counts) (b : List ℕ) (r : Ended) (o o' w w' : List ℕ) (v d : Bool) → v ≡ lent_bad t (length b) (length o) (length w) → v ≡ false
    → d ≡ header_due c.kind n (lines_of b) → d ≡ false → g ≡ take 0 m
    → EndTells (answer_in c (segments_by g m) (closes (style_of c.kind) blank_state n (lines_of b) [])) t r o o' w w' → EndTells (end_in c (segments_of m) n t b (length o) (length w)) t r o o' w w'
end_plain c m g n t b r o o' w w' v d ev fv ed fd e q =
    end_lent c (segments_of m) n t b r o o' w w' v ev fv d ed fd
    (subst (λ (x : List Segment). EndTells (answer_in c x (closes (style_of c.kind) blank_state n (lines_of b) [])) t r o o' w w') (no_bounds m g e) q)

-- the bounds of a map within the limits change nothing
pub line_grouped : (c : Config) (m g : List ℕ) (n : ℕ) (t : Counts) (k : Columns) (held : List ℕ) (s : ℕ) (r : Taken) (o o' w w' : List ℕ) → map_bad m ≡ false → g ≡ groups_of m
    → LineTells (take_in c (segments_by g m) n t k held s (length o) (length w)) t r o o' w w' → LineTells (take_in c (segments_of m) n t k held s (length o) (length w)) t r o o' w w'
line_grouped c m g n t k held s r o o' w w' f e q =
    subst (λ (x : List Segment). LineTells (take_in c x n t k held s (length o) (length w)) t r o o' w w') (ap (λ (x : List ℕ). segments_by x m) e ∙ groups_right m f) q
