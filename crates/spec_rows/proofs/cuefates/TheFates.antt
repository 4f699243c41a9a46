-- The rows' fates, counted: `fates_told`. Asked row by row: `asked_fate`.
use mathlib.Core.Path.{◌≡◌, refl, sym, ap, ◌∙◌}
use mathlib.Core.Bool.{Bool, true, false}
use mathlib.Core.List.{List, [], ◌∷◌}
use Prim.Native.Nat.{ℕ, ◌≤◌}
use lib.ListN.{length}
use Rattle.spec_time.specs.caption_time.Kind.{kind_bad}
use Rattle.spec_time.specs.caption_time.Convert.{timescale_bad}
use Rattle.spec_map.specs.declared.segment.Segment.{Segment}
use Rattle.spec_map.specs.segment.Segment.{segments_of, map_bad}
use Rattle.spec_caption.specs.declared.caption_fate.Config.{Config}
use Rattle.spec_caption.specs.caption_fate.Fates.{passed, fate_of}
use Rattle.spec_caption.specs.caption_fate.Says.{unplaced, short, Part, stays, passes, cue}
use Rattle.spec_caption.specs.caption_fate.Emit.{Caption, none, decided, emit_by, emits_of}
use Rattle.spec_machine.specs.session_counts.Counts.{how_many, was_shifted, was_clipped, was_dropped, was_passed, count_if}
use Rattle.promise.specs.Plain.{plain_read}
use Rattle.promise.specs.Hours.{AllInHours}
use Rattle.promise.specs.Promise.{config_of}
use Rattle.promise.proofs.HourLaws.{in_hours}
use Rattle.spec_ask.proofs.ask_reason.Truth.{fate_is, taken_number, told_number}
use Rattle.spec_runs.proofs.sequence.TheSequence.{cue_fate}
use Rattle.spec_runs.specs.one_call.Text.{emits_for}
use Rattle.spec_rows.specs.caption_rows.Cues.{rows_of}
use Rattle.spec_rows.specs.cuefates.Fates.{rows_with, FatesTold, RowsAsked, AskedFate}

parts_with : (t : Caption → Bool) → t none ≡ false → (c : Config) (m : List Segment) (kind : ℕ) (text : List ℕ) (ps : List Part)
    → rows_with t c m (rows_of kind text ps) ≡ how_many t (emits_of c m ps)
unfolding how_many emits_of emit_by
parts_with t h c m kind text [] = refl
parts_with t h c m kind text (stays l ∷ ps) = parts_with t h c m kind text ps ∙ ap (λ (b : Bool). count_if b (how_many t (emits_of c m ps))) (sym h)
parts_with t h c m kind text (passes unplaced n l ∷ ps) = ap (count_if (t (decided passed))) (parts_with t h c m kind text ps)
parts_with t h c m kind text (passes short n l ∷ ps) = ap (count_if (t (decided passed))) (parts_with t h c m kind text ps)
parts_with t h c m kind text (cue q ∷ ps) =
    ap (count_if (t (decided (fate_of c m q.start q.stop)))) (parts_with t h c m kind text ps)
    ∙ ap (λ (x : Caption). count_if (t x) (how_many t (emits_of c m ps))) (sym (cue_fate c m q))

module _ (kind T : ℕ) (map text : List ℕ) where
  told_with : (t : Caption → Bool) → t none ≡ false
      → rows_with t (config_of kind T) (segments_of map) (rows_of kind text (plain_read kind true text).parts) ≡ how_many t (emits_for kind T map text)
  unfolding emits_for
  told_with t h = parts_with t h (config_of kind T) (segments_of map) kind text (plain_read kind true text).parts

  pub fates_told : FatesTold kind T map text
  fates_told = record { shifted = told_with was_shifted refl; clipped = told_with was_clipped refl; dropped = told_with was_dropped refl; passed = told_with was_passed refl }

-- ---- asked row by row
module _ (map : List ℕ) (T kind places : ℕ) (gT : timescale_bad T ≡ false) (gm : map_bad map ≡ false) (gk : kind_bad kind ≡ false) (room : length (segments_of map) ≤ places) where
  parts_asked : (text : List ℕ) (ps : List Part) → AllInHours kind ps → RowsAsked kind T map places (rows_of kind text ps)
  parts_asked text [] a = tt
  parts_asked text (stays l ∷ ps) a = parts_asked text ps a.1
  parts_asked text (passes unplaced n l ∷ ps) a = (tt, parts_asked text ps a.1)
  parts_asked text (passes short n l ∷ ps) a = (tt, parts_asked text ps a.1)
  parts_asked text (cue q ∷ ps) a =
      let n = taken_number map T kind q.start q.stop places gT gm gk a.0.0 a.0.1 room in
      ((told_number map T kind q.start q.stop places n, fate_is map T kind q.start q.stop places n), parts_asked text ps a.1)

pub asked_fate : AskedFate
asked_fate map text T kind places gT gm gk room = parts_asked map T kind places gT gm gk room text (plain_read kind true text).parts (in_hours kind true text gk)
