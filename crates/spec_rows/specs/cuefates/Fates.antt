-- THE ROWS OF A TEXT, PUT THROUGH A MAP, ARE THE RETIMER'S CAPTIONS: how many of them have which fate is what the retimer counts for the same text.
use Rattle.std.specs.Prelude.{◌≡◌, Bool, false, List, [], ◌∷◌, ℕ, zero, suc, ◌≤◌, length}
use Rattle.spec_time.specs.caption_time.Kind.{kind_bad}
use Rattle.spec_time.specs.caption_time.Convert.{timescale_bad}
use Rattle.spec_map.specs.declared.segment.Segment.{Segment}
use Rattle.spec_map.specs.segment.Segment.{segments_of, map_bad}
use Rattle.spec_caption.specs.declared.caption_fate.Config.{Config}
use Rattle.spec_caption.specs.caption_fate.Fates.{Fate, passed, fate_of}
use Rattle.spec_caption.specs.caption_fate.Emit.{Caption, decided}
use Rattle.spec_caption.specs.caption_fate.Told.{counted_of}
use Rattle.spec_ask.specs.ask_reason.Reason.{why_of}
use Rattle.spec_machine.specs.session_counts.Counts.{how_many, was_shifted, was_clipped, was_dropped, was_passed, count_if}
use Rattle.promise.specs.Promise.{config_of}
use Rattle.spec_runs.specs.one_call.Text.{emits_for}
use Rattle.spec_rows.specs.cueplaces.Rows.{rows_in}

-- the fate of a row: one that passes with a warning passes, any other has the fate of its times
abbrev pub row_fate : Config → List Segment → (warned S E : ℕ) → Fate
row_fate c m zero S E = fate_of c m S E
row_fate c m (suc w) S E = passed

-- how many rows, six numbers each, have a fate of which a test holds
abbrev pub rows_with : (Caption → Bool) → Config → List Segment → List ℕ → ℕ
rows_with t c m (n ∷ w ∷ S ∷ E ∷ i ∷ k ∷ l) = count_if (t (decided (row_fate c m w S E))) (rows_with t c m l)
rows_with t c m (n ∷ w ∷ S ∷ E ∷ i ∷ []) = 0
rows_with t c m (n ∷ w ∷ S ∷ E ∷ []) = 0
rows_with t c m (n ∷ w ∷ S ∷ []) = 0
rows_with t c m (n ∷ w ∷ []) = 0
rows_with t c m (n ∷ []) = 0
rows_with t c m [] = 0

pub record FatesTold (kind T : ℕ) (map text : List ℕ) : Type 0 where
  pub shifted : rows_with was_shifted (config_of kind T) (segments_of map) (rows_in kind text) ≡ how_many was_shifted (emits_for kind T map text)
  pub clipped : rows_with was_clipped (config_of kind T) (segments_of map) (rows_in kind text) ≡ how_many was_clipped (emits_for kind T map text)
  pub dropped : rows_with was_dropped (config_of kind T) (segments_of map) (rows_in kind text) ≡ how_many was_dropped (emits_for kind T map text)
  pub passed : rows_with was_passed (config_of kind T) (segments_of map) (rows_in kind text) ≡ how_many was_passed (emits_for kind T map text)

-- ---- and asked row by row: where T, map and kind are good and there are places for the causes, `retimer_why` answers the times of every row that does not
-- pass with 0, and the fate that it tells is the row's
abbrev pub RowAsked : (kind T : ℕ) → (map : List ℕ) → (places warned S E : ℕ) → Type 0
RowAsked kind T map places zero S E = ((why_of map T kind S E places).number ≡ 0) × ((why_of map T kind S E places).fate ≡ counted_of (decided (row_fate (config_of kind T) (segments_of map) 0 S E)))
RowAsked kind T map places (suc w) S E = Unit {0}

abbrev pub RowsAsked : (kind T : ℕ) → (map : List ℕ) → (places : ℕ) → List ℕ → Type 0
RowsAsked kind T map places (n ∷ w ∷ S ∷ E ∷ i ∷ k ∷ l) = RowAsked kind T map places w S E × RowsAsked kind T map places l
RowsAsked kind T map places (n ∷ w ∷ S ∷ E ∷ i ∷ []) = Unit {0}
RowsAsked kind T map places (n ∷ w ∷ S ∷ E ∷ []) = Unit {0}
RowsAsked kind T map places (n ∷ w ∷ S ∷ []) = Unit {0}
RowsAsked kind T map places (n ∷ w ∷ []) = Unit {0}
RowsAsked kind T map places (n ∷ []) = Unit {0}
RowsAsked kind T map places [] = Unit {0}

abbrev pub AskedFate : Type 0
AskedFate =
    (map text : List ℕ) (T kind places : ℕ) → timescale_bad T ≡ false → map_bad map ≡ false → kind_bad kind ≡ false → length (segments_of map) ≤ places
    → RowsAsked kind T map places (rows_in kind text)
