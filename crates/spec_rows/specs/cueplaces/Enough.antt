-- SIX PLACES FOR EACH EIGHT BYTES OF A TEXT ARE ENOUGH for its rows: with so many, a text of a known kind is not refused.
use Rattle.std.specs.Prelude.{◌≡◌, false, List, ℕ, ◌*◌, ◌/◌, ◌≤◌, length}
use Rattle.spec_base.specs.base.Limits.{most_taken}
use Rattle.spec_time.specs.caption_time.Kind.{kind_bad}
use Rattle.spec_rows.specs.caption_rows.Cues.{cues_refused}

abbrev pub PlacesEnough : Type 0
PlacesEnough = (kind : ℕ) (text : List ℕ) (lent told : ℕ) → kind_bad kind ≡ false → length text ≤ most_taken → 2 ≤ told → 6 * (length text / 8) ≤ lent → cues_refused kind text lent told ≡ 0
