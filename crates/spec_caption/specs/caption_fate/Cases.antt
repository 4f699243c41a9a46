-- Document 01's number and values for each case of the enums that are answered here: a hit, a decision, and how a caption is counted.
use Rattle.std.specs.Prelude.{Bool, true, false, List, [], ◌∷◌, ℕ, Option, Some, None}
use Rattle.spec_caption.specs.declared.caption_fate.Met.{Met}
use Rattle.spec_caption.specs.declared.caption_fate.Decision.{Decision}
use Rattle.spec_caption.specs.declared.caption_fate.Decision.TheVariants.{Strange, Dropped as Gone, Kept}
use Rattle.spec_caption.specs.declared.caption_fate.Counted.{Counted}
use Rattle.spec_caption.specs.declared.caption_fate.Counted.TheVariants.{Nothing, Passed, Dropped, Shifted, Clipped}

pub record Case : Type 0 where
  pub number : ℕ
  pub values : List ℕ

abbrev pub told : ℕ → List ℕ → Case
told n l = record { number = n; values = l }

-- the segment that is met: its place in the list from 0, source start, output start and duration; none is met: no values
abbrev pub hit_case : Option Met → Case
hit_case None = told 0 []
hit_case (Some x) = told 0 (x.place ∷ x.source ∷ x.output ∷ x.duration ∷ [])

-- a map limit is broken: 15, bad map; dropped: no values; kept: the units written, start and end
abbrev pub decision_case : Decision → Case
decision_case Strange = told 15 []
decision_case Gone = told 0 []
decision_case (Kept r) = told 0 (r.start ∷ r.stop ∷ [])

-- which of the four counts it adds one to; its number is that of the line or block which tells it
pub record Adds : Type 0 where
  pub shifted : Bool
  pub clipped : Bool
  pub dropped : Bool
  pub passed : Bool

abbrev pub counted_adds : Counted → Adds
counted_adds Nothing = record { shifted = false; clipped = false; dropped = false; passed = false }
counted_adds Passed = record { shifted = false; clipped = false; dropped = false; passed = true }
counted_adds Dropped = record { shifted = false; clipped = false; dropped = true; passed = false }
counted_adds Shifted = record { shifted = true; clipped = false; dropped = false; passed = false }
counted_adds Clipped = record { shifted = false; clipped = true; dropped = false; passed = false }
