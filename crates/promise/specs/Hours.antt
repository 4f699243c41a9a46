-- Every time that the plain reader reads is below 10,000 hours: at most 9,999 hours, and minutes, seconds and parts of a second beside them.
use Rattle.std.specs.Prelude.{◌≡◌, Bool, false, List, [], ◌∷◌, ℕ, ◌*◌, ◌<◌}
use Rattle.spec_time.specs.caption_time.Kind.{kind_bad, units_of}
use Rattle.spec_caption.specs.caption_fate.Says.{Part, stays, passes, cue}
use Rattle.promise.specs.Plain.{plain_read}

abbrev pub InHours : (kind units : ℕ) → Type 0
InHours kind n = n < 36000000 * units_of kind

abbrev pub PartInHours : (kind : ℕ) → Part → Type 0
PartInHours kind (stays l) = Unit {0}
PartInHours kind (passes r n l) = Unit {0}
PartInHours kind (cue q) = InHours kind q.start × InHours kind q.stop

abbrev pub AllInHours : (kind : ℕ) → List Part → Type 0
AllInHours kind [] = Unit {0}
AllInHours kind (p ∷ ps) = PartInHours kind p × AllInHours kind ps

abbrev pub TimesInHours : Type 0
TimesInHours = (kind : ℕ) (finished : Bool) (text : List ℕ) → kind_bad kind ≡ false → AllInHours kind (plain_read kind finished text).parts
