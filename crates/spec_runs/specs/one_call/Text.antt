-- A whole text at once: the number, and what stands in the lent output, places and told numbers afterwards. All of it is the plain reader's
-- (promise/specs/Plain): the text is read as after a finish, and what it says is put through the map.
use Rattle.std.specs.Prelude.{◌≡◌, true, not, List, [], ◌∷◌, ℕ, ◌+◌, ◌*◌, ◌/◌, leb, length}
use Rattle.spec_base.specs.base.Limits.{most_taken, least_output, least_places}
use Rattle.spec_base.specs.base.Refusal.{◌or_else◌, fault_unless, unless_refused}
use Rattle.spec_base.specs.base.Put.{put}
use Rattle.spec_time.specs.caption_time.Kind.{kind_bad}
use Rattle.spec_time.specs.caption_time.Convert.{timescale_bad}
use Rattle.spec_map.specs.segment.Segment.{map_bad}
use Rattle.spec_caption.specs.caption_fate.Emit.{Emit, output_of, warnings_of, places_of}
use Rattle.spec_machine.specs.session_counts.Counts.{how_many, was_shifted, was_clipped, was_dropped, was_passed}
use Rattle.spec_machine.specs.session_counts.Session.{emitted}
use Rattle.promise.specs.Plain.{plain_read}
use Rattle.promise.specs.Promise.{config_of}

-- ---- what is to be lent for a text of n bytes: three bytes of output for a byte and 32,768 more; a place for three bytes and 4,096 more; seven told numbers
abbrev pub output_for : (n : ℕ) → ℕ
output_for n = 3 * n + least_output

abbrev pub places_for : (n : ℕ) → ℕ
places_for n = n / 3 + least_places

abbrev pub told_numbers : ℕ
told_numbers = 7

-- 16, by the lengths alone: the text, then what is lent
unfoldable pub lengths_fault : (text out places told : ℕ) → ℕ
lengths_fault n o w t =
    fault_unless (leb n most_taken) 16 or_else
    fault_unless (leb (output_for n) o) 16 or_else
    fault_unless (leb (places_for n) w) 16 or_else
    fault_unless (leb told_numbers t) 16

-- 15 for T, then for the map; 16 for the kind, then by the lengths
unfoldable pub refused_with : (kind T : ℕ) (map : List ℕ) (text out places told : ℕ) → ℕ
refused_with kind T m n o w t =
    fault_unless (not (timescale_bad T)) 15 or_else
    fault_unless (not (map_bad m)) 15 or_else
    fault_unless (not (kind_bad kind)) 16 or_else
    lengths_fault n o w t

-- what the text says, put through the map
unfoldable pub emits_for : (kind T : ℕ) (map text : List ℕ) → List Emit
emits_for kind T m text = emitted (config_of kind T) m (plain_read kind true text).parts

-- ---- the number: a refusal, else the reader's first fault
unfoldable pub text_number : (kind T : ℕ) (map text : List ℕ) (out places told : ℕ) → ℕ
text_number kind T m text o w t = refused_with kind T m (length text) o w t or_else (plain_read kind true text).fault

-- ---- what is written: refused, nothing (`unless_refused`)
-- both lengths, the captions of each fate, and the bytes taken
unfoldable pub told_of : List Emit → (taken : ℕ) → List ℕ
told_of es n =
    length (output_of es) ∷ length (places_of (warnings_of es)) ∷ how_many was_shifted es ∷ how_many was_clipped es ∷ how_many was_dropped es ∷ how_many was_passed es ∷ n ∷ []

pub record Retimed (kind T : ℕ) (map text out out' places places' told told' : List ℕ) (number : ℕ) : Type 0 where
  pub answer : number ≡ text_number kind T map text (length out) (length places) (length told)
  pub written : out' ≡ put (unless_refused (refused_with kind T map (length text) (length out) (length places) (length told)) (output_of (emits_for kind T map text))) out
  pub warned : places' ≡ put (unless_refused (refused_with kind T map (length text) (length out) (length places) (length told)) (places_of (warnings_of (emits_for kind T map text)))) places
  pub tells : told' ≡ put (unless_refused (refused_with kind T map (length text) (length out) (length places) (length told)) (told_of (emits_for kind T map text) (length text))) told
