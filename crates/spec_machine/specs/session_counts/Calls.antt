-- A list of calls, answered by sessions and by the plain reader.
use Rattle.std.specs.Prelude.{◌≡◌, ◌⊎◌, Bool, true, false, ◌||◌, not, ℕ, zero, suc, ◌+◌, leb, eqb, length}
use mathlib.Core.List.{List, [], ◌∷◌, ◌++◌, foldl}
use Rattle.spec_base.specs.base.Limits.{most_piece, least_output, least_places, most_taken}
use Rattle.spec_base.specs.base.Refusal.{◌or_else◌, fault_unless}
use Rattle.spec_map.specs.segment.Segment.{map_bad}
use Rattle.spec_caption.specs.declared.caption_fate.Config.{Config}
use Rattle.spec_caption.specs.caption_fate.Emit.{Emit, Warning, output_of, warnings_of}
use Rattle.spec_machine.specs.session_counts.Counts.{counts_of}
use Rattle.spec_machine.specs.session_counts.Reader.{Reading}
use Rattle.spec_machine.specs.session_counts.Session.{Session, Kit, Call, feed, finish, lent_of, piece_of, answer, emitted}

-- ---- by sessions, each call given the one that the last call returned
-- the numbers in order, the last session, and what the calls wrote, joined in their order
pub record Played (κ : Type 0) : Type 0 where
  pub numbers : List ℕ
  pub session : Session κ
  pub output : List ℕ
  pub warnings : List Warning

module _ {σ κ : Type 0} (K : Kit σ κ) where
  abbrev pub play : Session κ → List Call → Played κ
  play s [] = record { numbers = []; session = s; output = []; warnings = [] }
  play s (c ∷ cs) =
      record {
        numbers = (answer K s c).number ∷ (play (answer K s c).session cs).numbers;
        session = (play (answer K s c).session cs).session;
        output = output_of (answer K s c).emits ++ (play (answer K s c).session cs).output;
        warnings = warnings_of (answer K s c).emits ++ (play (answer K s c).session cs).warnings;
      }

-- each call is lent the demand's map, or one that 15 refuses
abbrev pub ProperCall : (map : List ℕ) → Call → Type 0
ProperCall m c = ((lent_of c).map ≡ m) ⊎ (map_bad (lent_of c).map ≡ true)

abbrev pub Proper : (map : List ℕ) → List Call → Type 0
Proper m [] = Unit {0}
Proper m (c ∷ cs) = ProperCall m c × Proper m cs

-- ---- by the plain reader
-- the whole text, whether a finish has come, and whether the reader has ended
pub record Reader : Type 0 where
  pub text : List ℕ
  pub finished : Bool
  pub ended : Bool

abbrev pub new_reader : Reader
new_reader = record { text = []; finished = false; ended = false }

pub record ReaderAnswer : Type 0 where
  pub number : ℕ
  pub reader : Reader

pub record Heard : Type 0 where
  pub numbers : List ℕ
  pub reader : Reader

-- ended, it answers 18; else 15 for the map, and 16 for a piece, an output or warning places of a wrong length or for too long a text
unfoldable pub reader_refusal : Reader → Call → ℕ
reader_refusal r c =
    fault_unless (not r.ended) 18 or_else
    fault_unless (not (map_bad (lent_of c).map)) 15 or_else
    fault_unless (leb (length (piece_of c)) most_piece) 16 or_else
    fault_unless (leb least_output (lent_of c).out_length) 16 or_else
    fault_unless (leb least_places (lent_of c).place_count) 16 or_else
    fault_unless (leb (length r.text + length (piece_of c)) most_taken) 16

-- how a text is read from the start, finished or not
module _ (read : (finished : Bool) → (text : List ℕ) → Reading) where
  -- the text so far, finished or not: its first fault is the answer, else 0; a fault or a finish ends the reader
  abbrev pub reader_to : (finished : Bool) → (text : List ℕ) → ReaderAnswer
  reader_to f t = record { number = (read f t).fault; reader = record { text = t; finished = f; ended = f || not (eqb (read f t).fault 0) } }

  -- a feed adds its piece to the text
  abbrev pub reader_accepts : Reader → Call → ReaderAnswer
  reader_accepts r (feed l piece) = reader_to false (r.text ++ piece)
  reader_accepts r (finish l) = reader_to true r.text

  -- refused, it stays as it was
  abbrev pub reader_by : (refusal : ℕ) → Reader → Call → ReaderAnswer
  reader_by zero r c = reader_accepts r c
  reader_by (suc k) r c = record { number = suc k; reader = r }

  abbrev pub reader_answer : Reader → Call → ReaderAnswer
  reader_answer r c = reader_by (reader_refusal r c) r c

  -- after a list of calls, and its numbers in order
  abbrev pub reader_after : Reader → List Call → Reader
  reader_after r cs = foldl (λ q c. (reader_answer q c).reader) r cs

  abbrev pub numbers_heard : Reader → List Call → List ℕ
  numbers_heard r [] = []
  numbers_heard r (c ∷ cs) = (reader_answer r c).number ∷ numbers_heard (reader_answer r c).reader cs

  abbrev pub hear : Reader → List Call → Heard
  hear r cs = record { numbers = numbers_heard r cs; reader = reader_after r cs }

  -- what it has read of its text, and that put through the map
  abbrev pub reading_of : Reader → Reading
  reading_of r = read r.finished r.text

  abbrev pub emits_in : Config → (map : List ℕ) → Reader → List Emit
  emits_in c m r = emitted c m (reading_of r).parts

  -- the numbers of all calls are the reader's, and after the list so is everything else
  pub record SameAsReader (c : Config) (m : List ℕ) {κ : Type 0} (p : Played κ) (h : Heard) : Type 0 where
    pub numbers : p.numbers ≡ h.numbers
    pub output : p.output ≡ output_of (emits_in c m h.reader)
    pub warnings : p.warnings ≡ warnings_of (emits_in c m h.reader)
    pub outcome : p.session.outcome ≡ (reading_of h.reader).fault
    pub counts : p.session.counts ≡ counts_of (emits_in c m h.reader)
    pub taken : p.session.taken ≡ length h.reader.text
    pub ended : p.session.ended ≡ h.reader.ended
