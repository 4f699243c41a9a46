-- The worked list of calls again, on a session that is kept as its bytes, and the same text in one call: what each hands to a caller from C.
use Rattle.std.specs.Prelude.{true, List, [], ◌∷◌, ℕ, length, get_or}
use Rattle.spec_base.specs.base.Put.{put}
use Rattle.spec_machine.specs.session_counts.Session.{Call}
use Rattle.spec_parking.specs.session_bytes.ByteCalls.{call_number, bytes_after, text_out, places_in, told_in}
use Rattle.spec_runs.specs.keptruns.Kept.{Left, KeptCall, fed, finished}
use Rattle.spec_runs.specs.keptruns.Claims.{first_bytes}
use Rattle.spec_runs.specs.atonceruns.Claims.{text_told, warnings_told}
use Rattle.example.specs.Calls.{Asked, feeding, finishing, asked_call}
use Rattle.example.specs.Worked.{Told, lent_map, four}

-- ---- calls over bytes: each leaves what its contract says; both told places hold 7 before every call
abbrev pub left_after : (bytes : List ℕ) → Call → (out places : List ℕ) → Left
left_after b x out places =
    record {
      number = call_number b x;
      bytes = bytes_after b x;
      out = put (text_out b x) out;
      places = put (places_in b x) places;
      written = told_in (call_number b x) (length (text_out b x)) 7;
      warned = told_in (call_number b x) (length (places_in b x)) 7;
    }

abbrev pub kept_by : (bytes : List ℕ) → Asked → KeptCall
kept_by b (feeding m piece out places) = fed m piece out places 7 7 (left_after b (asked_call (feeding m piece out places)) out places)
kept_by b (finishing m out places) = finished m out places 7 7 (left_after b (asked_call (finishing m out places)) out places)

abbrev pub keeps : (bytes : List ℕ) → List Asked → List KeptCall
keeps b [] = []
keeps b (a ∷ later) = kept_by b a ∷ keeps (bytes_after b (asked_call a)) later

-- the bytes that open leaves at the start of what is lent, and the four calls from them on
abbrev pub opened_bytes : (kind : ℕ) → (lent : List ℕ) → List ℕ
opened_bytes kind lent = first_bytes kind 30000 lent_map lent

abbrev pub stored_calls : (kind : ℕ) → (lent first rest out short places : List ℕ) → List KeptCall
stored_calls kind lent first rest out short places = keeps (opened_bytes kind lent) (four lent_map first rest out short places)

-- ---- a whole text in one call: what a caller has in hand
abbrev pub told_text : (number : ℕ) (out places told : List ℕ) → Told
told_text k out places told =
    record {
      numbers = k ∷ [];
      output = text_told out told;
      warnings = warnings_told places told;
      outcome = k;
      counts = record { shifted = get_or told 2 0; clipped = get_or told 3 0; dropped = get_or told 4 0; passed = get_or told 5 0 };
      taken = get_or told 6 0;
      ended = true;
    }

-- the same of one call in place of four
abbrev pub in_one : Told → Told
in_one t =
    record {
      numbers = t.outcome ∷ [];
      output = t.output;
      warnings = t.warnings;
      outcome = t.outcome;
      counts = t.counts;
      taken = t.taken;
      ended = t.ended;
    }
