-- The number that `retime` prints after `refused`, or 0 where it prints the text.
use Rattle.std.specs.Prelude.{◌≡◌, cond, List, [], ◌∷◌, ℕ, ◌≤◌, ltb, length}
use Rattle.spec_base.specs.base.Limits.{most_piece, least_output, least_places, most_work}
use Rattle.spec_base.specs.base.Refusal.{◌or_else◌}
use Rattle.spec_map.specs.segment.Segment.{flat_of}
use Rattle.spec_map.specs.segmap.Map.{Map, map_of}
use Rattle.spec_session.specs.declared.session_state.Session.{Session}
use Rattle.spec_session.specs.session_state.View.{stored}
use Rattle.spec_machine.specs.session_counts.Session.{Call}
use Rattle.spec_session.specs.session.SessionCalls.{feed_call, finish_call, answer_of, next_of, open_of}

-- the calls, lent the least output and places
abbrev pub feeding : (map piece : List ℕ) → Call
feeding m p = feed_call m p least_output least_places

abbrev pub finishing : (map : List ℕ) → Call
finishing m = finish_call m least_output least_places

-- the pieces of a text fed one after the other, then a finish: the number of the first call that is not answered by 0, or 0
unfoldable pub pass_number : Session → (map : List ℕ) → (pieces : List (List ℕ)) → ℕ
pass_number s m [] = (answer_of s (finishing m)).number
pass_number s m (p ∷ ps) = (answer_of s (feeding m p)).number or_else pass_number (next_of s (feeding m p)) m ps

-- the same from an open on
unfoldable pub run_number : (kind timescale : ℕ) → (map : List ℕ) → (pieces : List (List ℕ)) → ℕ
run_number k t m ps = (open_of k t m).number or_else pass_number (stored (open_of k t m).session) m ps

-- the same through a map
unfoldable pub through_map : Map → (kind : ℕ) → (pieces : List (List ℕ)) → ℕ
through_map m k ps = m.number or_else run_number k m.timescale (flat_of m.segments) ps

-- from the bytes of a sheet and a list, outward: a sheet above 65,536 bytes is 11
unfoldable pub retime_number : (sheet list : List ℕ) (kind : ℕ) (pieces : List (List ℕ)) → ℕ
retime_number s l k ps = cond (ltb 65536 (length s)) 11 (through_map (map_of s l 0 6144 most_work) k ps)

-- pieces of at most 1,024 bytes
abbrev pub Sized : List (List ℕ) → Type 0
Sized [] = Unit {0}
Sized (p ∷ ps) = (length p ≤ most_piece) × Sized ps

-- what a file holds no contract can say: there is a text whose pieces give the number
pub record Passes (s : Session) (m : List ℕ) (r : ℕ) : Type 0 where
  pub pieces : List (List ℕ)
  pub sized : Sized pieces
  pub number : r ≡ pass_number s m pieces

pub record Runs (k t : ℕ) (m : List ℕ) (r : ℕ) : Type 0 where
  pub pieces : List (List ℕ)
  pub sized : Sized pieces
  pub number : r ≡ run_number k t m pieces

-- the same of one of the kinds: `subs.ass`, `subs.srt` or `subs.vtt`
pub record Chooses (t : ℕ) (m : List ℕ) (r : ℕ) : Type 0 where
  pub kind : ℕ
  pub known : kind ≤ 2
  pub runs : Runs kind t m r

pub record Retimes (sheet list : List ℕ) (r : ℕ) : Type 0 where
  pub kind : ℕ
  pub known : kind ≤ 2
  pub pieces : List (List ℕ)
  pub sized : Sized pieces
  pub number : r ≡ retime_number sheet list kind pieces
