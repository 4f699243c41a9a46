-- What the reader of the list of segments answers.
use Rattle.std.specs.Prelude.{◌≡◌, Bool, true, false, ◌&&◌, List, ℕ, ◌*◌, ◌≤◌, eqb, length, MatchOption, Option}
use Rattle.spec_base.specs.base.Limits.{most_segments}
use Rattle.spec_base.specs.base.Put.{put}
use Rattle.spec_map.specs.segment.Segment.{flat_of}
use Rattle.spec_map_json.specs.map_json_write.Reads.{segments_from, list_said}

-- a list read: how many segments it has, and their numbers stand in the room where they are at most 1,024
abbrev pub ListRead : (said : Bool) → (es : List (List ℕ)) → Option ℕ → (room room' : List ℕ) → Type 0
ListRead said es r room room' =
    MatchOption r (said ≡ false) (λ n. (said ≡ true) × (n ≡ length es) × (n ≤ most_segments → room' ≡ put (flat_of (segments_from es)) room))

-- whether a value is read as a list where so many places are lent
unfoldable pub list_said_in : (lent : ℕ) → List ℕ → Bool
list_said_in n v = eqb n (6 * most_segments) && list_said v
