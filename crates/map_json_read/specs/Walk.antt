-- The members of a map's text walked: the slots, and where the path's value and the list stand.
use Rattle.std.specs.Prelude.{◌≡◌, Bool, cond, List, ℕ, eqb, take, drop}
use Rattle.spec_json.specs.json.Value.{value_width}
use Rattle.spec_json.specs.json.Walk.{item_width, row_of}
use Rattle.spec_json.specs.json.Member.{member_of}
use Rattle.map_json_read.specs.declared.walk.Span.{Span}
use Rattle.map_json_read.specs.declared.walk.Walk.{Walk}
use Rattle.map_json_segments.specs.Slots.{gathered}
use Rattle.map_json_read.specs.Slots.{no_heads, heads_by, Walked, none_walked, walked_after}
use Rattle.map_json_segments.specs.Fields.{members_in}

abbrev pub no_span : Span
no_span = record { at = 0; len = 0 }

abbrev pub no_walk : Walk
no_walk = record { heads = no_heads; path = no_span; list = no_span; whole = 0 }

-- where a value stands: the first member's, and nowhere behind a second
abbrev pub kept_span : (seen : Bool) → Span → Span
kept_span t s = cond t no_span s

-- behind a member whose key names the field n
unfoldable pub walk_by : (n : ℕ) → Walk → (v : List ℕ) → Span → (whole : ℕ) → Walk
walk_by n x v s k =
    record {
      heads = heads_by n x.heads v;
      path = cond (eqb n 4) (kept_span x.heads.path s) x.path;
      list = cond (eqb n 6) (kept_span x.heads.list s) x.list;
      whole = k;
    }

-- what it says of the row s
abbrev pub span_in : List ℕ → Span → List ℕ
span_in s p = take p.len (drop p.at s)

abbrev pub walked_of : List ℕ → Walk → Walked
walked_of s x = record { heads = x.heads; path = span_in s x.path; list = span_in s x.list }

-- behind the member of the row s at a place, and behind all its members
pub record HeadIn (x : Walk) (s : List ℕ) (at : ℕ) (r : Walk) : Type 0 where
  pub whole_is : r.whole ≡ item_width 0x7B (value_width 10) (drop at s)
  pub some : r.whole ≡ 0 → ⊥
  pub walked_is : walked_of s r ≡ walked_after (walked_of s x) (member_of 10 (take r.whole (drop at s)))

pub record WalkIn (s : List ℕ) (r : Walk) : Type 0 where
  pub whole_is : r.whole ≡ row_of 10 0x7B s
  pub some : r.whole ≡ 0 → ⊥
  pub walked_is : walked_of s r ≡ gathered walked_after none_walked (members_in 10 s)
