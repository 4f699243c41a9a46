-- The numbers of a text's fields as the reader gathers them.
use Rattle.std.specs.Prelude.{◌≡◌, ℕ, Bool, true, false, cond, MatchOption, Option, List, [], ◌∷◌, take}
use Rattle.spec_map.specs.segment.Segment.{numbers_of}
use Rattle.spec_text.specs.text.Number.{value_from}
use Rattle.spec_json.specs.json.Num.{is_plain}
use Rattle.spec_json.specs.json.Value.{value_width}
use Rattle.spec_json.specs.json.Walk.{item_width, items_of, row_of}
use Rattle.spec_json.specs.json.Member.{Member, bare, member_of, member_all, field_of}
use Rattle.spec_map_json.specs.map_json_write.Reads.{segment_said, segment_from}
use Rattle.map_json_segments.specs.declared.number.Six.{Six}
use Rattle.map_json_segments.specs.declared.number.Slots.{Slots}
use Rattle.map_json_segments.specs.declared.number.Found.{Found}
use Rattle.map_json_segments.specs.declared.number.Element.{Element}
use Rattle.map_json_segments.specs.Slots.{no_slots, slots_after, slots_from}

pub record Digits : Type 0 where
  pub good : Bool
  pub value : ℕ

-- what a field's value says as digits, and 0 where it is no such number
abbrev pub field_is : (most : ℕ) → List ℕ → Digits
field_is most v = record { good = is_plain most v; value = cond (is_plain most v) (value_from 0 v) 0 }

abbrev pub field_in : (name : List ℕ) → (most : ℕ) → List Member → Digits
field_in n most ms = field_is most (field_of n ms)

-- the six numbers of a segment
abbrev pub six_numbers : Six → List ℕ
six_numbers x = x.first ∷ x.last ∷ x.source ∷ x.frames ∷ x.output ∷ x.duration ∷ []

-- the slots behind the first member of the row t, and behind all members of the row s
abbrev pub members_in : (d : ℕ) → List ℕ → List Member
members_in d t = member_all d (items_of d 0x7B t)

pub record MemberIn (x : Slots) (t : List ℕ) (f : Found) : Type 0 where
  pub width_is : f.width ≡ item_width 0x7B (value_width 8) t
  pub some : f.width ≡ 0 → ⊥
  pub slots_are : f.slots ≡ slots_after x (member_of 8 (take f.width t))

pub record SlotsIn (s : List ℕ) (f : Found) : Type 0 where
  pub width_is : f.width ≡ row_of 8 0x7B s
  pub some : f.width ≡ 0 → ⊥
  pub slots_are : f.slots ≡ slots_from no_slots (members_in 8 s)

-- the first item of the row t: its width, and its six numbers where it is a segment
abbrev pub SixOf : (v : List ℕ) → Option Six → Type 0
SixOf v r = MatchOption r (segment_said v ≡ false) (λ x. (segment_said v ≡ true) × (six_numbers x ≡ numbers_of (segment_from v)))

pub record ItemIn (t : List ℕ) (x : Element) : Type 0 where
  pub width_is : x.width ≡ item_width 0x5B (value_width 9) t
  pub some : x.width ≡ 0 → ⊥
  pub six_are : SixOf (bare 9 (take x.width t)) x.six
