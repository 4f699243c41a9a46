-- What an array holds and what an object says, where they are values of depth `suc d`.
use Rattle.std.specs.Prelude.{ℕ, cond, List, [], ◌∷◌, take, drop}
use Rattle.spec_text.specs.pattern.Find.{equals}
use Rattle.spec_json.specs.json.Space.{spaces, padded}
use Rattle.spec_json.specs.json.Str.{string_bytes}
use Rattle.spec_json.specs.json.Value.{key_width, member_width, value_width, inside_items}

-- a value without the white space around it
unfoldable pub bare : (depth : ℕ) → List ℕ → List ℕ
bare d s = take (value_width d (drop (spaces s) s)) (drop (spaces s) s)

-- the elements of an array
abbrev pub bared_all : (depth : ℕ) → List (List ℕ) → List (List ℕ)
bared_all d [] = []
bared_all d (i ∷ is) = bare d i ∷ bared_all d is

unfoldable pub elements_of : (d : ℕ) → List ℕ → List (List ℕ)
elements_of d s = bared_all d (inside_items (padded (value_width d)) 0x5D (drop 1 s))

-- the members of an object: the name, decoded, and the value as it stands
pub record Member : Type 0 where
  pub name : List ℕ
  pub value : List ℕ

abbrev pub name_of : List ℕ → List ℕ
name_of i = string_bytes (drop (spaces i) i)

abbrev pub value_of : (d : ℕ) → List ℕ → List ℕ
value_of d i = bare d (drop (key_width i) i)

abbrev pub member_of : (d : ℕ) → List ℕ → Member
member_of d i = record { name = name_of i; value = value_of d i }

abbrev pub member_all : (d : ℕ) → List (List ℕ) → List Member
member_all d [] = []
member_all d (i ∷ is) = member_of d i ∷ member_all d is

unfoldable pub members_of : (d : ℕ) → List ℕ → List Member
members_of d s = member_all d (inside_items (member_width (value_width d)) 0x7D (drop 1 s))

-- the values of the members of a name, in their order
unfoldable pub values_of : (name : List ℕ) → List Member → List (List ℕ)
values_of n [] = []
values_of n (m ∷ ms) = cond (equals n m.name) (m.value ∷ values_of n ms) (values_of n ms)

-- the value of the only member of a name; nothing where there is none or more than one
abbrev pub single : List (List ℕ) → List ℕ
single [] = []
single (v ∷ []) = v
single (v ∷ w ∷ vs) = []

unfoldable pub field_of : (name : List ℕ) → List Member → List ℕ
field_of n ms = single (values_of n ms)
