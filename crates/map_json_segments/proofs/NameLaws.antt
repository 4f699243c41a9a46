-- Which field of a segment a key names: each name against its number.
use mathlib.Core.Path.{◌≡◌, refl, sym, ap, ◌∙◌}
use mathlib.Core.Bool.{Bool, true, false, ◌||◌, not, cond}
use mathlib.Core.List.{List}
use Prim.Native.Nat.{ℕ}
use lib.Dec.{eqb}
use Rattle.spec_text.specs.pattern.Find.{equals}
use Rattle.spec_text.proofs.pattern.Laws.{equals_true}
use Rattle.spec_map_json.specs.map_json_write.Names.{first_name, last_name, source_name, count_name, output_name, duration_name}
use Rattle.map_json_segments.specs.Slots.{field_named}

-- ---- the first of six tests, where a later one fails behind it
abbrev pub first_of : (a b c d e f : Bool) → ℕ
first_of a b c d e f = cond a 1 (cond b 2 (cond c 3 (cond d 4 (cond e 5 (cond f 6 0)))))

pub test_1 : (a b c d e f : Bool) → eqb (first_of a b c d e f) 1 ≡ a
test_1 true b c d e f = refl
test_1 false true c d e f = refl
test_1 false false true d e f = refl
test_1 false false false true e f = refl
test_1 false false false false true f = refl
test_1 false false false false false true = refl
test_1 false false false false false false = refl

pub test_2 : (a b c d e f : Bool) → (a ≡ true → b ≡ false) → eqb (first_of a b c d e f) 2 ≡ b
test_2 true b c d e f h1 = sym (h1 refl)
test_2 false true c d e f h1 = refl
test_2 false false true d e f h1 = refl
test_2 false false false true e f h1 = refl
test_2 false false false false true f h1 = refl
test_2 false false false false false true h1 = refl
test_2 false false false false false false h1 = refl

pub test_3 : (a b c d e f : Bool) → (a ≡ true → c ≡ false) → (b ≡ true → c ≡ false) → eqb (first_of a b c d e f) 3 ≡ c
test_3 true b c d e f h1 h2 = sym (h1 refl)
test_3 false true c d e f h1 h2 = sym (h2 refl)
test_3 false false true d e f h1 h2 = refl
test_3 false false false true e f h1 h2 = refl
test_3 false false false false true f h1 h2 = refl
test_3 false false false false false true h1 h2 = refl
test_3 false false false false false false h1 h2 = refl

pub test_4 : (a b c d e f : Bool) → (a ≡ true → d ≡ false) → (b ≡ true → d ≡ false) → (c ≡ true → d ≡ false) → eqb (first_of a b c d e f) 4 ≡ d
test_4 true b c d e f h1 h2 h3 = sym (h1 refl)
test_4 false true c d e f h1 h2 h3 = sym (h2 refl)
test_4 false false true d e f h1 h2 h3 = sym (h3 refl)
test_4 false false false true e f h1 h2 h3 = refl
test_4 false false false false true f h1 h2 h3 = refl
test_4 false false false false false true h1 h2 h3 = refl
test_4 false false false false false false h1 h2 h3 = refl

pub test_5 : (a b c d e f : Bool) → (a ≡ true → e ≡ false) → (b ≡ true → e ≡ false) → (c ≡ true → e ≡ false) → (d ≡ true → e ≡ false) → eqb (first_of a b c d e f) 5 ≡ e
test_5 true b c d e f h1 h2 h3 h4 = sym (h1 refl)
test_5 false true c d e f h1 h2 h3 h4 = sym (h2 refl)
test_5 false false true d e f h1 h2 h3 h4 = sym (h3 refl)
test_5 false false false true e f h1 h2 h3 h4 = sym (h4 refl)
test_5 false false false false true f h1 h2 h3 h4 = refl
test_5 false false false false false true h1 h2 h3 h4 = refl
test_5 false false false false false false h1 h2 h3 h4 = refl

pub test_6 : (a b c d e f : Bool) → (a ≡ true → f ≡ false) → (b ≡ true → f ≡ false) → (c ≡ true → f ≡ false) → (d ≡ true → f ≡ false) → (e ≡ true → f ≡ false) → eqb (first_of a b c d e f) 6 ≡ f
test_6 true b c d e f h1 h2 h3 h4 h5 = sym (h1 refl)
test_6 false true c d e f h1 h2 h3 h4 h5 = sym (h2 refl)
test_6 false false true d e f h1 h2 h3 h4 h5 = sym (h3 refl)
test_6 false false false true e f h1 h2 h3 h4 h5 = sym (h4 refl)
test_6 false false false false true f h1 h2 h3 h4 h5 = sym (h5 refl)
test_6 false false false false false true h1 h2 h3 h4 h5 = refl
test_6 false false false false false false h1 h2 h3 h4 h5 = refl

pub test_none : (a b c d e f : Bool) → not (eqb (first_of a b c d e f) 0) ≡ (a || (b || (c || (d || (e || f)))))
test_none true b c d e f = refl
test_none false true c d e f = refl
test_none false false true d e f = refl
test_none false false false true e f = refl
test_none false false false false true f = refl
test_none false false false false false true = refl
test_none false false false false false false = refl

-- ---- two names
pub other : (p q n : List ℕ) → equals q p ≡ false → equals p n ≡ true → equals q n ≡ false
other p q n h e = ap (equals q) (sym (equals_true p n e)) ∙ h

first_last : equals last_name first_name ≡ false
unfolding equals
first_last = refl

first_source : equals source_name first_name ≡ false
unfolding equals
first_source = refl

last_source : equals source_name last_name ≡ false
unfolding equals
last_source = refl

first_count : equals count_name first_name ≡ false
unfolding equals
first_count = refl

last_count : equals count_name last_name ≡ false
unfolding equals
last_count = refl

source_count : equals count_name source_name ≡ false
unfolding equals
source_count = refl

first_output : equals output_name first_name ≡ false
unfolding equals
first_output = refl

last_output : equals output_name last_name ≡ false
unfolding equals
last_output = refl

source_output : equals output_name source_name ≡ false
unfolding equals
source_output = refl

count_output : equals output_name count_name ≡ false
unfolding equals
count_output = refl

first_duration : equals duration_name first_name ≡ false
unfolding equals
first_duration = refl

last_duration : equals duration_name last_name ≡ false
unfolding equals
last_duration = refl

source_duration : equals duration_name source_name ≡ false
unfolding equals
source_duration = refl

count_duration : equals duration_name count_name ≡ false
unfolding equals
count_duration = refl

output_duration : equals duration_name output_name ≡ false
unfolding equals
output_duration = refl

-- ---- the names of a segment
module _ (n : List ℕ) where
  pub field_1 : eqb (field_named n) 1 ≡ equals first_name n
  unfolding field_named
  field_1 = test_1 (equals first_name n) (equals last_name n) (equals source_name n) (equals count_name n) (equals output_name n) (equals duration_name n)

  pub field_2 : eqb (field_named n) 2 ≡ equals last_name n
  unfolding field_named
  field_2 = test_2 (equals first_name n) (equals last_name n) (equals source_name n) (equals count_name n) (equals output_name n) (equals duration_name n) (other first_name last_name n first_last)

  pub field_3 : eqb (field_named n) 3 ≡ equals source_name n
  unfolding field_named
  field_3 = test_3 (equals first_name n) (equals last_name n) (equals source_name n) (equals count_name n) (equals output_name n) (equals duration_name n) (other first_name source_name n first_source) (other last_name source_name n last_source)

  pub field_4 : eqb (field_named n) 4 ≡ equals count_name n
  unfolding field_named
  field_4 = test_4 (equals first_name n) (equals last_name n) (equals source_name n) (equals count_name n) (equals output_name n) (equals duration_name n) (other first_name count_name n first_count) (other last_name count_name n last_count) (other source_name count_name n source_count)

  pub field_5 : eqb (field_named n) 5 ≡ equals output_name n
  unfolding field_named
  field_5 = test_5 (equals first_name n) (equals last_name n) (equals source_name n) (equals count_name n) (equals output_name n) (equals duration_name n) (other first_name output_name n first_output) (other last_name output_name n last_output) (other source_name output_name n source_output) (other count_name output_name n count_output)

  pub field_6 : eqb (field_named n) 6 ≡ equals duration_name n
  unfolding field_named
  field_6 = test_6 (equals first_name n) (equals last_name n) (equals source_name n) (equals count_name n) (equals output_name n) (equals duration_name n) (other first_name duration_name n first_duration) (other last_name duration_name n last_duration) (other source_name duration_name n source_duration) (other count_name duration_name n count_duration) (other output_name duration_name n output_duration)
