-- Laws of the slots of fields, gathered member by member.
use mathlib.Core.Path.{◌≡◌, refl, sym, ap, ◌∙◌}
use mathlib.Core.Bool.{Bool, true, false, ◌&&◌, cond}
use mathlib.Core.List.{List, [], ◌∷◌}
use Prim.Native.Nat.{ℕ}
use native.Mathlib.Omega.{arith}
use borrow.Author.Tests.{eq-eqb}
use lib.Dec.{eqb}
use lib.ListN.{get_or}
use Rattle.std.specs.Prelude.{Option, Some, None}
use Rattle.spec_base.specs.base.Limits.{most_frame}
use Rattle.spec_base.proofs.base.Laws.{and_assoc, and_left, and_right}
use Rattle.spec_text.specs.pattern.Find.{equals}
use Rattle.spec_text.specs.text.Number.{value_from}
use Rattle.spec_map.specs.segment.Segment.{numbers_of}
use Rattle.spec_json.specs.json.Num.{is_plain}
use Rattle.spec_json.specs.json.Plain.{plain_of}
use Rattle.spec_json.specs.json.Str.{string_bytes}
use Rattle.spec_json.specs.json.Member.{Member, members_of, values_of, single, field_of}
use Rattle.spec_map_json.specs.map_json_write.Names.{first_name, last_name, source_name, count_name, output_name, duration_name, most_word}
use Rattle.spec_map_json.specs.map_json_write.Reads.{short, long, segment_said, segment_from}
use Rattle.map_json_segments.specs.declared.number.Slot.{Slot}
use Rattle.map_json_segments.specs.declared.number.Slot.TheVariants.{Missing, Given, Refused}
use Rattle.map_json_segments.specs.declared.number.Slots.{Slots}
use Rattle.map_json_segments.specs.Slots.{is_given, given, slot_with, field_named, slot_after, no_slots, slots_after, all_given, numbers_in, gathered, slots_from}
use Rattle.map_json_segments.specs.Fields.{Digits, field_is, field_in, six_numbers}
use Rattle.map_json_segments.proofs.NumberLaws.{said_value}
use Rattle.map_json_segments.proofs.NameLaws.{field_1, field_2, field_3, field_4, field_5, field_6}

-- ---- a first value
module _ (most : ℕ) (v : List ℕ) (p : Option ℕ) (e : p ≡ plain_of most v) where
  pub slot_said : (n : ℕ) → p ≡ Some n → Given n ≡ slot_with most Missing v
  unfolding slot_with plain_of
  slot_said n q = go (is_plain most v) (sym e ∙ q)
    where
      go : (t : Bool) → cond t (Some (value_from 0 v)) None ≡ Some n → Given n ≡ cond t (Given (value_from 0 v)) Refused
      go true q = ap Given (sym (value_is q))
        where
          value_is : Some (value_from 0 v) ≡ Some n → value_from 0 v ≡ n
          value_is q = cc
      go false q = let z : ◌≡◌ {A = ℕ} 0 1 = cc in absurd (omega arith)

  pub slot_unsaid : p ≡ None → Refused ≡ slot_with most Missing v
  unfolding slot_with plain_of
  slot_unsaid q = go (is_plain most v) (sym e ∙ q)
    where
      go : (t : Bool) → cond t (Some (value_from 0 v)) None ≡ None → Refused ≡ cond t (Given (value_from 0 v)) Refused
      go true q = let z : ◌≡◌ {A = ℕ} 0 1 = cc in absurd (omega arith)
      go false q = refl

-- ---- one member more
-- a slot by the number of its name
pub by_number : (most n k : ℕ) (x : Slot) (name : List ℕ) (m : Member) → eqb n k ≡ equals name m.name → cond (eqb n k) (slot_with most x m.value) x ≡ slot_after name most x m
unfolding slot_after
by_number most n k x name m e = ap (λ (t : Bool). cond t (slot_with most x m.value) x) e

pub after_all : (x : Slots) (key v : List ℕ) (n : ℕ) (a b c d e f : Slot) → n ≡ field_named (string_bytes key)
    → a ≡ cond (eqb n 1) (slot_with most_frame x.first v) x.first → b ≡ cond (eqb n 2) (slot_with most_frame x.last v) x.last → c ≡ cond (eqb n 3) (slot_with most_word x.source v) x.source
    → d ≡ cond (eqb n 4) (slot_with most_frame x.frames v) x.frames → e ≡ cond (eqb n 5) (slot_with most_word x.output v) x.output → f ≡ cond (eqb n 6) (slot_with most_word x.duration v) x.duration
    → ◌≡◌ {A = Slots} (record { first = a; last = b; source = c; frames = d; output = e; duration = f }) (slots_after x (record { name = string_bytes key; value = v }))
unfolding slots_after
after_all x key v n a b c d e f en ea eb ec ed ee ef =
    let m : Member = record { name = string_bytes key; value = v } in
    let p₁ : a ≡ slot_after first_name most_frame x.first m = ea ∙ by_number most_frame n 1 x.first first_name m (ap (λ (k : ℕ). eqb k 1) en ∙ field_1 (string_bytes key)) in
    let p₂ : b ≡ slot_after last_name most_frame x.last m = eb ∙ by_number most_frame n 2 x.last last_name m (ap (λ (k : ℕ). eqb k 2) en ∙ field_2 (string_bytes key)) in
    let p₃ : c ≡ slot_after source_name most_word x.source m = ec ∙ by_number most_word n 3 x.source source_name m (ap (λ (k : ℕ). eqb k 3) en ∙ field_3 (string_bytes key)) in
    let p₄ : d ≡ slot_after count_name most_frame x.frames m = ed ∙ by_number most_frame n 4 x.frames count_name m (ap (λ (k : ℕ). eqb k 4) en ∙ field_4 (string_bytes key)) in
    let p₅ : e ≡ slot_after output_name most_word x.output m = ee ∙ by_number most_word n 5 x.output output_name m (ap (λ (k : ℕ). eqb k 5) en ∙ field_5 (string_bytes key)) in
    let p₆ : f ≡ slot_after duration_name most_word x.duration m = ef ∙ by_number most_word n 6 x.duration duration_name m (ap (λ (k : ℕ). eqb k 6) en ∙ field_6 (string_bytes key)) in
    λ i. record { first = p₁ i; last = p₂ i; source = p₃ i; frames = p₄ i; output = p₅ i; duration = p₆ i }

-- ---- what a slot has at the end
abbrev pub digits_of : Slot → Digits
digits_of x = record { good = is_given x; value = given x }

module _ (n : List ℕ) (most : ℕ) where
  abbrev slot_from : Slot → List (List ℕ) → Slot
  slot_from x [] = x
  slot_from x (v ∷ vs) = slot_from (slot_with most x v) vs

  pub by_values : (x : Slot) (ms : List Member) → gathered (slot_after n most) x ms ≡ slot_from x (values_of n ms)
  unfolding gathered values_of slot_after
  by_values x [] = refl
  by_values x (m ∷ ms) = go (equals n m.name) (λ y. by_values y ms)
    where
      go : (t : Bool) → ((y : Slot) → gathered (slot_after n most) y ms ≡ slot_from y (values_of n ms))
          → gathered (slot_after n most) (cond t (slot_with most x m.value) x) ms ≡ slot_from x (cond t (m.value ∷ values_of n ms) (values_of n ms))
      go true ih = ih (slot_with most x m.value)
      go false ih = ih x

  still_bad : (vs : List (List ℕ)) → slot_from Refused vs ≡ Refused
  unfolding slot_with
  still_bad [] = refl
  still_bad (v ∷ vs) = still_bad vs

  twice_bad : (v w : List ℕ) → slot_with most (slot_with most Missing v) w ≡ Refused
  unfolding slot_with
  twice_bad v w = go (is_plain most v)
    where
      go : (t : Bool) → slot_with most (cond t (Given (value_from 0 v)) Refused) w ≡ Refused
      go true = refl
      go false = refl

  once : (v : List ℕ) → digits_of (slot_with most Missing v) ≡ field_is most v
  unfolding slot_with
  once v = go (is_plain most v)
    where
      go : (t : Bool) → ◌≡◌ {A = Digits} (digits_of (cond t (Given (value_from 0 v)) Refused)) (record { good = t; value = cond t (value_from 0 v) 0 })
      go true = refl
      go false = refl

  by_single : (vs : List (List ℕ)) → digits_of (slot_from Missing vs) ≡ field_is most (single vs)
  unfolding is_plain
  by_single [] = refl
  by_single (v ∷ []) = once v
  by_single (v ∷ w ∷ vs) = ap (λ (x : Slot). digits_of (slot_from x vs)) (twice_bad v w) ∙ ap digits_of (still_bad vs)

  pub slot_field : (ms : List Member) → digits_of (gathered (slot_after n most) Missing ms) ≡ field_in n most ms
  unfolding field_of
  slot_field ms = ap digits_of (by_values Missing ms) ∙ by_single (values_of n ms)

-- one part of several
pub part : {S T : Type 0} (after : S → Member → S) (one : T → Member → T) (get : S → T) → ((x : S) (m : Member) → get (after x m) ≡ one (get x) m)
    → (x : S) (ms : List Member) → get (gathered after x ms) ≡ gathered one (get x) ms
unfolding gathered
part after one get h x [] = refl
part {S} {T} after one get h x (m ∷ ms) = part after one get h (after x m) ms ∙ ap (λ (y : T). gathered one y ms) (h x m)

module _ (ms : List Member) (x : Slots) (e : x ≡ slots_from no_slots ms) where
  pub first_is : digits_of x.first ≡ field_in first_name most_frame ms
  unfolding slots_after
  first_is = ap (λ (y : Slots). digits_of y.first) e ∙ ap digits_of (part slots_after (slot_after first_name most_frame) (λ (y : Slots). y.first) (λ y m. refl) no_slots ms) ∙ slot_field first_name most_frame ms

  pub last_is : digits_of x.last ≡ field_in last_name most_frame ms
  unfolding slots_after
  last_is = ap (λ (y : Slots). digits_of y.last) e ∙ ap digits_of (part slots_after (slot_after last_name most_frame) (λ (y : Slots). y.last) (λ y m. refl) no_slots ms) ∙ slot_field last_name most_frame ms

  pub source_is : digits_of x.source ≡ field_in source_name most_word ms
  unfolding slots_after
  source_is = ap (λ (y : Slots). digits_of y.source) e ∙ ap digits_of (part slots_after (slot_after source_name most_word) (λ (y : Slots). y.source) (λ y m. refl) no_slots ms) ∙ slot_field source_name most_word ms

  pub frames_is : digits_of x.frames ≡ field_in count_name most_frame ms
  unfolding slots_after
  frames_is = ap (λ (y : Slots). digits_of y.frames) e ∙ ap digits_of (part slots_after (slot_after count_name most_frame) (λ (y : Slots). y.frames) (λ y m. refl) no_slots ms) ∙ slot_field count_name most_frame ms

  pub output_is : digits_of x.output ≡ field_in output_name most_word ms
  unfolding slots_after
  output_is = ap (λ (y : Slots). digits_of y.output) e ∙ ap digits_of (part slots_after (slot_after output_name most_word) (λ (y : Slots). y.output) (λ y m. refl) no_slots ms) ∙ slot_field output_name most_word ms

  pub duration_is : digits_of x.duration ≡ field_in duration_name most_word ms
  unfolding slots_after
  duration_is = ap (λ (y : Slots). digits_of y.duration) e ∙ ap digits_of (part slots_after (slot_after duration_name most_word) (λ (y : Slots). y.duration) (λ y m. refl) no_slots ms) ∙ slot_field duration_name most_word ms

-- ---- the six numbers of a segment
and_six : (a b c d : Bool) → ((a && (b && c)) && d) ≡ (a && (b && (c && d)))
and_six true b c d = and_assoc b c d
and_six false b c d = refl

pub good_of : (x : Slot) (y : Digits) → digits_of x ≡ y → is_given x ≡ y.good
good_of x y e = ap (λ (d : Digits). d.good) e

pub value_of : (x : Slot) (y : Digits) → digits_of x ≡ y → given x ≡ y.value
value_of x y e = ap (λ (d : Digits). d.value) e

all_six : (O a b c d e f o p q g₁ g A B C D E F : Bool) → a ≡ A → b ≡ B → c ≡ C → d ≡ D → e ≡ E → f ≡ F → p ≡ (a && (b && c)) → q ≡ (d && (e && f)) → o ≡ O → g₁ ≡ (p && q) → g ≡ (o && g₁)
    → g ≡ (O && (A && (B && (C && (D && (E && F))))))
all_six O a b c d e f o p q g₁ g A B C D E F ea eb ec ed ee ef ep eq eo e₁ eg =
    let w : ((A && (B && C)) && (D && (E && F))) ≡ (A && (B && (C && (D && (E && F))))) = and_six A B C (D && (E && F)) in cc

module _ (v : List ℕ) (x : Slots) (ex : x ≡ slots_from no_slots (members_of 8 v)) where
  abbrev ms : List Member
  ms = members_of 8 v

  pub good_numbers : get_or v 0 0 ≡ 0x7B → all_given x ≡ segment_said v
  unfolding segment_said
  good_numbers b =
      all_six (eqb (get_or v 0 0) 0x7B) _ _ _ _ _ _ true _ _ _ _ _ _ _ _ _ _
      (good_of x.first (field_in first_name most_frame ms) (first_is ms x ex)) (good_of x.last (field_in last_name most_frame ms) (last_is ms x ex)) (good_of x.source (field_in source_name most_word ms) (source_is ms x ex))
      (good_of x.frames (field_in count_name most_frame ms) (frames_is ms x ex)) (good_of x.output (field_in output_name most_word ms) (output_is ms x ex)) (good_of x.duration (field_in duration_name most_word ms) (duration_is ms x ex))
      refl refl (sym (eq-eqb (get_or v 0 0) 0x7B b)) refl refl

  pub six_numbers_lem : segment_said v ≡ true → six_numbers (numbers_in x) ≡ numbers_of (segment_from v)
  unfolding segment_said segment_from
  six_numbers_lem e =
      let a = and_right (eqb (get_or v 0 0) 0x7B) _ e in
      let b = and_right (short first_name ms) _ a in
      let c = and_right (short last_name ms) _ b in
      let d = and_right (long source_name ms) _ c in
      let f = and_right (short count_name ms) _ d in
      let p₁ : given x.first ≡ value_from 0 (field_of first_name ms) = value_of x.first (field_in first_name most_frame ms) (first_is ms x ex) ∙ said_value most_frame (field_of first_name ms) (and_left (short first_name ms) _ a) in
      let p₂ : given x.last ≡ value_from 0 (field_of last_name ms) = value_of x.last (field_in last_name most_frame ms) (last_is ms x ex) ∙ said_value most_frame (field_of last_name ms) (and_left (short last_name ms) _ b) in
      let p₃ : given x.source ≡ value_from 0 (field_of source_name ms) = value_of x.source (field_in source_name most_word ms) (source_is ms x ex) ∙ said_value most_word (field_of source_name ms) (and_left (long source_name ms) _ c) in
      let p₄ : given x.frames ≡ value_from 0 (field_of count_name ms) = value_of x.frames (field_in count_name most_frame ms) (frames_is ms x ex) ∙ said_value most_frame (field_of count_name ms) (and_left (short count_name ms) _ d) in
      let p₅ : given x.output ≡ value_from 0 (field_of output_name ms) = value_of x.output (field_in output_name most_word ms) (output_is ms x ex) ∙ said_value most_word (field_of output_name ms) (and_left (long output_name ms) _ f) in
      let p₆ : given x.duration ≡ value_from 0 (field_of duration_name ms) = value_of x.duration (field_in duration_name most_word ms) (duration_is ms x ex) ∙ said_value most_word (field_of duration_name ms) (and_right (long output_name ms) _ f) in
      λ i. p₁ i ∷ p₂ i ∷ p₃ i ∷ p₄ i ∷ p₅ i ∷ p₆ i ∷ []
