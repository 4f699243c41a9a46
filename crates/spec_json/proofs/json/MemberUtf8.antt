-- The values of an object's members are parts of its text, and a string among them ends with its quotation mark: so what it stands for is UTF-8 where the text is.
use Prim.Native.Nat.{ℕ, zero, suc, ◌+◌, ◌-◌, ◌≤◌, ◌<◌}
use mathlib.Core.Path.{◌≡◌, refl, sym, ap, ◌∙◌}
use mathlib.Core.Bool.{Bool, true, false, cond, not}
use mathlib.Core.List.{List, [], ◌∷◌}
use native.Mathlib.Omega.{arith}
use borrow.Author.Tests.{eqb-true, eq-eqb, leb-true, leb-false, ltb-true, ltb-false}
use lib.Dec.{eqb, leb, ltb}
use lib.ListN.{length, get_or, take, drop, length-take, get_or-eq_default}
use lib.Seq.{take_all, take-take, drop-drop, get_or-take, get_or-drop, length-take-le}
use Rattle.spec_base.specs.base.Width.{by_width}
use Rattle.spec_text.specs.utf8.Utf8.{utf8}
use Rattle.spec_text.specs.pattern.Find.{equals}
use Rattle.spec_json.specs.json.Space.{spaces, more}
use Rattle.spec_json.specs.json.Str.{char_wide, chars_width, string_width, string_bytes}
use Rattle.spec_json.specs.json.Value.{scalar_width, value_width, key_width, member_width, row_items, inside_items}
use Rattle.spec_json.specs.json.Walk.{is_open}
use Rattle.spec_json.specs.json.Member.{bare, Member, member_all, members_of, values_of, single, field_of}
use Rattle.spec_json.proofs.json.ItemLaws.{value_flat, value_scalar}
use Rattle.spec_text.proofs.unicode.Utf8Parts.{low_drop, low_past, low_take}
use Rattle.spec_json.proofs.json.StringUtf8.{chars_utf8}
use Rattle.spec_base.proofs.base.PartLaws.{drop_take}

-- ---- parts
pub record PartOf (s v : List ℕ) : Type 0 where
  pub at : ℕ
  pub size : ℕ
  pub is : v ≡ take size (drop at s)

pub part_whole : (s : List ℕ) → PartOf s s
part_whole s = record { at = 0; size = length s; is = sym (take_all (length s) s (omega arith)) }

part_none : (s : List ℕ) → PartOf s []
part_none s = record { at = 0; size = 0; is = refl }

part_take : (s v : List ℕ) (n : ℕ) → PartOf s v → PartOf s (take n v)
part_take s v n p = go (leb n p.size) refl
  where
    go : (t : Bool) → leb n p.size ≡ t → PartOf s (take n v)
    go true e = record { at = p.at; size = n; is = ap (take n) p.is ∙ take-take n p.size (drop p.at s) (leb-true n p.size e) }
    go false e =
        let l : length v ≤ n = omega (arith, ap length p.is, length-take p.size (drop p.at s), leb-false n p.size e) in
        record { at = p.at; size = p.size; is = take_all n v l ∙ p.is }

part_drop : (s v : List ℕ) (n : ℕ) → PartOf s v → PartOf s (drop n v)
part_drop s v n p =
    record {
      at = p.at + n;
      size = p.size - n;
      is = ap (drop n) p.is ∙ drop_take n p.size (drop p.at s) ∙ ap (take (p.size - n)) (drop-drop n p.at s);
    }

-- ---- a string that is closed ends with its quotation mark
chars_end : (t : List ℕ) (k m : ℕ) → chars_width t k ≡ suc m → get_or t m 0 ≡ 0x22
unfolding chars_width
chars_end [] k m e = absurd (omega arith)
chars_end (b ∷ s) (suc k) m e = next (chars_width s k) refl e (λ j. chars_end s k j)
  where
    next : (w : ℕ) → chars_width s k ≡ w → more w ≡ suc m → ((j : ℕ) → chars_width s k ≡ suc j → get_or s j 0 ≡ 0x22) → get_or (b ∷ s) m 0 ≡ 0x22
    next zero q f ih = absurd (omega arith)
    next (suc j) q f ih = let z : m ≡ suc j = omega arith in ap (λ (i : ℕ). get_or (b ∷ s) i 0) z ∙ ih j q
chars_end (b ∷ s) zero m e = go (eqb b 0x22) refl (char_wide (b ∷ s)) e (λ k j. chars_end s k j)
  where
    next : (k w : ℕ) → chars_width s k ≡ w → more w ≡ suc m → ((j : ℕ) → chars_width s k ≡ suc j → get_or s j 0 ≡ 0x22) → get_or (b ∷ s) m 0 ≡ 0x22
    next k zero q f ih = absurd (omega arith)
    next k (suc j) q f ih = let z : m ≡ suc j = omega arith in ap (λ (i : ℕ). get_or (b ∷ s) i 0) z ∙ ih j q

    go : (t : Bool) → eqb b 0x22 ≡ t → (w : ℕ) → ◌≡◌ {A = ℕ} (elim t [ true ↦ 1 | false ↦ by_width w 0 (λ k. more (chars_width s k)) ]) (suc m)
        → ((k j : ℕ) → chars_width s k ≡ suc j → get_or s j 0 ≡ 0x22) → get_or (b ∷ s) m 0 ≡ 0x22
    go true p w f ih = let z : m ≡ 0 = omega arith in ap (λ (i : ℕ). get_or (b ∷ s) i 0) z ∙ eqb-true b 0x22 p
    go false p zero f ih = absurd (omega arith)
    go false p (suc k) f ih = next k (chars_width s k) refl f (ih k)

-- a value that begins with a quotation mark is a string
scalar_string : (x : List ℕ) → get_or x 0 0 ≡ 0x22 → scalar_width x ≡ more (chars_width (drop 1 x) 0)
unfolding scalar_width string_width
scalar_string x h = rw (eq-eqb (get_or x 0 0) 0x22 h)

quote_shut : not (is_open 0x22) ≡ true
unfolding is_open
quote_shut = refl

value_string : (d : ℕ) (x : List ℕ) → get_or x 0 0 ≡ 0x22 → value_width d x ≡ more (chars_width (drop 1 x) 0)
value_string zero x h = sym (value_flat 0 (more (chars_width (drop 1 x) 0)) x refl (sym (scalar_string x h)))
value_string (suc d) x h =
    sym (value_scalar (suc d) (get_or x 0 0) (more (chars_width (drop 1 x) 0)) (is_open (get_or x 0 0)) x (λ z. omega arith) refl refl
    (ap (λ (b : ℕ). not (is_open b)) h ∙ quote_shut) (sym (scalar_string x h)))

taken_head : (w : ℕ) (x : List ℕ) → get_or (take w x) 0 0 ≡ 0x22 → (0 < w) × (get_or x 0 0 ≡ 0x22)
taken_head zero x h = absurd (omega arith)
taken_head (suc w) x h = (omega arith, sym (get_or-take (suc w) x 0 0 (omega arith)) ∙ h)

bare_ends : (x : List ℕ) (w : ℕ) → w ≡ more (chars_width (drop 1 x) 0) → 0 < w → get_or (take w x) (length (take w x) - 1) 0 ≡ 0x22
bare_ends x w e l = go (chars_width (drop 1 x) 0) refl e
  where
    go : (n : ℕ) → chars_width (drop 1 x) 0 ≡ n → w ≡ more n → get_or (take w x) (length (take w x) - 1) 0 ≡ 0x22
    go zero q f = absurd (omega arith)
    go (suc m) q f =
        let quote : get_or x (1 + m) 0 ≡ 0x22 = sym (get_or-drop 1 x m 0) ∙ chars_end (drop 1 x) 0 m q in
        let long : 1 + m < length x = inside (ltb (1 + m) (length x)) refl quote in
        let size : length (take w x) ≡ w = length-take-le w x (omega arith) in
        let at : length (take w x) - 1 ≡ 1 + m = omega arith in
        ap (λ (i : ℕ). get_or (take w x) i 0) at ∙ get_or-take w x (1 + m) 0 (omega arith) ∙ quote
      where
        inside : (t : Bool) → ltb (1 + m) (length x) ≡ t → get_or x (1 + m) 0 ≡ 0x22 → 1 + m < length x
        inside true p h = ltb-true (1 + m) (length x) p
        inside false p h = absurd (let z : get_or x (1 + m) 0 ≡ 0 = get_or-eq_default x 0 (ltb-false (1 + m) (length x) p) in omega arith)

-- ---- the value of a member
pub record ValueIn (s v : List ℕ) : Type 0 where
  pub part : PartOf s v
  pub ends : get_or v 0 0 ≡ 0x22 → get_or v (length v - 1) 0 ≡ 0x22

no_value : (s : List ℕ) → ValueIn s []
no_value s = record { part = part_none s; ends = λ h. absurd (omega arith) }

pub bare_in : (d : ℕ) (s t : List ℕ) → PartOf s t → ValueIn s (bare d t)
unfolding bare
bare_in d s t p =
    let x = drop (spaces t) t in
    record {
      part = part_take s x (value_width d x) (part_drop s t (spaces t) p);
      ends = λ h. let k = taken_head (value_width d x) x h in bare_ends x (value_width d x) (value_string d x k.1) k.0;
    }

abbrev AllParts : List ℕ → List (List ℕ) → Type 0
AllParts s [] = Unit {0}
AllParts s (i ∷ is) = PartOf s i × AllParts s is

row_parts : (item : List ℕ → ℕ) (close n : ℕ) (s t : List ℕ) → PartOf s t → AllParts s (row_items item close n t)
unfolding row_items
row_parts item close zero s t p = tt
row_parts item close (suc n) s t p = go (item t) (λ u q. row_parts item close n s u q)
  where
    on : (k : ℕ) → ((u : List ℕ) → PartOf s u → AllParts s (row_items item close n u)) → (b : Bool) → AllParts s (elim b [ true ↦ row_items item close n (drop (suc (suc k)) t) | false ↦ [] ])
    on k ih true = ih (drop (suc (suc k)) t) (part_drop s t (suc (suc k)) p)
    on k ih false = tt

    go : (w : ℕ) → ((u : List ℕ) → PartOf s u → AllParts s (row_items item close n u))
        → AllParts s (by_width w [] (λ k. take (suc k) t ∷ elim (eqb (get_or t (suc k) 0) 0x2C) [ true ↦ row_items item close n (drop (suc (suc k)) t) | false ↦ [] ]))
    go zero ih = tt
    go (suc k) ih = (part_take s t (suc k) p, on k ih (eqb (get_or t (suc k) 0) 0x2C))

abbrev Members : List ℕ → List Member → Type 0
Members s [] = Unit {0}
Members s (m ∷ ms) = ValueIn s m.value × Members s ms

all_members : (d : ℕ) (s : List ℕ) (is : List (List ℕ)) → AllParts s is → Members s (member_all d is)
all_members d s [] p = tt
all_members d s (i ∷ is) p = (bare_in d s (drop (key_width i) i) (part_drop s i (key_width i) p.0), all_members d s is p.1)

members_in_lem : (d : ℕ) (s t : List ℕ) → PartOf s t → Members s (members_of d t)
unfolding members_of
members_in_lem d s t p =
    let item = member_width (value_width d) in
    all_members d s (inside_items item 0x7D (drop 1 t)) (go (eqb (get_or (drop 1 t) (spaces (drop 1 t)) 0) 0x7D))
  where
    go : (b : Bool) → AllParts s (elim b [ true ↦ [] | false ↦ row_items (member_width (value_width d)) 0x7D (length (drop 1 t)) (drop 1 t) ])
    go true = tt
    go false = row_parts (member_width (value_width d)) 0x7D (length (drop 1 t)) s (drop 1 t) (part_drop s t 1 p)

abbrev Values : List ℕ → List (List ℕ) → Type 0
Values s [] = Unit {0}
Values s (v ∷ vs) = ValueIn s v × Values s vs

values_in : (n s : List ℕ) (ms : List Member) → Members s ms → Values s (values_of n ms)
unfolding values_of
values_in n s [] p = tt
values_in n s (m ∷ ms) p = go (equals n m.name) (values_in n s ms p.1)
  where
    go : (t : Bool) → Values s (values_of n ms) → Values s (cond t (m.value ∷ values_of n ms) (values_of n ms))
    go true ih = (p.0, ih)
    go false ih = ih

single_in : (s : List ℕ) (vs : List (List ℕ)) → Values s vs → ValueIn s (single vs)
single_in s [] p = no_value s
single_in s (v ∷ []) p = p.0
single_in s (v ∷ w ∷ vs) p = no_value s

-- the value of a field, where the object is a part of the text s
pub field_in_lem : (name : List ℕ) (d : ℕ) (s t : List ℕ) → PartOf s t → ValueIn s (field_of name (members_of d t))
unfolding field_of
field_in_lem name d s t p = single_in s (values_of name (members_of d t)) (values_in name s (members_of d t) (members_in_lem d s t p))

-- ---- a string among them stands for UTF-8
whole_utf8 : (s v : List ℕ) → utf8 s ≡ true → ValueIn s v → get_or v 0 0 ≡ 0x22 → utf8 v ≡ true
whole_utf8 s [] e p h = absurd (omega arith)
whole_utf8 s (b ∷ r) e p h =
    let at = p.part.at in
    let n = p.part.size in
    let D = drop at s in
    let head = taken_head n D (ap (λ (x : List ℕ). get_or x 0 0) (sym p.part.is) ∙ h) in
    let z : at + 0 ≡ at = omega arith in
    let first : get_or s at 0 ≡ 0x22 = ap (λ (k : ℕ). get_or s k 0) (sym z) ∙ sym (get_or-drop at s 0 0) ∙ head.1 in
    let good : utf8 D ≡ true = low_drop s e at (omega (arith, first)) in
    let few : suc (length r) ≤ n = omega (arith, ap length p.part.is, length-take n D) in
    let one : suc (length r) - 1 ≡ length r = omega arith in
    let last : get_or (b ∷ r) (length r) 0 ≡ 0x22 = ap (λ (k : ℕ). get_or (b ∷ r) k 0) (sym one) ∙ p.ends h in
    let low : get_or D (length r) 0 ≡ 0x22 = sym (get_or-take n D (length r) 0 (omega (arith, few))) ∙ ap (λ (x : List ℕ). get_or x (length r) 0) (sym p.part.is) ∙ last in
    let same : b ∷ r ≡ take (suc (length r)) D = sym (take_all (suc (length r)) (b ∷ r) (omega arith)) ∙ ap (take (suc (length r))) p.part.is ∙ take-take (suc (length r)) n D few in
    ap utf8 same ∙ low_take D good (length r) (omega (arith, low))

pub string_utf8 : (s v : List ℕ) → utf8 s ≡ true → ValueIn s v → get_or v 0 0 ≡ 0x22 → utf8 (string_bytes v) ≡ true
unfolding string_bytes
string_utf8 s v e p h = chars_utf8 (drop 1 v) (low_past v (whole_utf8 s v e p h) 0 (omega (arith, h)))
