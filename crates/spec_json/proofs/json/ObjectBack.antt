-- An object and an array as they are written: they are values, and their members and elements are read back.
use Prim.Native.Nat.{ℕ, zero, suc, ◌+◌, ◌-◌, ◌≤◌, ◌<◌}
use mathlib.Core.Path.{◌≡◌, refl, ap, ap₂, sym, subst, ◌∙◌}
use mathlib.Core.Logic.{◌⊎◌, inl, inr}
use mathlib.Core.Bool.{Bool, true, false}
use mathlib.Core.List.{List, [], ◌∷◌, ◌++◌, append_assoc, append-nil}
use lib.Dec.{eqb}
use lib.ListN.{length, get_or, take, drop, length-append}
use lib.Seq.{take-append_seam, drop-append_seam, get_or-append_seam}
use native.Mathlib.Omega.{arith}
use borrow.Author.Tests.{ne_eqb}
use Rattle.spec_json.specs.json.Space.{is_space, spaces, more, padded}
use Rattle.spec_json.specs.json.Str.{string_bytes}
use Rattle.spec_json.specs.json.Value.{key_width, member_width, row_width, row_items, inside_width, inside_items, value_width}
use Rattle.spec_json.specs.json.Member.{Member, bare, bared_all, elements_of, member_of, member_all, members_of}
use Rattle.spec_json.specs.json.Quote.{quoted}
use Rattle.spec_json.specs.json.Pretty.{item_lines, member_line, member_lines, pretty_object, pretty_array}
use Rattle.spec_json.proofs.json.StringBack.{string_bytes_lem}
use Rattle.spec_json.proofs.json.NumberBack.{Stops}
use Rattle.spec_json.proofs.json.RowBack.{Fits, AllFit, row_text, count, row_width_lem, row_items_lem}
use Rattle.spec_json.proofs.json.ValueBack.{AllSpace, Bare, spaces_all, bare_first, IsValue, Ends, ends_none, ends_stop, member_text, member_size, member_back, padded_back, key_back, behind_colon, ends_space, stop_none, stop_comma, stop_brace, stop_bracket, space_one, quote_starts}

-- ---- a row inside its brackets
-- the first byte that is no white space
pub record Opens (b : ℕ) (x : List ℕ) : Type 0 where
  pub before : List ℕ
  pub others : List ℕ
  pub is : x ≡ before ++ (b ∷ others)
  pub white : AllSpace before
  pub dark : is_space b ≡ false

first_byte : (b : ℕ) (x r : List ℕ) → Opens b x → get_or (x ++ r) (spaces (x ++ r)) 0 ≡ b
first_byte b x r o =
    let e : x ++ r ≡ o.before ++ (b ∷ (o.others ++ r)) = ap (λ (l : List ℕ). l ++ r) o.is ∙ append_assoc o.before (b ∷ o.others) r in
    let n : spaces (x ++ r) ≡ length o.before = ap spaces e ∙ spaces_all o.before (b ∷ (o.others ++ r)) o.white o.dark in
    ap₂ (λ (l : List ℕ) (k : ℕ). get_or l k 0) e n ∙ get_or-append_seam o.before b (o.others ++ r) 0

module _ (item : List ℕ → ℕ) (close : ℕ) (other : close ≡ 0x2C → ⊥) where
  row_opens : (b : ℕ) (x : List ℕ) (ys : List (List ℕ)) → Opens b x → Opens b (row_text item close x ys)
  row_opens b x [] o = record { before = o.before; others = o.others ++ close ∷ []; is = ap (λ (l : List ℕ). l ++ close ∷ []) o.is ∙ append_assoc o.before (b ∷ o.others) (close ∷ []); white = o.white; dark = o.dark }
  row_opens b x (y ∷ ys) o = record { before = o.before; others = o.others ++ 0x2C ∷ row_text item close y ys; is = ap (λ (l : List ℕ). l ++ 0x2C ∷ row_text item close y ys) o.is ∙ append_assoc o.before (b ∷ o.others) (0x2C ∷ row_text item close y ys); white = o.white; dark = o.dark }

  few : (x : List ℕ) (ys : List (List ℕ)) → count item close ys < length (row_text item close x ys)
  few x [] = omega (arith, length-append x (close ∷ []))
  few x (y ∷ ys) = omega (arith, length-append x (0x2C ∷ row_text item close y ys), few y ys)

  inside_else : (t : List ℕ) → eqb (get_or t (spaces t) 0) close ≡ false → inside_width item close t ≡ row_width item close (length t) t
  inside_else t e = subst (λ (b : Bool). elim b [ true ↦ suc (spaces t) | false ↦ row_width item close (length t) t ] ≡ row_width item close (length t) t) (sym e) refl

  items_else : (t : List ℕ) → eqb (get_or t (spaces t) 0) close ≡ false → inside_items item close t ≡ row_items item close (length t) t
  items_else t e = subst (λ (b : Bool). elim b [ true ↦ [] | false ↦ row_items item close (length t) t ] ≡ row_items item close (length t) t) (sym e) refl

  module _ (b : ℕ) (x : List ℕ) (ys : List (List ℕ)) (r : List ℕ) (o : Opens b x) (n : b ≡ close → ⊥) (f : AllFit item close (x ∷ ys)) where
    T : List ℕ
    T = row_text item close x ys ++ r

    open_row : eqb (get_or T (spaces T) 0) close ≡ false
    unfolding T
    open_row = ne_eqb _ close (λ e. n (sym (first_byte b (row_text item close x ys) r (row_opens b x ys o)) ∙ e))

    fuel : length T ≡ suc (length T - 1)
    unfolding T
    fuel = omega (arith, length-append (row_text item close x ys) r, few x ys)

    enough : count item close ys ≤ length T - 1
    unfolding T
    enough = omega (arith, length-append (row_text item close x ys) r, few x ys)

    pub inside_width_lem : inside_width item close (row_text item close x ys ++ r) ≡ length (row_text item close x ys)
    unfolding T
    inside_width_lem = inside_else T open_row ∙ ap (λ (k : ℕ). row_width item close k T) fuel ∙ row_width_lem item close other (length T - 1) x ys r enough f

    pub inside_items_lem : inside_items item close (row_text item close x ys ++ r) ≡ x ∷ ys
    unfolding T
    inside_items_lem = items_else T open_row ∙ ap (λ (k : ℕ). row_items item close k T) fuel ∙ row_items_lem item close other (length T - 1) x ys r enough f

-- ---- a value without the white space around it
bare_with : (d : ℕ) (s : List ℕ) (a : ℕ) → spaces s ≡ a → bare d s ≡ take (value_width d (drop a s)) (drop a s)
unfolding bare
bare_with d s a e = ap (λ (k : ℕ). take (value_width d (drop k s)) (drop k s)) e

pub bare_back : (d : ℕ) (p v q : List ℕ) → AllSpace p → IsValue (value_width d) v → Ends q → bare d (p ++ (v ++ q)) ≡ v
bare_back d p v q a f e =
    let s = p ++ (v ++ q) in
    let n : spaces s ≡ length p = spaces_all p (v ++ q) a (bare_first v q f.less f.size f.bare_value) in
    let g : drop (length p) s ≡ v ++ q = drop-append_seam p (v ++ q) in
    let stop : Stops q = subst Stops (append-nil q) (ends_stop [] e stop_none) in
    bare_with d s (length p) n ∙ ap (λ (l : List ℕ). take (value_width d l) l) g ∙ ap (λ (k : ℕ). take k (v ++ q)) (f.taken q stop) ∙ take-append_seam v q

-- ---- a member
pub member_of_lem : (d : ℕ) (p name v q : List ℕ) → AllSpace p → IsValue (value_width d) v → Ends q → member_of d (member_text p name v q) ≡ record { name = name; value = v }
member_of_lem d p name v q a f e =
    let i = member_text p name v q in
    let t : List ℕ = 0x20 ∷ (v ++ q) in
    let w = length p + length (quoted name) in
    let m : length p + length (quoted name) + 1 ≡ suc w = omega arith in
    let k : key_width i ≡ suc w = key_back p name t a ∙ m in
    let n : spaces i ≡ length p = spaces_all p (quoted name ++ 0x3A ∷ t) a (quote_first name t) in
    let one : string_bytes (drop (spaces i) i) ≡ name = ap (λ (j : ℕ). string_bytes (drop j i)) n ∙ ap string_bytes (drop-append_seam p (quoted name ++ 0x3A ∷ t)) ∙ string_bytes_lem name (0x3A ∷ t) in
    let two : bare d (drop (key_width i) i) ≡ v = ap (λ (j : ℕ). bare d (drop j i)) k ∙ ap (bare d) (behind_colon p name t w m) ∙ bare_back d (0x20 ∷ []) v q space_one f e in
    λ j. record { name = one j; value = two j }
  where
    quote_first : (name t : List ℕ) → Bare (quoted name ++ 0x3A ∷ t)
    quote_first name t = quote_starts name (0x3A ∷ t)

-- ---- an object: white space p before each name, q behind the last value
abbrev pub tail_end : (q : List ℕ) → List Member → List ℕ
tail_end q [] = q
tail_end q (g ∷ gs) = []

abbrev pub member_here : (p q : List ℕ) → Member → List Member → List ℕ
member_here p q f fs = member_text p f.name f.value (tail_end q fs)

abbrev pub members_there : (p q : List ℕ) → List Member → List (List ℕ)
members_there p q [] = []
members_there p q (g ∷ gs) = member_here p q g gs ∷ members_there p q gs

abbrev pub AllValues : (d : ℕ) → List Member → Type 0
AllValues d [] = Unit {0}
AllValues d (f ∷ fs) = IsValue (value_width d) f.value × AllValues d fs

abbrev pub object_text : (d : ℕ) → (p q : List ℕ) → Member → List Member → List ℕ
object_text d p q f fs = 0x7B ∷ row_text (member_width (value_width d)) 0x7D (member_here p q f fs) (members_there p q fs)

bare_comma : (r : List ℕ) → Bare (0x2C ∷ r)
unfolding is_space
bare_comma r = refl

bare_brace : (r : List ℕ) → Bare (0x7D ∷ r)
unfolding is_space
bare_brace r = refl

bare_bracket : (r : List ℕ) → Bare (0x5D ∷ r)
unfolding is_space
bare_bracket r = refl

brace_bare : (r : List ℕ) → Bare (0x7B ∷ r)
unfolding is_space
brace_bare r = refl

bracket_bare : (r : List ℕ) → Bare (0x5B ∷ r)
unfolding is_space
bracket_bare r = refl

quote_dark : is_space 0x22 ≡ false
unfolding is_space
quote_dark = refl

brace_dark : is_space 0x7B ≡ false
unfolding is_space
brace_dark = refl

module _ (d : ℕ) (p q : List ℕ) (a : AllSpace p) (z : Ends q) where
  tail_ends : (fs : List Member) → Ends (tail_end q fs)
  tail_ends [] = z
  tail_ends (g ∷ gs) = ends_none

  member_fits : (f : Member) (fs : List Member) → IsValue (value_width d) f.value → Fits (member_width (value_width d)) 0x7D (member_here p q f fs)
  member_fits f fs v =
      record {
        less = length p + length (quoted f.name) + 1 + length f.value + length (tail_end q fs);
        size = member_size p f.name f.value (tail_end q fs) ∙ omega arith;
        taken = λ b r h. by b r h;
      }
    where
      by : (b : ℕ) (r : List ℕ) → (b ≡ 0x2C) ⊎ (b ≡ 0x7D) → member_width (value_width d) (member_here p q f fs ++ b ∷ r) ≡ length (member_here p q f fs)
      by b r (inl e) = subst (λ (c : ℕ). member_width (value_width d) (member_here p q f fs ++ c ∷ r) ≡ length (member_here p q f fs)) (sym e)
          (member_back (value_width d) p f.name f.value (tail_end q fs) (0x2C ∷ r) a (tail_ends fs) v (bare_comma r) (stop_comma r))
      by b r (inr e) = subst (λ (c : ℕ). member_width (value_width d) (member_here p q f fs ++ c ∷ r) ≡ length (member_here p q f fs)) (sym e)
          (member_back (value_width d) p f.name f.value (tail_end q fs) (0x7D ∷ r) a (tail_ends fs) v (bare_brace r) (stop_brace r))

  members_fit : (fs : List Member) → AllValues d fs → AllFit (member_width (value_width d)) 0x7D (members_there p q fs)
  members_fit [] v = tt
  members_fit (g ∷ gs) v = (member_fits g gs v.0, members_fit gs v.1)

  member_opens : (f : Member) (fs : List Member) → Opens 0x22 (member_here p q f fs)
  unfolding quoted
  member_opens f fs = record { before = p; others = _; is = refl; white = a; dark = quote_dark }

  members_said : (fs : List Member) → AllValues d fs → member_all d (members_there p q fs) ≡ fs
  members_said [] v = refl
  members_said (g ∷ gs) v = ap₂ (λ (x : Member) (l : List Member). x ∷ l) (member_of_lem d p g.name g.value (tail_end q gs) a v.0 (tail_ends gs)) (members_said gs v.1)

  brace_comma : ◌≡◌ {A = ℕ} 0x7D 0x2C → ⊥
  brace_comma e = omega arith

  quote_brace : ◌≡◌ {A = ℕ} 0x22 0x7D → ⊥
  quote_brace e = omega arith

  object_width : (f : Member) (fs : List Member) (r : List ℕ) → AllValues d (f ∷ fs) → value_width (suc d) (object_text d p q f fs ++ r) ≡ length (object_text d p q f fs)
  unfolding value_width
  object_width f fs r v =
      ap more (inside_width_lem (member_width (value_width d)) 0x7D brace_comma 0x22 (member_here p q f fs) (members_there p q fs) r (member_opens f fs) quote_brace (members_fit (f ∷ fs) v))
      ∙ more_some (length (row_text (member_width (value_width d)) 0x7D (member_here p q f fs) (members_there p q fs))) (few (member_width (value_width d)) 0x7D brace_comma (member_here p q f fs) (members_there p q fs))
    where
      more_some : (n : ℕ) {m : ℕ} → m < n → more n ≡ suc n
      more_some zero h = absurd (omega arith)
      more_some (suc n) h = refl

  pub object_value : (f : Member) (fs : List Member) → AllValues d (f ∷ fs) → IsValue (value_width (suc d)) (object_text d p q f fs)
  object_value f fs v =
      record {
        less = length (row_text (member_width (value_width d)) 0x7D (member_here p q f fs) (members_there p q fs));
        size = refl;
        bare_value = brace_bare [];
        taken = λ r h. object_width f fs r v;
      }

  pub object_members : (f : Member) (fs : List Member) → AllValues d (f ∷ fs) → members_of d (object_text d p q f fs) ≡ f ∷ fs
  unfolding members_of
  object_members f fs v =
      let t = row_text (member_width (value_width d)) 0x7D (member_here p q f fs) (members_there p q fs) in
      ap (λ (l : List ℕ). member_all d (inside_items (member_width (value_width d)) 0x7D l)) (sym (append-nil t))
      ∙ ap (member_all d) (inside_items_lem (member_width (value_width d)) 0x7D brace_comma 0x22 (member_here p q f fs) (members_there p q fs) [] (member_opens f fs) quote_brace (members_fit (f ∷ fs) v))
      ∙ members_said (f ∷ fs) v

-- ---- an array of values: white space p before each, q behind the last
abbrev pub last_end : (q : List ℕ) → List (List ℕ) → List ℕ
last_end q [] = q
last_end q (w ∷ ws) = []

abbrev pub element_here : (p q : List ℕ) → List ℕ → List (List ℕ) → List ℕ
element_here p q v vs = p ++ (v ++ last_end q vs)

abbrev pub elements_there : (p q : List ℕ) → List (List ℕ) → List (List ℕ)
elements_there p q [] = []
elements_there p q (w ∷ ws) = element_here p q w ws ∷ elements_there p q ws

-- values that begin with a brace
pub record Object (d : ℕ) (v : List ℕ) : Type 0 where
  pub inner : List ℕ
  pub is : v ≡ 0x7B ∷ inner
  pub value : IsValue (value_width d) v

abbrev pub AllObjects : (d : ℕ) → List (List ℕ) → Type 0
AllObjects d [] = Unit {0}
AllObjects d (v ∷ vs) = Object d v × AllObjects d vs

abbrev pub array_text : (d : ℕ) → (p q : List ℕ) → List ℕ → List (List ℕ) → List ℕ
array_text d p q v vs = 0x5B ∷ row_text (padded (value_width d)) 0x5D (element_here p q v vs) (elements_there p q vs)

module _ (d : ℕ) (p q : List ℕ) (a : AllSpace p) (z : Ends q) where
  last_ends : (vs : List (List ℕ)) → Ends (last_end q vs)
  last_ends [] = z
  last_ends (w ∷ ws) = ends_none

  element_fits : (v : List ℕ) (vs : List (List ℕ)) → IsValue (value_width d) v → Fits (padded (value_width d)) 0x5D (element_here p q v vs)
  element_fits v vs f =
      record {
        less = length p + f.less + length (last_end q vs);
        size = omega (arith, size_is);
        taken = λ b r h. by b r h;
      }
    where
      size_is : length (element_here p q v vs) ≡ length p + suc f.less + length (last_end q vs)
      size_is = omega (arith, length-append p (v ++ last_end q vs), length-append v (last_end q vs), f.size)

      regroup : (r : List ℕ) → element_here p q v vs ++ r ≡ p ++ (v ++ (last_end q vs ++ r))
      regroup r = append_assoc p (v ++ last_end q vs) r ∙ ap (λ (l : List ℕ). p ++ l) (append_assoc v (last_end q vs) r)

      back : (r : List ℕ) → Bare r → Stops r → padded (value_width d) (element_here p q v vs ++ r) ≡ length (element_here p q v vs)
      back r hr hs =
          ap (padded (value_width d)) (regroup r)
          ∙ padded_back (value_width d) p v (last_end q vs) r f.less a (ends_space (last_ends vs)) f.bare_value hr f.size (f.taken (last_end q vs ++ r) (ends_stop r (last_ends vs) hs))
          ∙ omega (arith, length-append p (v ++ last_end q vs), length-append v (last_end q vs))

      by : (b : ℕ) (r : List ℕ) → (b ≡ 0x2C) ⊎ (b ≡ 0x5D) → padded (value_width d) (element_here p q v vs ++ b ∷ r) ≡ length (element_here p q v vs)
      by b r (inl e) = subst (λ (c : ℕ). padded (value_width d) (element_here p q v vs ++ c ∷ r) ≡ length (element_here p q v vs)) (sym e) (back (0x2C ∷ r) (bare_comma r) (stop_comma r))
      by b r (inr e) = subst (λ (c : ℕ). padded (value_width d) (element_here p q v vs ++ c ∷ r) ≡ length (element_here p q v vs)) (sym e) (back (0x5D ∷ r) (bare_bracket r) (stop_bracket r))

  elements_fit : (vs : List (List ℕ)) → AllObjects d vs → AllFit (padded (value_width d)) 0x5D (elements_there p q vs)
  elements_fit [] o = tt
  elements_fit (w ∷ ws) o = (element_fits w ws o.0.value, elements_fit ws o.1)

  element_opens : (v : List ℕ) (vs : List (List ℕ)) → Object d v → Opens 0x7B (element_here p q v vs)
  element_opens v vs o = record { before = p; others = o.inner ++ last_end q vs; is = ap (λ (l : List ℕ). p ++ (l ++ last_end q vs)) o.is; white = a; dark = brace_dark }

  elements_said : (vs : List (List ℕ)) → AllObjects d vs → bared_all d (elements_there p q vs) ≡ vs
  elements_said [] o = refl
  elements_said (w ∷ ws) o = ap₂ (λ (x : List ℕ) (l : List (List ℕ)). x ∷ l) (bare_back d p w (last_end q ws) a o.0.value (last_ends ws)) (elements_said ws o.1)

  bracket_comma : ◌≡◌ {A = ℕ} 0x5D 0x2C → ⊥
  bracket_comma e = omega arith

  brace_bracket : ◌≡◌ {A = ℕ} 0x7B 0x5D → ⊥
  brace_bracket e = omega arith

  array_width : (v : List ℕ) (vs : List (List ℕ)) (r : List ℕ) → AllObjects d (v ∷ vs) → value_width (suc d) (array_text d p q v vs ++ r) ≡ length (array_text d p q v vs)
  unfolding value_width
  array_width v vs r o =
      ap more (inside_width_lem (padded (value_width d)) 0x5D bracket_comma 0x7B (element_here p q v vs) (elements_there p q vs) r (element_opens v vs o.0) brace_bracket (elements_fit (v ∷ vs) o))
      ∙ more_some (length (row_text (padded (value_width d)) 0x5D (element_here p q v vs) (elements_there p q vs))) (few (padded (value_width d)) 0x5D bracket_comma (element_here p q v vs) (elements_there p q vs))
    where
      more_some : (n : ℕ) {m : ℕ} → m < n → more n ≡ suc n
      more_some zero h = absurd (omega arith)
      more_some (suc n) h = refl

  pub array_value : (v : List ℕ) (vs : List (List ℕ)) → AllObjects d (v ∷ vs) → IsValue (value_width (suc d)) (array_text d p q v vs)
  array_value v vs o =
      record {
        less = length (row_text (padded (value_width d)) 0x5D (element_here p q v vs) (elements_there p q vs));
        size = refl;
        bare_value = bracket_bare [];
        taken = λ r h. array_width v vs r o;
      }

  pub array_elements : (v : List ℕ) (vs : List (List ℕ)) → AllObjects d (v ∷ vs) → elements_of d (array_text d p q v vs) ≡ v ∷ vs
  unfolding elements_of
  array_elements v vs o =
      let t = row_text (padded (value_width d)) 0x5D (element_here p q v vs) (elements_there p q vs) in
      ap (λ (l : List ℕ). bared_all d (inside_items (padded (value_width d)) 0x5D l)) (sym (append-nil t))
      ∙ ap (bared_all d) (inside_items_lem (padded (value_width d)) 0x5D bracket_comma 0x7B (element_here p q v vs) (elements_there p q vs) [] (element_opens v vs o.0) brace_bracket (elements_fit (v ∷ vs) o))
      ∙ elements_said (v ∷ vs) o

-- the empty array
pub none_value : (d : ℕ) → IsValue (value_width (suc d)) (0x5B ∷ 0x5D ∷ [])
unfolding value_width spaces is_space
none_value d = record { less = 1; size = refl; bare_value = refl; taken = λ r h. refl }

pub none_elements : (d : ℕ) → elements_of d (0x5B ∷ 0x5D ∷ []) ≡ []
unfolding elements_of spaces is_space
none_elements d = refl

-- ---- the pretty form is laid out so
member_swap : (p : List ℕ) (f : Member) (q r : List ℕ) → ((p ++ member_line f) ++ q) ++ r ≡ member_text p f.name f.value q ++ r
member_swap p f q r = ap (λ (l : List ℕ). l ++ r) (append_assoc p (member_line f) q ∙ ap (λ (l : List ℕ). p ++ l) (append_assoc (quoted f.name) (0x3A ∷ 0x20 ∷ f.value) q))

members_laid : (d : ℕ) (p q : List ℕ) (f : Member) (fs : List Member)
    → (item_lines p (member_line f) (member_lines fs) ++ q) ++ 0x7D ∷ [] ≡ row_text (member_width (value_width d)) 0x7D (member_here p q f fs) (members_there p q fs)
unfolding item_lines
members_laid d p q f [] = member_swap p f q (0x7D ∷ [])
members_laid d p q f (g ∷ gs) =
    let t = item_lines p (member_line g) (member_lines gs) in
    regroup (p ++ member_line f) t q (0x7D ∷ [])
    ∙ ap (λ (l : List ℕ). (p ++ member_line f) ++ 0x2C ∷ l) (members_laid d p q g gs)
    ∙ sym (ap (λ (l : List ℕ). l ++ 0x2C ∷ row_text (member_width (value_width d)) 0x7D (member_here p q g gs) (members_there p q gs)) (append-nil (p ++ member_line f)))
    ∙ member_swap p f [] (0x2C ∷ row_text (member_width (value_width d)) 0x7D (member_here p q g gs) (members_there p q gs))
  where
    regroup : (a t q r : List ℕ) → ((a ++ 0x2C ∷ t) ++ q) ++ r ≡ a ++ 0x2C ∷ ((t ++ q) ++ r)
    regroup a t q r = ap (λ (l : List ℕ). l ++ r) (append_assoc a (0x2C ∷ t) q) ∙ append_assoc a (0x2C ∷ (t ++ q)) r

pub object_laid : (d : ℕ) (p q : List ℕ) (f : Member) (fs : List Member) → pretty_object p q f fs ≡ object_text d p q f fs
unfolding pretty_object
object_laid d p q f fs = ap (λ (l : List ℕ). 0x7B ∷ l) (members_laid d p q f fs)

elements_laid : (d : ℕ) (p q v : List ℕ) (vs : List (List ℕ))
    → (item_lines p v vs ++ q) ++ 0x5D ∷ [] ≡ row_text (padded (value_width d)) 0x5D (element_here p q v vs) (elements_there p q vs)
unfolding item_lines
elements_laid d p q v [] = ap (λ (l : List ℕ). l ++ 0x5D ∷ []) (append_assoc p v q)
elements_laid d p q v (w ∷ ws) =
    let t = item_lines p w ws in
    regroup (p ++ v) t q (0x5D ∷ [])
    ∙ ap (λ (l : List ℕ). (p ++ v) ++ 0x2C ∷ l) (elements_laid d p q w ws)
    ∙ sym (ap (λ (l : List ℕ). (p ++ l) ++ 0x2C ∷ row_text (padded (value_width d)) 0x5D (element_here p q w ws) (elements_there p q ws)) (append-nil v))
  where
    regroup : (a t q r : List ℕ) → ((a ++ 0x2C ∷ t) ++ q) ++ r ≡ a ++ 0x2C ∷ ((t ++ q) ++ r)
    regroup a t q r = ap (λ (l : List ℕ). l ++ r) (append_assoc a (0x2C ∷ t) q) ∙ append_assoc a (0x2C ∷ (t ++ q)) r

pub array_laid : (d : ℕ) (p q v : List ℕ) (vs : List (List ℕ)) → pretty_array p q v vs ≡ array_text d p q v vs
unfolding pretty_array
array_laid d p q v vs = ap (λ (l : List ℕ). 0x5B ∷ l) (elements_laid d p q v vs)
