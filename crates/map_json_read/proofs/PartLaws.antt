-- Laws of the tests of a map's text, each for one return.
use mathlib.Core.Path.{◌≡◌, refl, sym, ap, ◌∙◌}
use mathlib.Core.Bool.{Bool, true, false, ◌&&◌, cond, not}
use mathlib.Core.List.{List, []}
use Prim.Native.Nat.{ℕ, zero, suc, ◌+◌, ◌-◌}
use native.Mathlib.Omega.{arith}
use borrow.Author.Tests.{not-true, not-false, eq-eqb, ne_eqb, eqb-true, eqb-false}
use lib.Dec.{eqb}
use lib.ListN.{length, take, drop, get_or, length-drop}
use lib.Seq.{drop-drop, get_or-take}
use Rattle.spec_text.specs.utf8.Utf8.{utf8}
use Rattle.spec_json.specs.json.Space.{spaces, padded}
use Rattle.spec_json.specs.json.Num.{is_plain}
use Rattle.spec_json.specs.json.Value.{value_width, row_items}
use Rattle.spec_json.specs.json.Walk.{item_width, row_of}
use Rattle.spec_json.specs.json.Member.{Member, bare, members_of, values_of, field_of}
use Rattle.spec_json.proofs.json.ItemLaws.{value_le, lead_space, item_some}
use Rattle.spec_json.proofs.json.FrontRows.{members_front, row_object, row_members, no_row}
use Rattle.spec_map_json.specs.map_json_write.Names.{timescale_name, rate_num_name, rate_den_name, input_name, frames_name, segments_name}
use Rattle.spec_map_json.specs.map_json_write.Reads.{short, path_said, list_said, shallow, fields_said, is_map_text}
use Rattle.map_json_read.specs.declared.walk.Walk.{Walk}
use Rattle.map_json_segments.specs.Slots.{gathered}
use Rattle.map_json_read.specs.Slots.{none_walked, walked_after}
use Rattle.map_json_segments.specs.Fields.{members_in}
use Rattle.map_json_read.specs.Walk.{walked_of, WalkIn}
use Rattle.map_json_read.specs.Steps.{object_of}
use Rattle.spec_base.proofs.base.Laws.{and_left, and_right, and_false}

-- ---- parts of a text
pub row_is_behind : (text a r : List ℕ) (n : ℕ) → n ≡ spaces text → a ≡ drop n text → r ≡ drop 1 a → r ≡ drop 1 (drop (spaces text) text)
row_is_behind text a r n en ea er = er ∙ ap (drop 1) (ea ∙ ap (λ (j : ℕ). drop j text) en)

pub span_is : (s a r : List ℕ) (at w : ℕ) → a ≡ drop at s → r ≡ take w a → r ≡ take w (drop at s)
span_is s a r at w ea er = er ∙ ap (take w) ea

-- ---- the walk of a text
no_members : members_of 10 [] ≡ []
unfolding members_of row_items spaces
no_members = refl

abbrev tests : List ℕ → Bool
tests s = utf8 s && (eqb (padded (value_width 11) s) (length s) && eqb (get_or (bare 11 s) 0 0) 0x7B)

-- no object: no member
empty_text : (s : List ℕ) → tests s ≡ false → members_of 10 (object_of s) ≡ []
unfolding object_of
empty_text s e = ap (λ (t : Bool). members_of 10 (cond t (bare 11 s) [])) e ∙ no_members

bare_text : (s : List ℕ) → members_of 10 (bare 11 s) ≡ [] → members_of 10 (object_of s) ≡ []
unfolding object_of
bare_text s e = go (tests s)
  where
    go : (t : Bool) → members_of 10 (cond t (bare 11 s) []) ≡ []
    go true = e
    go false = no_members

-- the object at the head of the text, and what is behind it
module _ (text s : List ℕ) (es : s ≡ drop 1 (drop (spaces text) text)) (f : Bool) (ef : f ≡ (utf8 text && eqb (get_or (drop (spaces text) text) 0 0) 0x7B)) where
  bare_as : bare 11 text ≡ take (value_width 11 (drop (spaces text) text)) (drop (spaces text) text)
  unfolding bare
  bare_as = refl

  first_byte : (k : ℕ) → value_width 11 (drop (spaces text) text) ≡ suc k → get_or (bare 11 text) 0 0 ≡ get_or (drop (spaces text) text) 0 0
  first_byte k e = ap (λ (x : List ℕ). get_or x 0 0) bare_as ∙ get_or-take (value_width 11 (drop (spaces text) text)) (drop (spaces text) text) 0 0 (omega arith)

  -- no value: nothing
  empty_bare : value_width 11 (drop (spaces text) text) ≡ 0 → members_of 10 (object_of text) ≡ []
  empty_bare e = bare_text text (ap (members_of 10) (bare_as ∙ ap (λ (k : ℕ). take k (drop (spaces text) text)) e) ∙ no_members)

  pub text_other : not f ≡ true → members_of 10 (object_of text) ≡ []
  text_other h = go (value_width 11 (drop (spaces text) text)) refl
    where
      apart : (u o : Bool) → (u && o) ≡ false → (u && (eqb (padded (value_width 11) text) (length text) && o)) ≡ false
      apart true o e = ap (λ (b : Bool). eqb (padded (value_width 11) text) (length text) && b) e ∙ sym (and_false (eqb (padded (value_width 11) text) (length text)))
      apart false o e = refl

      go : (k : ℕ) → value_width 11 (drop (spaces text) text) ≡ k → members_of 10 (object_of text) ≡ []
      go zero e = empty_bare e
      go (suc k) e =
          empty_text text (ap (λ (b : ℕ). utf8 text && (eqb (padded (value_width 11) text) (length text) && eqb b 0x7B)) (first_byte k e)
          ∙ apart (utf8 text) (eqb (get_or (drop (spaces text) text) 0 0) 0x7B) (sym ef ∙ not-true f h))

  module _ (h : not f ≡ false) where
    clean : utf8 text ≡ true
    clean = and_left (utf8 text) _ (sym ef ∙ not-false f h)

    brace : get_or (drop (spaces text) text) 0 0 ≡ 0x7B
    brace = eqb-true _ _ (and_right (utf8 text) _ (sym ef ∙ not-false f h))

    pub text_none : row_of 10 0x7B s ≡ 0 → members_of 10 (object_of text) ≡ []
    text_none z = go (value_width 11 (drop (spaces text) text)) refl
      where
        e₀ : row_of 10 0x7B (drop 1 (drop (spaces text) text)) ≡ 0
        e₀ = ap (row_of 10 0x7B) (sym es) ∙ z

        go : (k : ℕ) → value_width 11 (drop (spaces text) text) ≡ k → members_of 10 (object_of text) ≡ []
        go zero e = empty_bare e
        go (suc k) e =
            bare_text text (ap (members_of 10) bare_as ∙ members_front 10 (drop (spaces text) text) (value_width 11 (drop (spaces text) text)) k brace e (omega arith) ∙ no_row 10 (drop (spaces text) text) brace k e₀ e)

    module _ (x : Walk) (X : WalkIn s x) (g : Bool) (eg : g ≡ eqb (spaces (drop x.whole s)) (length (drop x.whole s))) where
      row_is : row_of 10 0x7B (drop 1 (drop (spaces text) text)) ≡ suc (x.whole - 1)
      row_is = let z = X.some in let p : x.whole ≡ suc (x.whole - 1) = omega arith in ap (row_of 10 0x7B) (sym es) ∙ sym X.whole_is ∙ p

      value_wide : value_width 11 (drop (spaces text) text) ≡ suc x.whole
      value_wide = row_object 10 (drop (spaces text) text) brace (x.whole - 1) row_is ∙ (let z = X.some in omega arith)

      last : drop x.whole s ≡ drop (spaces text + suc x.whole) text
      last =
          ap (drop x.whole) es ∙ ap (drop x.whole) (drop-drop 1 (spaces text) text) ∙ drop-drop x.whole (spaces text + 1) text
          ∙ ap (λ (j : ℕ). drop j text) (let q : spaces text + 1 + x.whole ≡ spaces text + suc x.whole = omega arith in q)

      width_is : spaces text + suc x.whole + spaces (drop x.whole s) ≡ padded (value_width 11) text
      unfolding item_width
      width_is =
          item_some 11 0x5B (spaces text) (suc x.whole) text (drop (spaces text) text) (lead_space 0x5B (spaces text) text (λ q. omega arith) refl) refl (sym value_wide)
          (spaces (drop x.whole s)) (drop x.whole s) (λ q. omega arith) last refl

      size_is : length text ≡ spaces text + suc x.whole + length (drop x.whole s)
      size_is =
          let a = value_le 11 (drop (spaces text) text) in
          let b : length (drop (spaces text) text) ≡ length text - spaces text = length-drop (spaces text) text in
          let c : length (drop x.whole s) ≡ length text - (spaces text + suc x.whole) = ap length last ∙ length-drop (spaces text + suc x.whole) text in
          omega (arith, value_wide)

      pub text_more : g ≡ false → members_of 10 (object_of text) ≡ []
      text_more q =
          let w : spaces (drop x.whole s) ≡ length (drop x.whole s) → ⊥ = eqb-false _ _ (sym eg ∙ q) in
          empty_text text (ap (λ (b : Bool). utf8 text && (b && eqb (get_or (bare 11 text) 0 0) 0x7B))
          (ne_eqb (padded (value_width 11) text) (length text) (λ (p : padded (value_width 11) text ≡ length text). w (omega (arith, p, width_is, size_is)))) ∙ sym (and_false (utf8 text)))

      pub text_done : g ≡ true → walked_of s x ≡ gathered walked_after none_walked (members_of 10 (object_of text))
      unfolding object_of
      text_done q =
          let w : spaces (drop x.whole s) ≡ length (drop x.whole s) = eqb-true _ _ (sym eg ∙ q) in
          let a : tests text ≡ true =
          ap (λ (b : Bool). b && (eqb (padded (value_width 11) text) (length text) && eqb (get_or (bare 11 text) 0 0) 0x7B)) clean
          ∙ ap (λ (b : Bool). b && eqb (get_or (bare 11 text) 0 0) 0x7B) (eq-eqb (padded (value_width 11) text) (length text) (omega (arith, w, width_is, size_is)))
          ∙ eq-eqb (get_or (bare 11 text) 0 0) 0x7B (first_byte x.whole value_wide ∙ brace) in
          let ms : members_of 10 (object_of text) ≡ members_in 10 s =
          ap (λ (b : Bool). members_of 10 (cond b (bare 11 text) [])) a ∙ ap (members_of 10) bare_as
          ∙ members_front 10 (drop (spaces text) text) (value_width 11 (drop (spaces text) text)) x.whole brace value_wide (omega (arith, value_wide)) ∙ row_members 10 (drop (spaces text) text) brace (x.whole - 1) row_is ∙ ap (members_in 10) (sym es) in
          X.walked_is ∙ ap (gathered walked_after none_walked) (sym ms)

no_object : fields_said (members_of 10 []) ≡ false
unfolding fields_said members_of row_items spaces field_of values_of is_plain
no_object = refl

-- what no members say
pub nothing_said : (ms : List Member) → ms ≡ [] → fields_said ms ≡ false
nothing_said ms e = ap fields_said (e ∙ sym no_members) ∙ no_object

pub object_says : (s : List ℕ) → fields_said (members_of 10 (object_of s)) ≡ is_map_text s
unfolding is_map_text object_of
object_says s = go (utf8 s) (eqb (padded (value_width 11) s) (length s)) (eqb (get_or (bare 11 s) 0 0) 0x7B)
  where
    go : (u w o : Bool) → fields_said (members_of 10 (cond (u && (w && o)) (bare 11 s) [])) ≡ (u && (w && (o && fields_said (members_of 10 (bare 11 s)))))
    go true true true = refl
    go true true false = no_object
    go true false o = no_object
    go false w o = no_object

-- ---- the tests in another order
and_behind : (f s p l : Bool) → ((f && s) && (p && l)) ≡ (p && (f && (l && s)))
and_behind false s true l = refl
and_behind false s false l = refl
and_behind true true true true = refl
and_behind true true true false = refl
and_behind true true false l = refl
and_behind true false true true = refl
and_behind true false true false = refl
and_behind true false false l = refl

and_order : (a b c f s p l : Bool) → (((a && (b && c)) && (f && s)) && (p && l)) ≡ (a && (b && (c && (p && (f && (l && s))))))
and_order true true true f s p l = and_behind f s p l
and_order true true false f s p l = refl
and_order true false c f s p l = refl
and_order false b c f s p l = refl

pub fields_all : (ms : List Member) → (((short timescale_name ms && (short rate_num_name ms && short rate_den_name ms)) && (short frames_name ms && shallow ms)) && (path_said (field_of input_name ms) && list_said (field_of segments_name ms))) ≡ fields_said ms
unfolding fields_said
fields_all ms = and_order (short timescale_name ms) (short rate_num_name ms) (short rate_den_name ms) (short frames_name ms) (shallow ms) (path_said (field_of input_name ms)) (list_said (field_of segments_name ms))
