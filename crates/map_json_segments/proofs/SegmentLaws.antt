-- Laws of one member, of a row of members, and of a segment, as the code walks them.
use mathlib.Core.Path.{◌≡◌, refl, sym, ap, subst, ◌∙◌}
use mathlib.Core.Bool.{Bool, true, false, ◌&&◌}
use mathlib.Core.List.{List, []}
use Prim.Native.Nat.{ℕ, zero, suc, ◌+◌, ◌-◌, ◌^◌, ◌≤◌, ◌<◌}
use native.Mathlib.Omega.{arith}
use borrow.Author.Tests.{ne_eqb}
use lib.Dec.{eqb}
use lib.ListN.{length, take, drop, get_or, length-drop}
use lib.Seq.{drop-drop, get_or-take}
use Rattle.spec_json.specs.declared.json.Item.{Item}
use Rattle.spec_json.specs.json.Item.{ItemOf}
use Rattle.spec_json.specs.json.Space.{spaces, joined}
use Rattle.spec_json.specs.json.Num.{is_plain}
use Rattle.spec_json.specs.json.Str.{string_bytes}
use Rattle.spec_json.specs.json.Value.{value_width}
use Rattle.spec_json.specs.json.Walk.{close_of, item_width, row_of, next_row}
use Rattle.spec_json.specs.json.Member.{Member, bare, member_of, member_all, members_of, values_of, field_of}
use Rattle.spec_json.proofs.json.ItemLaws.{lead_space, item_some, item_le, value_le, row_bad, row_end, row_stop, row_again, row_in, row_fits_1, row_fits_2, row_fits_3, row_over}
use Rattle.spec_json.proofs.json.MemberLaws.{items_end, items_step, next_comma, next_none}
use Rattle.spec_json.proofs.json.FrontRows.{within, members_front, bare_front, parts_member, row_object, row_members, no_row}
use Rattle.spec_map_json.specs.map_json_write.Names.{first_name, last_name, source_name, count_name, output_name, duration_name}
use Rattle.spec_map_json.specs.map_json_write.Reads.{short, long, segment_said}
use Rattle.map_json_segments.specs.declared.number.Six.{Six}
use Rattle.map_json_segments.specs.declared.number.Slots.{Slots}
use Rattle.map_json_segments.specs.declared.number.Found.{Found}
use Rattle.map_json_segments.specs.declared.number.Element.{Element}
use Rattle.std.proofs.Common.{Option, None, Some, MatchOption}
use Rattle.map_json_segments.specs.Slots.{no_slots, slots_after, all_given, numbers_in, gathered, slots_from}
use Rattle.map_json_segments.specs.Fields.{six_numbers, members_in, MemberIn, SlotsIn, SixOf, ItemIn}
use Rattle.map_json_segments.proofs.SlotLaws.{good_numbers, six_numbers_lem}

-- ---- a state gathered along a row: y is behind the member at the place `at`, of width k
module _ {S : Type 0} (after : S → Member → S) (d : ℕ) (x₀ x y : S) (s : List ℕ) (at k : ℕ) (inv : gathered after x (members_in d (drop at s)) ≡ gathered after x₀ (members_in d s))
    (ek : k ≡ item_width 0x7B (value_width d) (drop at s)) (z : k ≡ 0 → ⊥) (ey : y ≡ after x (member_of d (take k (drop at s)))) where
  step : gathered after y (members_in d (next_row k (drop at s))) ≡ gathered after x₀ (members_in d s)
  unfolding gathered
  step =
      ap (λ (w : S). gathered after w (members_in d (next_row k (drop at s)))) ey
      ∙ sym (ap (λ (is : List (List ℕ)). gathered after x (member_all d is)) (items_step d 0x7B k (drop at s) (next_row k (drop at s)) (take k (drop at s)) ek z refl refl)) ∙ inv

  pub gather_more : (b : ℕ) → b ≡ get_or (drop at s) k 0 → b ≡ 0x2C → gathered after y (members_in d (drop (at + k + 1) s)) ≡ gathered after x₀ (members_in d s)
  gather_more b eb h =
      ap (λ (u : List ℕ). gathered after y (members_in d u))
      (sym (drop-drop 1 (at + k) s) ∙ ap (drop 1) (sym (drop-drop k at s)) ∙ next_comma (drop at s) (drop k (drop at s)) (drop 1 (drop k (drop at s))) k b eb h refl refl) ∙ step

  pub gather_last : (b : ℕ) → b ≡ get_or (drop at s) k 0 → (b ≡ 0x2C → ⊥) → y ≡ gathered after x₀ (members_in d s)
  unfolding gathered
  gather_last b eb h =
      sym (ap (λ (is : List (List ℕ)). gathered after y (member_all d is)) (items_end d 0x7B [] (omega arith)))
      ∙ ap (λ (u : List ℕ). gathered after y (members_in d u)) (next_none (drop at s) [] k b eb h refl) ∙ step

-- ---- one member
pub member_some : (x y : Slots) (t a v key : List ℕ) (n : ℕ) (p : Item) → ItemOf 8 0x7B t p → (p.whole ≡ 0 → ⊥) → a ≡ drop p.lead t → v ≡ take p.width a → n ≡ spaces t → key ≡ drop n t
    → y ≡ slots_after x (record { name = string_bytes key; value = v }) → MemberIn x t (record { slots = y; width = p.whole })
member_some x y t a v key n p P z ea ev en ek ey =
    let a₁ : string_bytes key ≡ string_bytes (drop (spaces t) t) = ap string_bytes (ek ∙ ap (λ (j : ℕ). drop j t) en) in
    let b₁ : v ≡ take p.width (drop p.lead t) = ev ∙ ap (take p.width) ea in
    let m : ◌≡◌ {A = Member} (record { name = string_bytes key; value = v }) (record { name = string_bytes (drop (spaces t) t); value = take p.width (drop p.lead t) }) = λ i. record { name = a₁ i; value = b₁ i } in
    record { width_is = P.whole_is; some = z; slots_are = ey ∙ ap (slots_after x) (m ∙ sym (parts_member 8 t p P z)) }

-- ---- a row of members
pub closes : 0x7D ≡ close_of 0x7B
unfolding close_of
closes = refl

module _ (s t : List ℕ) (at : ℕ) (inv₁ : row_of 8 0x7B s ≡ joined at (row_of 8 0x7B (drop at s))) (dt : t ≡ drop at s) where
  pub in_none : item_width 0x7B (value_width 8) t ≡ 0 → row_of 8 0x7B s ≡ 0
  in_none z = sym (row_bad 8 0x7B at (item_width 0x7B (value_width 8) t) s t inv₁ dt refl z)

  module _ (x : Slots) (m : Found) (M : MemberIn x t m) where
    pub in_fits_1 : length s < 2 ^ 64 → at < length s → at + m.width < 2 ^ 64
    in_fits_1 l h = row_fits_1 8 0x7B at m.width s t inv₁ dt M.width_is l h

    module _ (b : ℕ) (eb : b ≡ get_or t m.width 0) where
      pub in_fits_2 : length s < 2 ^ 64 → at < length s → b ≡ 0x2C → at + m.width + 1 < 2 ^ 64
      in_fits_2 l h q = row_fits_2 8 0x7B at m.width s t inv₁ dt M.width_is b l h eb q

      pub in_fits_3 : length s < 2 ^ 64 → at < length s → b ≡ 0x7D → at + m.width + 1 < 2 ^ 64
      in_fits_3 l h q = row_fits_3 8 0x7B at m.width s t inv₁ dt M.width_is 0x7D b l h closes eb q

      pub in_most : at < length s → b ≡ 0x2C → at + m.width + 1 ≤ length s
      in_most h q = row_in 8 0x7B at m.width s t inv₁ dt M.width_is b h eb q

      pub in_stop : (b ≡ 0x7D → ⊥) → (b ≡ 0x2C → ⊥) → row_of 8 0x7B s ≡ 0
      in_stop p q = sym (row_stop 8 0x7B at m.width s t inv₁ dt M.width_is 0x7D b M.some closes eb p q)

      pub in_row : b ≡ 0x2C → row_of 8 0x7B s ≡ joined (at + m.width + 1) (row_of 8 0x7B (drop (at + m.width + 1) s))
      in_row q = row_again 8 0x7B at m.width s t inv₁ dt M.width_is 0x7D b M.some closes eb (λ p. absurd (omega arith)) q

      module _ (inv₂ : slots_from x (members_in 8 (drop at s)) ≡ slots_from no_slots (members_in 8 s)) where
        wide : m.width ≡ item_width 0x7B (value_width 8) (drop at s)
        wide = M.width_is ∙ ap (item_width 0x7B (value_width 8)) dt

        slots : m.slots ≡ slots_after x (member_of 8 (take m.width (drop at s)))
        slots = M.slots_are ∙ ap (λ (u : List ℕ). slots_after x (member_of 8 (take m.width u))) dt

        next : b ≡ get_or (drop at s) m.width 0
        next = eb ∙ ap (λ (u : List ℕ). get_or u m.width 0) dt

        pub in_end : b ≡ 0x7D → SlotsIn s (record { slots = m.slots; width = at + m.width + 1 })
        in_end h =
            record {
              width_is = row_end 8 0x7B at m.width s t inv₁ dt M.width_is 0x7D b M.some closes eb h;
              some = λ q. omega arith;
              slots_are = gather_last slots_after 8 no_slots x m.slots s at m.width inv₂ wide M.some slots b next (λ r. absurd (omega arith));
            }

        pub in_again : b ≡ 0x2C → slots_from m.slots (members_in 8 (drop (at + m.width + 1) s)) ≡ slots_from no_slots (members_in 8 s)
        in_again h = gather_more slots_after 8 no_slots x m.slots s at m.width inv₂ wide M.some slots b next h

pub in_over : (s : List ℕ) (at : ℕ) → row_of 8 0x7B s ≡ joined at (row_of 8 0x7B (drop at s)) → length s ≤ at → row_of 8 0x7B s ≡ 0
in_over s at inv h = sym (row_over 8 0x7B at s inv h)

pub in_start : (s : List ℕ) (x : Slots) → x ≡ no_slots → slots_from x (members_in 8 (drop 0 s)) ≡ slots_from no_slots (members_in 8 s)
in_start s x e = ap (λ (y : Slots). slots_from y (members_in 8 s)) e

-- ---- a segment
abbrev said_by_lem : Bool → List Member → Bool
said_by_lem o ms = o && (short first_name ms && (short last_name ms && (long source_name ms && (short count_name ms && (long output_name ms && long duration_name ms)))))

said_by : (v : List ℕ) → segment_said v ≡ said_by_lem (eqb (get_or v 0 0) 0x7B) (members_of 8 v)
unfolding segment_said
said_by v = refl

said_empty : (o : Bool) → said_by_lem o [] ≡ false
unfolding field_of values_of is_plain
said_empty true = refl
said_empty false = refl

module _ (t u : List ℕ) (n : ℕ) (en : n ≡ spaces t) (eu : u ≡ drop n t) where
  behind : drop (spaces t) t ≡ u
  behind = ap (λ (j : ℕ). drop j t) (sym en) ∙ sym eu

  -- the value of an item, and that it is one
  module _ (k : ℕ) (e : item_width 0x5B (value_width 9) t ≡ suc k) where
    bare_as : bare 9 (take (suc k) t) ≡ take (value_width 9 u) u
    unfolding item_width bare
    bare_as = bare_front 9 t (suc k) k e (omega arith) ∙ ap (λ (x : List ℕ). take (value_width 9 x) x) behind

    value_less : ℕ
    unfolding item_width
    value_less = (within (value_width 9) t k e).less

    value_is : value_width 9 u ≡ suc value_less
    unfolding item_width value_less
    value_is = ap (value_width 9) (sym behind) ∙ (within (value_width 9) t k e).is

    first_byte : get_or (take (value_width 9 u) u) 0 0 ≡ get_or u 0 0
    first_byte = get_or-take (value_width 9 u) u 0 0 (omega (arith, value_is))

  -- an item that is no segment
  module _ (x : Element) (e : x.six ≡ None) (ew : x.width ≡ item_width 0x5B (value_width 9) t) (z : x.width ≡ 0 → ⊥) where
    bad : ((k : ℕ) → item_width 0x5B (value_width 9) t ≡ suc k → segment_said (bare 9 (take (suc k) t)) ≡ false) → ItemIn t x
    bad f = record { width_is = ew; some = z; six_are = subst (SixOf (bare 9 (take x.width t))) (sym e) (go x.width refl) }
      where
        go : (j : ℕ) → x.width ≡ j → segment_said (bare 9 (take x.width t)) ≡ false
        go zero q = absurd (z q)
        go (suc k) q = ap (λ (j : ℕ). segment_said (bare 9 (take j t))) q ∙ f k (sym ew ∙ q)

    pub segment_other : (b : ℕ) → b ≡ get_or u 0 0 → (b ≡ 0x7B → ⊥) → ItemIn t x
    segment_other b eb h =
        bad (λ k q. ap segment_said (bare_as k q) ∙ said_by (take (value_width 9 u) u)
        ∙ ap (λ (o : Bool). said_by_lem o (members_of 8 (take (value_width 9 u) u))) (ne_eqb _ 0x7B (λ p. h (eb ∙ sym (first_byte k q) ∙ p))))

    pub segment_none : (b : ℕ) (s : List ℕ) → b ≡ get_or u 0 0 → b ≡ 0x7B → s ≡ drop 1 u → row_of 8 0x7B s ≡ 0 → ItemIn t x
    segment_none b s eb h es row =
        bad (λ k q. ap segment_said (bare_as k q) ∙ said_by (take (value_width 9 u) u)
        ∙ ap (said_by_lem (eqb (get_or (take (value_width 9 u) u) 0 0) 0x7B))
        (members_front 8 u (value_width 9 u) (value_less k q) brace (value_is k q) (omega (arith, value_is k q)) ∙ no_row 8 u brace (value_less k q) (ap (row_of 8 0x7B) (sym es) ∙ row) (value_is k q))
        ∙ said_empty (eqb (get_or (take (value_width 9 u) u) 0 0) 0x7B))
      where
        brace : get_or u 0 0 ≡ 0x7B
        brace = sym eb ∙ h

  module _ (r : Option Element) (R : MatchOption r (item_width 0x5B (value_width 9) t ≡ 0) (λ x. (x.six ≡ None) × (x.width ≡ item_width 0x5B (value_width 9) t) × (x.width ≡ 0 → ⊥))) where
    pub other_byte : (b : ℕ) → b ≡ get_or u 0 0 → (b ≡ 0x7B → ⊥) → MatchOption r (item_width 0x5B (value_width 9) t ≡ 0) (λ x. ItemIn t x)
    other_byte b eb h = go r R
      where
        go : (r : Option Element) → MatchOption r (item_width 0x5B (value_width 9) t ≡ 0) (λ x. (x.six ≡ None) × (x.width ≡ item_width 0x5B (value_width 9) t) × (x.width ≡ 0 → ⊥)) → MatchOption r (item_width 0x5B (value_width 9) t ≡ 0) (λ x. ItemIn t x)
        go None R = R
        go (Some x) (e, w, z) = segment_other x e w z b eb h

    pub other_row : (b : ℕ) (s : List ℕ) → b ≡ get_or u 0 0 → b ≡ 0x7B → s ≡ drop 1 u → row_of 8 0x7B s ≡ 0 → MatchOption r (item_width 0x5B (value_width 9) t ≡ 0) (λ x. ItemIn t x)
    other_row b s eb h es row = go r R
      where
        go : (r : Option Element) → MatchOption r (item_width 0x5B (value_width 9) t ≡ 0) (λ x. (x.six ≡ None) × (x.width ≡ item_width 0x5B (value_width 9) t) × (x.width ≡ 0 → ⊥)) → MatchOption r (item_width 0x5B (value_width 9) t ≡ 0) (λ x. ItemIn t x)
        go None R = R
        go (Some x) (e, w, z) = segment_none x e w z b s eb h es row

  -- a row of members
  module _ (b : ℕ) (s : List ℕ) (x : Found) (eb : b ≡ get_or u 0 0) (h : b ≡ 0x7B) (es : s ≡ drop 1 u) (X : SlotsIn s x) where
    brace : get_or u 0 0 ≡ 0x7B
    brace = sym eb ∙ h

    pred : x.width ≡ suc (x.width - 1)
    pred = let z = X.some in omega arith

    row_is : row_of 8 0x7B (drop 1 u) ≡ suc (x.width - 1)
    row_is = ap (row_of 8 0x7B) (sym es) ∙ sym X.width_is ∙ pred

    value_wide : value_width 9 u ≡ x.width + 1
    value_wide = row_object 8 u brace (x.width - 1) row_is ∙ (let z = X.some in omega arith)

    pub segment_fits_1 : length t < 2 ^ 64 → n + x.width < 2 ^ 64
    segment_fits_1 l = let a = value_le 9 u in let c : length u ≡ length t - n = ap length eu ∙ length-drop n t in omega (arith, value_wide)

    pub segment_fits_2 : length t < 2 ^ 64 → n + x.width + 1 < 2 ^ 64
    segment_fits_2 l = let a = value_le 9 u in let c : length u ≡ length t - n = ap length eu ∙ length-drop n t in omega (arith, value_wide)

    module _ (y : List ℕ) (k : ℕ) (ey : y ≡ drop (n + x.width + 1) t) (ek : k ≡ spaces y) where
      sum : n + x.width + 1 ≡ n + (x.width + 1)
      sum = omega arith

      whole : n + x.width + 1 + k ≡ item_width 0x5B (value_width 9) t
      whole =
          ap (λ (j : ℕ). j + k) sum
          ∙ item_some 9 0x5B n (x.width + 1) t u (lead_space 0x5B n t (λ q. omega arith) en) eu (sym value_wide) k y (λ q. omega arith) (ey ∙ ap (λ (j : ℕ). drop j t) sum) ek

      pub segment_fits_3 : length t < 2 ^ 64 → n + x.width + 1 + k < 2 ^ 64
      segment_fits_3 l = let a = item_le 0x5B 9 t in omega (arith, whole)

      pub segment_some : (r : Option Six) → MatchOption r (all_given x.slots ≡ false) (λ i. (all_given x.slots ≡ true) × (i ≡ numbers_in x.slots)) → ItemIn t (record { six = r; width = n + x.width + 1 + k })
      segment_some r R = record { width_is = whole; some = λ q. omega arith; six_are = subst (λ (j : List ℕ). SixOf j r) (sym ev) (go r R) }
        where
          e : item_width 0x5B (value_width 9) t ≡ suc (n + x.width + k)
          e = sym whole ∙ omega arith

          v : List ℕ
          v = take (value_width 9 u) u

          ev : bare 9 (take (n + x.width + 1 + k) t) ≡ v
          ev = ap (λ (j : ℕ). bare 9 (take j t)) (whole ∙ e) ∙ bare_as (n + x.width + k) e

          xs : x.slots ≡ slots_from no_slots (members_of 8 v)
          xs =
              X.slots_are ∙ ap (λ (j : List ℕ). slots_from no_slots (members_in 8 j)) es
              ∙ ap (slots_from no_slots) (sym (members_front 8 u (value_width 9 u) (value_less (n + x.width + k) e) brace (value_is (n + x.width + k) e) (omega (arith, value_is (n + x.width + k) e)) ∙ row_members 8 u brace (x.width - 1) row_is))

          g : all_given x.slots ≡ segment_said v
          g = good_numbers v x.slots xs (first_byte (n + x.width + k) e ∙ brace)

          go : (r : Option Six) → MatchOption r (all_given x.slots ≡ false) (λ i. (all_given x.slots ≡ true) × (i ≡ numbers_in x.slots)) → SixOf v r
          go None R = sym g ∙ R
          go (Some i) R = (sym g ∙ R.0, ap six_numbers R.1 ∙ six_numbers_lem v x.slots xs (sym g ∙ R.0))
