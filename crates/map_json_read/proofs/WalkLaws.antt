-- Laws of the members of a map's text, gathered in one walk.
use mathlib.Core.Path.{◌≡◌, refl, sym, ap, subst, ◌∙◌}
use mathlib.Core.Bool.{Bool, true, false, ◌&&◌, ◌||◌, not, cond}
use mathlib.Core.List.{List, [], ◌∷◌}
use Prim.Native.Nat.{ℕ, ◌+◌, ◌-◌, ◌^◌, ◌≤◌, ◌<◌}
use native.Mathlib.Omega.{arith}
use borrow.Author.Tests.{leb-true, le-ltb}
use lib.Dec.{eqb}
use lib.ListN.{length, take, drop, get_or, length-drop}
use lib.Seq.{drop-drop}
use Rattle.spec_base.specs.base.Limits.{most_frame}
use Rattle.spec_base.proofs.base.Laws.{no!, and_assoc, and_left, and_right}
use Rattle.spec_base.specs.base.Put.{put}
use Rattle.spec_base.proofs.base.PutLaws.{placed_yes, length_yes}
use Rattle.spec_text.specs.pattern.Find.{equals}
use Rattle.spec_map.specs.segment.Segment.{flat_of}
use Rattle.spec_json.specs.declared.json.Item.{Item}
use Rattle.spec_json.specs.json.Item.{ItemOf}
use Rattle.spec_json.specs.json.Space.{spaces, joined}
use Rattle.spec_json.specs.json.Str.{string_bytes}
use Rattle.spec_json.specs.json.Value.{value_width, is_value}
use Rattle.spec_json.specs.json.Walk.{item_width, row_of}
use Rattle.spec_json.specs.json.Member.{Member, elements_of, member_of, members_of, values_of, single, field_of}
use Rattle.spec_json.proofs.json.ItemLaws.{parts_in, item_le, row_bad, row_end, row_stop, row_again, row_in, row_fits_1, row_fits_2, row_fits_3, row_over}
use Rattle.spec_json.proofs.json.FrontRows.{parts_member}
use Rattle.spec_map_json.specs.map_json_write.Names.{timescale_name, rate_num_name, rate_den_name, input_name, frames_name, segments_name, most_path}
use Rattle.spec_map_json.specs.map_json_write.Reads.{is_known, short, shallow, path_said, list_said, fields_said, segments_from}
use Rattle.map_json_read.specs.declared.fields.Heads.{Heads}
use Rattle.map_json_read.specs.declared.fields.HeadSlots.{HeadSlots}
use Rattle.map_json_read.specs.declared.reading.Parts.{Parts}
use Rattle.map_json_segments.specs.declared.number.Slot.{Slot}
use Rattle.map_json_read.specs.declared.fields.Head.{Head}
use Rattle.map_json_read.specs.declared.fields.Head.TheVariants.{Timescale, RateNum, RateDen, Input, Frames, Segments}
use Rattle.map_json_read.specs.declared.walk.Span.{Span}
use Rattle.map_json_read.specs.declared.walk.Walk.{Walk}
use Rattle.std.proofs.Common.{Option, None, Some, MatchOption}
use Rattle.map_json_segments.specs.Slots.{given, slot_with, slot_after, gathered}
use Rattle.map_json_read.specs.Slots.{head_named, head_number, no_heads, seen_after, kept_after, heads_after, heads_by, Walked, none_walked, walked_after, word_of, heads_good, heads_in}
use Rattle.map_json_segments.specs.Fields.{field_is, field_in, members_in}
use Rattle.map_json_read.specs.Walk.{no_span, no_walk, kept_span, walk_by, span_in, walked_of, HeadIn, WalkIn}
use Rattle.map_json_read.specs.Steps.{object_of, HeadsOf, all_said, Gathered, PartsOf}
use Rattle.map_json_segments.proofs.NumberLaws.{field_most}
use Rattle.map_json_read.proofs.HeadLaws.{head_1, head_2, head_3, head_4, head_5, head_6, head_known}
use Rattle.map_json_segments.proofs.SlotLaws.{by_number, digits_of, slot_field, part, good_of, value_of}
use Rattle.map_json_segments.proofs.SegmentLaws.{closes, gather_more, gather_last}
use Rattle.map_json_read.proofs.PartLaws.{fields_all}

-- ---- the numbers of a map
pub heads_by_all : (x : HeadSlots) (n : ℕ) (v : List ℕ) (a b c d : Slot) (k l g : Bool)
    → a ≡ cond (eqb n 1) (slot_with most_frame x.timescale v) x.timescale → b ≡ cond (eqb n 2) (slot_with most_frame x.rate_num v) x.rate_num
    → c ≡ cond (eqb n 3) (slot_with most_frame x.rate_den v) x.rate_den → d ≡ cond (eqb n 5) (slot_with most_frame x.frames v) x.frames
    → k ≡ cond (eqb n 4) true x.path → l ≡ cond (eqb n 6) true x.list → g ≡ (x.shallow && (not (eqb n 0) || is_value 8 v))
    → ◌≡◌ {A = HeadSlots} (record { timescale = a; rate_num = b; rate_den = c; frames = d; path = k; list = l; shallow = g }) (heads_by n x v)
unfolding heads_by
heads_by_all x n v a b c d k l g ea eb ec ed ek el eg = λ i. record { timescale = ea i; rate_num = eb i; rate_den = ec i; frames = ed i; path = ek i; list = el i; shallow = eg i }

-- the field that a key names
named : (n : Option Head) (h k : Head) → n ≡ Some h → h ≡ k → n ≡ Some k
named n h k e f = e ∙ ap Some f

pub heads_at : {n : Option Head} {h k : Head} {y : HeadSlots} (x : HeadSlots) (v : List ℕ) → n ≡ Some h → h ≡ k → y ≡ heads_by (head_number (Some k)) x v → y ≡ heads_by (head_number n) x v
heads_at {n} {h} {k} {y} x v e f p = p ∙ ap (λ (j : Option Head). heads_by (head_number j) x v) (sym (named n h k e f))

heads_by_lem : (x : HeadSlots) (m : Member) → heads_by (head_named m.name) x m.value ≡ heads_after x m
unfolding heads_by heads_after seen_after
heads_by_lem x m =
    let n = head_named m.name in
    let a = by_number most_frame n 1 x.timescale timescale_name m (head_1 m.name) in
    let b = by_number most_frame n 2 x.rate_num rate_num_name m (head_2 m.name) in
    let c = by_number most_frame n 3 x.rate_den rate_den_name m (head_3 m.name) in
    let d = by_number most_frame n 5 x.frames frames_name m (head_5 m.name) in
    let k : cond (eqb n 4) true x.path ≡ cond (equals input_name m.name) true x.path = ap (λ (t : Bool). cond t true x.path) (head_4 m.name) in
    let l : cond (eqb n 6) true x.list ≡ cond (equals segments_name m.name) true x.list = ap (λ (t : Bool). cond t true x.list) (head_6 m.name) in
    let f : (x.shallow && (not (eqb n 0) || is_value 8 m.value)) ≡ (x.shallow && (is_known m.name || is_value 8 m.value)) = ap (λ (t : Bool). x.shallow && (t || is_value 8 m.value)) (head_known m.name) in
    λ i. record { timescale = a i; rate_num = b i; rate_den = c i; frames = d i; path = k i; list = l i; shallow = f i }

-- ---- where a value stands
pub no_walk_all : (h : HeadSlots) → h ≡ no_heads → ◌≡◌ {A = Walk} (record { heads = h; path = no_span; list = no_span; whole = 0 }) no_walk
no_walk_all h e = λ i. record { heads = e i; path = no_span; list = no_span; whole = 0 }

-- a field that is neither the path nor the list
other_4 : (k : Head) → (k ≡ Input → ⊥) → eqb (head_number (Some k)) 4 ≡ false
other_4 Timescale h = refl
other_4 RateNum h = refl
other_4 RateDen h = refl
other_4 Input h = absurd (h refl)
other_4 Frames h = refl
other_4 Segments h = refl

other_6 : (k : Head) → (k ≡ Segments → ⊥) → eqb (head_number (Some k)) 6 ≡ false
other_6 Timescale h = refl
other_6 RateNum h = refl
other_6 RateDen h = refl
other_6 Input h = refl
other_6 Frames h = refl
other_6 Segments h = absurd (h refl)

module _ (x : Walk) (v : List ℕ) (n : Option Head) (q : Span) (whole : ℕ) (h : HeadSlots) (eh : h ≡ heads_by (head_number n) x.heads v) where
  pub walk_path : (k : Head) (p : Span) → n ≡ Some k → k ≡ Input → p ≡ kept_span x.heads.path q → ◌≡◌ {A = Walk} (record { heads = h; path = p; list = x.list; whole = whole }) (walk_by (head_number n) x v q whole)
  unfolding walk_by
  walk_path k p d f ep =
      let e : n ≡ Some Input = named n k Input d f in
      let a : x.list ≡ cond (eqb (head_number n) 6) (kept_span x.heads.list q) x.list = ap (λ (k : Option Head). cond (eqb (head_number k) 6) (kept_span x.heads.list q) x.list) (sym e) in
      let b : p ≡ cond (eqb (head_number n) 4) (kept_span x.heads.path q) x.path = ep ∙ ap (λ (k : Option Head). cond (eqb (head_number k) 4) (kept_span x.heads.path q) x.path) (sym e) in
      λ i. record { heads = eh i; path = b i; list = a i; whole = whole }

  pub walk_list : (k : Head) (p : Span) → n ≡ Some k → k ≡ Segments → p ≡ kept_span x.heads.list q → ◌≡◌ {A = Walk} (record { heads = h; path = x.path; list = p; whole = whole }) (walk_by (head_number n) x v q whole)
  unfolding walk_by
  walk_list k p d f ep =
      let e : n ≡ Some Segments = named n k Segments d f in
      let a : p ≡ cond (eqb (head_number n) 6) (kept_span x.heads.list q) x.list = ep ∙ ap (λ (k : Option Head). cond (eqb (head_number k) 6) (kept_span x.heads.list q) x.list) (sym e) in
      let b : x.path ≡ cond (eqb (head_number n) 4) (kept_span x.heads.path q) x.path = ap (λ (k : Option Head). cond (eqb (head_number k) 4) (kept_span x.heads.path q) x.path) (sym e) in
      λ i. record { heads = eh i; path = b i; list = a i; whole = whole }

  pub walk_other : (k : Head) → n ≡ Some k → (k ≡ Input → ⊥) → (k ≡ Segments → ⊥) → ◌≡◌ {A = Walk} (record { heads = h; path = x.path; list = x.list; whole = whole }) (walk_by (head_number n) x v q whole)
  unfolding walk_by
  walk_other k e y z =
      let a : x.list ≡ cond (eqb (head_number n) 6) (kept_span x.heads.list q) x.list = no! _ (ap (λ (j : Option Head). eqb (head_number j) 6) e ∙ other_6 k z) refl in
      let b : x.path ≡ cond (eqb (head_number n) 4) (kept_span x.heads.path q) x.path = no! _ (ap (λ (j : Option Head). eqb (head_number j) 4) e ∙ other_4 k y) refl in
      λ i. record { heads = eh i; path = b i; list = a i; whole = whole }

  pub walk_none_named : n ≡ None → ◌≡◌ {A = Walk} (record { heads = h; path = x.path; list = x.list; whole = whole }) (walk_by (head_number n) x v q whole)
  unfolding walk_by
  walk_none_named e =
      let a : x.list ≡ cond (eqb (head_number n) 6) (kept_span x.heads.list q) x.list = no! _ (ap (λ (j : Option Head). eqb (head_number j) 6) e) refl in
      let b : x.path ≡ cond (eqb (head_number n) 4) (kept_span x.heads.path q) x.path = no! _ (ap (λ (j : Option Head). eqb (head_number j) 4) e) refl in
      λ i. record { heads = eh i; path = b i; list = a i; whole = whole }

-- a place and a width, and the value there
placed_value : (s v name key : List ℕ) (n k : ℕ) (seen : Bool) (q old : Span) → v ≡ span_in s q → eqb n k ≡ equals name key
    → span_in s (cond (eqb n k) (kept_span seen q) old) ≡ kept_after name seen (span_in s old) (record { name = key; value = v })
unfolding kept_after
placed_value s v name key n k seen q old ev e = ap (λ (t : Bool). span_in s (cond t (kept_span seen q) old)) e ∙ go (equals name key) seen
  where
    go : (x y : Bool) → span_in s (cond x (cond y no_span q) old) ≡ cond x (cond y [] v) (span_in s old)
    go true true = refl
    go true false = sym ev
    go false y = refl

walk_after : (s v key : List ℕ) (x : Walk) (n : ℕ) (q : Span) (whole : ℕ) → v ≡ span_in s q → n ≡ head_named key → walked_of s (walk_by n x v q whole) ≡ walked_after (walked_of s x) (record { name = key; value = v })
unfolding walk_by walked_after
walk_after s v key x n q whole ev en =
    let m : Member = record { name = key; value = v } in
    let h : heads_by n x.heads v ≡ heads_after x.heads m = ap (λ (k : ℕ). heads_by k x.heads v) en ∙ heads_by_lem x.heads m in
    let p = placed_value s v input_name key n 4 x.heads.path q x.path ev (ap (λ (k : ℕ). eqb k 4) en ∙ head_4 key) in
    let l = placed_value s v segments_name key n 6 x.heads.list q x.list ev (ap (λ (k : ℕ). eqb k 6) en ∙ head_6 key) in
    λ i. record { heads = h i; path = p i; list = l i }

-- ---- one member
pub head_none : (s t : List ℕ) (at : ℕ) (p : Item) → t ≡ drop at s → ItemOf 10 0x7B t p → p.whole ≡ 0 → item_width 0x7B (value_width 10) (drop at s) ≡ 0
head_none s t at p dt P z = sym (sym z ∙ P.whole_is ∙ ap (item_width 0x7B (value_width 10)) dt)

module _ (x : Walk) (s t : List ℕ) (at : ℕ) (p : Item) (dt : t ≡ drop at s) (P : ItemOf 10 0x7B t p) (z : p.whole ≡ 0 → ⊥) where
  pub head_fits : length s < 2 ^ 64 → at + p.lead < 2 ^ 64
  head_fits l =
      let a = parts_in 10 0x7B t p P in
      let b = item_le 0x7B 10 t in
      let c : length t ≡ length s - at = ap length dt ∙ length-drop at s in
      omega (arith, P.whole_is)

  pub head_some : (a v key : List ℕ) (m n : ℕ) (r : Walk) → a ≡ drop p.lead t → v ≡ take p.width a → m ≡ spaces t → key ≡ drop m t → n ≡ head_named (string_bytes key)
      → r ≡ walk_by n x v (record { at = at + p.lead; len = p.width }) p.whole → HeadIn x s at r
  unfolding walk_by
  head_some a v key m n r ea ev em ek en er =
      let v₁ : v ≡ take p.width (drop p.lead t) = ev ∙ ap (take p.width) ea in
      let v₂ : v ≡ take p.width (drop (at + p.lead) s) = v₁ ∙ ap (take p.width) (ap (drop p.lead) dt ∙ drop-drop p.lead at s) in
      let k₁ : string_bytes key ≡ string_bytes (drop (spaces t) t) = ap string_bytes (ek ∙ ap (λ (j : ℕ). drop j t) em) in
      let m₁ : ◌≡◌ {A = Member} (record { name = string_bytes key; value = v }) (record { name = string_bytes (drop (spaces t) t); value = take p.width (drop p.lead t) }) = λ i. record { name = k₁ i; value = v₁ i } in
      subst (HeadIn x s at) (sym er)
      (record {
        whole_is = P.whole_is ∙ ap (item_width 0x7B (value_width 10)) dt;
        some = z;
        walked_is = walk_after s v (string_bytes key) x n (record { at = at + p.lead; len = p.width }) p.whole v₂ en
            ∙ ap (walked_after (walked_of s x)) (m₁ ∙ sym (parts_member 10 t p P z) ∙ ap (λ (u : List ℕ). member_of 10 (take p.whole u)) dt);
      })

-- ---- all members of a row
pub walk_none : (s : List ℕ) (at : ℕ) → row_of 10 0x7B s ≡ joined at (row_of 10 0x7B (drop at s)) → item_width 0x7B (value_width 10) (drop at s) ≡ 0 → row_of 10 0x7B s ≡ 0
walk_none s at inv₁ z = sym (row_bad 10 0x7B at (item_width 0x7B (value_width 10) (drop at s)) s (drop at s) inv₁ refl refl z)

module _ (s t : List ℕ) (at : ℕ) (x m : Walk) (inv₁ : row_of 10 0x7B s ≡ joined at (row_of 10 0x7B (drop at s))) (M : HeadIn x s at m) where
  pub walk_fits_1 : length s < 2 ^ 64 → at < length s → at + m.whole < 2 ^ 64
  walk_fits_1 l h = row_fits_1 10 0x7B at m.whole s (drop at s) inv₁ refl M.whole_is l h

  module _ (b : ℕ) (dt : t ≡ drop at s) (eb : b ≡ get_or t m.whole 0) where
    next : b ≡ get_or (drop at s) m.whole 0
    next = eb ∙ ap (λ (u : List ℕ). get_or u m.whole 0) dt

    pub walk_fits_2 : length s < 2 ^ 64 → at < length s → b ≡ 0x2C → at + m.whole + 1 < 2 ^ 64
    walk_fits_2 l h q = row_fits_2 10 0x7B at m.whole s (drop at s) inv₁ refl M.whole_is b l h next q

    pub walk_fits_3 : length s < 2 ^ 64 → at < length s → b ≡ 0x7D → at + m.whole + 1 < 2 ^ 64
    walk_fits_3 l h q = row_fits_3 10 0x7B at m.whole s (drop at s) inv₁ refl M.whole_is 0x7D b l h closes next q

    pub walk_most : at < length s → b ≡ 0x2C → at + m.whole + 1 ≤ length s
    walk_most h q = row_in 10 0x7B at m.whole s (drop at s) inv₁ refl M.whole_is b h next q

    pub walk_stop : (b ≡ 0x7D → ⊥) → (b ≡ 0x2C → ⊥) → row_of 10 0x7B s ≡ 0
    walk_stop p q = sym (row_stop 10 0x7B at m.whole s (drop at s) inv₁ refl M.whole_is 0x7D b M.some closes next p q)

    pub walk_row : b ≡ 0x2C → row_of 10 0x7B s ≡ joined (at + m.whole + 1) (row_of 10 0x7B (drop (at + m.whole + 1) s))
    walk_row q = row_again 10 0x7B at m.whole s (drop at s) inv₁ refl M.whole_is 0x7D b M.some closes next (λ p. absurd (omega arith)) q

    module _ (inv₂ : gathered walked_after (walked_of s x) (members_in 10 (drop at s)) ≡ gathered walked_after none_walked (members_in 10 s)) where
      pub walk_end : b ≡ 0x7D → WalkIn s (record { heads = m.heads; path = m.path; list = m.list; whole = at + m.whole + 1 })
      walk_end h =
          record {
            whole_is = row_end 10 0x7B at m.whole s (drop at s) inv₁ refl M.whole_is 0x7D b M.some closes next h;
            some = λ q. omega arith;
            walked_is = gather_last walked_after 10 none_walked (walked_of s x) (walked_of s m) s at m.whole inv₂ M.whole_is M.some M.walked_is b next (λ r. absurd (omega arith));
          }

      pub walk_again : b ≡ 0x2C → gathered walked_after (walked_of s m) (members_in 10 (drop (at + m.whole + 1) s)) ≡ gathered walked_after none_walked (members_in 10 s)
      walk_again h = gather_more walked_after 10 none_walked (walked_of s x) (walked_of s m) s at m.whole inv₂ M.whole_is M.some M.walked_is b next h

pub walk_over : (s : List ℕ) (at : ℕ) → row_of 10 0x7B s ≡ joined at (row_of 10 0x7B (drop at s)) → length s ≤ at → row_of 10 0x7B s ≡ 0
walk_over s at inv h = sym (row_over 10 0x7B at s inv h)

pub walk_start : (s : List ℕ) (x : Walk) → x ≡ no_walk → gathered walked_after (walked_of s x) (members_in 10 (drop 0 s)) ≡ gathered walked_after none_walked (members_in 10 s)
walk_start s x e = ap (λ (y : Walk). gathered walked_after (walked_of s y) (members_in 10 s)) e

-- ---- a value kept
record Kept : Type 0 where
  seen : Bool
  value : List ℕ

abbrev keep_after : (n : List ℕ) → Kept → Member → Kept
keep_after n k m = record { seen = seen_after n k.seen m; value = kept_after n k.seen k.value m }

abbrev nothing : Kept
nothing = record { seen = false; value = [] }

abbrev kept_from : Kept → List (List ℕ) → Kept
kept_from k [] = k
kept_from k (v ∷ vs) = kept_from (record { seen = true; value = cond k.seen [] v }) vs

kept_values : (n : List ℕ) (k : Kept) (ms : List Member) → gathered (keep_after n) k ms ≡ kept_from k (values_of n ms)
unfolding gathered values_of seen_after kept_after
kept_values n k [] = refl
kept_values n k (m ∷ ms) = go (equals n m.name) (λ y. kept_values n y ms)
  where
    go : (t : Bool) → ((y : Kept) → gathered (keep_after n) y ms ≡ kept_from y (values_of n ms))
        → gathered (keep_after n) (record { seen = cond t true k.seen; value = cond t (cond k.seen [] m.value) k.value }) ms ≡ kept_from k (cond t (m.value ∷ values_of n ms) (values_of n ms))
    go true ih = ih (record { seen = true; value = cond k.seen [] m.value })
    go false ih = ih k

still_empty : (vs : List (List ℕ)) → (kept_from (record { seen = true; value = [] }) vs).value ≡ []
still_empty [] = refl
still_empty (v ∷ vs) = still_empty vs

kept_single : (vs : List (List ℕ)) → (kept_from nothing vs).value ≡ single vs
kept_single [] = refl
kept_single (v ∷ []) = refl
kept_single (v ∷ w ∷ vs) = still_empty vs

kept_field : (n : List ℕ) (ms : List Member) → (gathered (keep_after n) nothing ms).value ≡ field_of n ms
unfolding field_of
kept_field n ms = ap (λ (k : Kept). k.value) (kept_values n nothing ms) ∙ kept_single (values_of n ms)

pub and_true : (x : Bool) → x ≡ (x && true)
and_true true = refl
and_true false = refl

pub and_off : (x y : Bool) → x ≡ false → x ≡ (x && y)
and_off x y e = e ∙ ap (λ (t : Bool). t && y) (sym e)

five : (a b c d s A B C D S : Bool) → a ≡ A → b ≡ B → c ≡ C → d ≡ D → s ≡ S → ((a && (b && c)) && (d && s)) ≡ ((A && (B && C)) && (D && S))
five a b c d s A B C D S ea eb ec ed es = cc

shallow_part : (x : HeadSlots) (ms : List Member) → (gathered heads_after x ms).shallow ≡ (x.shallow && shallow ms)
unfolding gathered heads_after shallow
shallow_part x [] = and_true x.shallow
shallow_part x (m ∷ ms) = shallow_part (heads_after x m) ms ∙ and_assoc x.shallow (is_known m.name || is_value 8 m.value) (shallow ms)

word_small : (f : List ℕ) (v : ℕ) → v ≡ (field_is most_frame f).value → word_of v ≡ (field_is most_frame f).value
unfolding word_of
word_small f v e = let h = field_most most_frame f in sym (no! _ (le-ltb most_frame v (omega arith)) (sym e))

module _ (ms : List Member) (x : HeadSlots) (p l : List ℕ) (w : record { heads = x; path = p; list = l } ≡ gathered walked_after none_walked ms) where
  e : x ≡ gathered heads_after no_heads ms
  unfolding walked_after
  e = ap (λ (y : Walked). y.heads) w ∙ part walked_after heads_after (λ (y : Walked). y.heads) (λ y m. refl) none_walked ms

  pub path_walked : p ≡ field_of input_name ms
  unfolding walked_after heads_after
  path_walked =
      ap (λ (y : Walked). y.path) w
      ∙ ap (λ (k : Kept). k.value) (part walked_after (keep_after input_name) (λ (y : Walked). record { seen = y.heads.path; value = y.path }) (λ y m. refl) none_walked ms)
      ∙ kept_field input_name ms

  pub list_walked : l ≡ field_of segments_name ms
  unfolding walked_after heads_after
  list_walked =
      ap (λ (y : Walked). y.list) w
      ∙ ap (λ (k : Kept). k.value) (part walked_after (keep_after segments_name) (λ (y : Walked). record { seen = y.heads.list; value = y.list }) (λ y m. refl) none_walked ms)
      ∙ kept_field segments_name ms

  scale_slot : digits_of x.timescale ≡ field_in timescale_name most_frame ms
  unfolding heads_after
  scale_slot = ap (λ (y : HeadSlots). digits_of y.timescale) e ∙ ap digits_of (part heads_after (slot_after timescale_name most_frame) (λ (y : HeadSlots). y.timescale) (λ y m. refl) no_heads ms) ∙ slot_field timescale_name most_frame ms

  scale_word : word_of (given x.timescale) ≡ (field_in timescale_name most_frame ms).value
  scale_word = word_small (field_of timescale_name ms) (given x.timescale) (value_of x.timescale (field_in timescale_name most_frame ms) scale_slot)

  num_slot : digits_of x.rate_num ≡ field_in rate_num_name most_frame ms
  unfolding heads_after
  num_slot = ap (λ (y : HeadSlots). digits_of y.rate_num) e ∙ ap digits_of (part heads_after (slot_after rate_num_name most_frame) (λ (y : HeadSlots). y.rate_num) (λ y m. refl) no_heads ms) ∙ slot_field rate_num_name most_frame ms

  num_word : word_of (given x.rate_num) ≡ (field_in rate_num_name most_frame ms).value
  num_word = word_small (field_of rate_num_name ms) (given x.rate_num) (value_of x.rate_num (field_in rate_num_name most_frame ms) num_slot)

  den_slot : digits_of x.rate_den ≡ field_in rate_den_name most_frame ms
  unfolding heads_after
  den_slot = ap (λ (y : HeadSlots). digits_of y.rate_den) e ∙ ap digits_of (part heads_after (slot_after rate_den_name most_frame) (λ (y : HeadSlots). y.rate_den) (λ y m. refl) no_heads ms) ∙ slot_field rate_den_name most_frame ms

  den_word : word_of (given x.rate_den) ≡ (field_in rate_den_name most_frame ms).value
  den_word = word_small (field_of rate_den_name ms) (given x.rate_den) (value_of x.rate_den (field_in rate_den_name most_frame ms) den_slot)

  total_slot : digits_of x.frames ≡ field_in frames_name most_frame ms
  unfolding heads_after
  total_slot = ap (λ (y : HeadSlots). digits_of y.frames) e ∙ ap digits_of (part heads_after (slot_after frames_name most_frame) (λ (y : HeadSlots). y.frames) (λ y m. refl) no_heads ms) ∙ slot_field frames_name most_frame ms

  total_word : word_of (given x.frames) ≡ (field_in frames_name most_frame ms).value
  total_word = word_small (field_of frames_name ms) (given x.frames) (value_of x.frames (field_in frames_name most_frame ms) total_slot)

  shallow_is : x.shallow ≡ shallow ms
  shallow_is = ap (λ (y : HeadSlots). y.shallow) e ∙ shallow_part no_heads ms

  pub heads_walked : (h : Heads) → h ≡ heads_in x → HeadsOf ms h
  heads_walked h q =
      record {
        scale_is = ap (λ (y : Heads). y.timescale) q ∙ scale_word;
        num_is = ap (λ (y : Heads). y.rate_num) q ∙ num_word;
        den_is = ap (λ (y : Heads). y.rate_den) q ∙ den_word;
        frames_are = ap (λ (y : Heads). y.frames) q ∙ total_word;
      }

  -- all is said by the slots, the path and the list as by the members
  pub said_walked : all_said x p l ≡ fields_said ms
  said_walked =
      ap (λ (t : Bool). t && (path_said p && list_said l))
      (five _ _ _ _ _ _ _ _ _ _
      (good_of x.timescale (field_in timescale_name most_frame ms) scale_slot) (good_of x.rate_num (field_in rate_num_name most_frame ms) num_slot)
      (good_of x.rate_den (field_in rate_den_name most_frame ms) den_slot) (good_of x.frames (field_in frames_name most_frame ms) total_slot) shallow_is)
      ∙ ap (λ (v : List ℕ). heads_said && (path_said v && list_said l)) path_walked
      ∙ ap (λ (v : List ℕ). heads_said && (path_said (field_of input_name ms) && list_said v)) list_walked
      ∙ fields_all ms
    where
      heads_said : Bool
      heads_said = (short timescale_name ms && (short rate_num_name ms && short rate_den_name ms)) && (short frames_name ms && shallow ms)

-- ---- the parts of a text
parts_done : (ms : List Member) (x : HeadSlots) (input list : List ℕ) → record { heads = x; path = input; list = list } ≡ gathered walked_after none_walked ms → (room room' said said' : List ℕ) (p : Parts)
    → length said ≡ most_path → Gathered x input list p room room' said said' → PartsOf ms p room room' said said'
parts_done ms x input list w room room' said said' p l g =
    let ei = path_walked ms x input list w in
    let el = list_walked ms x input list w in
    record {
      said_is = sym (said_walked ms x input list w) ∙ g.said_is;
      heads_are = heads_walked ms x input list w p.heads g.heads_are;
      count_is = g.count_is ∙ ap (λ (y : List ℕ). length (elements_of 9 y)) el;
      numbers = λ c. g.numbers c ∙ ap (λ (y : List ℕ). put (flat_of (segments_from (elements_of 9 y))) room) el;
      path_length = g.path_length ∙ length_yes (string_bytes input) said fits ∙ ap (λ (y : List ℕ). length (string_bytes y)) ei;
      path_bytes = g.path_bytes ∙ placed_yes (string_bytes input) said fits ∙ ap (λ (y : List ℕ). put (string_bytes y) said) ei;
    }
  where
    fits : length (string_bytes input) ≤ length said
    fits =
        let q : path_said input ≡ true = and_left (path_said input) _ (and_right (heads_good x) _ g.said_is) in
        let b : length (string_bytes input) ≤ most_path = leb-true _ most_path (and_right (eqb (get_or input 0 0) 0x22) _ q) in
        omega arith

module _ (text s input list room room' said said' : List ℕ) (x : Walk) (w : walked_of s x ≡ gathered walked_after none_walked (members_of 10 (object_of text)))
    (ei : input ≡ span_in s x.path) (el : list ≡ span_in s x.list) (l : length said ≡ most_path) where
  walked : record { heads = x.heads; path = input; list = list } ≡ gathered walked_after none_walked (members_of 10 (object_of text))
  walked =
      let v : ◌≡◌ {A = Walked} (record { heads = x.heads; path = input; list = list }) (walked_of s x) = λ k. record { heads = x.heads; path = ei k; list = el k } in
      v ∙ w

  pub parts_text : (r : Option Parts) → MatchOption r (all_said x.heads input list ≡ false) (λ p. Gathered x.heads input list p room room' said said')
      → MatchOption r (fields_said (members_of 10 (object_of text)) ≡ false) (λ p. PartsOf (members_of 10 (object_of text)) p room room' said said')
  parts_text None R = sym (said_walked (members_of 10 (object_of text)) x.heads input list walked) ∙ R
  parts_text (Some p) R = parts_done (members_of 10 (object_of text)) x.heads input list walked room room' said said' p l R
