-- Laws of the reader's number, of what is written of a map's text, and of the answer.
use mathlib.Core.Path.{◌≡◌, refl, sym, ap, ◌∙◌}
use mathlib.Core.Bool.{Bool, true, false, ◌&&◌, cond, not, true≢false}
use mathlib.Core.List.{List, [], ◌∷◌, ◌++◌}
use Prim.Native.Nat.{ℕ, suc, ◌*◌, ◌%◌, ◌≤◌, ◌<◌}
use native.Mathlib.Omega.{arith}
use borrow.Author.Tests.{leb-true, eq-eqb, ne_eqb, not-true, not-false, lt-ltb, le-ltb, ltb-true, ltb-false}
use lib.Dec.{eqb, leb, ltb}
use lib.ListN.{length, take, drop, get_or}
use lib.Seq.{length-take-le}
use Rattle.spec_base.specs.base.Limits.{most_frame, most_segments}
use Rattle.spec_base.specs.base.Refusal.{◌or_else◌, fault_unless}
use Rattle.spec_base.specs.base.Put.{put, placed, placed_length}
use Rattle.spec_base.proofs.base.Laws.{yes!, no!, and_left, and_right, and_false}
use Rattle.spec_base.proofs.base.PutLaws.{take_put, put_nil}
use Rattle.spec_base.proofs.base.Refusals.{stops_bad, goes_bad, stops_over, goes_under, last_over, last_under, stops_good, goes_good}
use Rattle.spec_time.specs.caption_time.Convert.{timescale_bad}
use Rattle.spec_map.specs.segment.Segment.{map_bad, flat_of}
use Rattle.spec_map.proofs.segment.SegmentLaws.{left_many, flat_length}
use Rattle.spec_text.specs.utf8.Utf8.{utf8}
use Rattle.spec_json.specs.json.Space.{padded}
use Rattle.spec_json.specs.json.Value.{value_width}
use Rattle.spec_json.specs.json.Str.{string_bytes}
use Rattle.spec_json.specs.json.Member.{Member, bare, elements_of, members_of, field_of}
use Rattle.spec_map_json.specs.map_json_write.Names.{timescale_name, rate_num_name, rate_den_name, input_name, frames_name, segments_name, most_path}
use Rattle.spec_map_json.specs.map_json_write.Reads.{short, path_said, list_said, number_of, segments_from, shallow, fields_said, fields, is_map_text, map_said}
use Rattle.map_json_read.specs.declared.fields.Heads.{Heads}
use Rattle.map_json_read.specs.declared.fields.HeadSlots.{HeadSlots}
use Rattle.map_json_read.specs.declared.reading.Parts.{Parts}
use Rattle.spec_map_json.specs.declared.map_json_read.Taken.{Taken}
use Rattle.map_json_read.specs.Slots.{heads_good, heads_in}
use Rattle.map_json_segments.specs.Listed.{list_said_in}
use Rattle.map_json_read.specs.Steps.{object_of, HeadsOf, flat_in, all_said, Gathered, PartsOf, said_number, list_bad, ask_number, Asked, Gives}
use Rattle.spec_map_json.specs.map_json_read.MapRead.{none_taken, read_number, Reads}
use Rattle.map_json_segments.proofs.NumberLaws.{said_value}
use Rattle.map_json_read.proofs.PartLaws.{object_says}

none : {A : Type 0} (n k : ℕ) → 0 < k → n ≡ k → n ≡ 0 → A
none n k h p z = absurd (omega arith)

-- ---- what a map's fields say
module _ (ms : List Member) (g : fields_said ms ≡ true) where
  pub good_scale : short timescale_name ms ≡ true
  unfolding fields_said
  good_scale = and_left (short timescale_name ms) _ g

  behind_scale : (short rate_num_name ms && (short rate_den_name ms && (path_said (field_of input_name ms) && (short frames_name ms && (list_said (field_of segments_name ms) && shallow ms))))) ≡ true
  unfolding fields_said
  behind_scale = and_right (short timescale_name ms) _ g

  pub good_num : short rate_num_name ms ≡ true
  good_num = and_left (short rate_num_name ms) _ behind_scale

  behind_num : (short rate_den_name ms && (path_said (field_of input_name ms) && (short frames_name ms && (list_said (field_of segments_name ms) && shallow ms)))) ≡ true
  behind_num = and_right (short rate_num_name ms) _ behind_scale

  pub good_den : short rate_den_name ms ≡ true
  good_den = and_left (short rate_den_name ms) _ behind_num

  behind_den : (path_said (field_of input_name ms) && (short frames_name ms && (list_said (field_of segments_name ms) && shallow ms))) ≡ true
  behind_den = and_right (short rate_den_name ms) _ behind_num

  pub good_path : path_said (field_of input_name ms) ≡ true
  good_path = and_left (path_said (field_of input_name ms)) _ behind_den

  behind_path : (short frames_name ms && (list_said (field_of segments_name ms) && shallow ms)) ≡ true
  behind_path = and_right (path_said (field_of input_name ms)) _ behind_den

  pub good_frames : short frames_name ms ≡ true
  good_frames = and_left (short frames_name ms) _ behind_path

-- ---- the number, test by test
pub bad_over : (count : ℕ) (room : List ℕ) → 1024 < count → ltb 1024 count ≡ list_bad count room
unfolding list_bad
bad_over count room h = yes! _ (lt-ltb most_segments count h) (lt-ltb 1024 count h)

pub bad_within : (count n : ℕ) (room front : List ℕ) (b : Bool) → count ≤ 1024 → n ≡ 6 * count → front ≡ take n room → b ≡ map_bad front → b ≡ list_bad count room
unfolding list_bad
bad_within count n room front b h en ef eb = no! _ (le-ltb most_segments count h) (eb ∙ ap map_bad (ef ∙ ap (λ (k : ℕ). take k room) en))

within : (count : ℕ) (room : List ℕ) (b : Bool) → b ≡ list_bad count room → b ≡ false → count ≤ most_segments
unfolding list_bad
within count room b e h = go (ltb most_segments count) refl
  where
    go : (t : Bool) → ltb most_segments count ≡ t → count ≤ most_segments
    go true q = absurd (true≢false (sym (sym h ∙ e ∙ ap (λ (x : Bool). cond x true (map_bad (take (6 * count) room))) q)))
    go false q = ltb-false most_segments count q

module _ (p : Parts) (places bytes : ℕ) (room : List ℕ) (t : Bool) (et : t ≡ timescale_bad p.heads.timescale) where
  pub ask_scale : t ≡ true → Asked p places bytes room 15
  ask_scale h = record { is_number = stops_bad 15 _ refl et h; count_fits = none 15 15 (omega arith) refl; map_lent = none 15 15 (omega arith) refl; path_lent = none 15 15 (omega arith) refl }

  module _ (h : t ≡ false) (b : Bool) (eb : b ≡ list_bad p.count room) where
    pub ask_list : b ≡ true → Asked p places bytes room 15
    ask_list k = record { is_number = goes_bad 15 _ 15 et h (stops_bad 15 _ refl eb k); count_fits = none 15 15 (omega arith) refl; map_lent = none 15 15 (omega arith) refl; path_lent = none 15 15 (omega arith) refl }

    module _ (k : b ≡ false) where
      pub ask_places : places < 6144 → Asked p places bytes room 16
      ask_places l =
          record { is_number = goes_bad 15 _ 16 et h (goes_bad 15 _ 16 eb k (stops_over (6 * most_segments) places 16 _ refl l)); count_fits = none 16 16 (omega arith) refl; map_lent = none 16 16 (omega arith) refl; path_lent = none 16 16 (omega arith) refl }

      pub ask_bytes : 6144 ≤ places → bytes < 1024 → Asked p places bytes room 16
      ask_bytes l q =
          record { is_number = goes_bad 15 _ 16 et h (goes_bad 15 _ 16 eb k (goes_under (6 * most_segments) places 16 _ 16 l (last_over most_path bytes 16 q))); count_fits = none 16 16 (omega arith) refl; map_lent = none 16 16 (omega arith) refl; path_lent = none 16 16 (omega arith) refl }

      pub ask_good : 6144 ≤ places → 1024 ≤ bytes → Asked p places bytes room 0
      ask_good l q =
          record {
            is_number = goes_bad 15 _ 0 et h (goes_bad 15 _ 0 eb k (goes_under (6 * most_segments) places 16 _ 0 l (last_under most_path bytes 16 q)));
            count_fits = λ z. within p.count room b eb k;
            map_lent = λ z. l;
            path_lent = λ z. q;
          }

-- ---- what is written
-- a front of what is read, at the front of what is lent
put_front : (n : ℕ) (l to t : List ℕ) → n ≤ length l → t ≡ take n l → t ++ drop n to ≡ put (take n l) to
unfolding put
put_front n l to t h e =
    let k : n ≡ length (take n l) = sym (length-take-le n l h) in
    ap (λ (x : List ℕ). x ++ drop n to) e ∙ ap (λ (j : ℕ). take n l ++ drop j to) k

pub give_all : (p : Parts) (n : ℕ) (room map front said_all path start : List ℕ)
    → 6 * p.count ≤ length room → p.path_len ≤ length said_all
    → n ≡ 6 * p.count → front ≡ take n room → start ≡ take p.path_len said_all
    → Gives p.heads (take p.path_len said_all) (take (6 * p.count) room)
    (record { number = 0; timescale = p.heads.timescale; rate_num = p.heads.rate_num; rate_den = p.heads.rate_den; frames = p.heads.frames; places = n; path_len = p.path_len })
    map (front ++ drop n map) path (start ++ drop p.path_len path)
give_all p n room map front said_all path start nr b en em eq =
    record {
      number = refl;
      timescale = refl;
      rate_num = refl;
      rate_den = refl;
      frames = refl;
      places = en ∙ sym (length-take-le (6 * p.count) room nr);
      numbers = put_front n room map front (omega arith) em ∙ ap (λ (j : ℕ). put (take j room) map) en;
      path_length = sym (length-take-le p.path_len said_all b);
      path_bytes = put_front p.path_len said_all path start b eq;
    }

-- ---- the answer
when : {A : Type 0} (t : Bool) (x y : A) → t ≡ true → x ≡ cond t x y
when t x y e = sym (ap (λ (b : Bool). cond b x y) e)

refused_all : (text : List ℕ) (r : Taken) (map path : List ℕ) (n : ℕ) → (n ≡ 0 → ⊥) → r ≡ none_taken n → n ≡ read_number text (length map) (length path) → Reads text r map map path path
unfolding map_said
refused_all text r map path n z e q =
    let b : eqb n 0 ≡ false = ne_eqb n 0 z in
    let w : r.number ≡ n = ap (λ (x : Taken). x.number) e in
    let e0 : eqb r.number 0 ≡ false = ap (λ (k : ℕ). eqb k 0) w ∙ b in
    record {
      number = w ∙ q;
      timescale = ap (λ (x : Taken). x.timescale) e ∙ sym (ap (λ (t : Bool). cond t (map_said text).timescale 0) e0);
      rate_num = ap (λ (x : Taken). x.rate_num) e ∙ sym (ap (λ (t : Bool). cond t (map_said text).rate_num 0) e0);
      rate_den = ap (λ (x : Taken). x.rate_den) e ∙ sym (ap (λ (t : Bool). cond t (map_said text).rate_den 0) e0);
      frames = ap (λ (x : Taken). x.frames) e ∙ sym (ap (λ (t : Bool). cond t (map_said text).frames 0) e0);
      places = ap (λ (x : Taken). x.places) e ∙ sym (ap (λ (t : Bool). length (cond t (flat_in (fields text)) [])) e0);
      numbers = sym (ap (λ (t : Bool). put (cond t (flat_in (fields text)) []) map) e0 ∙ put_nil map);
      path_length = ap (λ (x : Taken). x.path_len) e ∙ sym (ap (λ (t : Bool). length (cond t (string_bytes (field_of input_name (fields text))) [])) e0);
      path_bytes = sym (ap (λ (t : Bool). put (cond t (string_bytes (field_of input_name (fields text))) []) path) e0 ∙ put_nil path);
    }

segments_length : (es : List (List ℕ)) → length (segments_from es) ≡ length es
unfolding segments_from
segments_length [] = refl
segments_length (e ∷ es) = ap suc (segments_length es)

-- what is gathered, test by test
module _ (x : HeadSlots) (input list : List ℕ) where
  pub no_head : heads_good x ≡ false → all_said x input list ≡ false
  no_head e = ap (λ (t : Bool). t && (path_said input && list_said list)) e

  pub no_path : (f : Bool) → f ≡ path_said input → not f ≡ true → all_said x input list ≡ false
  no_path f e h = ap (λ (t : Bool). heads_good x && (t && list_said list)) (sym e ∙ not-true f h) ∙ sym (and_false (heads_good x))

  pub no_list : list_said list ≡ false → all_said x input list ≡ false
  no_list e = ap (λ (t : Bool). heads_good x && (path_said input && t)) e ∙ ap (λ (t : Bool). heads_good x && t) (sym (and_false (path_said input))) ∙ sym (and_false (heads_good x))

lent_list : (list room : List ℕ) → length room ≡ 6 * most_segments → list_said_in (length room) list ≡ list_said list
unfolding list_said_in
lent_list list room h = ap (λ (t : Bool). t && list_said list) (eq-eqb (length room) (6 * most_segments) h)

pub no_list_in : (x : HeadSlots) (input list room : List ℕ) → length room ≡ 6 * most_segments → list_said_in (length room) list ≡ false → all_said x input list ≡ false
no_list_in x input list room h e = no_list x input list (sym (lent_list list room h) ∙ e)

pub gathered_all : (x : HeadSlots) (input list room room' said said' : List ℕ) (h : Heads) (p : Bool) (count k : ℕ) → length room ≡ 6 * most_segments
    → (heads_good x ≡ true) × (h ≡ heads_in x) → p ≡ path_said input → not p ≡ false
    → (list_said_in (length room) list ≡ true) × (count ≡ length (elements_of 9 list)) × (count ≤ most_segments → room' ≡ put (flat_of (segments_from (elements_of 9 list))) room)
    → k ≡ placed_length (string_bytes input) said → said' ≡ placed (string_bytes input) said
    → Gathered x input list (record { heads = h; count = count; path_len = k }) room room' said said'
gathered_all x input list room room' said said' h p count k f eh ep hp L ek es =
    record {
      said_is = ap (λ (t : Bool). t && (path_said input && list_said list)) eh.0 ∙ ap (λ (t : Bool). t && list_said list) (sym ep ∙ not-false p hp) ∙ sym (lent_list list room f) ∙ L.0;
      heads_are = eh.1;
      count_is = L.1;
      numbers = L.2;
      path_length = ek;
      path_bytes = es;
    }

pub read_23 : (text map path : List ℕ) (r : Taken) → fields_said (members_of 10 (object_of text)) ≡ false → r ≡ none_taken 23 → Reads text r map map path path
unfolding read_number
read_23 text map path r k q = refused_all text r map path 23 (λ z. omega arith) q (stops_good 23 _ refl refl (sym (object_says text) ∙ k))

module _ (text room room' said₀ said₁ map path : List ℕ) (p : Parts) (P : PartsOf (members_of 10 (object_of text)) p room room' said₀ said₁) where
  abbrev ms : List Member
  ms = members_of 10 (object_of text)

  text_is : is_map_text text ≡ true
  text_is = sym (object_says text) ∙ P.said_is

  module _ (n : ℕ) (a : Asked p (length map) (length path) room' n) where
    said : fields_said ms ≡ true
    said = P.said_is

    H : HeadsOf ms p.heads
    H = P.heads_are

    flat_count : length (flat_in ms) ≡ 6 * p.count
    flat_count =
        flat_length (segments_from (elements_of 9 (field_of segments_name ms)))
        ∙ ap (λ (j : ℕ). 6 * j) (segments_length (elements_of 9 (field_of segments_name ms)) ∙ sym P.count_is)

    flat_front : p.count ≤ most_segments → take (6 * p.count) room' ≡ flat_in ms
    flat_front c = ap (λ (j : ℕ). take j room') (sym flat_count) ∙ ap (take (length (flat_in ms))) (P.numbers c) ∙ take_put (flat_in ms) room

    list_bad_is : list_bad p.count room' ≡ map_bad (flat_in ms)
    unfolding list_bad
    list_bad_is = go (ltb most_segments p.count) refl
      where
        go : (t : Bool) → ltb most_segments p.count ≡ t → cond t true (map_bad (take (6 * p.count) room')) ≡ map_bad (flat_in ms)
        go true q =
            let z : most_segments < p.count = ltb-true most_segments p.count q in
            let r : length (flat_in ms) % 6 ≡ 0 = omega (arith, flat_count) in
            left_many (flat_in ms) (length (flat_in ms) % 6) refl r (omega (arith, flat_count))
        go false q = ap map_bad (flat_front (ltb-false most_segments p.count q))

    scale_said : p.heads.timescale ≡ number_of timescale_name ms
    scale_said = H.scale_is ∙ said_value most_frame (field_of timescale_name ms) (good_scale ms said)

    -- the fields of the object are those of the text
    same : object_of text ≡ bare 11 text
    unfolding object_of is_map_text
    same = go (utf8 text) (eqb (padded (value_width 11) text) (length text)) (eqb (get_or (bare 11 text) 0 0) 0x7B) (fields_said (fields text)) text_is
      where
        go : (u w o x : Bool) → (u && (w && (o && x))) ≡ true → cond (u && (w && o)) (bare 11 text) [] ≡ bare 11 text
        go true true true x e = refl
        go true true false x e = absurd (true≢false (sym e))
        go true false o x e = absurd (true≢false (sym e))
        go false w o x e = absurd (true≢false (sym e))

    same_fields : ms ≡ fields text
    same_fields = ap (members_of 10) same

    number_is : n ≡ read_number text (length map) (length path)
    unfolding read_number map_said
    number_is =
        goes_good 23 _ n (sym text_is) refl
        (a.is_number ∙ ap (λ (d : ℕ). ask_number d p.count room' (length map) (length path)) scale_said
        ∙ ap (λ (b : Bool). fault_unless (not (timescale_bad (number_of timescale_name ms))) 15 or_else (fault_unless (not b) 15 or_else (fault_unless (leb (6 * most_segments) (length map)) 16 or_else fault_unless (leb most_path (length path)) 16))) list_bad_is
        ∙ ap (λ (x : List Member). said_number x (length map) (length path)) same_fields)

    pub read_refused : (r : Taken) → (n ≡ 0 → ⊥) → r ≡ none_taken n → Reads text r map map path path
    read_refused r z q = refused_all text r map path n z q number_is

    module _ (z : n ≡ 0) where
      pub room_whole : length room' ≡ 6 * most_segments → 6 * p.count ≤ length room'
      room_whole e = let c = a.count_fits z in omega arith

      pub map_room : length room' ≡ 6 * most_segments → length room' ≤ length map
      map_room e = let c = a.map_lent z in omega arith

      path_small : p.path_len ≤ most_path
      path_small =
          let w : length (string_bytes (field_of input_name ms)) ≤ most_path = leb-true _ most_path (and_right (eqb (get_or (field_of input_name ms) 0 0) 0x22) _ (good_path ms said)) in
          let q : p.path_len ≡ length (string_bytes (field_of input_name ms)) = P.path_length in
          omega arith

      pub path_whole : length said₁ ≡ most_path → p.path_len ≤ length said₁
      path_whole e = let c = path_small in omega arith

      pub path_room : length said₁ ≡ most_path → length said₁ ≤ length path
      path_room e = let c = a.path_lent z in omega arith

      pub read_done : (r : Taken) (map' path' : List ℕ) → Gives p.heads (take p.path_len said₁) (take (6 * p.count) room') r map map' path path' → Reads text r map map' path path'
      unfolding map_said
      read_done r map' path' v =
          let w : eqb r.number 0 ≡ true = eq-eqb r.number 0 v.number in
          let fl : take (6 * p.count) room' ≡ flat_in (fields text) = flat_front (a.count_fits z) ∙ ap flat_in same_fields in
          let pa : take p.path_len said₁ ≡ string_bytes (field_of input_name (fields text)) =
          ap (λ (j : ℕ). take j said₁) P.path_length ∙ ap (take (length (string_bytes (field_of input_name ms)))) P.path_bytes
          ∙ take_put (string_bytes (field_of input_name ms)) said₀ ∙ ap (λ (x : List Member). string_bytes (field_of input_name x)) same_fields in
          record {
            number = v.number ∙ sym z ∙ number_is;
            timescale = v.timescale ∙ scale_said ∙ ap (number_of timescale_name) same_fields ∙ when _ _ 0 w;
            rate_num = v.rate_num ∙ H.num_is ∙ said_value most_frame (field_of rate_num_name ms) (good_num ms said) ∙ ap (number_of rate_num_name) same_fields ∙ when _ _ 0 w;
            rate_den = v.rate_den ∙ H.den_is ∙ said_value most_frame (field_of rate_den_name ms) (good_den ms said) ∙ ap (number_of rate_den_name) same_fields ∙ when _ _ 0 w;
            frames = v.frames ∙ H.frames_are ∙ said_value most_frame (field_of frames_name ms) (good_frames ms said) ∙ ap (number_of frames_name) same_fields ∙ when _ _ 0 w;
            places = v.places ∙ ap length fl ∙ ap length (when _ (flat_in (fields text)) [] w);
            numbers = v.numbers ∙ ap (λ (x : List ℕ). put x map) fl ∙ ap (λ (x : List ℕ). put x map) (when _ (flat_in (fields text)) [] w);
            path_length = v.path_length ∙ ap length pa ∙ ap length (when _ (string_bytes (field_of input_name (fields text))) [] w);
            path_bytes = v.path_bytes ∙ ap (λ (x : List ℕ). put x path) pa ∙ ap (λ (x : List ℕ). put x path) (when _ (string_bytes (field_of input_name (fields text))) [] w);
          }
