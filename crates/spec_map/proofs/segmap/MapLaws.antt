-- Laws of the whole call: its refusals in their order, and the map that it makes.
use mathlib.Core.Path.{◌≡◌, refl, sym, ap, ◌∙◌}
use mathlib.Core.Bool.{Bool, true, false, cond}
use mathlib.Core.List.{List, [], ◌∷◌}
use Prim.Native.Nat.{ℕ, zero, suc, ◌*◌, ◌≤◌, ◌<◌}
use native.Mathlib.Omega.{arith}
use borrow.Author.Tests.{le-leb, lt-leb, eq-eqb, ne_eqb}
use lib.Dec.{eqb}
use Rattle.std.specs.Prelude.{Result, Ok, Err}
use Rattle.spec_text.specs.text.Line.{blank}
use lib.ListN.{length, take, set}
use Rattle.spec_base.specs.base.Limits.{most_frames, most_ticks, most_places, most_segments}
use Rattle.spec_base.specs.base.Put.{put}
use Rattle.spec_base.specs.base.Refusal.{◌or_else◌, fault_unless}
use Rattle.spec_base.proofs.base.Laws.{yes!, no! }
use Rattle.spec_base.proofs.base.PutLaws.{put_nil, take_put}
use Rattle.spec_base.proofs.base.RefusalLaws.{else_here, else_next}
use Rattle.spec_sheet.specs.sheet_frames.Frames.{frames_of, timescale_of, ticks_from}
use Rattle.spec_sheet.specs.sheet.Sheet.{sheet_fault, sheet_number, work_after, sheet_of}
use Rattle.spec_sheet.specs.declared.sheet.Head.{Head}
use Rattle.spec_sheet.proofs.sheet.SheetLaws.{sound_head, checked, sound_answer, refused_answer}
use Rattle.spec_trim.specs.trim.TrimList.{ranges_in, list_number, ranges_of, range_count, parsed, list_answer, parse_of, range_places}
use Rattle.spec_trim.specs.declared.trim.Parsed.{Parsed}
use Rattle.spec_trim.proofs.trim.RangeLaws.{parse_number_lem, parse_lent, range_count_most, ranges_length, answered_count, places_front, places_written, none_blank_lem, list_none}
use Rattle.spec_trim.specs.plan.Snap.{snap_all}
use Rattle.spec_trim.proofs.plan.SnapLaws.{snap_length}
use Rattle.spec_map.specs.declared.segment.Segment.{Segment}
use Rattle.spec_map.specs.declared.segmap.Made.{Made}
use Rattle.spec_map.specs.segment.Segment.{flat_of}
use Rattle.spec_map.specs.segmap.Build.{kept_number, segments_in}
use Rattle.spec_map.proofs.segmap.KeptLaws.{segments_count}
use Rattle.spec_map.specs.segmap.Map.{ranges_for, kept_count, kept_of, snapped_of, cut_number, map_number, map_work, Map, map_answer, cut_of, map_of, made, made_of}

-- ---- an answer by its number
answer_refused : (k t : ℕ) (xs : List Segment) → (k ≡ 0 → ⊥) → made_of (map_answer k t xs) ≡ made k 0 0
unfolding map_answer made_of
answer_refused zero t xs h = absurd (h refl)
answer_refused (suc k) t xs h = refl

refused_none : (k t : ℕ) (xs : List Segment) → (k ≡ 0 → ⊥) → flat_of (map_answer k t xs).segments ≡ []
unfolding map_answer flat_of
refused_none zero t xs h = absurd (h refl)
refused_none (suc k) t xs h = refl

answer_made : (k t : ℕ) (xs : List Segment) → k ≡ 0 → made_of (map_answer k t xs) ≡ made 0 t (length xs)
unfolding map_answer made_of
answer_made k t xs e = rw e

answer_segments : (k t : ℕ) (xs : List Segment) → k ≡ 0 → (map_answer k t xs).segments ≡ xs
unfolding map_answer
answer_segments k t xs e = rw e

-- k is the number j of an answer, and not 0
module _ (j t : ℕ) (xs : List Segment) (k : ℕ) (e : k ≡ j) (h : k ≡ 0 → ⊥) where
  refused_made : (r : Made) → r ≡ made k 0 0 → r ≡ made_of (map_answer j t xs)
  refused_made r q = q ∙ ap (λ (x : ℕ). made x 0 0) e ∙ sym (answer_refused j t xs (λ z. h (e ∙ z)))

  refused_map : (m : List ℕ) → m ≡ put (flat_of (map_answer j t xs).segments) m
  refused_map m = sym (ap (λ (v : List ℕ). put v m) (refused_none j t xs (λ z. h (e ∙ z))) ∙ put_nil m)

-- ---- the call: `w` are the work bytes
module _ (s list : List ℕ) (d lent : ℕ) (w : List ℕ) where
  number_short : lent < 6 * most_segments → 16 ≡ map_number s list d lent (length w)
  unfolding map_number fault_unless ◌or_else◌
  number_short h = rw (lt-leb (6 * most_segments) lent h)

  number_direction : 6 * most_segments ≤ lent → 1 < d → 16 ≡ map_number s list d lent (length w)
  unfolding map_number fault_unless ◌or_else◌
  number_direction h k = rw (le-leb (6 * most_segments) lent h, lt-leb d 1 k)

  pub short_made : (r : Made) → lent < 6 * most_segments → r ≡ made 16 0 0 → r ≡ made_of (map_of s list d lent (length w))
  unfolding map_of
  short_made r h q = refused_made _ _ _ 16 (number_short h) (omega arith) r q

  pub short_map : (m : List ℕ) → lent < 6 * most_segments → m ≡ put (flat_of (map_of s list d lent (length w)).segments) m
  unfolding map_of
  short_map m h = refused_map _ _ _ 16 (number_short h) (omega arith) m

  pub short_work : lent < 6 * most_segments → w ≡ map_work s d lent w
  unfolding map_work
  short_work h = no! _ (lt-leb (6 * most_segments) lent h) refl

  pub direction_made : (r : Made) → 6 * most_segments ≤ lent → 1 < d → r ≡ made 16 0 0 → r ≡ made_of (map_of s list d lent (length w))
  unfolding map_of
  direction_made r h k q = refused_made _ _ _ 16 (number_direction h k) (omega arith) r q

  pub direction_map : (m : List ℕ) → 6 * most_segments ≤ lent → 1 < d → m ≡ put (flat_of (map_of s list d lent (length w)).segments) m
  unfolding map_of
  direction_map m h k = refused_map _ _ _ 16 (number_direction h k) (omega arith) m

  pub direction_work : 6 * most_segments ≤ lent → 1 < d → w ≡ map_work s d lent w
  unfolding map_work
  direction_work h k = yes! _ (le-leb (6 * most_segments) lent h) (no! _ (lt-leb d 1 k) refl)

  module _ (room : 6 * most_segments ≤ lent) (dir : d ≤ 1) where
    pub checked_work : (v : List ℕ) → v ≡ work_after s w → v ≡ map_work s d lent w
    unfolding map_work
    checked_work v e = yes! _ (le-leb (6 * most_segments) lent room) (yes! _ (le-leb d 1 dir) e)

    past_arguments : map_number s list d lent (length w) ≡ sheet_number s (length w) or_else cut_number s list d
    unfolding map_number fault_unless ◌or_else◌
    past_arguments = rw (le-leb (6 * most_segments) lent room, le-leb d 1 dir)

    -- ---- the sheet: a is the answer of its check
    number_sheet : (a : Result Head ℕ) (k : ℕ) → a ≡ sheet_of s (length w) → a ≡ Err k → k ≡ map_number s list d lent (length w)
    number_sheet a k e f =
        let p = refused_answer s (length w) k a e f in
        else_here _ _ k p.0 p.1 ∙ sym past_arguments

    pub sheet_made : (a : Result Head ℕ) (k : ℕ) (r : Made) → a ≡ sheet_of s (length w) → a ≡ Err k → r ≡ made k 0 0 → r ≡ made_of (map_of s list d lent (length w))
    unfolding map_of
    sheet_made a k r e f q = refused_made _ _ _ k (number_sheet a k e f) (refused_answer s (length w) k a e f).1 r q

    pub sheet_map : (a : Result Head ℕ) (k : ℕ) (m : List ℕ) → a ≡ sheet_of s (length w) → a ≡ Err k → m ≡ put (flat_of (map_of s list d lent (length w)).segments) m
    unfolding map_of
    sheet_map a k m e f = refused_map _ _ _ k (number_sheet a k e f) (refused_answer s (length w) k a e f).1 m

    -- the sheet is sound: the call's map is that of its list
    module _ (a : Result Head ℕ) (h : Head) (e : a ≡ sheet_of s (length w)) (f : a ≡ Ok h) where
      cut_is : cut_of s list d ≡ map_of s list d lent (length w)
      unfolding cut_of map_of
      cut_is =
          let z : sheet_number s (length w) ≡ 0 = (sound_answer s (length w) h a e f).number_zero in
          ap (λ (k : ℕ). map_answer k (timescale_of s) (segments_in s 0 (snapped_of s list d))) (else_next _ _ (sheet_number s (length w)) (cut_number s list d) refl z refl ∙ sym past_arguments)

      pub cut_made : (r : Made) → r ≡ made_of (cut_of s list d) → r ≡ made_of (map_of s list d lent (length w))
      cut_made r q = q ∙ ap made_of cut_is

      pub cut_map : (x y : List ℕ) → y ≡ put (flat_of (cut_of s list d).segments) x → y ≡ put (flat_of (map_of s list d lent (length w)).segments) x
      cut_map x y q = q ∙ ap (λ (m : Map). put (flat_of m.segments) x) cut_is

-- what a sound sheet's answer tells
module _ (s w : List ℕ) (a : Result Head ℕ) (h : Head) (e : a ≡ sheet_of s (length w)) (f : a ≡ Ok h) where
  pub sound_fault : sheet_fault s ≡ 0
  sound_fault = (checked s (length w) (sound_answer s (length w) h a e f).number_zero).fault

  pub sound_within : ticks_from s 0 h.frames ≤ most_ticks
  sound_within =
      let c = sound_answer s (length w) h a e f in
      omega (arith, (checked s (length w) c.number_zero).within, ap (ticks_from s 0) c.frames_is)

  pub sound_frames : h.frames ≡ frames_of s
  sound_frames = (sound_answer s (length w) h a e f).frames_is

  pub sound_timescale : h.timescale ≡ timescale_of s
  sound_timescale = (sound_answer s (length w) h a e f).timescale_is

pub frames_few : (s : List ℕ) (n : ℕ) → sheet_fault s ≡ 0 → n ≡ frames_of s → n ≤ most_frames
frames_few s n z e = omega (arith, (sound_head s z).frames_high)

-- ---- the list's ranges
pub kept_few : (list : List ℕ) → list_number list ≡ 0 → kept_count list ≤ most_segments
unfolding kept_count
kept_few list z = go (blank list)
  where
    go : (t : Bool) → cond t 1 (range_count list) ≤ most_segments
    go true = omega arith
    go false = omega (arith, range_count_most list z)

pub kept_length : (n : ℕ) (list : List ℕ) → list_number list ≡ 0 → length (ranges_for n list) ≡ 2 * kept_count list
unfolding ranges_for kept_count
kept_length n list z = go (blank list)
  where
    go : (t : Bool) → length (cond t (0 ∷ n ∷ []) (ranges_of list)) ≡ 2 * cond t 1 (range_count list)
    go true = refl
    go false = ranges_length list z

blank_ranges : (list : List ℕ) → blank list ≡ true → ranges_of list ≡ []
unfolding ranges_of ranges_in
blank_ranges list e = ap ranges_in (list_none list e)

blank_count : (list : List ℕ) → blank list ≡ true → range_count list ≡ 0
unfolding range_count
blank_count list e = ap length (list_none list e)

-- p is what was read of the list into the places l, and m what stands in them then
module _ (list l m : List ℕ) (n : ℕ) (p : Parsed) (e : p ≡ parse_of list (length l)) (places : most_places ≤ length l) (em : m ≡ range_places list l) where
  parsed_number : p.number ≡ list_number list
  parsed_number = ap (λ (x : Parsed). x.number) e ∙ parse_number_lem list (length l) ∙ parse_lent list (length l) places

  kept_by_lem : (k : ℕ) → k ≡ cond (eqb (list_number list) 0) (kept_count list) 0 → parsed p.number k ≡ kept_of list
  unfolding kept_of
  kept_by_lem k q = rw (parsed_number, q)

  pub kept_refused : (p.number ≡ 0 → ⊥) → p ≡ kept_of list
  unfolding parse_of list_answer
  kept_refused h =
      let x : eqb (list_number list) 0 ≡ false = ne_eqb (list_number list) 0 (λ q. h (parsed_number ∙ q)) in
      let c : p.count ≡ 0 = ap (λ (y : Parsed). y.count) e ∙ ap (λ (b : ℕ). cond (eqb b 0) (range_count list) 0) (parse_lent list (length l) places) ∙ ap (λ (t : Bool). cond t (range_count list) 0) x in
      kept_by_lem p.count (c ∙ sym (ap (λ (t : Bool). cond t (kept_count list) 0) x))

  pub kept_vacuous : (x y : List ℕ) → (p.number ≡ 0 → ⊥) → p.number ≡ 0 → x ≡ y
  kept_vacuous x y h z = absurd (h z)

  module _ (z : p.number ≡ 0) where
    zero_list : list_number list ≡ 0
    zero_list = sym parsed_number ∙ z

    counted : p.count ≡ range_count list
    unfolding parse_of
    counted = ap (λ (x : Parsed). x.count) e ∙ answered_count list _ (parse_lent list (length l) places ∙ zero_list)

    some_kept : (t : Bool) → blank list ≡ t → (p.count ≡ 0 → ⊥) → blank list ≡ false
    some_kept false q h = q
    some_kept true q h = absurd (h (counted ∙ blank_count list q))

    pub kept_list : (p.count ≡ 0 → ⊥) → p ≡ kept_of list
    unfolding kept_count
    kept_list h =
        let nb = some_kept (blank list) refl h in
        kept_by_lem p.count (counted ∙ sym (ap (λ (t : Bool). cond t (range_count list) (range_count list)) nb) ∙ sym (rw (eq-eqb (list_number list) 0 zero_list, nb)))

    pub list_front : (p.count ≡ 0 → ⊥) → take (2 * p.count) m ≡ ranges_for n list
    unfolding ranges_for
    list_front h =
        let nb = some_kept (blank list) refl h in
        ap (λ (k : ℕ). take (2 * k) m) counted ∙ ap (take (2 * range_count list)) em ∙ places_front list l places zero_list ∙ sym (rw nb)

    pub kept_blank : (r : Parsed) → p.count ≡ 0 → r ≡ parsed 0 1 → r ≡ kept_of list
    unfolding kept_count
    kept_blank r c g =
        let b : blank list ≡ true = none_blank_lem list (sym counted ∙ c) in
        g ∙ ap (λ (k : ℕ). parsed k 1) (sym z) ∙ kept_by_lem 1 (sym (rw (eq-eqb (list_number list) 0 zero_list, b)))

    -- a blank list leaves the places as they were
    places_two : blank list ≡ true → 2 ≤ length m
    places_two b =
        let q : m ≡ l = em ∙ places_written list l places zero_list ∙ ap (λ (v : List ℕ). put v l) (blank_ranges list b) ∙ put_nil l in
        omega (arith, ap length q)

    pub blank_front : (w : List ℕ) → p.count ≡ 0 → w ≡ set (set m 0 0) 1 n → take (2 * 1) w ≡ ranges_for n list
    unfolding ranges_for
    blank_front w c g =
        let b : blank list ≡ true = none_blank_lem list (sym counted ∙ c) in
        ap (take (2 * 1)) g ∙ two m (places_two b) ∙ sym (rw b)
      where
        two : (v : List ℕ) → 2 ≤ length v → take 2 (set (set v 0 0) 1 n) ≡ 0 ∷ n ∷ []
        two [] k = absurd (omega arith)
        two (x ∷ []) k = absurd (omega arith)
        two (x ∷ y ∷ v) k = refl

-- ---- p is what was read of the list
module _ (list : List ℕ) (p : Parsed) (e : p ≡ kept_of list) where
  list_number_lem : p.number ≡ list_number list
  unfolding kept_of
  list_number_lem = ap (λ (x : Parsed). x.number) e

  module _ (z : p.number ≡ 0) where
    list_zero : list_number list ≡ 0
    list_zero = sym list_number_lem ∙ z

    pub list_count : p.count ≡ kept_count list
    unfolding kept_of
    list_count = ap (λ (x : Parsed). x.count) e ∙ ap (λ (t : Bool). cond t (kept_count list) 0) (eq-eqb (list_number list) 0 list_zero)

    pub count_few : p.count ≤ most_segments
    count_few = omega (arith, list_count, kept_few list list_zero)

    -- the ranges that were read into m, snapped in place
    pub snapped_is : (s m : List ℕ) (n d : ℕ) (w : List ℕ) → (p.number ≡ 0 → take (2 * p.count) m ≡ ranges_for n list) → n ≡ frames_of s → w ≡ put (snap_all s n d (take (2 * p.count) m)) m
        → take (2 * p.count) w ≡ snapped_of s list d
    unfolding snapped_of
    snapped_is s m n d w front en ew =
        let f : take (2 * p.count) m ≡ ranges_for n list = front z in
        let g : length (snap_all s n d (take (2 * p.count) m)) ≡ 2 * p.count =
        snap_length s n d (take (2 * p.count) m) ∙ ap length f ∙ kept_length n list list_zero ∙ ap (λ (k : ℕ). 2 * k) (sym list_count) in
        ap (λ (k : ℕ). take k w) (sym g)
        ∙ ap (take (length (snap_all s n d (take (2 * p.count) m)))) ew
        ∙ take_put (snap_all s n d (take (2 * p.count) m)) m
        ∙ ap (snap_all s n d) f
        ∙ ap (λ (k : ℕ). snap_all s k d (ranges_for k list)) en

pub snapped_length : (s list : List ℕ) (d : ℕ) → list_number list ≡ 0 → length (snapped_of s list d) ≡ 2 * kept_count list
unfolding snapped_of
snapped_length s list d z = snap_length s (frames_of s) d (ranges_for (frames_of s) list) ∙ kept_length (frames_of s) list z

-- ---- a sound sheet, and the list's answer p
module _ (s list : List ℕ) (d n : ℕ) (p : Parsed) (en : n ≡ frames_of s) (e : p ≡ kept_of list) where
  past_sheet : (v : ℕ) → v ≡ list_number list or_else (kept_number s (frames_of s) (snapped_of s list d)) → v ≡ cut_number s list d
  unfolding cut_number
  past_sheet v q = q

  -- the list is refused
  module _ (h : p.number ≡ 0 → ⊥) where
    number_list : p.number ≡ cut_number s list d
    number_list = past_sheet p.number (else_here _ _ p.number (list_number_lem list p e) h)

    pub list_made : (r : Made) → r ≡ made p.number 0 0 → r ≡ made_of (cut_of s list d)
    unfolding cut_of
    list_made r q = refused_made _ _ _ p.number number_list h r q

    pub list_map : (x : List ℕ) → x ≡ put (flat_of (cut_of s list d).segments) x
    unfolding cut_of
    list_map x = refused_map _ _ _ p.number number_list h x

  -- the list is read; g is the number of its snapped ranges
  module _ (m w : List ℕ) (front : p.number ≡ 0 → take (2 * p.count) m ≡ ranges_for n list) (z : p.number ≡ 0) (ew : w ≡ put (snap_all s n d (take (2 * p.count) m)) m) (g : ℕ)
      (eg : g ≡ kept_number s n (take (2 * p.count) w)) where
    snapped : take (2 * p.count) w ≡ snapped_of s list d
    snapped = snapped_is list p e z s m n d w front en ew

    number_ranges : g ≡ cut_number s list d
    number_ranges =
        past_sheet g
        (else_next _ _ p.number g (list_number_lem list p e) z
        (eg
        ∙ ap (λ (x : List ℕ). kept_number s n x) snapped
        ∙ ap (λ (k : ℕ). kept_number s k (snapped_of s list d)) en))

    pub ranges_made : (r : Made) → (g ≡ 0 → ⊥) → r ≡ made g 0 0 → r ≡ made_of (cut_of s list d)
    unfolding cut_of
    ranges_made r h q = refused_made _ _ _ g number_ranges h r q

    pub ranges_map : (x y : List ℕ) → (g ≡ 0 → ⊥) → ((g ≡ 0 → ⊥) → y ≡ x) → y ≡ put (flat_of (cut_of s list d).segments) x
    unfolding cut_of
    ranges_map x y h q = q h ∙ refused_map _ _ _ g number_ranges h x

    pub whole_made : (t : ℕ) (r : Made) → t ≡ timescale_of s → g ≡ 0 → r ≡ made 0 t p.count → r ≡ made_of (cut_of s list d)
    unfolding cut_of
    whole_made t r et h q =
        let c : p.count ≡ length (segments_in s 0 (snapped_of s list d)) =
        list_count list p e z ∙ sym (segments_count s 0 (kept_count list) (snapped_of s list d) (snapped_length s list d (list_zero list p e z))) in
        q ∙ ap (λ (x : ℕ). made 0 x p.count) et ∙ ap (made 0 (timescale_of s)) c
        ∙ sym (answer_made (cut_number s list d) (timescale_of s) (segments_in s 0 (snapped_of s list d)) (sym number_ranges ∙ h))

    pub whole_map : (x y : List ℕ) → g ≡ 0 → (g ≡ 0 → y ≡ put (flat_of (segments_in s 0 (take (2 * p.count) w))) x) → y ≡ put (flat_of (cut_of s list d).segments) x
    unfolding cut_of
    whole_map x y h q =
        q h
        ∙ ap (λ (v : List ℕ). put (flat_of (segments_in s 0 v)) x) snapped
        ∙ sym (ap (λ (v : List Segment). put (flat_of v) x) (answer_segments (cut_number s list d) (timescale_of s) (segments_in s 0 (snapped_of s list d)) (sym number_ranges ∙ h)))
