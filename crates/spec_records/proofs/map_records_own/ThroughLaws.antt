-- Laws of a map that is built in records and read from them: the records in front are its segments.
use mathlib.Core.Path.{◌≡◌, refl, sym, ap, ◌∙◌}
use mathlib.Core.List.{List}
use Prim.Native.Nat.{ℕ, ◌*◌, ◌<◌, ◌≤◌}
use native.Mathlib.Omega.{arith}
use borrow.Author.Tests.{le-leb}
use lib.ListN.{length, take, drop}
use lib.Seq.{take-append_seam}
use Rattle.std.specs.Prelude.{Option, None}
use Rattle.spec_base.specs.base.Limits.{most_segments}
use Rattle.spec_base.specs.base.Put.{put, placed}
use Rattle.spec_base.proofs.base.PutLaws.{placed_yes}
use Rattle.spec_map.specs.declared.segment.Segment.{Segment}
use Rattle.spec_map.specs.segment.Segment.{flat_of}
use Rattle.spec_map.specs.declared.segmap.Made.{Made}
use Rattle.spec_map.specs.segmap.Map.{map_number, Map, map_of, map_work, made, made_of}
use Rattle.spec_map.proofs.segmap.MapLaws.{short_made}
use Rattle.spec_map.proofs.segmap.Built.{map_count, told_number, told_count, map_refused}
use Rattle.spec_map.proofs.segment.SegmentLaws.{flat_length}
use Rattle.spec_caption.specs.declared.caption_fate.Met.{Met}
use Rattle.spec_caption.specs.caption_fate.Hit.{find_from, find_hit, hit_of}
use Rattle.spec_records.specs.declared.map_records_own.Through.{Through}
use Rattle.spec_records.specs.map_records.Records.{recorded, map_into}
use Rattle.spec_records.specs.map_records_own.Through.{through_of}
use Rattle.spec_records.proofs.map_records.BuildLaws.{map_lent, count_few}

-- the map m was built in the 1,024 records l, as z, with the work bytes wk; r is what the call told
module _ (s list : List ℕ) (d : ℕ) (wk : List ℕ) (l z : List Segment) (n : length l ≡ 1024) (r : Made) (e : r ≡ made_of (map_into s list d l (length wk)))
    (w : z ≡ recorded (map_into s list d l (length wk)).segments l) where
  abbrev m : Map
  m = map_of s list d 6144 (length wk)

  same : map_into s list d l (length wk) ≡ m
  same = ap (λ (k : ℕ). map_of s list d (6 * k) (length wk)) n

  told : r ≡ made_of m
  told = e ∙ ap made_of same

  pub in_records : r.count ≤ 1024
  in_records = count_few s list d 6144 (length wk) r told

  front : take r.count z ≡ m.segments
  unfolding recorded
  front =
      let k : r.count ≡ length m.segments = told_count s list d 6144 (length wk) r told ∙ map_count s list d 6144 (length wk) in
      ap (λ (j : ℕ). take j z) k
      ∙ ap (take (length m.segments)) (w ∙ ap (λ (x : Map). recorded x.segments l) same)
      ∙ take-append_seam m.segments (drop (length m.segments) l)

  pub through_told : (a b : ℕ) (h : Option Met) → h ≡ hit_of (find_hit (take r.count z) a b) → ◌≡◌ {A = Through} (record { made = r; hit = h }) (through_of m a b)
  unfolding through_of
  through_told a b h q =
      let met : h ≡ hit_of (find_hit m.segments a b) = q ∙ ap (λ (xs : List Segment). hit_of (find_hit xs a b)) front in
      λ i. record { made = told i; hit = met i }

  pub through_bytes : (v : List ℕ) → v ≡ map_work s d (6 * length l) wk → v ≡ map_work s d 6144 wk
  through_bytes v q = q ∙ ap (λ (k : ℕ). map_work s d (6 * k) wk) n

  pub through_flat : (f f' : List ℕ) → 6144 ≤ length f → f' ≡ placed (flat_of (take r.count z)) f → f' ≡ put (flat_of m.segments) f
  through_flat f f' room q =
      let few : length m.segments ≤ most_segments = omega (arith, in_records, told_count s list d 6144 (length wk) r told, map_count s list d 6144 (length wk)) in
      let fits : length (flat_of m.segments) ≤ length f = omega (arith, flat_length m.segments, few) in
      q ∙ ap (λ (xs : List Segment). placed (flat_of xs) f) front ∙ placed_yes (flat_of m.segments) f fits

-- ---- the numbers f that are lent: fewer than 6,144 are 16, and more count only as enough
module _ (s list : List ℕ) (d : ℕ) (wk : List ℕ) (a b : ℕ) (f : List ℕ) where
  abbrev lent : Map
  lent = map_of s list d (length f) (length wk)

  short_hit : length f < 6 * most_segments → None ≡ hit_of (find_hit lent.segments a b)
  unfolding find_from
  short_hit h =
      let e : 16 ≡ map_number s list d (length f) (length wk) = told_number s list d (length f) (length wk) (made 16 0 0) (short_made s list d (length f) wk (made 16 0 0) h refl) in
      sym (ap (λ (xs : List Segment). hit_of (find_hit xs a b)) (map_refused s list d (length f) (length wk) (omega arith)))

  pub short_through : length f < 6 * most_segments → ◌≡◌ {A = Through} (record { made = made 16 0 0; hit = None }) (through_of lent a b)
  unfolding through_of
  short_through h =
      let t : made 16 0 0 ≡ made_of lent = short_made s list d (length f) wk (made 16 0 0) h refl in
      let m : None ≡ hit_of (find_hit lent.segments a b) = short_hit h in
      λ i. record { made = t i; hit = m i }

  same_lent : 6 * most_segments ≤ length f → map_of s list d 6144 (length wk) ≡ lent
  same_lent h = map_lent s list d 6144 (length f) (length wk) (omega arith) h

  pub enough_through : (r : Through) → 6 * most_segments ≤ length f → r ≡ through_of (map_of s list d 6144 (length wk)) a b → r ≡ through_of lent a b
  enough_through r h e = e ∙ ap (λ (m : Map). through_of m a b) (same_lent h)

  pub enough_bytes : (v : List ℕ) → 6 * most_segments ≤ length f → v ≡ map_work s d 6144 wk → v ≡ map_work s d (length f) wk
  unfolding map_work
  enough_bytes v h e = e ∙ rw (le-leb (6 * most_segments) (length f) h)

  pub enough_flat : (f' : List ℕ) → 6 * most_segments ≤ length f → f' ≡ put (flat_of (map_of s list d 6144 (length wk)).segments) f → f' ≡ put (flat_of lent.segments) f
  enough_flat f' h e = e ∙ ap (λ (m : Map). put (flat_of m.segments) f) (same_lent h)
