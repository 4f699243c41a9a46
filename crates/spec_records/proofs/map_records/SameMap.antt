-- A map of records and its flat numbers are one map: what is said of flat maps is said of maps of records.
use mathlib.Core.Path.{◌≡◌, sym, ap, subst, ◌∙◌}
use mathlib.Core.List.{List}
use Prim.Native.Nat.{ℕ, ◌*◌, ◌≤◌}
use native.Mathlib.Omega.{arith}
use borrow.Author.Tests.{leb-true}
use lib.Dec.{leb}
use lib.ListN.{length, take, drop}
use lib.Seq.{take-append_seam}
use Rattle.spec_base.specs.base.Put.{put, placed}
use Rattle.spec_base.proofs.base.PutLaws.{placed_yes, take_put}
use Rattle.spec_base.proofs.base.RefusalLaws.{held}
use Rattle.spec_map.specs.declared.segment.Segment.{Segment}
use Rattle.spec_map.specs.segment.Segment.{flat_of, segments_of}
use Rattle.spec_map.specs.segmap.Map.{map_of}
use Rattle.spec_map.proofs.segment.SegmentLaws.{flat_back, flat_length}
use Rattle.spec_map.proofs.segmap.Built.{map_count, map_front}
use Rattle.spec_caption.specs.caption_fate.Hit.{find_hit, hit_of}
use Rattle.spec_records.specs.map_records.Records.{recorded, flat_number}

-- whatever is said of the segments of flat numbers
pub said_of : (P : List Segment → Type 0) (xs : List Segment) → P (segments_of (flat_of xs)) → P xs
said_of P xs p = subst P (flat_back xs) p

-- so the two searches answer the same
pub same_hit : (xs : List Segment) (a b : ℕ) → hit_of (find_hit (segments_of (flat_of xs)) a b) ≡ hit_of (find_hit xs a b)
same_hit xs a b = ap (λ (m : List Segment). hit_of (find_hit m a b)) (flat_back xs)

-- where `flatten` says 0, the first six numbers for each record are the map, and its segments are the records
pub handed : (xs : List Segment) (f : List ℕ) → flat_number xs (length f) ≡ 0 → take (6 * length xs) (placed (flat_of xs) f) ≡ flat_of xs
unfolding flat_number
handed xs f e =
    let room : 6 * length xs ≤ length f = leb-true _ _ (held (leb (6 * length xs) (length f)) 16 (omega arith) e) in
    let n : length (flat_of xs) ≡ 6 * length xs = flat_length xs in
    ap (take (6 * length xs)) (placed_yes (flat_of xs) f (omega arith)) ∙ ap (λ (k : ℕ). take k (put (flat_of xs) f)) (sym n) ∙ take_put (flat_of xs) f

pub handed_segments : (xs : List Segment) (f : List ℕ) → flat_number xs (length f) ≡ 0 → segments_of (take (6 * length xs) (placed (flat_of xs) f)) ≡ xs
handed_segments xs f e = ap segments_of (handed xs f e) ∙ flat_back xs

-- the records that `build` writes, as flat numbers, are those that `make` writes
pub same_records : (s list : List ℕ) (d lent w : ℕ) (m : List Segment) (f : List ℕ)
    → flat_of (take (map_of s list d lent w).count (recorded (map_of s list d lent w).segments m)) ≡ take (6 * (map_of s list d lent w).count) (put (flat_of (map_of s list d lent w).segments) f)
unfolding recorded
same_records s list d lent w m f =
    ap (λ (k : ℕ). flat_of (take k (recorded (map_of s list d lent w).segments m))) (map_count s list d lent w)
    ∙ ap flat_of (take-append_seam (map_of s list d lent w).segments (drop (length (map_of s list d lent w).segments) m))
    ∙ sym (map_front s list d lent w f)
