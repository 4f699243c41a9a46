-- Laws of maps of records, each for one place of the functions' proofs.
use mathlib.Core.Path.{◌≡◌, refl, sym, ap, ◌∙◌}
use mathlib.Core.Bool.{true, false}
use mathlib.Core.List.{List, [], ◌∷◌, ◌++◌, append_assoc}
use Prim.Native.Nat.{ℕ, zero, suc, ◌+◌, ◌*◌, ◌≤◌, ◌<◌}
use native.Mathlib.Omega.{arith}
use native.Mathlib.Numerals.{add-one}
use borrow.Author.Tests.{le-leb, lt-leb}
use lib.ListN.{length, take, drop, get_or, set}
use lib.Seq.{drop-cons, drop-length, take-suc, take_all, set_at, length-take-le}
use Rattle.std.specs.Prelude.{None}
use Rattle.spec_base.specs.base.Put.{put, put_at, placed}
use Rattle.spec_base.specs.base.Refusal.{fault_unless}
use Rattle.spec_base.proofs.base.PutLaws.{then_put, placed_yes, placed_no}
use Rattle.spec_map.specs.declared.segment.Segment.{Segment}
use Rattle.spec_map.specs.segment.Segment.{numbers_of, flat_of, segments_of}
use Rattle.spec_map.proofs.segment.SegmentLaws.{flat_length}
use Rattle.spec_caption.specs.caption_fate.Hit.{meets, find_from, hit_of}
use Rattle.spec_records.specs.map_records.Records.{recorded, flat_number, no_segment, narrowed, segment_at, hit_at}

-- ---- the first record that is met
-- the record at i is met, or is not; past the end there is none
pub hit_here : (l : List Segment) (i a b : ℕ) → i < length l → meets (get_or l i no_segment) a b ≡ true
    → hit_of (find_from i (drop i l) a b) ≡ hit_at i (get_or l i no_segment)
unfolding find_from
hit_here l i a b h t = rw (drop-cons l i no_segment h, t)

pub hit_next : (l : List Segment) (i a b : ℕ) → i < length l → meets (get_or l i no_segment) a b ≡ false → find_from i (drop i l) a b ≡ find_from (i + 1) (drop (i + 1) l) a b
unfolding find_from
hit_next l i a b h t = rw (add-one i, drop-cons l i no_segment h, t)

pub record_miss : (l : List Segment) (i a b : ℕ) → length l ≤ i → i ≤ length l → hit_of (find_from i (drop i l) a b) ≡ None
unfolding find_from
record_miss l i a b h k = let e : i ≡ length l = omega arith in rw (e, drop-length)

-- ---- a map of records as flat numbers
flat_append : (l k : List Segment) → flat_of (l ++ k) ≡ flat_of l ++ flat_of k
unfolding flat_of
flat_append [] k = refl
flat_append (x ∷ l) k = rw (flat_append l k)

flat_taken : (l : List Segment) (i : ℕ) → i ≤ length l → length (flat_of (take i l)) ≡ 6 * i
flat_taken l i h = flat_length (take i l) ∙ ap (λ (k : ℕ). 6 * k) (length-take-le i l h)

-- they do not fit
pub flat_short : (l : List Segment) (f : List ℕ) → length f < 6 * length l → (16 ≡ flat_number l (length f)) × (f ≡ placed (flat_of l) f)
unfolding flat_number fault_unless
flat_short l f h =
    let k : length f < length (flat_of l) = omega (arith, flat_length l) in
    (rw (lt-leb (6 * length l) (length f) h), sym (placed_no (flat_of l) f k))

-- the first i records are written, and then the next
pub flat_start : (l : List Segment) (f : List ℕ) → f ≡ put (flat_of (take 0 l)) f
unfolding flat_of put
flat_start l f = refl

pub flat_turn : (l : List Segment) (f z w : List ℕ) (i : ℕ) → i < length l → z ≡ put (flat_of (take i l)) f
    → w ≡ put_at (6 * i) (numbers_of (get_or l i no_segment)) z → w ≡ put (flat_of (take (i + 1) l)) f
unfolding flat_of
flat_turn l f z w i h e g =
    let more : take (i + 1) l ≡ take i l ++ (get_or l i no_segment ∷ []) = rw (add-one i, take-suc l i no_segment h) in
    then_put (6 * i) (flat_of (take i l)) (numbers_of (get_or l i no_segment)) f z w e (sym (flat_taken l i (omega arith))) g
    ∙ ap (λ (v : List ℕ). put v f) (sym (ap flat_of more ∙ flat_append (take i l) (get_or l i no_segment ∷ [])))

pub flat_done : (l : List Segment) (f z : List ℕ) (i : ℕ) → i ≡ length l → 6 * length l ≤ length f → z ≡ put (flat_of (take i l)) f
    → (0 ≡ flat_number l (length f)) × (z ≡ placed (flat_of l) f)
unfolding flat_number fault_unless
flat_done l f z i e h g =
    let k : length (flat_of l) ≤ length f = omega (arith, flat_length l) in
    (rw (le-leb (6 * length l) (length f) h), g ∙ ap (λ (v : List Segment). put (flat_of v) f) (take_all i l (omega arith)) ∙ sym (placed_yes (flat_of l) f k))

-- ---- flat numbers as records
six : (n : ℕ) → 6 * suc n ≡ suc (suc (suc (suc (suc (suc (6 * n))))))
six n = omega arith

six_more : (n j : ℕ) → 6 * suc n + j ≡ suc (suc (suc (suc (suc (suc (6 * n + j))))))
six_more n j = omega arith

narrowed_length : (xs : List Segment) → length (narrowed xs) ≡ length xs
unfolding narrowed
narrowed_length [] = refl
narrowed_length (x ∷ xs) = ap suc (narrowed_length xs)

segments_length : (n : ℕ) (l : List ℕ) → 6 * n ≤ length l → length (segments_of (take (6 * n) l)) ≡ n
unfolding segments_of
segments_length zero l h = refl
segments_length (suc n) [] h = absurd (omega arith)
segments_length (suc n) (a ∷ []) h = absurd (omega arith)
segments_length (suc n) (a ∷ b ∷ []) h = absurd (omega arith)
segments_length (suc n) (a ∷ b ∷ c ∷ []) h = absurd (omega arith)
segments_length (suc n) (a ∷ b ∷ c ∷ d ∷ []) h = absurd (omega arith)
segments_length (suc n) (a ∷ b ∷ c ∷ d ∷ e ∷ []) h = absurd (omega arith)
segments_length (suc n) (a ∷ b ∷ c ∷ d ∷ e ∷ f ∷ r) h = rw (six n, segments_length n r (omega arith))

-- as many as are read, and each of them by its six numbers
pub read_length : (n : ℕ) (l : List ℕ) → 6 * n ≤ length l → length (narrowed (segments_of (take (6 * n) l))) ≡ n
read_length n l h = narrowed_length (segments_of (take (6 * n) l)) ∙ segments_length n l h

pub read_at : (n i : ℕ) (l : List ℕ) → 6 * n ≤ length l → i < n → segment_at l (6 * i) ≡ get_or (narrowed (segments_of (take (6 * n) l))) i no_segment
unfolding segments_of narrowed
read_at zero i l h k = absurd (omega arith)
read_at (suc n) i [] h k = absurd (omega arith)
read_at (suc n) i (a ∷ []) h k = absurd (omega arith)
read_at (suc n) i (a ∷ b ∷ []) h k = absurd (omega arith)
read_at (suc n) i (a ∷ b ∷ c ∷ []) h k = absurd (omega arith)
read_at (suc n) i (a ∷ b ∷ c ∷ d ∷ []) h k = absurd (omega arith)
read_at (suc n) i (a ∷ b ∷ c ∷ d ∷ e ∷ []) h k = absurd (omega arith)
read_at (suc n) zero (a ∷ b ∷ c ∷ d ∷ e ∷ f ∷ r) h k = rw (six n)
read_at (suc n) (suc i) (a ∷ b ∷ c ∷ d ∷ e ∷ f ∷ r) h k = rw (six n, six_more i 1, six_more i 2, six_more i 3, six_more i 4, six_more i 5, six i) (read_at n i r (omega arith) (omega arith))

-- one record more of v is written
pub record_turn : (v m : List Segment) (i : ℕ) → i < length v → length v ≤ length m → set (recorded (take i v) m) i (get_or v i no_segment) ≡ recorded (take (i + 1) v) m
unfolding recorded
record_turn v m i h k =
    let n : length (take i v) ≡ i = length-take-le i v (omega arith) in
    let more : take (i + 1) v ≡ take i v ++ (get_or v i no_segment ∷ []) = rw (add-one i, take-suc v i no_segment h) in
    let n' : length (take (i + 1) v) ≡ suc i = length-take-le (i + 1) v (omega arith) ∙ add-one i in
    ap (λ (j : ℕ). set (take i v ++ drop j m) i (get_or v i no_segment)) n
    ∙ ap (λ (r : List Segment). set (take i v ++ r) i (get_or v i no_segment)) (drop-cons m i no_segment (omega arith))
    ∙ set_at (take i v) (get_or m i no_segment) (drop (suc i) m) (get_or v i no_segment) i n
    ∙ sym (append_assoc (take i v) (get_or v i no_segment ∷ []) (drop (suc i) m))
    ∙ ap (λ (t : List Segment). t ++ drop (suc i) m) (sym more)
    ∙ ap (λ (j : ℕ). take (i + 1) v ++ drop j m) (sym n')

pub record_start : (v m : List Segment) → m ≡ recorded (take 0 v) m
unfolding recorded
record_start v m = refl

pub record_done : (v m z : List Segment) (i : ℕ) → length v ≤ i → z ≡ recorded (take i v) m → z ≡ recorded v m
record_done v m z i h e = e ∙ ap (λ (t : List Segment). recorded t m) (take_all i v h)
