-- Laws of a map whose segments are read as arrays of six numbers, and whose groups as rows of 96.
use Rattle.std.proofs.Common.{◌≡◌, refl, sym, ap, ◌∙◌, ℕ, zero, suc, ◌+◌, ◌*◌, ◌/◌, ◌%◌, ◌^◌, ◌≤◌, ◌<◌, min, max, Bool, true, false, cond, List, [], ◌∷◌, ◌++◌, length, take, drop, get_or, ltb, leb, eqb, arith}
use Rattle.std.proofs.lemmas.List.{length-drop, length-take, length-append, drop-drop, get_or-take, append-nil, nil_from_length, take_at, drop_at, take_all, drop_all}
use Rattle.spec_map.specs.segment.Segment.{segment, segments_of, end_bad, segment_bad, any_bad, map_bad}
use Rattle.spec_map.specs.segment.Groups.{segment_large, any_large}
use Rattle.spec_map.proofs.segment.SegmentLaws.{segments_cut, segments_short, excess_tells, Left, left_parts, left_many, segments_start, left_again, left_none}
use Rattle.spec_map.proofs.segment.GroupLaws.{large_tells, GroupLeft, group_again}
use borrow.Author.Tests.{leb-true, leb-false, eqb-true, eqb-false}
use Rattle.std.specs.Simd.{first_chunks}

-- ---- six numbers are one segment
or_false : (t : Bool) → cond t true false ≡ t
or_false true = refl
or_false false = refl

alone : (t : List ℕ) → length t ≡ 6 → segments_of t ≡ segment (get_or t 0 0) (get_or t 1 0) (get_or t 2 0) (get_or t 3 0) (get_or t 4 0) (get_or t 5 0) ∷ []
alone t h = rw (segments_cut t (omega arith), segments_short (drop 6 t) (simp length-drop (omega arith))) refl

bad_alone : (t : List ℕ) → length t ≡ 6 → any_bad (segments_of t) ≡ segment_bad (get_or t 0 0) (get_or t 1 0) (get_or t 2 0) (get_or t 3 0) (get_or t 4 0) (get_or t 5 0)
unfolding any_bad
bad_alone t h = ap any_bad (alone t h) ∙ or_false _

large_alone : (t : List ℕ) → length t ≡ 6 → any_large (segments_of t) ≡ segment_large (get_or t 0 0) (get_or t 1 0) (get_or t 2 0) (get_or t 3 0) (get_or t 4 0) (get_or t 5 0)
unfolding any_large
large_alone t h = ap any_large (alone t h) ∙ or_false _

pub excess_alone : (t : List ℕ) (x y : ℕ) → length t ≡ 6 → ltb 0 x ≡ end_bad (get_or t 2 0) (get_or t 5 0) → ltb 0 y ≡ end_bad (get_or t 4 0) (get_or t 5 0)
    → ltb 0 (get_or t 0 0 / 4294967296 + get_or t 1 0 / 4294967296 + get_or t 3 0 / 4294967296 + x + y) ≡ any_bad (segments_of t)
excess_alone t x y h ex ey = excess_tells _ _ _ _ _ _ x y ex ey ∙ sym (bad_alone t h)

pub largeness_alone : (t : List ℕ) → length t ≡ 6
    → ltb 0 (get_or t 0 0 / 4294967296 + get_or t 1 0 / 4294967296 + get_or t 3 0 / 4294967296 + get_or t 2 0 / 4503599627370496 + get_or t 4 0 / 4503599627370496 + get_or t 5 0 / 4503599627370496) ≡ any_large (segments_of t)
largeness_alone t h = large_tells _ _ _ _ _ _ ∙ sym (large_alone t h)

-- ---- the arrays of six
six_at : (k i : ℕ) (m : List ℕ) (d : List ℕ) → i < k → get_or (first_chunks 6 k m) i d ≡ take 6 (drop (6 * i) m)
six_at zero i m d h = absurd (omega arith)
six_at (suc k) zero m d h = refl
six_at (suc k) (suc i) m d h = let e : 6 * suc i ≡ 6 + 6 * i = omega arith in six_at k i (drop 6 m) d (omega arith) ∙ ap (take 6) (drop-drop (6 * i) 6 m ∙ ap (λ (n : ℕ). drop n m) (sym e))

-- the i-th of the whole segments of m
pub record Row (m t x : List ℕ) (i : ℕ) : Type 0 where
  pub enough : 6 ≤ length t
  pub six : length x ≡ 6
  pub same : (j : ℕ) → j < 6 → get_or x j 0 ≡ get_or t j 0
  pub next : drop (6 * (i + 1)) m ≡ drop 6 t

pub row_at : (m : List ℕ) (s : List (List ℕ)) (i : ℕ) (d : List ℕ) → s ≡ first_chunks 6 (length m / 6) m → length s ≡ length m / 6 → i < length s → Row m (drop (6 * i) m) (get_or s i d) i
row_at m s i d es ls h =
    let e = ap (λ (l : List (List ℕ)). get_or l i d) es ∙ six_at (length m / 6) i m d (omega arith) in
    let n : 6 * (i + 1) ≡ 6 * i + 6 = omega arith in
    let long : 6 ≤ length (drop (6 * i) m) = simp length-drop (omega arith) in
    record {
      enough = long;
      six = ap length e ∙ length-take 6 (drop (6 * i) m) ∙ omega arith;
      same = λ j k. ap (λ (l : List ℕ). get_or l j 0) e ∙ get_or-take 6 (drop (6 * i) m) j 0 k;
      next = ap (λ (k : ℕ). drop k m) n ∙ sym (drop-drop 6 (6 * i) m);
    }

-- ---- the limits of a map
pub parts_left : (m r : List ℕ) (b : Bool) → b ≡ eqb (length r) 0 → length r ≡ length m % 6 → b ≡ false → true ≡ map_bad m
parts_left m r b e h n = left_parts m (length r) h (eqb-false (length r) 0 (sym e ∙ n))

pub too_many : (m r : List ℕ) (b : Bool) (s : List (List ℕ)) → b ≡ eqb (length r) 0 → length r ≡ length m % 6 → b ≡ true → length s ≡ length m / 6 → 1024 < length s → true ≡ map_bad m
too_many m r b s e h n l many = left_many m (length r) h (eqb-true (length r) 0 (sym e ∙ n)) (omega arith)

pub left_start : (m r : List ℕ) (b : Bool) (s : List (List ℕ)) → b ≡ eqb (length r) 0 → length r ≡ length m % 6 → b ≡ true → length s ≡ length m / 6 → length s ≤ 1024 → Left m m 0
left_start m r b s e h n l few = let z : length r ≡ 0 = eqb-true (length r) 0 (sym e ∙ n) in segments_start m (length r) h z (omega arith)

pub left_next : (m : List ℕ) (s : List (List ℕ)) (i n x : ℕ) (d : List ℕ) → Left m (drop (6 * i) m) n → s ≡ first_chunks 6 (length m / 6) m → length s ≡ length m / 6 → i < length s
    → ltb 0 x ≡ any_bad (segments_of (get_or s i d)) → x ≤ 2 ^ 34 → Left m (drop (6 * (i + 1)) m) (n + x)
left_next m s i n x d g es ls h e k =
    let r = row_at m s i d es ls h in
    left_again m (drop (6 * i) m) _ _ _ _ _ _ _ x n g r.enough (r.same 0 (omega arith)) (r.same 1 (omega arith)) (r.same 2 (omega arith)) (r.same 3 (omega arith)) (r.same 4 (omega arith)) (r.same 5 (omega arith)) (e ∙ bad_alone _ r.six, k) r.next

pub left_end : (m : List ℕ) (s : List (List ℕ)) (i n : ℕ) → Left m (drop (6 * i) m) n → length s ≡ length m / 6 → length s ≤ i → ltb 0 n ≡ map_bad m
left_end m s i n g ls h = left_none m (drop (6 * i) m) n g (simp length-drop (omega arith))

-- ---- a group
pub group_next : (m : List ℕ) (s : List (List ℕ)) (i low low' high high' e n x : ℕ) (d : List ℕ) → GroupLeft m (drop (6 * i) m) low high n → s ≡ first_chunks 6 (length m / 6) m → length s ≡ length m / 6 → i < length s
    → low' ≡ min low (get_or (get_or s i d) 2 0) → e ≡ (get_or (get_or s i d) 2 0 + get_or (get_or s i d) 5 0) % 2 ^ 64 → high' ≡ max high e
    → ltb 0 x ≡ any_large (segments_of (get_or s i d)) → x ≤ 2 ^ 34 → GroupLeft m (drop (6 * (i + 1)) m) low' high' (n + x)
group_next m s i low low' high high' e n x d g es ls h el ee eh ex k =
    let r = row_at m s i d es ls h in
    group_again m (drop (6 * i) m) _ low low' high high' e n x g r.enough
    (el ∙ ap (min low) (r.same 2 (omega arith)))
    (ee ∙ rw (r.same 2 (omega arith), r.same 5 (omega arith)) refl) eh
    (ex ∙ large_alone _ r.six ∙ rw (r.same 0 (omega arith), r.same 1 (omega arith), r.same 2 (omega arith), r.same 3 (omega arith), r.same 4 (omega arith), r.same 5 (omega arith)) refl)
    k r.next

pub group_rest : (m : List ℕ) (s : List (List ℕ)) (i : ℕ) → length s ≡ length m / 6 → length s ≤ i → length (drop (6 * i) m) < 6
group_rest m s i ls h = simp length-drop (omega arith)

-- ---- a row of 96 numbers
pub row_front : (t f u : List ℕ) → t ≡ f ++ u → length f ≡ min 96 (length t) → f ≡ take 96 t
row_front t f u e k = go (leb 96 (length t)) refl
  where
    go : (b : Bool) → leb 96 (length t) ≡ b → f ≡ take 96 t
    go true q = sym (ap (take 96) e ∙ take_at f u 96 (omega (arith, leb-true 96 (length t) q)))
    go false q = let z : length u ≡ 0 = omega (arith, ap length e, length-append f u, leb-false 96 (length t) q) in sym (take_all 96 t (omega (arith, leb-false 96 (length t) q)) ∙ e ∙ ap (λ (l : List ℕ). f ++ l) (nil_from_length u z) ∙ append-nil f)

pub row_rest : (t f u : List ℕ) → t ≡ f ++ u → length f ≡ min 96 (length t) → u ≡ drop 96 t
row_rest t f u e k = go (leb 96 (length t)) refl
  where
    go : (b : Bool) → leb 96 (length t) ≡ b → u ≡ drop 96 t
    go true q = sym (ap (drop 96) e ∙ drop_at f u 96 (omega (arith, leb-true 96 (length t) q)))
    go false q = let z : length u ≡ 0 = omega (arith, ap length e, length-append f u, leb-false 96 (length t) q) in nil_from_length u z ∙ sym (drop_all 96 t (omega (arith, leb-false 96 (length t) q)))
