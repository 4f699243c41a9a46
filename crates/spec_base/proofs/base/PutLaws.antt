-- Laws of `put`: a piece at the start of a buffer, and a piece after it.
use mathlib.Core.Bool.{Bool, true, false, cond}
use lib.Dec.{leb}
use borrow.Author.Tests.{le-leb, lt-leb, leb-true, leb-false}
use mathlib.Core.Path.{◌≡◌, refl, sym, ap, ◌∙◌}
use mathlib.Core.List.{List, [], ◌∷◌, ◌++◌, append_assoc, append-nil}
use Prim.Native.Nat.{ℕ, zero, suc, ◌+◌, ◌-◌, ◌≤◌, ◌<◌}
use native.Mathlib.Omega.{arith}
use native.Mathlib.Nat.{le_of_eq, not-suc-le-zero, zero-add}
use native.Mathlib.Numerals.{add-one}
use lib.ListN.{length, take, drop, get_or, set, length-append, length-drop, length-take, drop_of_length-le, take-append-drop}
use lib.Seq.{sets, sets-eq, take_all, take-suc, drop-drop, length-take-le, take-append_seam, drop-append_seam}
use Rattle.spec_base.specs.base.Put.{put, put_at, placed, placed_length, placed_at, place_after}
use Rattle.spec_base.proofs.base.PartLaws.{rest_length}

pub put_nil : {A : Type 0} (l : List A) → put [] l ≡ l
unfolding put
put_nil l = refl

pub length_put : {A : Type 0} (v l : List A) → length v ≤ length l → length (put v l) ≡ length l
unfolding put
length_put v l h = simp (length-append, length-drop) (omega arith)

pub put_snoc : (v l : List ℕ) (b : ℕ) → length v < length l → set (put v l) (length v) b ≡ put (v ++ (b ∷ [])) l
unfolding put
put_snoc [] [] b h = absurd (not-suc-le-zero h)
put_snoc [] (x ∷ l) b h = refl
put_snoc (a ∷ v) [] b h = absurd (not-suc-le-zero h)
put_snoc (a ∷ v) (x ∷ l) b h = ap (λ (t : List ℕ). a ∷ t) (put_snoc v l b (omega arith))

pub put_snoc_at : (v l : List ℕ) (b n : ℕ) → n ≡ length v → n < length l → set (put v l) n b ≡ put (v ++ (b ∷ [])) l
put_snoc_at v l b n e h = rw e (put_snoc v l b (omega arith))

pub put_one : (l : List ℕ) (b : ℕ) → 0 < length l → set l 0 b ≡ put (b ∷ []) l
unfolding put
put_one l b h = put_snoc [] l b h

pub put_two : (l : List ℕ) (a b : ℕ) → 1 < length l → set (set l 0 a) 1 b ≡ put (a ∷ b ∷ []) l
put_two l a b h = rw (put_one l a (omega arith)) (put_snoc (a ∷ []) l b h)

pub put_append : (w v l : List ℕ) → w ++ put v (drop (length w) l) ≡ put (w ++ v) l
unfolding put
put_append w v l = simp (append_assoc, length-append, drop-drop)

pub take_put : (w l : List ℕ) → take (length w) (put w l) ≡ w
unfolding put
take_put w l = take-append_seam w (drop (length w) l)

pub drop_put : (w l : List ℕ) → drop (length w) (put w l) ≡ drop (length w) l
unfolding put
drop_put w l = drop-append_seam w (drop (length w) l)

at_seam : (w v l : List ℕ) → take (length w) (put w l) ++ put v (drop (length w) (put w l)) ≡ put (w ++ v) l
at_seam w v l = rw (take_put, drop_put) (put_append w v l)

-- what was lent from a on, after the piece w, is back with the piece v at its start: both pieces stand at the start of the whole
pub put_back : (a : ℕ) (w v l xs ys : List ℕ) → xs ≡ put w l → a ≡ length w → ys ≡ put v (take (length xs - a) (drop a xs)) → take a xs ++ (ys ++ drop (length xs - a) (drop a xs)) ≡ put (w ++ v) l
put_back a w v l xs ys e h f =
    rw (f, take_all (length xs - a) (drop a xs) (le_of_eq (length-drop a xs)), drop_of_length-le (drop a xs) (le_of_eq (length-drop a xs)), append-nil, e, h) (at_seam w v l)

-- one more element of s
pub put_take : (s l : List ℕ) (i : ℕ) → i < length s → length s ≤ length l → set (put (take i s) l) i (get_or s i 0) ≡ put (take (i + 1) s) l
put_take s l i h k =
    rw (add-one, take-suc s i 0)
    (put_snoc_at (take i s) l (get_or s i 0) i (sym (length-take-le i s (omega arith))) (omega arith))

-- what was lent from a on is back, with v written at its start
pub tail_back : {A : Type 0} (a : ℕ) (v xs ys : List A) → ys ≡ put v (take (length xs - a) (drop a xs)) → take a xs ++ (ys ++ drop (length xs - a) (drop a xs)) ≡ put_at a v xs
unfolding put_at
tail_back a v xs ys f =
    rw (f, take_all (length xs - a) (drop a xs) (le_of_eq (length-drop a xs)), drop_of_length-le (drop a xs) (le_of_eq (length-drop a xs)), append-nil)

pub put_at_zero : {A : Type 0} (v l : List A) → put_at 0 v l ≡ put v l
unfolding put_at
put_at_zero v l = refl

-- the cursor stands at the end of what was put
pub put_at_put : (a : ℕ) (w v l : List ℕ) → a ≡ length w → put_at a v (put w l) ≡ put (w ++ v) l
unfolding put_at
put_at_put a w v l h = rw (h, take_put, drop_put) (put_append w v l)

-- one more piece after the pieces w
pub then_put : (a : ℕ) (w v l xs ys : List ℕ) → xs ≡ put w l → a ≡ length w → ys ≡ put_at a v xs → ys ≡ put (w ++ v) l
then_put a w v l xs ys e h f = rw (f, e) (put_at_put a w v l h)

pub put_at_nil : {A : Type 0} (a : ℕ) (l : List A) → put_at a [] l ≡ l
unfolding put_at put
put_at_nil a l = take-append-drop a l

-- a piece that fits is placed, and one that does not is not
pub placed_yes : {A : Type 0} (v l : List A) → length v ≤ length l → placed v l ≡ put v l
unfolding placed
placed_yes v l h = rw (le-leb (length v) (length l) h)

pub placed_no : {A : Type 0} (v l : List A) → length l < length v → placed v l ≡ l
unfolding placed
placed_no v l h = rw (lt-leb (length v) (length l) h)

pub length_yes : {A : Type 0} (v l : List A) → length v ≤ length l → placed_length v l ≡ length v
unfolding placed_length
length_yes v l h = rw (le-leb (length v) (length l) h)

pub length_no : {A : Type 0} (v l : List A) → length l < length v → placed_length v l ≡ 0
unfolding placed_length
length_no v l h = rw (lt-leb (length v) (length l) h)

pub at_yes : {A : Type 0} (a : ℕ) (v l : List A) → a + length v ≤ length l → placed_at a v l ≡ put_at a v l
unfolding placed_at
at_yes a v l h = rw (le-leb (a + length v) (length l) h)

pub at_no : {A : Type 0} (a : ℕ) (v l : List A) → length l < a + length v → placed_at a v l ≡ l
unfolding placed_at
at_no a v l h = rw (lt-leb (a + length v) (length l) h)

pub after_yes : {A : Type 0} (a : ℕ) (v l : List A) → a + length v ≤ length l → place_after a v l ≡ a + length v
unfolding place_after
after_yes a v l h = rw (le-leb (a + length v) (length l) h)

pub after_no : {A : Type 0} (a : ℕ) (v l : List A) → length l < a + length v → place_after a v l ≡ a
unfolding place_after
after_no a v l h = rw (lt-leb (a + length v) (length l) h)

-- a slice copied by a loop
pub copied : (s l₀ l : List ℕ) (i : ℕ) → i ≤ length s → length s ≤ i → length s ≤ length l₀ → l ≡ put (take i s) l₀ → (i ≡ placed_length s l₀) × (l ≡ placed s l₀)
copied s l₀ l i a b r e =
    let n : i ≡ length s = omega arith in
    let t : take i s ≡ s = take_all i s b in
    (n ∙ sym (length_yes s l₀ r), e ∙ ap (λ (x : List ℕ). put x l₀) t ∙ sym (placed_yes s l₀ r))

pub not_copied : {A : Type 0} (s l : List A) → length l < length s → (0 ≡ placed_length s l) × (l ≡ placed s l)
not_copied s l h = (sym (length_no s l h), sym (placed_no s l h))

-- the writer at a place: the tail was lent, and is back
pub at_back : {A : Type 0} (a n : ℕ) (v xs ys : List A) → a ≤ length xs → n ≡ placed_length v (take (length xs - a) (drop a xs)) → ys ≡ placed v (take (length xs - a) (drop a xs))
    → (a + n ≡ place_after a v xs) × (take a xs ++ (ys ++ drop (length xs - a) (drop a xs)) ≡ placed_at a v xs)
at_back a n v xs ys h en ey = go (leb (a + length v) (length xs)) refl
  where
    go : (t : Bool) → leb (a + length v) (length xs) ≡ t → (a + n ≡ place_after a v xs) × (take a xs ++ (ys ++ drop (length xs - a) (drop a xs)) ≡ placed_at a v xs)
    go true e =
        let f : a + length v ≤ length xs = leb-true (a + length v) (length xs) e in
        let r : length v ≤ length (take (length xs - a) (drop a xs)) = rw rest_length (omega arith) in
        (ap (λ (m : ℕ). a + m) (en ∙ length_yes v _ r) ∙ sym (after_yes a v xs f), tail_back a v xs ys (ey ∙ placed_yes v _ r) ∙ sym (at_yes a v xs f))
    go false e =
        let f : length xs < a + length v = leb-false (a + length v) (length xs) e in
        let r : length (take (length xs - a) (drop a xs)) < length v = rw rest_length (omega arith) in
        let b : ys ≡ put [] (take (length xs - a) (drop a xs)) = ey ∙ placed_no v _ r ∙ sym (put_nil _) in
        let z : n ≡ 0 = en ∙ length_no v _ r in
        (omega (arith, after_no a v xs f), tail_back a [] xs ys b ∙ put_at_nil a xs ∙ sym (at_no a v xs f))

pub at_past : {A : Type 0} (a : ℕ) (v l : List A) → length l < a → (a ≡ place_after a v l) × (l ≡ placed_at a v l)
at_past a v l h = (sym (after_no a v l (omega arith)), sym (at_no a v l (omega arith)))

-- one more piece, with room
pub then_placed : (a n : ℕ) (w v l xs ys : List ℕ) → xs ≡ put w l → a ≡ length w → length (w ++ v) ≤ length l → n ≡ place_after a v xs → ys ≡ placed_at a v xs
    → (ys ≡ put (w ++ v) l) × (n ≡ length (w ++ v))
then_placed a n w v l xs ys e h r en ey =
    let lw : length (w ++ v) ≡ length w + length v = length-append w v in
    let lx : length xs ≡ length l = ap length e ∙ length_put w l (omega arith) in
    let f : a + length v ≤ length xs = omega arith in
    (then_put a w v l xs ys e h (ey ∙ at_yes a v xs f), en ∙ after_yes a v xs f ∙ omega arith)

pub placed_room : {A : Type 0} (v l : List A) (n : ℕ) → n ≡ placed_length v l → n ≤ length l
unfolding placed_length
placed_room v l n e = go (leb (length v) (length l)) refl e
  where
    go : (t : Bool) → leb (length v) (length l) ≡ t → n ≡ cond t (length v) 0 → n ≤ length l
    go true h q = omega (arith, leb-true (length v) (length l) h)
    go false h q = omega arith

pub none_placed : {A : Type 0} (l : List A) → (0 ≡ placed_length [] l) × (l ≡ placed [] l)
none_placed l = (sym (length_yes [] l (omega arith)), sym (placed_yes [] l (omega arith) ∙ put_nil l))

-- two numbers stored at a place
set_two : (l : List ℕ) (at a b : ℕ) → at + 2 ≤ length l → set (set l at a) (suc at) b ≡ put_at at (a ∷ b ∷ []) l
unfolding put_at put
set_two [] at a b h = absurd (omega arith)
set_two (x ∷ []) at a b h = absurd (omega arith)
set_two (x ∷ y ∷ l) zero a b h = refl
set_two (x ∷ y ∷ l) (suc at) a b h = ap (λ (t : List ℕ). x ∷ t) (set_two (y ∷ l) at a b (omega arith))

pub set_pair : (l : List ℕ) (at a b : ℕ) → at + 2 ≤ length l → set (set l at a) (at + 1) b ≡ put_at at (a ∷ b ∷ []) l
set_pair l at a b h = rw add-one (set_two l at a b h)

pub pair_stored : (l : List ℕ) (at a b : ℕ) → at ≤ length l → 2 ≤ length l - at
    → (at + 2 ≡ place_after at (a ∷ b ∷ []) l) × (set (set l at a) (at + 1) b ≡ placed_at at (a ∷ b ∷ []) l)
pair_stored l at a b h k =
    let f : at + 2 ≤ length l = omega arith in
    (sym (after_yes at (a ∷ b ∷ []) l f), set_pair l at a b f ∙ sym (at_yes at (a ∷ b ∷ []) l f))

pub pair_short : (l : List ℕ) (at a b : ℕ) → at ≤ length l → length l - at < 2 → (at ≡ place_after at (a ∷ b ∷ []) l) × (l ≡ placed_at at (a ∷ b ∷ []) l)
pair_short l at a b h k =
    let f : length l < at + 2 = omega arith in
    (sym (after_no at (a ∷ b ∷ []) l f), sym (at_no at (a ∷ b ∷ []) l f))

-- a run of stores from the first place on is a piece at the start
pub sets_put : (v l : List ℕ) → length v ≤ length l → sets l 0 v ≡ put v l
unfolding put
sets_put v l h = rw (sets-eq v l 0 (omega arith), zero-add)

-- ---- six numbers at a place, two by two
pub put_front : (l : List ℕ) (i : ℕ) → i ≤ length l → l ≡ put (take i l) l
unfolding put
put_front l i h = sym (ap (λ (k : ℕ). take i l ++ drop k l) (length-take-le i l h) ∙ take-append-drop i l)

pub put_at_front : (v l : List ℕ) (i : ℕ) → i ≤ length l → put_at i v l ≡ put (take i l ++ v) l
unfolding put_at
put_at_front v l i h = ap (λ (k : ℕ). take i l ++ put v (drop k l)) (sym (length-take-le i l h)) ∙ put_append (take i l) v l

pub numbers_stored : (l l₁ l₂ l₃ : List ℕ) (at a b q k o d : ℕ) → at + 6 ≤ length l
    → l₁ ≡ placed_at at (a ∷ b ∷ []) l → l₂ ≡ placed_at (at + 2) (q ∷ k ∷ []) l₁ → l₃ ≡ placed_at (at + 4) (o ∷ d ∷ []) l₂
    → l₃ ≡ put_at at (a ∷ b ∷ q ∷ k ∷ o ∷ d ∷ []) l
numbers_stored l l₁ l₂ l₃ at a b q k o d h e₁ e₂ e₃ =
    let n : length (take at l) ≡ at = length-take-le at l (omega arith) in
    let n₁ : length (take at l ++ (a ∷ b ∷ [])) ≡ at + 2 = simp length-append (omega arith) in
    let n₂ : length (take at l ++ (a ∷ b ∷ []) ++ (q ∷ k ∷ [])) ≡ at + 4 = simp length-append (omega arith) in
    let n₃ : length (take at l ++ (a ∷ b ∷ []) ++ (q ∷ k ∷ []) ++ (o ∷ d ∷ [])) ≡ at + 6 = simp length-append (omega arith) in
    let r₁ = then_placed at _ (take at l) (a ∷ b ∷ []) l l l₁ (put_front l at (omega arith)) (sym n) (omega arith) refl e₁ in
    let r₂ = then_placed (at + 2) _ (take at l ++ (a ∷ b ∷ [])) (q ∷ k ∷ []) l l₁ l₂ r₁.0 (sym n₁) (omega arith) refl e₂ in
    let r₃ = then_placed (at + 4) _ (take at l ++ (a ∷ b ∷ []) ++ (q ∷ k ∷ [])) (o ∷ d ∷ []) l l₂ l₃ r₂.0 (sym n₂) (omega arith) refl e₃ in
    let g : take at l ++ (a ∷ b ∷ []) ++ (q ∷ k ∷ []) ++ (o ∷ d ∷ []) ≡ take at l ++ (a ∷ b ∷ q ∷ k ∷ o ∷ d ∷ []) = simp append_assoc in
    r₃.0 ∙ ap (λ (v : List ℕ). put v l) g ∙ sym (put_at_front (a ∷ b ∷ q ∷ k ∷ o ∷ d ∷ []) l at (omega arith))

pub placed_length_lem : (p : ℕ) (v l : List ℕ) → length (placed_at p v l) ≡ length l
unfolding placed_at put_at put
placed_length_lem p v l = go (leb (p + length v) (length l)) refl
  where
    go : (t : Bool) → leb (p + length v) (length l) ≡ t → length (cond t (take p l ++ (v ++ drop (length v) (drop p l))) l) ≡ length l
    go true e = let h : p + length v ≤ length l = leb-true (p + length v) (length l) e in simp (length-append, length-take, length-drop) (omega arith)
    go false e = refl
