-- Laws of the blocks' readers.
use Prim.Native.Nat.{ℕ, zero, suc, ◌+◌, ◌-◌, ◌*◌, ◌≤◌, ◌<◌, max}
use mathlib.Core.Path.{◌≡◌, refl, ap, sym, ◌∙◌}
use mathlib.Core.Bool.{Bool, true, false, ◌&&◌, cond}
use mathlib.Core.List.{List, [], ◌∷◌, ◌++◌, append-nil, append_assoc}
use lib.Dec.{eqb, leb}
use lib.ListN.{length, get_or, take, drop, length-append, length-drop, drop_of_length-le}
use lib.Seq.{drop-cons, length-take-le}
use native.Mathlib.Omega.{arith}
use borrow.Author.Tests.{eq-eqb, ne_eqb, eqb-true, eqb-false, le-leb, lt-leb}
use Rattle.spec_base.specs.base.Put.{put, placed_at, place_after}
use Rattle.spec_base.proofs.base.Laws.{and_left, and_assoc, and_false, and_true}
use Rattle.spec_base.proofs.base.PutLaws.{put_nil, then_placed}
use Rattle.spec_sheet.specs.checked_blocks.Block.{block_holds}
use Rattle.spec_parked_blocks.specs.parked_blocks.Sealed.{sealed_length, body_length, room_length, all_hold, bodies, room_of, all_zero, is_row, unsealed}

-- ---- the first n blocks
hold_part : (s : List ℕ) (b n : ℕ) → b < n → all_hold s b (n - b) ≡ (block_holds s b && all_hold s (b + 1) (n - (b + 1)))
unfolding all_hold
hold_part s b n h =
    let z : n - b ≡ suc (n - (b + 1)) = omega arith in
    let y : suc b ≡ b + 1 = omega arith in
    ap (all_hold s b) z ∙ ap (λ (i : ℕ). block_holds s b && all_hold s i (n - (b + 1))) y

module _ (s : List ℕ) (b n : ℕ) (inv : all_hold s b (n - b) ≡ all_hold s 0 n) where
  pub hold_step : (t : Bool) → b < n → t ≡ block_holds s b → t ≡ true → all_hold s (b + 1) (n - (b + 1)) ≡ all_hold s 0 n
  hold_step t h e f = ap (λ (u : Bool). u && all_hold s (b + 1) (n - (b + 1))) (sym f ∙ e) ∙ sym (hold_part s b n h) ∙ inv

  pub hold_no : (t : Bool) → b < n → t ≡ block_holds s b → t ≡ false → false ≡ all_hold s 0 n
  hold_no t h e f = ap (λ (u : Bool). u && all_hold s (b + 1) (n - (b + 1))) (sym f ∙ e) ∙ sym (hold_part s b n h) ∙ inv

  pub hold_all : n ≤ b → true ≡ all_hold s 0 n
  unfolding all_hold
  hold_all k = let z : 0 ≡ n - b = omega arith in ap (all_hold s b) z ∙ inv

pub hold_start : (s : List ℕ) (n : ℕ) → all_hold s 0 (n - 0) ≡ all_hold s 0 n
hold_start s n = let z : n - 0 ≡ n = omega arith in ap (all_hold s 0) z

-- ---- zeros, by the largest byte
max_zero : (a b : ℕ) → eqb (max a b) 0 ≡ (eqb a 0 && eqb b 0)
max_zero a b = go (eqb a 0) (eqb b 0) refl refl
  where
    go : (t u : Bool) → eqb a 0 ≡ t → eqb b 0 ≡ u → eqb (max a b) 0 ≡ (t && u)
    go true true p q = eq-eqb (max a b) 0 (omega (arith, eqb-true a 0 p, eqb-true b 0 q))
    go true false p q = ne_eqb (max a b) 0 (λ z. eqb-false b 0 q (omega arith))
    go false u p q = ne_eqb (max a b) 0 (λ z. eqb-false a 0 p (omega arith))

pub zero_more : (s : List ℕ) (i total w : ℕ) → i < length s → w ≡ max total (get_or s i 0) → all_zero s ≡ (eqb total 0 && all_zero (drop i s)) → all_zero s ≡ (eqb w 0 && all_zero (drop (i + 1) s))
unfolding all_zero
zero_more s i total w h e inv =
    let y : suc i ≡ i + 1 = omega arith in
    let x = get_or s i 0 in
    inv ∙ ap (λ (l : List ℕ). eqb total 0 && all_zero l) (drop-cons s i 0 h ∙ ap (λ (j : ℕ). x ∷ drop j s) y)
    ∙ sym (and_assoc (eqb total 0) (eqb x 0) (all_zero (drop (i + 1) s)))
    ∙ ap (λ (t : Bool). t && all_zero (drop (i + 1) s)) (sym (max_zero total x) ∙ ap (λ (n : ℕ). eqb n 0) (sym e))

pub zero_all : (s : List ℕ) (i total : ℕ) → length s ≤ i → all_zero s ≡ (eqb total 0 && all_zero (drop i s)) → eqb total 0 ≡ all_zero s
unfolding all_zero
zero_all s i total h inv = sym (inv ∙ ap (λ (l : List ℕ). eqb total 0 && all_zero l) (drop_of_length-le s h) ∙ and_true (eqb total 0))

-- ---- the room
pub body_is : (s x r : List ℕ) (b : ℕ) → x ≡ drop (512 * b + 4) s → r ≡ take body_length x → r ≡ take body_length (drop (512 * b + 4) s)
body_is s x r b e f = f ∙ ap (take body_length) e

bodies_snoc : (s : List ℕ) (b n : ℕ) → bodies s b (suc n) ≡ bodies s b n ++ take body_length (drop (512 * (b + n) + 4) s)
unfolding bodies
bodies_snoc s b zero =
    let z : b ≡ b + 0 = omega arith in
    append-nil (take body_length (drop (512 * b + 4) s)) ∙ ap (λ (i : ℕ). take body_length (drop (512 * i + 4) s)) z
bodies_snoc s b (suc n) =
    let z : suc b + n ≡ b + suc n = omega arith in
    let v = take body_length (drop (512 * b + 4) s) in
    ap (λ (l : List ℕ). v ++ l) (bodies_snoc s (suc b) n) ∙ sym (append_assoc v (bodies s (suc b) n) (take body_length (drop (512 * (suc b + n) + 4) s)))
    ∙ ap (λ (i : ℕ). (v ++ bodies s (suc b) n) ++ take body_length (drop (512 * i + 4) s)) z

pub bodies_length : (s : List ℕ) (b n : ℕ) → 512 * (b + n) ≤ length s → length (bodies s b n) ≡ body_length * n
unfolding bodies
bodies_length s b zero h = refl
bodies_length s b (suc n) h =
    let v = take body_length (drop (512 * b + 4) s) in
    let one : length v ≡ body_length = length-take-le body_length (drop (512 * b + 4) s) (omega (arith, length-drop (512 * b + 4) s)) in
    omega (arith, length-append v (bodies s (suc b) n), bodies_length s (suc b) n (omega arith))

pub room_length_lem : (s : List ℕ) → length s ≡ sealed_length → length (room_of s) ≡ room_length
room_length_lem s e = bodies_length s 1 17 (omega arith)

pub room_none : (s l : List ℕ) → l ≡ put (bodies s 1 0) l
unfolding bodies
room_none s l = sym (put_nil l)

module _ (s l xs ys p : List ℕ) (k n at next : ℕ) (e : length s ≡ sealed_length) (few : k ≤ 17) (f : room_length ≤ length l) (h : n < k) (a : at ≡ body_length * n)
    (x : xs ≡ put (bodies s 1 n) l) (q : p ≡ take body_length (drop (512 * (n + 1) + 4) s)) (en : next ≡ place_after at p xs) (ey : ys ≡ placed_at at p xs) where
  so_far : length (bodies s 1 n) ≡ body_length * n
  so_far = bodies_length s 1 n (omega arith)

  part_length : length p ≡ body_length
  part_length = ap length q ∙ length-take-le body_length (drop (512 * (n + 1) + 4) s) (omega (arith, length-drop (512 * (n + 1) + 4) s))

  both : (ys ≡ put (bodies s 1 n ++ p) l) × (next ≡ length (bodies s 1 n ++ p))
  both = then_placed at next (bodies s 1 n) p l xs ys x (a ∙ sym so_far) (omega (arith, length-append (bodies s 1 n) p, so_far, part_length)) en ey

  grown : bodies s 1 n ++ p ≡ bodies s 1 (n + 1)
  grown =
      let z : 1 + n ≡ n + 1 = omega arith in
      let y : suc n ≡ n + 1 = omega arith in
      ap (λ (v : List ℕ). bodies s 1 n ++ v) (q ∙ ap (λ (i : ℕ). take body_length (drop (512 * i + 4) s)) (sym z)) ∙ sym (bodies_snoc s 1 n) ∙ ap (bodies s 1) y

  pub room_more : ys ≡ put (bodies s 1 (n + 1)) l
  room_more = both.0 ∙ ap (λ (v : List ℕ). put v l) grown

  pub room_next : next ≡ body_length * (n + 1)
  room_next = omega (arith, both.1, length-append (bodies s 1 n) p, so_far, part_length)

pub room_all : (s l xs : List ℕ) (k n : ℕ) → n ≤ k → k ≤ n → xs ≡ put (bodies s 1 n) l → xs ≡ put (bodies s 1 k) l
room_all s l xs k n h g x = let z : n ≡ k = omega arith in x ∙ ap (λ (i : ℕ). put (bodies s 1 i) l) z

-- ---- a row of blocks
pub row_short : (s : List ℕ) → (length s ≡ sealed_length → ⊥) → false ≡ is_row s
unfolding is_row
row_short s h = rw (ne_eqb (length s) sealed_length h)

pub row_holds : (s : List ℕ) (t : Bool) → length s ≡ sealed_length → t ≡ all_hold s 0 18 → t ≡ is_row s
unfolding is_row
row_holds s t e f = f ∙ ap (λ (u : Bool). u && all_hold s 0 18) (sym (eq-eqb (length s) sealed_length e))

pub row_length : (s : List ℕ) (t : Bool) → t ≡ is_row s → t ≡ true → length s ≡ sealed_length
unfolding is_row
row_length s t e f = eqb-true (length s) sealed_length (and_left (eqb (length s) sealed_length) (all_hold s 0 18) (sym e ∙ f))

pub unseal_short : (s room : List ℕ) → length room < room_length → false ≡ unsealed s (length room)
unseal_short s room h = sym (ap (λ (t : Bool). is_row s && t) (lt-leb room_length (length room) h) ∙ sym (and_false (is_row s)))

pub unseal_no : (s room : List ℕ) (t : Bool) → t ≡ is_row s → t ≡ false → false ≡ unsealed s (length room)
unseal_no s room t e f = ap (λ (u : Bool). u && leb room_length (length room)) (sym f ∙ e)

pub unseal_yes : (s room : List ℕ) (t : Bool) → room_length ≤ length room → t ≡ is_row s → t ≡ true → true ≡ unsealed s (length room)
unseal_yes s room t h e f = λ i. (sym f ∙ e) i && sym (le-leb room_length (length room) h) i

pub none_copied : (s room : List ℕ) → room ≡ put (cond false (room_of s) []) room
none_copied s room = sym (put_nil room)
