-- Laws of painting.
use mathlib.Core.Path.{◌≡◌, refl, sym, ap, subst, ◌∙◌}
use mathlib.Core.Bool.{Bool, true, false, ◌&&◌, cond}
use mathlib.Core.List.{List}
use Prim.Native.Nat.{ℕ, ◌+◌, ◌-◌, ◌≤◌, ◌<◌, min, max}
use native.Mathlib.Omega.{arith}
use lib.Dec.{ltb, leb, eqb}
use lib.ListN.{length, get_or, set, length-set}
use lib.Seq.{get_or-set_same, get_or-set_other}
use borrow.Author.Tests.{lt-ltb, le-ltb, le-leb, lt-leb, ltb-true, ltb-false, leb-true, leb-false, eqb-true, eqb-false}
use Rattle.spec_ask.specs.declared.ask_edges.Edge.{Edge}
use Rattle.spec_ask.specs.ask_edges.Edge.{grade_by}
use Rattle.spec_ask.specs.ask_delay.Paint.{reach, Filled, met_moved, whole_moved, Painted}
use Rattle.spec_base.proofs.base.Laws.{and_false}

-- ---- the loop of a fill
inside : (lo i j : ℕ) → i ≤ j → (leb lo j && ltb j i) ≡ false
inside lo i j h = ap (λ (t : Bool). leb lo j && t) (le-ltb j i h) ∙ sym (and_false (leb lo j))

outside : (lo i j : ℕ) → j < lo → (leb lo j && ltb j i) ≡ false
outside lo i j h = ap (λ (t : Bool). t && ltb j i) (lt-leb lo j h)

pub record Going (lo hi v i : ℕ) (l l' : List ℕ) : Type 0 where
  pub filled : Filled lo i v l l'
  pub low : lo ≤ i
  pub high : i ≤ max lo hi
  pub room : hi ≤ length l

pub fill_start : (lo hi v : ℕ) (l : List ℕ) → hi ≤ length l → Going lo hi v lo l l
fill_start lo hi v l h =
    record {
      filled = record { size = refl; grades = λ j k. sym (ap (λ (t : Bool). cond t v (get_or l j 0)) (none j (ltb j lo) refl)) };
      low = omega arith;
      high = omega arith;
      room = h;
    }
  where
    none : (j : ℕ) (t : Bool) → ltb j lo ≡ t → (leb lo j && ltb j lo) ≡ false
    none j true e = outside lo lo j (ltb-true j lo e)
    none j false e = inside lo lo j (ltb-false j lo e)

module _ (lo hi v i : ℕ) (l l' : List ℕ) (g : Going lo hi v i l l') (h : i < hi) where
  pub fill_index : i < length l'
  fill_index = omega (arith, g.filled.size, g.room)

  at : (j : ℕ) → j < length l → (t : Bool) → eqb j i ≡ t → get_or (set l' i v) j 0 ≡ cond (leb lo j && ltb j (i + 1)) v (get_or l j 0)
  at j k true e =
      let q : j ≡ i = eqb-true j i e in
      let y : (leb lo j && ltb j (i + 1)) ≡ true = rw (le-leb lo j (omega (arith, g.low)), lt-ltb j (i + 1) (omega arith)) in
      ap (λ (n : ℕ). get_or (set l' i v) n 0) q ∙ get_or-set_same l' i v 0 fill_index ∙ sym (ap (λ (t : Bool). cond t v (get_or l j 0)) y)
  at j k false e =
      let n : j ≡ i → ⊥ = eqb-false j i e in
      get_or-set_other l' i j v 0 n ∙ g.filled.grades j k ∙ ap (λ (t : Bool). cond (leb lo j && t) v (get_or l j 0)) (same (ltb j i) refl n)
    where
      same : (t : Bool) → ltb j i ≡ t → (j ≡ i → ⊥) → ltb j i ≡ ltb j (i + 1)
      same true q n = q ∙ sym (lt-ltb j (i + 1) (omega (arith, ltb-true j i q)))
      same false q n = q ∙ sym (le-ltb j (i + 1) (let a = ltb-false j i q in omega arith))

  pub fill_again : Going lo hi v (i + 1) l (set l' i v)
  fill_again =
      record {
        filled = record { size = length-set l' i v ∙ g.filled.size; grades = λ j k. at j k (eqb j i) refl };
        low = omega (arith, g.low);
        high = omega arith;
        room = g.room;
      }

pub fill_end : (lo hi v i : ℕ) (l l' : List ℕ) → Going lo hi v i l l' → hi ≤ i → Filled lo hi v l l'
fill_end lo hi v i l l' g h =
    record {
      size = g.filled.size;
      grades = λ j k. g.filled.grades j k ∙ ap (λ (t : Bool). cond t v (get_or l j 0)) (same j (ltb j hi) (leb lo j) refl refl);
    }
  where
    same : (j : ℕ) (t u : Bool) → ltb j hi ≡ t → leb lo j ≡ u → (leb lo j && ltb j i) ≡ (leb lo j && ltb j hi)
    same j true u e f = ap (λ (t : Bool). leb lo j && t) (lt-ltb j i (omega (arith, ltb-true j hi e)) ∙ sym e)
    same j false true e f =
        let a : lo ≤ j = leb-true lo j f in
        let b : hi ≤ j = ltb-false j hi e in
        inside lo i j (omega (arith, g.high)) ∙ sym (inside lo hi j b)
    same j false false e f = outside lo i j (leb-false lo j f) ∙ sym (outside lo hi j (leb-false lo j f))

pub fill_done : (lo hi end v i : ℕ) (l l' : List ℕ) → Going lo end v i l l' → end ≡ hi → end ≤ i → Filled lo hi v l l'
fill_done lo hi end v i l l' g e h = subst (λ (n : ℕ). Filled lo n v l l') e (fill_end lo end v i l l' g h)

pub fill_size : (lo hi v i : ℕ) (l l' : List ℕ) → Going lo hi v i l l' → length l' ≡ length l
fill_size lo hi v i l l' g = g.filled.size

pub fill_less : (i end : ℕ) → i < end → end - (i + 1) < end - i
fill_less i end h = omega arith

-- ---- places and comparisons
lo_in : (X E j lo : ℕ) → lo ≡ X - E → X ≤ E + j → lo ≤ j
lo_in X E j lo e h = omega arith

lo_out : (X E j lo : ℕ) → lo ≡ X - E → E + j < X → j < lo
lo_out X E j lo e h = omega arith

hi_in : (X S j w hi : ℕ) → hi ≡ min w (X - S) → S + j < X → j < w → j < hi
hi_in X S j w hi e h k = omega arith

hi_out : (X S j w hi : ℕ) → hi ≡ min w (X - S) → X ≤ S + j → hi ≤ j
hi_out X S j w hi e h = omega arith

hi_most : (X S j w hi : ℕ) → hi ≡ min w (X - S) → w ≤ j → hi ≤ j
hi_most X S j w hi e h = omega arith

first_in_lem : (X S j lo first : ℕ) → first ≡ max lo (X - S) → lo ≤ j → X ≤ S + j → first ≤ j
first_in_lem X S j lo first e h k = omega arith

first_low : (X S j lo first : ℕ) → first ≡ max lo (X - S) → j < lo → j < first
first_low X S j lo first e h = omega arith

first_out : (X S j lo first : ℕ) → first ≡ max lo (X - S) → S + j < X → j < first
first_out X S j lo first e h = omega arith

-- ---- two fills, one over the other, are a segment painted
module _ (lo hi first last S E j old : ℕ) (e : Edge) (h : j < 12001)
    (el : lo ≡ e.from + reach - E) (eh : hi ≡ min 12001 (e.till + reach - S)) (ef : first ≡ max lo (e.low + reach - S)) (ea : last ≡ min hi (e.high + reach - E)) where
  by_tests : (u v w x : Bool) → ltb (S + j) (e.till + reach) ≡ u → leb (e.from + reach) (E + j) ≡ v → leb (e.low + reach) (S + j) ≡ w → ltb (E + j) (e.high + reach) ≡ x
      → cond (leb first j && ltb j last) 2 (cond (leb lo j && ltb j hi) 1 old) ≡ grade_by (u && v) (w && x) old
  by_tests true true w x p q r s = inner w x r s
    where
      a : lo ≤ j
      a = lo_in (e.from + reach) E j lo el (leb-true (e.from + reach) (E + j) q)

      b : j < hi
      b = hi_in (e.till + reach) S j 12001 hi eh (ltb-true (S + j) (e.till + reach) p) h

      inner : (w x : Bool) → leb (e.low + reach) (S + j) ≡ w → ltb (E + j) (e.high + reach) ≡ x
          → cond (leb first j && ltb j last) 2 (cond (leb lo j && ltb j hi) 1 old) ≡ grade_by true (w && x) old
      inner true true r s =
          rw (
            le-leb first j (first_in_lem (e.low + reach) S j lo first ef a (leb-true (e.low + reach) (S + j) r)),
            lt-ltb j last (hi_in (e.high + reach) E j hi last ea (ltb-true (E + j) (e.high + reach) s) b),
          )
      inner true false r s =
          rw (le-ltb j last (hi_out (e.high + reach) E j hi last ea (ltb-false (E + j) (e.high + reach) s)), sym (and_false (leb first j)), le-leb lo j a, lt-ltb j hi b)
      inner false x r s =
          rw (lt-leb first j (first_out (e.low + reach) S j lo first ef (leb-false (e.low + reach) (S + j) r)), le-leb lo j a, lt-ltb j hi b)
  by_tests true false w x p q r s =
      let a : j < lo = lo_out (e.from + reach) E j lo el (leb-false (e.from + reach) (E + j) q) in
      rw (lt-leb first j (first_low (e.low + reach) S j lo first ef a), lt-leb lo j a)
  by_tests false v w x p q r s =
      let b : hi ≤ j = hi_out (e.till + reach) S j 12001 hi eh (ltb-false (S + j) (e.till + reach) p) in
      rw (le-ltb j last (hi_most (e.high + reach) E j hi last ea b), sym (and_false (leb first j)), le-ltb j hi b, sym (and_false (leb lo j)))

  grade_is : cond (leb first j && ltb j last) 2 (cond (leb lo j && ltb j hi) 1 old) ≡ grade_by (met_moved e S E j) (whole_moved e S E j) old
  grade_is = by_tests (ltb (S + j) (e.till + reach)) (leb (e.from + reach) (E + j)) (leb (e.low + reach) (S + j)) (ltb (E + j) (e.high + reach)) refl refl refl refl

painted : (lo hi first last S E : ℕ) (e : Edge) (l m l' : List ℕ) → length l ≡ 12001
    → lo ≡ e.from + reach - E → hi ≡ min 12001 (e.till + reach - S) → first ≡ max lo (e.low + reach - S) → last ≡ min hi (e.high + reach - E)
    → Filled lo hi 1 l m → Filled first last 2 m l' → Painted e S E l l'
painted lo hi first last S E e l m l' n el eh ef ea f g =
    record {
      size = g.size ∙ f.size;
      grades = λ j h.
          g.grades j (omega (arith, f.size)) ∙ ap (λ (o : ℕ). cond (leb first j && ltb j last) 2 o) (f.grades j h)
          ∙ grade_is lo hi first last S E j (get_or l j 0) e (omega arith) el eh ef ea;
    }

-- ---- the room
pub first_room_lem : (hi x : ℕ) (l : List ℕ) → length l ≡ 12001 → hi ≡ min 12001 x → hi ≤ length l
first_room_lem hi x l n e = omega arith

pub second_room : (hi x y last lo v : ℕ) (l l' : List ℕ) → length l ≡ 12001 → hi ≡ min 12001 x → last ≡ min hi y → Filled lo hi v l l' → last ≤ length l'
second_room hi x y last lo v l l' n e a f = let z = f.size in omega arith

-- as the code has it
pub painted_by : (e : Edge) (S E : ℕ) (l m l' : List ℕ) (lo x hi y first z last : ℕ) → Filled first last 2 m l' → Filled lo hi 1 l m → length l ≡ 12001
    → lo ≡ e.from + 6000 - E → x ≡ e.till + 6000 - S → hi ≡ min 12001 x → y ≡ e.low + 6000 - S → first ≡ max lo y → z ≡ e.high + 6000 - E → last ≡ min hi z
    → Painted e S E l l'
painted_by e S E l m l' lo x hi y first z last g f n el ex eh ey ef ez ea =
    painted lo hi first last S E e l m l' n el (eh ∙ ap (λ (k : ℕ). min 12001 k) ex) (ef ∙ ap (λ (k : ℕ). max lo k) ey) (ea ∙ ap (λ (k : ℕ). min hi k) ez) f g
