-- Laws of the pass over a sheet's records: the bits that are set are the decode indices met so far.
use Prim.Native.Nat.{ℕ, suc, ◌+◌, ◌-◌, ◌*◌, ◌/◌, ◌%◌, ◌^◌, ◌≤◌, ◌<◌}
use mathlib.Core.Path.{◌≡◌, refl, sym, ap, subst, ◌∙◌}
use mathlib.Core.Bool.{Bool, true, false, cond, not, ◌&&◌, false≢true, true≢false}
use mathlib.Core.List.{List, ◌++◌}
use native.Mathlib.Omega.{arith}
use native.Mathlib.Nat.{zero-div}
use native.Mathlib.Numerals.{add-one}
use borrow.Author.Tests.{lt-ltb, le-ltb, le-leb, lt-leb, eq-eqb, ne_eqb, eqb-true, eqb-false}
use lib.Dec.{ltb, eqb}
use lib.ListN.{length, get_or, take, drop, replicate, length-replicate}
use lib.Seq.{length-take-le}
use Rattle.spec_base.specs.base.Put.{put}
use Rattle.spec_base.proofs.base.PutLaws.{placed_yes, placed_no}
use Rattle.spec_base.specs.base.Refusal.{fault_unless, first_of}
use Rattle.spec_base.proofs.base.RefusalLaws.{unless_held, unless_failed, else_none, else_here, left_here, left_next}
use Rattle.spec_sheet.specs.sheet_frames.Frames.{decode_of}
use Rattle.spec_sheet.specs.sheet_permutation.Once.{times_named, repeat_fault, work_bytes, once_number, work_once, bit_of, with_bit}
use Rattle.spec_sheet.proofs.sheet_permutation.BitLaws.{bit_after, byte_after}
use Rattle.spec_base.proofs.base.Laws.{zero_at}

-- the bits are the decode indices of the first i records
pub record Seen (s : List ℕ) (i : ℕ) (bits : List ℕ) : Type 0 where
  pub bytes : (j : ℕ) → get_or bits j 0 < 256
  pub met : (d : ℕ) → bit_of bits d ≡ not (eqb (times_named s i d) 0)

-- ---- clear bits: none is met
zero_bit : (k : ℕ) → 0 / 2 ^ k % 2 ≡ 0
zero_bit k = ap (λ (x : ℕ). x % 2) (zero-div (2 ^ k))

pub seen_none : (s bits : List ℕ) → bits ≡ replicate (length bits) 0 → Seen s 0 bits
unfolding bit_of times_named
seen_none s bits e =
    let z : (j : ℕ) → get_or bits j 0 ≡ 0 = λ j. ap (λ (x : List ℕ). get_or x j 0) e ∙ zero_at (length bits) j in
    record { bytes = λ j. omega (arith, z j); met = λ d. ap (λ (x : ℕ). eqb (x / 2 ^ (d % 8) % 2) 1) (z (d / 8)) ∙ ap (λ (x : ℕ). eqb x 1) (zero_bit (d % 8)) }

-- ---- record i has the decode index d
module _ (s : List ℕ) (n i d v : ℕ) (ed : d ≡ decode_of s i) (inv : first_of (repeat_fault s n) i (n - i) ≡ v) (l : i < n) where
  fault_is : (t u : Bool) → ltb (decode_of s i) n ≡ t → eqb (times_named s i (decode_of s i)) 0 ≡ u → repeat_fault s n i ≡ fault_unless (t && u) 25
  unfolding repeat_fault
  fault_is t u a b = rw (a, b)

  pub repeat_high : n ≤ d → 25 ≡ v
  unfolding repeat_fault fault_unless
  repeat_high h =
      let q : 25 ≡ repeat_fault s n i = rw (le-ltb (decode_of s i) n (omega arith)) in
      left_here _ i n v 25 inv l q (omega arith)

  module _ (bits : List ℕ) (seen : Seen s i bits) (low : d < n) (t : Bool) (et : t ≡ bit_of bits d) where
    met_is : not (eqb (times_named s i (decode_of s i)) 0) ≡ t
    met_is = ap (λ (x : ℕ). not (eqb (times_named s i x) 0)) (sym ed) ∙ sym (seen.met d) ∙ sym et

    fresh : (u : Bool) → not u ≡ t → (t ≡ false → u ≡ true) × (t ≡ true → u ≡ false)
    fresh true e = (λ z. refl, λ z. absurd (false≢true (e ∙ z)))
    fresh false e = (λ z. absurd (true≢false (e ∙ z)), λ z. refl)

    below : ltb (decode_of s i) n ≡ true
    below = lt-ltb (decode_of s i) n (omega arith)

    pub repeat_met : t ≡ true → 25 ≡ v
    unfolding fault_unless
    repeat_met h =
        let u = (fresh (eqb (times_named s i (decode_of s i)) 0) met_is).1 h in
        left_here _ i n v 25 inv l (sym (fault_is true false below u)) (omega arith)

    pub repeat_none : t ≡ false → first_of (repeat_fault s n) (i + 1) (n - (i + 1)) ≡ v
    unfolding fault_unless
    repeat_none h =
        let u = (fresh (eqb (times_named s i (decode_of s i)) 0) met_is).0 h in
        left_next _ i n v inv l (fault_is true true below u)

-- ---- one record more
counted : (k e x : ℕ) → not (eqb (k + cond (eqb x e) 1 0) 0) ≡ cond (eqb x e) true (not (eqb k 0))
counted k e x = go (eqb x e)
  where
    go : (t : Bool) → not (eqb (k + cond t 1 0) 0) ≡ cond t true (not (eqb k 0))
    go true = ap not (ne_eqb (k + 1) 0 (λ q. omega arith))
    go false =
        let q : k + 0 ≡ k = omega arith in
        ap (λ (y : ℕ). not (eqb y 0)) q

pub eqb_turn : (x y : ℕ) → eqb x y ≡ eqb y x
eqb_turn x y = go (eqb x y) refl
  where
    go : (t : Bool) → eqb x y ≡ t → t ≡ eqb y x
    go true e = sym (eq-eqb y x (sym (eqb-true x y e)))
    go false e = sym (ne_eqb y x (λ q. eqb-false x y e (sym q)))

named_suc : (s : List ℕ) (i e : ℕ) → not (eqb (times_named s (suc i) e) 0) ≡ not (eqb (times_named s i e + cond (eqb (decode_of s i) e) 1 0) 0)
unfolding times_named
named_suc s i e = refl

pub seen_more : (s bits₀ bits after : List ℕ) (n i d : ℕ) → d ≡ decode_of s i → d < n → n ≤ 8 * length bits₀ → length bits ≡ length bits₀ → after ≡ with_bit bits d → Seen s i bits
    → Seen s (i + 1) after
seen_more s bits₀ bits after n i d ed low room same ea seen =
    let r : d / 8 < length bits = omega arith in
    let m : (e : ℕ) → bit_of (with_bit bits d) e ≡ not (eqb (times_named s (i + 1) e) 0) =
    λ e. bit_after bits d e seen.bytes r ∙ ap (λ (x : Bool). cond x true (bit_of bits e)) (eqb_turn e d)
    ∙ ap (λ (x : Bool). cond (eqb d e) true x) (seen.met e) ∙ sym (counted (times_named s i e) e d)
    ∙ ap (λ (x : ℕ). not (eqb (times_named s i e + cond (eqb x e) 1 0) 0)) ed ∙ sym (named e) in
    record { bytes = λ j. subst (λ (x : List ℕ). get_or x j 0 < 256) (sym ea) (byte_after bits d j seen.bytes r); met = λ e. ap (λ (x : List ℕ). bit_of x e) ea ∙ m e }
  where
    named : (e : ℕ) → not (eqb (times_named s (i + 1) e) 0) ≡ not (eqb (times_named s i e + cond (eqb (decode_of s i) e) 1 0) 0)
    named e = ap (λ (k : ℕ). not (eqb (times_named s k e) 0)) (add-one i) ∙ named_suc s i e

-- ---- lent bytes
pub clear_now : (b₀ b : List ℕ) → b ≡ replicate (length b₀) 0 → b ≡ replicate (length b) 0
clear_now b₀ b e = e ∙ ap (λ (k : ℕ). replicate k 0) (sym (length-replicate (length b₀) 0) ∙ ap length (sym e))

pub clear_all : (b₀ b₁ b₂ : List ℕ) → length b₁ ≡ length b₀ → b₂ ≡ replicate (length b₁) 0 → b₂ ≡ replicate (length b₀) 0
clear_all b₀ b₁ b₂ q e = e ∙ ap (λ (k : ℕ). replicate k 0) q

-- m is the count of the bytes needed; they were lent, and came back as b
module _ (s work : List ℕ) (n m : ℕ) (em : m ≡ work_bytes n) where
  zeros : length (replicate {A = ℕ} (work_bytes n) 0) ≡ work_bytes n
  zeros = length-replicate (work_bytes n) 0

  pub short_number : length work < m → 16 ≡ once_number s n (length work)
  unfolding once_number
  short_number h = else_here _ _ 16 (sym (unless_failed 16 (lt-leb (work_bytes n) (length work) (omega arith)))) (omega arith)

  pub short_work : length work < m → work ≡ work_once n work
  unfolding work_once
  short_work h = sym (placed_no (replicate (work_bytes n) 0) work (omega (arith, zeros)))

  pub room_enough : m ≤ length work → n ≤ 8 * length (take m work)
  unfolding work_bytes
  room_enough h = omega (arith, length-take-le m work h, em)

  pub told_number : (v : ℕ) → m ≤ length work → v ≡ first_of (repeat_fault s n) 0 n → v ≡ once_number s n (length work)
  unfolding once_number
  told_number v h ev = ev ∙ sym (else_none _ (unless_held 16 (le-leb (work_bytes n) (length work) (omega arith))))

  pub told_work : (b : List ℕ) → m ≤ length work → b ≡ replicate (length (take m work)) 0 → b ++ drop m work ≡ work_once n work
  unfolding work_once put
  told_work b h eb =
      let c : b ≡ replicate (work_bytes n) 0 = eb ∙ ap (λ (k : ℕ). replicate k 0) (length-take-le m work h ∙ em) in
      ap (λ (x : List ℕ). x ++ drop m work) c ∙ ap (λ (k : ℕ). replicate (work_bytes n) 0 ++ drop k work) (em ∙ sym zeros)
      ∙ sym (placed_yes (replicate (work_bytes n) 0) work (omega (arith, zeros)))
