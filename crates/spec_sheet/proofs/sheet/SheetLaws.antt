-- Laws of the frame sheet that crates above cite.
use Prim.Native.Nat.{ℕ, zero, suc, ◌+◌, ◌-◌, ◌*◌, ◌/◌, ◌≤◌, ◌<◌}
use mathlib.Core.Bool.{Bool, true, false}
use mathlib.Core.List.{List}
use mathlib.Core.Logic.{◌⊎◌, inl, inr, ⊎_elim}
use mathlib.Core.Path.{◌≡◌, refl, sym, ap, ◌∙◌}
use native.Mathlib.Omega.{arith}
use lib.Dec.{ltb}
use lib.ListN.{get_or}
use borrow.Author.Tests.{le-leb, lt-ltb, ltb-true, leb-true}
use Rattle.std.specs.Prelude.{Result, Ok, Err}
use Rattle.spec_base.specs.base.Limits.{most_timescale, most_frames, most_ticks, most_work}
use Rattle.spec_base.specs.base.Refusal.{◌or_else◌, fault_unless, first_of}
use Rattle.spec_base.proofs.base.RefusalLaws.{held, else_none, else_zero, else_either, first_zero}
use Rattle.spec_sheet.specs.sheet_frames.Frames.{timescale_of, frames_of, rate_num_of, rate_den_of, decode_of}
use Rattle.spec_sheet.specs.sheet_permutation.Once.{repeat_fault, work_bytes, once_number, EachOnce}
use Rattle.spec_sheet.proofs.sheet_permutation.NamedLaws.{number_once, once_number_lem}
use Rattle.spec_sheet.proofs.sheet.TotalLaws.{total_held, total_within, total_short}
use Rattle.spec_sheet.specs.sheet.Sheet.{sheet_fault, total_fault, sheet_number, sheet_of, number_of}
use Rattle.spec_sheet.specs.sheet_frames.Frames.{long_of, per_block, record_word, ticks_from}
use Rattle.spec_sheet.specs.sheet.Sheet.{spare_fault, timescale_in, head_fault, spare_record, record_fault, check_fault, block_fault, record_blocks, head_of, sheet_answer}
use Rattle.spec_sheet.specs.declared.sheet.Head.{Head}
use Rattle.spec_base.proofs.base.RefusalNumbers.{else_numbers, cond_numbers, unless_numbers, first_numbers}

-- ---- a sheet without a fault
record SoundParts (s : List ℕ) : Type 0 where
  pub head : head_fault s ≡ 0
  pub blocks : first_of (block_fault s (frames_of s)) 1 (record_blocks (long_of s) (frames_of s)) ≡ 0

sound_parts : (s : List ℕ) → sheet_fault s ≡ 0 → SoundParts s
unfolding sheet_fault
sound_parts s e =
    let b = else_zero _ _ (else_zero _ _ (else_zero _ _ e).1).1 in
    let h = else_zero _ _ b.1 in
    let l = else_zero _ _ h.1 in
    record { head = h.0; blocks = l.1 }

-- what its head has
pub record SoundHead (s : List ℕ) : Type 0 where
  pub timescale_low : 0 < timescale_of s
  pub timescale_high : timescale_of s ≤ most_timescale
  pub frames_low : 0 < frames_of s
  pub frames_high : frames_of s ≤ most_frames

within_most : {k : ℕ} (t : Bool) → k ≤ timescale_in t → k ≤ most_timescale
within_most false h = omega arith
within_most true h = h

head_parts : (s : List ℕ) → head_fault s ≡ 0 → SoundHead s
unfolding head_fault
head_parts s e =
    let t = else_zero _ _ (else_zero _ _ e).1 in
    let u = else_zero _ _ t.1 in
    let v = else_zero _ _ u.1 in
    let w = else_zero _ _ v.1 in
    record {
      timescale_low = ltb-true _ _ (held _ 13 (omega arith) t.0);
      timescale_high = within_most (long_of s) (leb-true _ _ (held _ 13 (omega arith) u.0));
      frames_low = ltb-true _ _ (held _ 13 (omega arith) v.0);
      frames_high = leb-true _ _ (held _ 13 (omega arith) w.0);
    }

pub sound_head : (s : List ℕ) → sheet_fault s ≡ 0 → SoundHead s
sound_head s e = head_parts s (sound_parts s e).head

pub frames_few : (s : List ℕ) (f n : ℕ) → f ≡ sheet_fault s → f ≡ 0 → n ≡ frames_of s → n ≤ most_frames
frames_few s f n ef z e = omega (arith, (sound_head s (sym ef ∙ z)).frames_high)

record_inside : (s : List ℕ) (n i : ℕ) → i < n → record_fault s n i ≡ fault_unless (ltb (decode_of s i) n) 14
unfolding record_fault
record_inside s n i l = rw (lt-ltb i n l)

-- the block of record i is one of those that hold n records, and the record one of its own
record Inside (t : Bool) (n i b : ℕ) : Type 0 where
  low : 1 ≤ b
  high : b < 1 + record_blocks t n
  from : per_block t * (b - 1) ≤ i
  below : i < per_block t * (b - 1) + per_block t

abbrev block_of : (long : Bool) → ℕ → ℕ
block_of false i = 1 + i / 63
block_of true i = 1 + i / 42

inside : (t : Bool) (n i : ℕ) → i < n → Inside t n i (block_of t i)
unfolding record_blocks
inside false n i l = record { low = omega arith; high = omega arith; from = omega arith; below = omega arith }
inside true n i l = record { low = omega arith; high = omega arith; from = omega arith; below = omega arith }

-- the decode index of a frame is below the frame count
pub sound_decode : (s : List ℕ) (i : ℕ) → sheet_fault s ≡ 0 → i < frames_of s → decode_of s i < frames_of s
unfolding block_fault
sound_decode s i e l =
    let p = inside (long_of s) (frames_of s) i l in
    let b : block_fault s (frames_of s) (block_of (long_of s) i) ≡ 0 = first_zero _ _ _ (sound_parts s e).blocks (block_of (long_of s) i) p.low p.high in
    let r : record_fault s (frames_of s) i ≡ 0 = first_zero _ _ _ (else_zero _ _ b).1 i p.from p.below in
    ltb-true _ _ (held _ 14 (omega arith) (sym (record_inside s (frames_of s) i l) ∙ r))

-- ---- the numbers of the table: 0, 11 to 14
abbrev FaultNumber : ℕ → Type 0
FaultNumber k = (k ≡ 0) ⊎ ((11 ≤ k) × (k ≤ 14))

none : FaultNumber 0
none = inl refl

within : (k : ℕ) → 11 ≤ k → k ≤ 14 → FaultNumber k
within k a b = inr (a, b)

spare_number : (s : List ℕ) (k i : ℕ) → FaultNumber k → FaultNumber (spare_fault s k i)
unfolding spare_fault
spare_number s k i p = unless_numbers FaultNumber none _ k p

test : (t : Bool) (k : ℕ) → 11 ≤ k → k ≤ 14 → FaultNumber (fault_unless t k)
test t k a b = unless_numbers FaultNumber none t k (within k a b)

or_else_lem : {a b : ℕ} → FaultNumber a → FaultNumber b → FaultNumber (a or_else b)
or_else_lem {a} {b} p q = else_numbers FaultNumber a b p q

head_number_lem : (s : List ℕ) → FaultNumber (head_fault s)
unfolding head_fault
head_number_lem s =
    or_else_lem (test _ 13 (omega arith) (omega arith))
    (or_else_lem (test _ 13 (omega arith) (omega arith))
    (or_else_lem (test _ 13 (omega arith) (omega arith))
    (or_else_lem (test _ 13 (omega arith) (omega arith))
    (or_else_lem (test _ 13 (omega arith) (omega arith))
    (first_numbers FaultNumber none _ (λ i. spare_number s 13 i (within 13 (omega arith) (omega arith))) 6 121)))))

record_spare : (t : Bool) (s : List ℕ) (w : ℕ) → FaultNumber 14 → FaultNumber (spare_record t s w)
record_spare false s w p = or_else_lem (spare_number s 14 _ p) (spare_number s 14 _ p)
record_spare true s w p = or_else_lem (spare_number s 14 _ p) (or_else_lem (spare_number s 14 _ p) (spare_number s 14 _ p))

record_number : (s : List ℕ) (n i : ℕ) → FaultNumber (record_fault s n i)
unfolding record_fault
record_number s n i =
    let p : FaultNumber 14 = within 14 (omega arith) (omega arith) in
    cond_numbers FaultNumber (ltb i n) (fault_unless (ltb (decode_of s i) n) 14) (spare_record (long_of s) s (record_word (long_of s) i))
    (unless_numbers FaultNumber none _ 14 p)
    (record_spare (long_of s) s _ p)

check_number : (s : List ℕ) (b : ℕ) → FaultNumber (check_fault s b)
unfolding check_fault
check_number s b = test _ 12 (omega arith) (omega arith)

block_number : (s : List ℕ) (n b : ℕ) → FaultNumber (block_fault s n b)
unfolding block_fault
block_number s n b = or_else_lem (check_number s b) (first_numbers FaultNumber none _ (record_number s n) _ _)

fault_numbers : (s : List ℕ) → FaultNumber (sheet_fault s)
unfolding sheet_fault
fault_numbers s =
    or_else_lem (test _ 11 (omega arith) (omega arith))
    (or_else_lem (test _ 11 (omega arith) (omega arith))
    (or_else_lem (check_number s 0)
    (or_else_lem (head_number_lem s)
    (or_else_lem (test _ 11 (omega arith) (omega arith))
    (first_numbers FaultNumber none _ (block_number s (frames_of s)) 1 _)))))

-- then 16 and 25
abbrev OnceNumber : ℕ → Type 0
OnceNumber k = (k ≡ 0) ⊎ ((k ≡ 16) ⊎ (k ≡ 25))

once_numbers : (s : List ℕ) (n lent : ℕ) → OnceNumber (once_number s n lent)
unfolding once_number repeat_fault
once_numbers s n lent =
    else_numbers OnceNumber _ _ (unless_numbers OnceNumber (inl refl) _ 16 (inr (inl refl)))
    (first_numbers OnceNumber (inl refl) _ (λ i. unless_numbers OnceNumber (inl refl) _ 25 (inr (inr refl))) 0 n)

-- then 26
abbrev pub SheetNumber : ℕ → Type 0
SheetNumber k = (k ≡ 0) ⊎ (((11 ≤ k) × (k ≤ 14)) ⊎ ((k ≡ 16) ⊎ ((k ≡ 25) ⊎ (k ≡ 26))))

of_fault : (k : ℕ) → FaultNumber k → SheetNumber k
of_fault k (inl e) = inl e
of_fault k (inr h) = inr (inl h)

of_once : (k : ℕ) → OnceNumber k → SheetNumber k
of_once k (inl e) = inl e
of_once k (inr (inl e)) = inr (inr (inl e))
of_once k (inr (inr e)) = inr (inr (inr (inl e)))

total_numbers : (s : List ℕ) (n : ℕ) → SheetNumber (total_fault s n)
unfolding total_fault
total_numbers s n = unless_numbers SheetNumber (inl refl) _ 26 (inr (inr (inr (inr refl))))

pub sheet_numbers : (s : List ℕ) (lent : ℕ) → SheetNumber (sheet_number s lent)
unfolding sheet_number
sheet_numbers s lent =
    else_numbers SheetNumber _ _ (of_fault (sheet_fault s) (fault_numbers s))
    (else_numbers SheetNumber _ _ (of_once (once_number s (frames_of s) lent) (once_numbers s (frames_of s) lent)) (total_numbers s (frames_of s)))

-- ---- in the first layout 26 does not occur
fault_other : (k : ℕ) → FaultNumber k → k ≡ 26 → ⊥
fault_other k (inl z) e = omega arith
fault_other k (inr h) e = omega (arith, h.1)

once_other : (k : ℕ) → OnceNumber k → k ≡ 26 → ⊥
once_other k (inl z) e = omega arith
once_other k (inr (inl z)) e = omega arith
once_other k (inr (inr z)) e = omega arith

module _ (s : List ℕ) (lent : ℕ) (bytes : (j : ℕ) → get_or s j 0 < 256) (short : long_of s ≡ false) where
  total_other : sheet_fault s ≡ 0 → total_fault s (frames_of s) ≡ 26 → ⊥
  total_other z e =
      let q : 0 ≡ total_fault s (frames_of s) = total_short s (frames_of s) false bytes (sym short) refl (sound_head s z).frames_high in
      omega (arith, q, e)

  pub sheet_short : sheet_number s lent ≡ 26 → ⊥
  unfolding sheet_number
  sheet_short e =
      ⊎_elim (fault_other (sheet_fault s) (fault_numbers s))
      (λ h. ⊎_elim (once_other (once_number s (frames_of s) lent) (once_numbers s (frames_of s) lent)) (λ k. total_other h.0 k.1) (else_either _ _ 26 h.1))
      (else_either _ _ 26 e)

-- ---- the work bytes: 131,072 are always enough, and more than are needed change nothing
pub work_enough : (s : List ℕ) → sheet_fault s ≡ 0 → work_bytes (frames_of s) ≤ most_work
unfolding work_bytes
work_enough s e = omega (arith, (sound_head s e).frames_high)

pub work_counts : (s : List ℕ) (lent lent' : ℕ) → work_bytes (frames_of s) ≤ lent → work_bytes (frames_of s) ≤ lent' → sheet_number s lent ≡ sheet_number s lent'
unfolding sheet_number once_number
work_counts s lent lent' h k = rw (le-leb (work_bytes (frames_of s)) lent h, le-leb (work_bytes (frames_of s)) lent' k)

-- ---- the answer of `check`
-- its number is the first fault
number_by : (k : ℕ) (h : Head) → number_of (sheet_answer k h) ≡ k
unfolding sheet_answer
number_by zero h = refl
number_by (suc k) h = refl

pub number_is : (s : List ℕ) (lent : ℕ) → number_of (sheet_of s lent) ≡ sheet_number s lent
unfolding sheet_of
number_is s lent = number_by _ _

-- ---- the number 0: no fault in the bytes, enough work bytes, each sample named exactly once, and the durations together within the limit
pub record Checked (s : List ℕ) (lent : ℕ) : Type 0 where
  pub fault : sheet_fault s ≡ 0
  pub room : work_bytes (frames_of s) ≤ lent
  pub once : EachOnce s (frames_of s)
  pub within : ticks_from s 0 (frames_of s) ≤ most_ticks

pub checked : (s : List ℕ) (lent : ℕ) → sheet_number s lent ≡ 0 → Checked s lent
unfolding sheet_number
checked s lent e =
    let p = else_zero _ _ e in
    let t = else_zero _ _ p.1 in
    let q = number_once s (frames_of s) lent t.0 in
    record { fault = p.0; room = q.0; once = q.1; within = total_within s (frames_of s) t.1 }

-- and the way back: neither 25 nor 26 is given to such a sheet
pub sound_number : (s : List ℕ) (lent : ℕ) → Checked s lent → sheet_number s lent ≡ 0
unfolding sheet_number
sound_number s lent c =
    else_none _ c.fault ∙ else_none _ (once_number_lem s (frames_of s) lent c.room c.once) ∙ sym (total_held s (frames_of s) c.within)

-- what a caller learns from `Sound h`
pub record Answered (s : List ℕ) (lent : ℕ) (h : Head) : Type 0 where
  pub number_zero : sheet_number s lent ≡ 0
  pub timescale_is : h.timescale ≡ timescale_of s
  pub frames_is : h.frames ≡ frames_of s
  pub num_is : h.rate_num ≡ rate_num_of s
  pub den_is : h.rate_den ≡ rate_den_of s
  pub once : EachOnce s (frames_of s)

sound_by : (k : ℕ) (g h : Head) → sheet_answer k g ≡ Ok h → (k ≡ 0) × (h ≡ g)
unfolding sheet_answer
sound_by zero g h e = (refl, cc)
sound_by (suc k) g h e =
    let z : ◌≡◌ {A = ℕ} 0 1 = cc in
    absurd (omega arith)

pub sound_answer : (s : List ℕ) (lent : ℕ) (h : Head) (a : Result Head ℕ) → a ≡ sheet_of s lent → a ≡ Ok h → Answered s lent h
unfolding sheet_of head_of
sound_answer s lent h a e f =
    let p = sound_by (sheet_number s lent) (head_of s) h (sym e ∙ f) in
    record {
      number_zero = p.0;
      timescale_is = ap (λ (x : Head). x.timescale) p.1;
      frames_is = ap (λ (x : Head). x.frames) p.1;
      num_is = ap (λ (x : Head). x.rate_num) p.1;
      den_is = ap (λ (x : Head). x.rate_den) p.1;
      once = (checked s lent p.0).once;
    }

-- and from `Refused j`
refused_by : (k j : ℕ) (g : Head) → sheet_answer k g ≡ Err j → (j ≡ k) × (j ≡ 0 → ⊥)
unfolding sheet_answer
refused_by zero j g e =
    let z : ◌≡◌ {A = ℕ} 0 1 = cc in
    absurd (omega arith)
refused_by (suc k) j g e =
    let q : j ≡ suc k = cc in
    (q, omega arith)

pub refused_answer : (s : List ℕ) (lent j : ℕ) (a : Result Head ℕ) → a ≡ sheet_of s lent → a ≡ Err j → (j ≡ sheet_number s lent) × (j ≡ 0 → ⊥)
unfolding sheet_of
refused_answer s lent j a e f = refused_by _ _ _ (sym e ∙ f)
