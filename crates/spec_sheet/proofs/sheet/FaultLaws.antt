-- Laws of the sheet's faults: one for each place where the code answers.
use Prim.Native.Nat.{ℕ, zero, suc, ◌+◌, ◌-◌, ◌*◌, ◌/◌, ◌%◌, ◌^◌, ◌≤◌, ◌<◌}
use mathlib.Core.Bool.{Bool, true, false}
use mathlib.Core.List.{List}
use mathlib.Core.Path.{◌≡◌, refl, sym, ap, subst, ◌∙◌}
use native.Mathlib.Omega.{arith}
use lib.Dec.{ltb, leb, eqb}
use lib.ListN.{length}
use borrow.Author.Tests.{lt-ltb, le-ltb, le-leb, lt-leb, eq-eqb, ne_eqb}
use Rattle.std.specs.Prelude.{Ok, Err}
use Rattle.spec_base.specs.base.Limits.{most_frames}
use Rattle.spec_base.specs.base.Refusal.{◌or_else◌, fault_unless, first_of}
use Rattle.spec_base.proofs.base.RefusalLaws.{unless_held, unless_failed, else_none, else_here, else_next, left_here, left_next}
use Rattle.spec_base.proofs.base.Laws.{lt_via, le_via, via_eq, via_ne, yes!, no! }
use Rattle.spec_sheet.specs.checked_blocks.Block.{word_at, block_holds}
use Rattle.spec_sheet.specs.sheet_frames.Frames.{timescale_of, frames_of, rate_num_of, rate_den_of, long_of, per_block, record_width, record_word, decode_of}
use Rattle.spec_sheet.specs.sheet.Sheet.{spare_fault, timescale_in, head_fault, spare_record, record_fault, check_fault, block_fault, record_blocks, sheet_fault, total_fault}
use Rattle.spec_sheet.specs.sheet_permutation.Once.{once_number, work_once}
use Rattle.spec_sheet.specs.sheet.Sheet.{sheet_number, work_after, head_of, sheet_answer, sheet_of}
use Rattle.spec_sheet.specs.declared.sheet.Head.{Head}

-- ---- a test at the head of a chain: it fails, and k is the answer; it holds, and the rest answers
fails : {t : Bool} (k b : ℕ) → t ≡ false → (k ≡ 0 → ⊥) → k ≡ fault_unless t k or_else b
fails k b e h = else_here _ b k (sym (unless_failed k e)) h

passes : {t : Bool} (k b v : ℕ) → t ≡ true → v ≡ b → v ≡ fault_unless t k or_else b
passes k b v e q = q ∙ sym (else_none b (unless_held k e))

-- ---- a loop whose turn asked f i and learnt r
pub left_pass : (f : ℕ → ℕ) (i e v r : ℕ) → first_of f i (e - i) ≡ v → i < e → r ≡ f i → r ≡ 0 → first_of f (i + 1) (e - (i + 1)) ≡ v
left_pass f i e v r inv l q z = left_next f i e v inv l (sym q ∙ z)

-- ---- spare words
pub spare_zero : (s : List ℕ) (k i w : ℕ) → w ≡ word_at s i → w ≡ 0 → spare_fault s k i ≡ 0
unfolding spare_fault
spare_zero s k i w e z = unless_held k (eq-eqb _ _ (sym e ∙ z))

pub spare_some : (s : List ℕ) (k i w : ℕ) → w ≡ word_at s i → (w ≡ 0 → ⊥) → spare_fault s k i ≡ k
unfolding spare_fault
spare_some s k i w e h = unless_failed k (ne_eqb _ _ (λ z. h (e ∙ z)))

pub spare_here : (s : List ℕ) (i e v w : ℕ) → first_of (spare_fault s 13) i (e - i) ≡ v → i < e → w ≡ word_at s i → (w ≡ 0 → ⊥) → 13 ≡ v
spare_here s i e v w inv l q h = left_here _ i e v 13 inv l (sym (spare_some s 13 i w q h)) (omega arith)

pub spare_next : (s : List ℕ) (i e v w : ℕ) → first_of (spare_fault s 13) i (e - i) ≡ v → i < e → w ≡ word_at s i → w ≡ 0
    → first_of (spare_fault s 13) (i + 1) (e - (i + 1)) ≡ v
spare_next s i e v w inv l q z = left_next _ i e v inv l (spare_zero s 13 i w q z)

-- ---- the head: l is word 5, t its timescale, n its frame count
module _ (s : List ℕ) (l : ℕ) (el : l ≡ word_at s 5) where
  pub head_layout : 1 < l → 13 ≡ head_fault s
  unfolding head_fault
  head_layout h = fails 13 _ (lt-leb (word_at s 5) 1 (omega arith)) (omega arith)

  module _ (known : l ≤ 1) (t : ℕ) (et : t ≡ timescale_of s) where
    layout : (b v : ℕ) → v ≡ b → v ≡ fault_unless (leb (word_at s 5) 1) 13 or_else b
    layout b v q = passes 13 _ _ (le-leb (word_at s 5) 1 (omega arith)) q

    pub head_none : t ≤ 0 → 13 ≡ head_fault s
    unfolding head_fault
    head_none h = layout _ _ (fails 13 _ (le_via 0 t _ et h) (omega arith))

    -- m is the largest T of the layout y
    module _ (low : 0 < t) (y : Bool) (m : ℕ) (ey : y ≡ long_of s) (em : m ≡ timescale_in y) where
      most_is : m ≡ timescale_in (long_of s)
      most_is = em ∙ ap timescale_in ey

      pub head_fast : m < t → 13 ≡ head_fault s
      unfolding head_fault
      head_fast h =
          layout _ _ (passes 13 _ _ (lt_via 0 t _ et low)
          (fails 13 _ (lt-leb (timescale_of s) (timescale_in (long_of s)) (omega (arith, most_is))) (omega arith)))

      module _ (high : t ≤ m) (n : ℕ) (en : n ≡ frames_of s) where
        scale : (b v : ℕ) → v ≡ b
            → v ≡ fault_unless (leb (word_at s 5) 1) 13 or_else fault_unless (ltb 0 (timescale_of s)) 13 or_else fault_unless (leb (timescale_of s) (timescale_in (long_of s))) 13 or_else b
        scale b v q =
            layout _ _ (passes 13 _ _ (lt_via 0 t _ et low)
            (passes 13 _ _ (le-leb (timescale_of s) (timescale_in (long_of s)) (omega (arith, most_is))) q))

        pub head_empty : n ≤ 0 → 13 ≡ head_fault s
        unfolding head_fault
        head_empty h = scale _ _ (fails 13 _ (le_via 0 n _ en h) (omega arith))

        pub head_long : 0 < n → most_frames < n → 13 ≡ head_fault s
        unfolding head_fault
        head_long l h = scale _ _ (passes 13 _ _ (lt_via 0 n _ en l) (fails 13 _ (lt-leb (frames_of s) most_frames (omega arith)) (omega arith)))

        pub head_rest : (v : ℕ) → 0 < n → n ≤ most_frames → v ≡ first_of (spare_fault s 13) 6 121 → v ≡ head_fault s
        unfolding head_fault
        head_rest v l h q = scale _ _ (passes 13 _ _ (lt_via 0 n _ en l) (passes 13 _ _ (le-leb (frames_of s) most_frames (omega arith)) q))

-- ---- the words of a record past n, in either layout
spare_first : (t : Bool) (s : List ℕ) (w : ℕ) → spare_fault s 14 w ≡ 14 → 14 ≡ spare_record t s w
spare_first false s w e = else_here _ _ 14 (sym e) (omega arith)
spare_first true s w e = else_here _ _ 14 (sym e) (omega arith)

spare_second : (t : Bool) (s : List ℕ) (w : ℕ) → spare_fault s 14 w ≡ 0 → spare_fault s 14 (w + 1) ≡ 14 → 14 ≡ spare_record t s w
spare_second false s w z e = sym e ∙ sym (else_none _ z)
spare_second true s w z e = else_here _ _ 14 (sym e) (omega arith) ∙ sym (else_none _ z)

-- ---- record i of n, t the layout: f is its first word, g its second, h its third
module _ (s : List ℕ) (t : Bool) (n i w f : ℕ) (et : t ≡ long_of s) (ew : w ≡ record_word t i) (ef : f ≡ word_at s w) where
  word_is : w ≡ record_word (long_of s) i
  word_is = ew ∙ ap (λ (x : Bool). record_word x i) et

  first_word : f ≡ word_at s (record_word (long_of s) i)
  first_word = ef ∙ ap (word_at s) word_is

  pub record_high : (d : ℕ) → d ≡ f % 2147483648 → i < n → n ≤ d → 14 ≡ record_fault s n i
  unfolding record_fault decode_of
  record_high d ed l h =
      yes! _ (lt-ltb i n l) (sym (unless_failed 14 (le-ltb _ n (omega (arith, first_word)))))

  pub record_good : (d : ℕ) → d ≡ f % 2147483648 → i < n → d < n → 0 ≡ record_fault s n i
  unfolding record_fault decode_of
  record_good d ed l h =
      yes! _ (lt-ltb i n l) (sym (unless_held 14 (lt-ltb _ n (omega (arith, first_word)))))

  pub record_first : n ≤ i → (f ≡ 0 → ⊥) → 14 ≡ record_fault s n i
  unfolding record_fault
  record_first l h = no! _ (le-ltb i n l) (spare_first (long_of s) s _ (spare_some s 14 _ f first_word h))

  module _ (past : n ≤ i) (z : f ≡ 0) (g : ℕ) (eg : g ≡ word_at s (w + 1)) where
    second_word : g ≡ word_at s (record_word (long_of s) i + 1)
    second_word = eg ∙ ap (λ (k : ℕ). word_at s (k + 1)) word_is

    pub record_second : (g ≡ 0 → ⊥) → 14 ≡ record_fault s n i
    unfolding record_fault
    record_second h = no! _ (le-ltb i n past) (spare_second (long_of s) s _ (spare_zero s 14 _ f first_word z) (spare_some s 14 _ g second_word h))

    pub record_short : g ≡ 0 → t ≡ false → 0 ≡ record_fault s n i
    unfolding record_fault
    record_short h e =
        no! _ (le-ltb i n past) (subst (λ (x : Bool). 0 ≡ spare_record x s (record_word (long_of s) i)) (sym e ∙ et)
        (sym (spare_zero s 14 _ g second_word h) ∙ sym (else_none _ (spare_zero s 14 _ f first_word z))))

    module _ (y : g ≡ 0) (e : t ≡ true) (h : ℕ) (eh : h ≡ word_at s (w + 2)) where
      third_word : h ≡ word_at s (record_word (long_of s) i + 2)
      third_word = eh ∙ ap (λ (k : ℕ). word_at s (k + 2)) word_is

      third : (v : ℕ) → v ≡ spare_fault s 14 (record_word (long_of s) i + 2) → v ≡ record_fault s n i
      unfolding record_fault
      third v q =
          no! _ (le-ltb i n past) (subst (λ (x : Bool). v ≡ spare_record x s (record_word (long_of s) i)) (sym e ∙ et)
          (q ∙ sym (else_none _ (spare_zero s 14 _ g second_word y)) ∙ sym (else_none _ (spare_zero s 14 _ f first_word z))))

      pub record_third : (h ≡ 0 → ⊥) → 14 ≡ record_fault s n i
      record_third k = third 14 (sym (spare_some s 14 _ h third_word k))

      pub record_clear : h ≡ 0 → 0 ≡ record_fault s n i
      record_clear k = third 0 (sym (spare_zero s 14 _ h third_word k))

-- ---- a block's records, t the layout
pub start_long : (t : Bool) (b : ℕ) → t ≡ true → 42 * (b - 1) ≡ per_block t * (b - 1)
start_long t b e = rw e

pub start_short : (t : Bool) (b : ℕ) → t ≡ false → 63 * (b - 1) ≡ per_block t * (b - 1)
start_short t b e = rw e

-- where the record i of block b starts
word_at_lem : (t : Bool) (b k : ℕ) → 0 < b → k < per_block t → 128 * b + 1 + record_width t * k ≡ record_word t (per_block t * (b - 1) + k)
unfolding record_word
word_at_lem false b k l h = omega arith
word_at_lem true b k l h = omega arith

-- w is where its record i starts, if that lies behind its first one
start_fits : (t : Bool) (b k : ℕ) → b < 2 ^ 32 → k ≤ per_block t → 128 * b + 1 + record_width t * k < 2 ^ 40
start_fits false b k h l = omega arith
start_fits true b k h l = omega arith

record_fits : (t : Bool) (per width b start end i w : ℕ) → per ≡ per_block t → width ≡ record_width t → b < 2 ^ 32 → end ≡ start + per → i ≤ end
    → w ≡ 128 * b + 1 + width * (i - start) → w < 2 ^ 40
record_fits t per width b start end i w ep ew h ee k e =
    let p : i - start ≤ per_block t = omega arith in
    let q = start_fits t b (i - start) h p in
    subst (λ (x : ℕ). x < 2 ^ 40) (sym (e ∙ rw ew)) q

width_on : (t : Bool) (a k : ℕ) → a + record_width t * k + record_width t ≡ a + record_width t * (k + 1)
width_on false a k = omega arith
width_on true a k = omega arith

pub record_on : (t : Bool) (width b start i w : ℕ) → width ≡ record_width t → start ≤ i → w ≡ 128 * b + 1 + width * (i - start)
    → w + width ≡ 128 * b + 1 + width * (i + 1 - start)
record_on t width b start i w ew h e =
    let j : i - start + 1 ≡ i + 1 - start = omega arith in
    let p : 128 * b + 1 + width * (i - start) + width ≡ 128 * b + 1 + width * (i - start + 1) = rw ew (width_on t (128 * b + 1) (i - start)) in
    ap (λ (x : ℕ). x + width) e ∙ p ∙ ap (λ (x : ℕ). 128 * b + 1 + width * x) j

pub record_on_fits : (t : Bool) (per width b start end i w : ℕ) → per ≡ per_block t → width ≡ record_width t → b < 2 ^ 32 → end ≡ start + per → start ≤ i → i < end
    → w ≡ 128 * b + 1 + width * (i - start) → w + width < 2 ^ 40
record_on_fits t per width b start end i w ep ew h ee l k e =
    record_fits t per width b start end (i + 1) (w + width) ep ew h ee (omega arith) (record_on t width b start i w ew l e)

pub record_none : (b start width : ℕ) → 128 * b + 1 ≡ 128 * b + 1 + width * (start - start)
record_none b start width =
    let z : start - start ≡ 0 = omega arith in
    rw z (omega arith)

pub records_start : (f : ℕ → ℕ) (t : Bool) (per start end b : ℕ) → per ≡ per_block t → start ≡ per_block t * (b - 1) → end ≡ start + per
    → first_of f start (end - start) ≡ first_of f (per_block t * (b - 1)) (per_block t)
records_start f t per start end b ep es ee =
    let z : end - start ≡ per_block t = omega arith in
    rw (z, es)

pub record_at : (t : Bool) (per width b start end i w : ℕ) → per ≡ per_block t → width ≡ record_width t → 0 < b → start ≡ per_block t * (b - 1) → end ≡ start + per
    → start ≤ i → i < end → w ≡ 128 * b + 1 + width * (i - start) → w ≡ record_word t i
record_at t per width b start end i w ep ew l es ee h k e =
    let p : i - start < per_block t = omega arith in
    let j : per_block t * (b - 1) + (i - start) ≡ i = rw (← es) (omega arith) in
    e ∙ rw ew (word_at_lem t b (i - start) l p) ∙ ap (record_word t) j

-- ---- blocks
pub check_held : (s : List ℕ) (b : ℕ) (t : Bool) → t ≡ block_holds s b → t ≡ true → 0 ≡ check_fault s b
unfolding check_fault
check_held s b t e h = sym (unless_held 12 (sym e ∙ h))

pub check_failed : (s : List ℕ) (b : ℕ) (t : Bool) → t ≡ block_holds s b → t ≡ false → 12 ≡ check_fault s b
unfolding check_fault
check_failed s b t e h = sym (unless_failed 12 (sym e ∙ h))

pub block_check : (s : List ℕ) (n b f : ℕ) → f ≡ check_fault s b → (f ≡ 0 → ⊥) → f ≡ block_fault s n b
unfolding block_fault
block_check s n b f e h = else_here _ _ f e h

pub block_records : (s : List ℕ) (t : Bool) (n b f v : ℕ) → t ≡ long_of s → f ≡ check_fault s b → f ≡ 0
    → v ≡ first_of (record_fault s n) (per_block t * (b - 1)) (per_block t) → v ≡ block_fault s n b
unfolding block_fault
block_records s t n b f v et e z q = else_next _ _ f v e z (q ∙ ap (λ (x : Bool). first_of (record_fault s n) (per_block x * (b - 1)) (per_block x)) et)

pub blocks_long : (n : ℕ) (t : Bool) → t ≡ true → (n + 41) / 42 ≡ record_blocks t n
unfolding record_blocks
blocks_long n t e = rw e

pub blocks_short : (n : ℕ) (t : Bool) → t ≡ false → (n + 62) / 63 ≡ record_blocks t n
unfolding record_blocks
blocks_short n t e = rw e

pub blocks_start : (f : ℕ → ℕ) (s : List ℕ) (t : Bool) (n m end : ℕ) → t ≡ long_of s → m ≡ record_blocks t n → end ≡ m + 1
    → first_of f 1 (end - 1) ≡ first_of f 1 (record_blocks (long_of s) n)
blocks_start f s t n m end et em ee =
    let z : end - 1 ≡ m = omega arith in
    rw (z, em, et)

-- ---- the sheet
pub fault_empty : (s : List ℕ) → length s ≤ 0 → 11 ≡ sheet_fault s
unfolding sheet_fault
fault_empty s h = fails 11 _ (le-ltb 0 (length s) h) (omega arith)

pub fault_cut : (s : List ℕ) → 0 < length s → (length s % 512 ≡ 0 → ⊥) → 11 ≡ sheet_fault s
unfolding sheet_fault
fault_cut s l h = passes 11 _ _ (lt-ltb 0 (length s) l) (fails 11 _ (ne_eqb (length s % 512) 0 h) (omega arith))

-- whole blocks: c is the fault of block 0's number and check
module _ (s : List ℕ) (some : 0 < length s) (whole : length s % 512 ≡ 0) (c : ℕ) (ec : c ≡ check_fault s 0) where
  blocks : (b v : ℕ) → v ≡ b → v ≡ fault_unless (ltb 0 (length s)) 11 or_else fault_unless (eqb (length s % 512) 0) 11 or_else b
  blocks b v q = passes 11 _ _ (lt-ltb 0 (length s) some) (passes 11 _ _ (eq-eqb (length s % 512) 0 whole) q)

  pub fault_check : (c ≡ 0 → ⊥) → c ≡ sheet_fault s
  unfolding sheet_fault
  fault_check h = blocks _ _ (else_here _ _ c ec h)

  -- h is the head's fault
  module _ (zc : c ≡ 0) (h : ℕ) (eh : h ≡ head_fault s) where
    pub fault_head : (h ≡ 0 → ⊥) → h ≡ sheet_fault s
    unfolding sheet_fault
    fault_head k = blocks _ _ (else_next _ _ c h ec zc (else_here _ _ h eh k))

    -- n is the frame count, t the layout, and m the blocks
    module _ (zh : h ≡ 0) (n m : ℕ) (t : Bool) (en : n ≡ frames_of s) (et : t ≡ long_of s) (em : m ≡ record_blocks t n) where
      m_is : m ≡ record_blocks (long_of s) (frames_of s)
      m_is = em ∙ ap (record_blocks t) en ∙ ap (λ (x : Bool). record_blocks x (frames_of s)) et

      pub fault_length : (length s ≡ 512 * (1 + m) → ⊥) → 11 ≡ sheet_fault s
      unfolding sheet_fault
      fault_length k =
          blocks _ _ (else_next _ _ c 11 ec zc (else_next _ _ h 11 eh zh
          (fails 11 _ (ne_eqb (length s) _ (λ q. k (q ∙ ap (λ (x : ℕ). 512 * (1 + x)) (sym m_is)))) (omega arith))))

      pub fault_blocks : (v : ℕ) → length s ≡ 512 * (1 + m) → v ≡ first_of (block_fault s n) 1 (record_blocks (long_of s) n) → v ≡ sheet_fault s
      unfolding sheet_fault
      fault_blocks v k q =
          blocks _ _ (else_next _ _ c v ec zc (else_next _ _ h v eh zh
          (passes 11 _ v (eq-eqb (length s) _ (k ∙ ap (λ (x : ℕ). 512 * (1 + x)) m_is))
          (q ∙ ap (λ (x : ℕ). first_of (block_fault s x) 1 (record_blocks (long_of s) x)) en))))

-- ---- the answer
refused_by : (k r : ℕ) (h : Head) → r ≡ k → (r ≡ 0 → ⊥) → Err r ≡ sheet_answer k h
unfolding sheet_answer
refused_by zero r h e n = absurd (n e)
refused_by (suc k) r h e n = ap Err e

sound_by : (k r : ℕ) (h : Head) → r ≡ k → r ≡ 0 → Ok h ≡ sheet_answer k h
unfolding sheet_answer
sound_by k r h e z = rw (← e, z)

-- f is the fault in the sheet's bytes
module _ (s work : List ℕ) (f : ℕ) (ef : f ≡ sheet_fault s) where
  pub fault_answer : (f ≡ 0 → ⊥) → Err f ≡ sheet_of s (length work)
  unfolding sheet_of sheet_number
  fault_answer n = refused_by _ f _ (else_here _ _ f ef n) n

  pub fault_work : (f ≡ 0 → ⊥) → work ≡ work_after s work
  unfolding work_after
  fault_work n = no! _ (via_ne 0 f _ ef n) refl

  -- there is none; g is the number of its n records
  module _ (z : f ≡ 0) (n g : ℕ) (en : n ≡ frames_of s) (eg : g ≡ once_number s n (length work)) where
    once_is : g ≡ once_number s (frames_of s) (length work)
    once_is = eg ∙ ap (λ (k : ℕ). once_number s k (length work)) en

    pub once_answer : (g ≡ 0 → ⊥) → Err g ≡ sheet_of s (length work)
    unfolding sheet_of sheet_number
    once_answer m = refused_by _ g _ (else_next _ _ f g ef z (else_here _ _ g once_is m)) m

    pub once_work : (after : List ℕ) → after ≡ work_once n work → after ≡ work_after s work
    unfolding work_after
    once_work after e = yes! _ (via_eq 0 f _ ef z) (e ∙ ap (λ (k : ℕ). work_once k work) en)

    -- k is the number of the durations together
    module _ (y : g ≡ 0) (k : ℕ) (ek : k ≡ total_fault s n) where
      number : k ≡ sheet_number s (length work)
      unfolding sheet_number
      number = else_next _ _ f k ef z (else_next _ _ g k once_is y (ek ∙ ap (total_fault s) en))

      pub total_answer : (k ≡ 0 → ⊥) → Err k ≡ sheet_of s (length work)
      unfolding sheet_of
      total_answer m = refused_by _ k _ number m

      pub sound_answer : (t a b : ℕ) → k ≡ 0 → t ≡ timescale_of s → a ≡ rate_num_of s → b ≡ rate_den_of s
          → Ok (record { timescale = t; frames = n; rate_num = a; rate_den = b }) ≡ sheet_of s (length work)
      unfolding sheet_of head_of
      sound_answer t a b m et ea eb = rw (et, en, ea, eb) (sound_by _ k _ number m)
