-- The two kinds of blocks: what each brings for reading a written block again.
use mathlib.Core.Path.{◌≡◌, refl, sym, ap, subst, ◌∙◌}
use mathlib.Core.Bool.{Bool, true, false, cond}
use mathlib.Core.Logic.{◌⊎◌, inl, inr}
use mathlib.Core.List.{List, [], ◌∷◌, ◌++◌}
use Prim.Native.Nat.{ℕ, zero, suc, ◌+◌, ◌*◌, ◌≤◌, ◌<◌, min}
use native.Mathlib.Omega.{arith}
use borrow.Author.Tests.{le-ltb, leb-true, leb-false}
use lib.Dec.{ltb, leb}
use lib.ListN.{length, drop, get_or, length-append, drop_of_length-le}
use lib.Seq.{get_or-drop, get_or-append-add}
use Rattle.spec_text.specs.utf8.Utf8.{tail}
use Rattle.spec_text.specs.pattern.Find.{starts, first}
use Rattle.spec_text.proofs.pattern.Free.{Free, first_free}
use Rattle.spec_time.specs.caption_time.Kind.{kind_bad, units_of, mark_of}
use Rattle.spec_time.specs.caption_stamp.Read.{stamp, mark_in, time_in}
use Rattle.spec_time.specs.caption_stamp.Write.{time_text}
use Rattle.spec_time.proofs.caption_stamp.Written.{srt_12}
use Rattle.spec_time.proofs.caption_stamp.Reading.{time_mark_lem, time_marks}
use Rattle.spec_time.proofs.caption_stamp.RoundTrip.{comma_back, point_back, vtt_back}
use Rattle.spec_cue.specs.block_timing.Style.{srt_end, vtt_end, end_in}
use Rattle.spec_format.proofs.back.TimingLine.{Plain, TimeMark, Blocked, plain_text}

-- ---- SRT: an end below 100 hours has 12 bytes, and a character begins what is trailing
srt_known : kind_bad 1 ≡ false
unfolding kind_bad
srt_known = refl

text_back : (k : ℕ) → TimeMark k → (n : ℕ) → n < 36000000 * units_of 1 → time_in 1 (time_text 1 k n) ≡ stamp n k
text_back k (inl e) n h = subst (λ (m : ℕ). time_in 1 (time_text 1 m n) ≡ stamp n m) (sym e) (comma_back n h)
text_back k (inr e) n h = subst (λ (m : ℕ). time_in 1 (time_text 1 m n) ≡ stamp n m) (sym e) (point_back n h)

text_12 : (k n : ℕ) → n < 360000 * units_of 1 → length (time_text 1 k n) ≡ 12
unfolding units_of
text_12 k n h = srt_12 k n (omega arith)

whole : (r : List ℕ) → tail (get_or (drop (srt_end r) r) 0 0) ≡ false
unfolding srt_end tail
whole r = go (ltb (length r) 12) (tail (get_or r 12 0)) refl
  where
    none : tail (get_or (drop (length r) r) 0 0) ≡ false
    none = let m : length r ≤ length r = omega arith in ap (λ (x : List ℕ). tail (get_or x 0 0)) (drop_of_length-le r m)

    go : (x y : Bool) → tail (get_or r 12 0) ≡ y → tail (get_or (drop (cond x (length r) (cond y (length r) 12)) r) 0 0) ≡ false
    go true y e = none
    go false true e = none
    go false false e = ap tail (get_or-drop 12 r 0 0) ∙ e

twelve : (E t : List ℕ) → length E ≡ 12 → tail (get_or t 0 0) ≡ false → srt_end (E ++ t) ≡ 12
unfolding srt_end
twelve E t n w =
    let m : length (E ++ t) ≡ 12 + length t = length-append E t ∙ omega arith in
    let g : get_or (E ++ t) 12 0 ≡ get_or t 0 0 = ap (λ (k : ℕ). get_or (E ++ t) k 0) (sym (omega arith)) ∙ get_or-append-add E t 0 0 in
    rw (le-ltb (length (E ++ t)) 12 (omega arith), g, w)

srt_ends : (k n : ℕ) → n < 360000 * units_of 1 → (r : List ℕ) → end_in 1 (time_text 1 k n ++ drop (end_in 1 r) r) ≡ length (time_text 1 k n)
unfolding end_in
srt_ends k n h r = twelve (time_text 1 k n) (drop (srt_end r) r) (text_12 k n h) (whole r) ∙ sym (text_12 k n h)

pub srt_blocked : Blocked 1 TimeMark (360000 * units_of 1)
unfolding units_of
srt_blocked =
    record {
      good = srt_known;
      either = λ k m. m;
      seen = λ n k text e. time_marks 1 n k text e;
      back = λ k m n h. text_back k m n h;
      most_low = omega arith;
      ends = λ k m n h r. srt_ends k n h r;
    }

-- ---- WebVTT: neither a space nor a tab stands in a written time, and one of them begins what is trailing, or nothing is
vtt_known : kind_bad 2 ≡ false
unfolding kind_bad
vtt_known = refl

plain_free : (c : ℕ) → c < 44 → (s : List ℕ) → Plain s → Free c s
plain_free c h [] p = tt
plain_free c h (b ∷ s) p = ((λ q. omega (arith, p.0.0)), plain_free c h s p.1)

first_zero : (p s : List ℕ) → first p (drop (first p s) s) ≡ 0
unfolding first
first_zero p [] = refl
first_zero p (b ∷ s) = go (starts p (b ∷ s)) refl (first_zero p s)
  where
    go : (t : Bool) → starts p (b ∷ s) ≡ t → first p (drop (first p s) s) ≡ 0 → first p (drop (cond t zero (suc (first p s))) (b ∷ s)) ≡ 0
    go true e z = rw e
    go false e z = z

trailing_first : (r : List ℕ) → (first (32 ∷ []) (drop (vtt_end r) r) ≡ 0) ⊎ (first (9 ∷ []) (drop (vtt_end r) r) ≡ 0)
unfolding vtt_end
trailing_first r = go (leb (first (32 ∷ []) r) (first (9 ∷ []) r)) refl
  where
    go : (b : Bool) → leb (first (32 ∷ []) r) (first (9 ∷ []) r) ≡ b
        → (first (32 ∷ []) (drop (min (first (32 ∷ []) r) (first (9 ∷ []) r)) r) ≡ 0) ⊎ (first (9 ∷ []) (drop (min (first (32 ∷ []) r) (first (9 ∷ []) r)) r) ≡ 0)
    go true e =
        let m : min (first (32 ∷ []) r) (first (9 ∷ []) r) ≡ first (32 ∷ []) r = omega (arith, leb-true (first (32 ∷ []) r) (first (9 ∷ []) r) e) in
        inl (ap (λ (k : ℕ). first (32 ∷ []) (drop k r)) m ∙ first_zero (32 ∷ []) r)
    go false e =
        let m : min (first (32 ∷ []) r) (first (9 ∷ []) r) ≡ first (9 ∷ []) r = omega (arith, leb-false (first (32 ∷ []) r) (first (9 ∷ []) r) e) in
        inr (ap (λ (k : ℕ). first (9 ∷ []) (drop k r)) m ∙ first_zero (9 ∷ []) r)

stops : (E t : List ℕ) → Plain E → (first (32 ∷ []) t ≡ 0) ⊎ (first (9 ∷ []) t ≡ 0) → vtt_end (E ++ t) ≡ length E
unfolding vtt_end
stops E t p (inl e) = omega (arith, e, first_free 32 [] E t (plain_free 32 (omega arith) E p), first_free 9 [] E t (plain_free 9 (omega arith) E p))
stops E t p (inr e) = omega (arith, e, first_free 32 [] E t (plain_free 32 (omega arith) E p), first_free 9 [] E t (plain_free 9 (omega arith) E p))

abbrev pub Point : ℕ → Type 0
Point k = k ≡ 46

vtt_ends : (k : ℕ) → Point k → (n : ℕ) (r : List ℕ) → end_in 2 (time_text 2 k n ++ drop (end_in 2 r) r) ≡ length (time_text 2 k n)
unfolding end_in
vtt_ends k m n r = stops (time_text 2 k n) (drop (vtt_end r) r) (plain_text 2 vtt_known k (inr m) n) (trailing_first r)

vtt_point : (n k : ℕ) (text : List ℕ) → time_in 2 text ≡ stamp n k → Point k
unfolding mark_in mark_of
vtt_point n k text e = time_mark_lem 2 n k text e

pub vtt_blocked : Blocked 2 Point (36000000 * units_of 2)
unfolding units_of
vtt_blocked =
    record {
      good = vtt_known;
      either = λ k m. inr m;
      seen = λ n k text e. vtt_point n k text e;
      back = λ k m n h. subst (λ (j : ℕ). time_in 2 (time_text 2 j n) ≡ stamp n j) (sym m) (vtt_back n h);
      most_low = omega arith;
      ends = λ k m n h r. vtt_ends k m n r;
    }
