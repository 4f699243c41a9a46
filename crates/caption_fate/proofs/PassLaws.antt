-- Laws of the segments that a search passes over.
use mathlib.Core.Path.{◌≡◌, refl, sym, ap, ◌∙◌}
use mathlib.Core.Bool.{Bool, true, false, cond}
use mathlib.Core.List.{List}
use Prim.Native.Nat.{ℕ, suc, ◌+◌, ◌*◌, ◌-◌, ◌≤◌, ◌<◌}
use native.Mathlib.Omega.{arith}
use native.Mathlib.Numerals.{add-one}
use borrow.Author.Tests.{le-ltb, leb-true}
use lib.Dec.{ltb, leb}
use lib.ListN.{length, drop, get_or, length-drop}
use lib.Seq.{drop-drop, get_or-drop}
use Rattle.spec_base.proofs.base.Laws.{and_left, and_right, and_false}
use Rattle.spec_map.specs.segment.Segment.{segments_of}
use Rattle.spec_caption.specs.caption_fate.Hit.{meets_parts, hit, find_from, find_hit}
use Rattle.caption_fate.specs.Passing.{four_ended, Passed}
use Rattle.spec_caption.proofs.caption_fate.HitLaws.{head_of, find_cut}

-- ---- segments that end at or before a are passed over
record FourEnded (t : List ℕ) (a : ℕ) : Type 0 where
  pub long : 24 ≤ length t
  pub first : get_or t 2 0 + get_or t 5 0 ≤ a
  pub second : get_or t 8 0 + get_or t 11 0 ≤ a
  pub third : get_or t 14 0 + get_or t 17 0 ≤ a
  pub fourth : get_or t 20 0 + get_or t 23 0 ≤ a

four_true : (t : List ℕ) (a : ℕ) → four_ended t a ≡ true → FourEnded t a
unfolding four_ended
four_true t a e =
    let e1 = and_right (leb 24 (length t)) _ e in
    let e2 = and_right (leb (get_or t 2 0 + get_or t 5 0) a) _ e1 in
    let e3 = and_right (leb (get_or t 8 0 + get_or t 11 0) a) _ e2 in
    record {
      long = leb-true 24 (length t) (and_left (leb 24 (length t)) _ e);
      first = leb-true (get_or t 2 0 + get_or t 5 0) a (and_left (leb (get_or t 2 0 + get_or t 5 0) a) _ e1);
      second = leb-true (get_or t 8 0 + get_or t 11 0) a (and_left (leb (get_or t 8 0 + get_or t 11 0) a) _ e2);
      third = leb-true (get_or t 14 0 + get_or t 17 0) a (and_left (leb (get_or t 14 0 + get_or t 17 0) a) _ e3);
      fourth = leb-true (get_or t 20 0 + get_or t 23 0) a (and_right (leb (get_or t 14 0 + get_or t 17 0) a) _ e3);
    }

no_meeting : (q d a b : ℕ) → q + d ≤ a → meets_parts q d a b ≡ false
unfolding meets_parts
no_meeting q d a b h = rw (le-ltb a (q + d) h) (sym (and_false (ltb 0 d)))

pass_one : (t : List ℕ) (i a b : ℕ) → 6 ≤ length t → get_or t 2 0 + get_or t 5 0 ≤ a → find_from i (segments_of t) a b ≡ find_from (i + 1) (segments_of (drop 6 t)) a b
pass_one t i a b h k =
    rw add-one
    (find_cut t i a b (get_or t 2 0) (get_or t 5 0) (meets_parts (get_or t 2 0) (get_or t 5 0) a b) h refl refl refl
    ∙ ap (λ (x : Bool). cond x (hit i (head_of t) (segments_of (drop 6 t))) (find_from (suc i) (segments_of (drop 6 t)) a b)) (no_meeting (get_or t 2 0) (get_or t 5 0) a b k))

pass_behind : (t : List ℕ) (k i a b : ℕ) → k + 6 ≤ length t → get_or t (k + 2) 0 + get_or t (k + 5) 0 ≤ a
    → find_from i (segments_of (drop k t)) a b ≡ find_from (i + 1) (segments_of (drop (k + 6) t)) a b
pass_behind t k i a b h e =
    let g : get_or (drop k t) 2 0 + get_or (drop k t) 5 0 ≤ a = rw (get_or-drop k t 2 0, get_or-drop k t 5 0) e in
    let l : 6 ≤ length (drop k t) = rw (length-drop k t) (omega arith) in
    pass_one (drop k t) i a b l g ∙ ap (λ (x : List ℕ). find_from (i + 1) (segments_of x) a b) (drop-drop 6 k t)

pass_four : (t : List ℕ) (i a b : ℕ) → FourEnded t a → find_from i (segments_of t) a b ≡ find_from (i + 4) (segments_of (drop 24 t)) a b
pass_four t i a b f =
    let e : i + 1 + 1 + 1 + 1 ≡ i + 4 = omega arith in
    pass_one t i a b (omega (arith, f.long)) f.first
    ∙ pass_behind t 6 (i + 1) a b (omega (arith, f.long)) f.second
    ∙ pass_behind t 12 (i + 1 + 1) a b (omega (arith, f.long)) f.third
    ∙ pass_behind t 18 (i + 1 + 1 + 1) a b (omega (arith, f.long)) f.fourth
    ∙ ap (λ (j : ℕ). find_from j (segments_of (drop 24 t)) a b) e

-- the loop: k segments of m are passed over, t is left
pub record Passing (m : List ℕ) (a k : ℕ) (t : List ℕ) : Type 0 where
  pub left : t ≡ drop (6 * k) m
  pub passed : Passed m a k

pub passing_start : (m : List ℕ) (a : ℕ) → Passing m a 0 m
passing_start m a = record { left = refl; passed = record { within = omega arith; same = λ b. refl } }

passing_length : (m t : List ℕ) (a k : ℕ) → Passing m a k t → length t ≡ length m - 6 * k
passing_length m t a k p = ap length p.left ∙ length-drop (6 * k) m

pub passing_less : (t u : List ℕ) (a : ℕ) (x : Bool) → x ≡ four_ended t a → x ≡ true → u ≡ drop 24 t → length u < length t
passing_less t u a x f e d = let l : length u ≡ length t - 24 = ap length d ∙ length-drop 24 t in omega (arith, l, (four_true t a (sym f ∙ e)).long)

pub passing_again : (m t u : List ℕ) (a k : ℕ) (x : Bool) → Passing m a k t → x ≡ four_ended t a → x ≡ true → u ≡ drop 24 t → Passing m a (k + 4) u
passing_again m t u a k x p f e d =
    let n : 6 * k + 24 ≡ 6 * (k + 4) = omega arith in
    let w : u ≡ drop (6 * (k + 4)) m = d ∙ ap (drop 24) p.left ∙ drop-drop 24 (6 * k) m ∙ ap (λ (j : ℕ). drop j m) n in
    record {
      left = w;
      passed =
          record {
            within = omega (arith, passing_length m t a k p, (four_true t a (sym f ∙ e)).long);
            same =
                λ b. p.passed.same b ∙ ap (λ (y : List ℕ). find_from k (segments_of y) a b) (sym p.left) ∙ pass_four t k a b (four_true t a (sym f ∙ e))
                ∙ ap (λ (y : List ℕ). find_from (k + 4) (segments_of y) a b) (sym d ∙ w);
          };
    }

-- where the search begins
pub hit_start : (m t : List ℕ) (a b k : ℕ) → Passed m a k → t ≡ drop (6 * k) m
    → (find_hit (segments_of m) a b ≡ find_from k (segments_of t) a b) × (k + length t ≤ length m)
hit_start m t a b k p e = (
  p.same b ∙ ap (λ (x : List ℕ). find_from k (segments_of x) a b) (sym e),
  (let l : length t ≡ length m - 6 * k = ap length e ∙ length-drop (6 * k) m in omega (arith, l, p.within)),
)
