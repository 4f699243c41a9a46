-- Laws of the timing line: where it stands in the block.
use mathlib.Core.Path.{◌≡◌, refl, sym, ap, subst, ◌∙◌}
use mathlib.Core.Bool.{Bool, true, false, cond}
use mathlib.Core.List.{List, [], ◌∷◌, ◌++◌, append_assoc}
use Prim.Native.Nat.{ℕ, suc, ◌+◌, ◌-◌, ◌≤◌, ◌<◌}
use native.Mathlib.Nat.{add-zero}
use native.Mathlib.Omega.{arith}
use borrow.Author.Tests.{lt-ltb, le-ltb}
use lib.Seq.{length-take-le, take_at, drop_at}
use lib.ListN.{length, take, drop, get_or, length-drop, length-append}
use Rattle.std.specs.Prelude.{Option, Some, None}
use Rattle.spec_base.proofs.base.Laws.{yes!, no! }
use Rattle.spec_text.specs.utf8.Utf8.{tail}
use Rattle.spec_text.specs.whitespace.White.{trim_head}
use Rattle.spec_text.specs.pattern.Find.{contains, past}
use Rattle.spec_text.specs.text.Line.{line_length, lines_of, concat, line_count, text_of}
use Rattle.spec_text.proofs.text.LineLaws.{line_some, line_le, lines_cut, lines_end, lines_joined}
use Rattle.spec_cue.specs.declared.block_timing.Place.{Place}
use Rattle.spec_cue.specs.block_timing.Style.{srt_end}
use Rattle.spec_cue.specs.block_timing.Arrow.{arrow, Timing, untimed, timed, later, timing_of, after_arrow}
use Rattle.spec_cue.specs.block_timing.Place.{somewhere, timing_place}

-- ---- the end time
pub end_1 : (r : List ℕ) → length r < 12 → length r ≡ srt_end r
unfolding srt_end
end_1 r h = yes! _ (lt-ltb (length r) 12 h) refl

pub end_2 : (r : List ℕ) (b : ℕ) (t : Bool) → 12 ≤ length r → b ≡ get_or r 12 0 → t ≡ tail b → t ≡ true → length r ≡ srt_end r
unfolding srt_end
end_2 r b t h eb et p = no! _ (le-ltb (length r) 12 h) (yes! _ (ap tail (sym eb) ∙ sym et ∙ p) refl)

pub end_3 : (r : List ℕ) (b : ℕ) (t : Bool) → 12 ≤ length r → b ≡ get_or r 12 0 → t ≡ tail b → t ≡ false → 12 ≡ srt_end r
unfolding srt_end
end_3 r b t h eb et p = no! _ (le-ltb (length r) 12 h) (no! _ (ap tail (sym eb) ∙ sym et ∙ p) refl)

pub after_found : (s t r : List ℕ) → t ≡ past arrow s → r ≡ trim_head t → r ≡ after_arrow s
unfolding after_arrow
after_found s t r e f = f ∙ ap trim_head e

-- ---- the loop over the lines
place_cut : (t line x : List ℕ) (n i k : ℕ) (f : Bool) → 0 < length t → n ≡ line_length t → line ≡ take n t → x ≡ text_of line → f ≡ contains arrow x
    → timing_place (lines_of t) i k ≡ cond f (somewhere i n k) (timing_place (lines_of (drop n t)) (i + n) (k + 1))
unfolding timing_place
place_cut t line x n i k f h en el ex ef =
    let q : length (take n t) ≡ n = length-take-le n t (omega (arith, line_le t)) in
    let c : lines_of t ≡ take n t ∷ lines_of (drop n t) = lines_cut t h ∙ ap (λ (m : ℕ). take m t ∷ lines_of (drop m t)) (sym en) in
    rw (c, q, ef, ex, el)

pub place_found : (s t line x : List ℕ) (n i k : ℕ) (f : Bool) → timing_place (lines_of s) 0 0 ≡ timing_place (lines_of t) i k → 0 < length t → n ≡ line_length t → line ≡ take n t → x ≡ text_of line → f ≡ contains arrow x → f ≡ true
    → Some (record { at = i; size = n; lines = k }) ≡ timing_place (lines_of s) 0 0
place_found s t line x n i k f inv h en el ex ef p =
    sym (inv ∙ place_cut t line x n i k f h en el ex ef ∙ ap (λ (b : Bool). cond b (somewhere i n k) (timing_place (lines_of (drop n t)) (i + n) (k + 1))) p)

pub place_again : (s t u line x : List ℕ) (n i k : ℕ) (f : Bool) → timing_place (lines_of s) 0 0 ≡ timing_place (lines_of t) i k → 0 < length t → n ≡ line_length t → line ≡ take n t → x ≡ text_of line → f ≡ contains arrow x → f ≡ false → u ≡ drop n t
    → timing_place (lines_of s) 0 0 ≡ timing_place (lines_of u) (i + n) (k + 1)
place_again s t u line x n i k f inv h en el ex ef p eu =
    inv ∙ place_cut t line x n i k f h en el ex ef ∙ ap (λ (b : Bool). cond b (somewhere i n k) (timing_place (lines_of (drop n t)) (i + n) (k + 1))) p
    ∙ ap (λ (y : List ℕ). timing_place (lines_of y) (i + n) (k + 1)) (sym eu)

pub place_none : (s t : List ℕ) (i k : ℕ) → timing_place (lines_of s) 0 0 ≡ timing_place (lines_of t) i k → length t ≤ 0 → None ≡ timing_place (lines_of s) 0 0
unfolding timing_place
place_none s t i k inv h = sym (inv ∙ ap (λ (y : List (List ℕ)). timing_place y i k) (lines_end t h))

pub line_inside : (t : List ℕ) (n : ℕ) → n ≡ line_length t → n ≤ length t
line_inside t n e = omega (arith, line_le t)

pub rest_sum : (s t u : List ℕ) (n i : ℕ) → i + length t ≡ length s → n ≡ line_length t → u ≡ drop n t → i + n + length u ≡ length s
rest_sum s t u n i inv e d =
    let q : length u ≡ length t - n = ap length d ∙ length-drop n t in
    omega (arith, line_le t)

pub lines_few : (t : List ℕ) (n i k : ℕ) → k ≤ i → n ≡ line_length t → 0 < length t → k + 1 ≤ i + n
lines_few t n i k h e l = omega (arith, line_some t l)

-- ---- the place of the timing line, and the parts of the block about it
abbrev pub Placed : Timing → List (List ℕ) → (i k : ℕ) → Option Place → Type 0
Placed untimed ls i k p = p ≡ None
Placed (timed b l a) ls i k p = (p ≡ somewhere (i + length (concat b)) (length l) (k + line_count b)) × (concat b ++ (l ++ concat a) ≡ concat ls)

later_placed : (l : List ℕ) (t : Timing) (ls : List (List ℕ)) (i k : ℕ) (p : Option Place) → Placed t ls (i + length l) (k + 1) p → Placed (later l t) (l ∷ ls) i k p
later_placed l untimed ls i k p e = e
later_placed l (timed b x a) ls i k p e =
    let q : i + length l + length (concat b) ≡ i + length (l ++ concat b) = omega (arith, length-append l (concat b)) in
    let r : k + 1 + line_count b ≡ k + suc (line_count b) = omega arith in (
      e.0 ∙ ap (λ (n : ℕ). somewhere n (length x) (k + 1 + line_count b)) q ∙ ap (λ (n : ℕ). somewhere (i + length (l ++ concat b)) (length x) n) r,
      append_assoc l (concat b) (x ++ concat a) ∙ ap (λ (y : List ℕ). l ++ y) e.1,
    )

pub timing_placed : (ls : List (List ℕ)) (i k : ℕ) → Placed (timing_of ls) ls i k (timing_place ls i k)
unfolding timing_of timing_place
timing_placed [] i k = refl
timing_placed (l ∷ ls) i k = go (contains arrow (text_of l)) (timing_placed ls (i + length l) (k + 1))
  where
    go : (t : Bool) → Placed (timing_of ls) ls (i + length l) (k + 1) (timing_place ls (i + length l) (k + 1))
        → Placed (cond t (timed [] l ls) (later l (timing_of ls))) (l ∷ ls) i k (cond t (somewhere i (length l) k) (timing_place ls (i + length l) (k + 1)))
    go true ih = (ap (λ (n : ℕ). somewhere n (length l) k) (sym (add-zero i)) ∙ ap (λ (n : ℕ). somewhere (i + 0) (length l) n) (sym (add-zero k)), refl)
    go false ih = later_placed l (timing_of ls) ls i k (timing_place ls (i + length l) (k + 1)) ih

-- what the code knows of the place
pub record Apart (s : List ℕ) (p : Place) (b : List (List ℕ)) (l : List ℕ) (a : List (List ℕ)) : Type 0 where
  pub before : concat b ≡ take p.at s
  pub line : l ≡ take p.size (drop p.at s)
  pub after : concat a ≡ drop p.size (drop p.at s)
  pub lines : line_count b ≡ p.lines
  pub room : p.at + p.size ≤ length s

abbrev pub Stands : List ℕ → Option Place → Timing → Type 0
Stands s None untimed = Unit
Stands s None (timed b l a) = ⊥
Stands s (Some p) untimed = ⊥
Stands s (Some p) (timed b l a) = Apart s p b l a

no_place : {A : Type 0} {p : Place} → None ≡ Some p → A
no_place e = absurd (let z : ◌≡◌ {A = ℕ} 0 1 = ap (λ (x : Option Place). elim x [ None ↦ 0 | Some q ↦ 1 ]) e in omega arith)

stands_of : (s : List ℕ) (x : Option Place) (t : Timing) → Placed t (lines_of s) 0 0 x → Stands s x t
stands_of s None untimed e = tt
stands_of s (Some p) untimed e = no_place (sym e)
stands_of s None (timed b l a) e = no_place e.0
stands_of s (Some p) (timed b l a) e =
    let B = concat b in
    let A = concat a in
    let w : B ++ (l ++ A) ≡ s = e.1 ∙ lines_joined s in
    let at : p.at ≡ length B = ap (λ (x : Option Place). elim x [ None ↦ 0 | Some q ↦ q.at ]) e.0 ∙ omega arith in
    let size : p.size ≡ length l = ap (λ (x : Option Place). elim x [ None ↦ 0 | Some q ↦ q.size ]) e.0 in
    let k : p.lines ≡ line_count b = ap (λ (x : Option Place). elim x [ None ↦ 0 | Some q ↦ q.lines ]) e.0 ∙ omega arith in
    let d : drop p.at s ≡ l ++ A = ap (drop p.at) (sym w) ∙ drop_at B (l ++ A) p.at (sym at) in
    let n : length s ≡ length B + (length l + length A) = ap length (sym w) ∙ length-append B (l ++ A) ∙ ap (λ (m : ℕ). length B + m) (length-append l A) in
    record {
      before = sym (ap (take p.at) (sym w) ∙ take_at B (l ++ A) p.at (sym at));
      line = sym (ap (take p.size) d ∙ take_at l A p.size (sym size));
      after = sym (ap (drop p.size) d ∙ drop_at l A p.size (sym size));
      lines = sym k;
      room = omega arith;
    }

pub stands : (s : List ℕ) (x y : Option Place) → x ≡ timing_place (lines_of s) 0 0 → x ≡ y → Stands s y (timing_of (lines_of s))
stands s x y e f = subst (λ (q : Option Place). Stands s q (timing_of (lines_of s))) (sym e ∙ f) (stands_of s (timing_place (lines_of s) 0 0) (timing_of (lines_of s)) (timing_placed (lines_of s) 0 0))
