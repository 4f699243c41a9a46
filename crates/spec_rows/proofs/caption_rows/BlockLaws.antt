-- Laws of what a block gives.
use mathlib.Core.Path.{◌≡◌, refl, sym, ap, ap₂, ◌∙◌}
use mathlib.Core.Bool.{Bool, false}
use mathlib.Core.List.{List}
use Prim.Native.Nat.{ℕ, ◌+◌, ◌-◌, ◌≤◌}
use native.Mathlib.Omega.{arith}
use borrow.Author.Tests.{ne_eqb}
use lib.Dec.{eqb}
use lib.ListN.{length, take, drop}
use Rattle.std.specs.Prelude.{Option, Some, None}
use Rattle.spec_text.specs.pattern.Find.{up_to}
use Rattle.spec_text.specs.text.Line.{lines_of, concat, line_count, text_of, terminator_of}
use Rattle.spec_time.specs.declared.caption_stamp.Stamp.{Stamp}
use Rattle.spec_time.specs.caption_stamp.Read.{time_in}
use Rattle.spec_cue.specs.declared.block_timing.Place.{Place}
use Rattle.spec_cue.specs.block_timing.Style.{end_in, stamps_in, style_of}
use Rattle.spec_cue.specs.block_timing.Arrow.{arrow, after_arrow, Timing, untimed, timed, timing_of}
use Rattle.spec_cue.specs.block_timing.Place.{timing_place}
use Rattle.spec_cue.proofs.block_timing.PlaceLaws.{Stands, stands}
use Rattle.spec_cue.specs.block_cue.Block.{both_say, block_frame, end_text, trailing, timing_line_says, timing_says, block_says}
use Rattle.spec_rows.specs.declared.caption_rows.Said.{Said}
use Rattle.spec_rows.specs.caption_rows.Said.{words_length, at_fault, quiet, caption_said, held_said, times_said, timing_said, block_said}

-- ---- the timing line
module _ (kind n i k m : ℕ) (l T B u : List ℕ) (x : Option Stamp) (eT : T ≡ text_of l) (eB : B ≡ after_arrow T) (em : m ≡ end_in kind B) (eu : u ≡ up_to arrow T) (ex : x ≡ time_in kind u) where
  start_is : time_in kind (up_to arrow (text_of l)) ≡ x
  start_is = sym (ex ∙ ap (time_in kind) (eu ∙ ap (up_to arrow) eT))

  pub timed_1 : (t : Said) → x ≡ None → t ≡ at_fault 22 n → t ≡ timing_said kind n l i k
  timed_1 t p q = q ∙ sym (ap (λ (X : Option Stamp). times_said n i k X (time_in kind (end_text (style_of kind) (text_of l)))) (start_is ∙ p))

  module _ (v : List ℕ) (y : Option Stamp) (ev : v ≡ take m B) (ey : y ≡ time_in kind v) (S : Stamp) (p : x ≡ Some S) where
    behind_is : B ≡ after_arrow (text_of l)
    behind_is = eB ∙ ap after_arrow eT

    end_is : time_in kind (end_text (style_of kind) (text_of l)) ≡ y
    end_is = sym (ey ∙ ap (time_in kind) (ev ∙ ap (λ (j : ℕ). take j B) em ∙ ap (λ (c : List ℕ). take (end_in kind c) c) behind_is))

    times_is : (Y : Option Stamp) → y ≡ Y → timing_said kind n l i k ≡ times_said n i k (Some S) Y
    times_is Y q = ap₂ (λ (X Z : Option Stamp). times_said n i k X Z) (start_is ∙ p) (end_is ∙ q)

    pub timed_2 : (t : Said) → y ≡ None → t ≡ at_fault 22 n → t ≡ timing_said kind n l i k
    timed_2 t q e = e ∙ sym (times_is None q)

    pub timed_3 : (E : Stamp) → y ≡ Some E → caption_said n 0 S.units E.units i k ≡ timing_said kind n l i k
    timed_3 E q = sym (times_is (Some E) q)

-- ---- a block
module _ (kind first i : ℕ) (h : 1 ≤ kind) where
  kind_is : eqb kind 0 ≡ false
  kind_is = ne_eqb kind 0 (λ q. omega arith)

  held_times : (k n : ℕ) (b : List (List ℕ)) (l : List ℕ) (a : List (List ℕ)) (z : Bool) (B t e A : List ℕ) (X Y : Option Stamp) → n ≡ first + line_count b
      → held_said kind first i k (timed b l a) (both_say n z (block_frame B t e A) X Y) ≡ times_said n (i + (k - length A)) (length A) X Y
  unfolding words_length
  held_times k n b l a z B t e A None Y q = ap (at_fault 22) (sym q)
  held_times k n b l a z B t e A (Some S) None q = ap (at_fault 22) (sym q)
  held_times k n b l a z B t e A (Some S) (Some E) q = rw kind_is

  module _ (s : List ℕ) (x : Option Place) (e : x ≡ timing_place (lines_of s) 0 0) where
    found_of : (t : Timing) (p : Place) → Stands s (Some p) t
        → held_said kind first i (length s) t (timing_says (style_of kind) first (lines_of s) t)
        ≡ timing_said kind (first + p.lines) (take p.size (drop p.at s)) (i + (length s - length (drop p.size (drop p.at s)))) (length (drop p.size (drop p.at s)))
    unfolding timing_line_says
    found_of untimed p w = absurd w
    found_of (timed b l a) p w =
        held_times (length s) (first + line_count b) b l a (stamps_in kind (concat a)) (concat b) (trailing (style_of kind) (text_of l)) (terminator_of l) (concat a)
        (time_in kind (up_to arrow (text_of l))) (time_in kind (end_text (style_of kind) (text_of l))) refl
        ∙ ap (λ (m : ℕ). timing_said kind (first + m) l (i + (length s - length (concat a))) (length (concat a))) w.lines
        ∙ ap₂ (λ (x y : List ℕ). timing_said kind (first + p.lines) x (i + (length s - length y)) (length y)) w.line w.after

    pub block_found : (p : Place) (n d : ℕ) (r0 f2 r2 : List ℕ) (t : Said) → x ≡ Some p → n ≡ first + p.lines → r0 ≡ drop p.at s → f2 ≡ take p.size r0 → r2 ≡ drop p.size r0
        → d ≡ length s - length r2 → t ≡ timing_said kind n f2 (i + d) (length r2) → t ≡ block_said kind first i s
    unfolding block_said block_says
    block_found p n d r0 f2 r2 t f en e0 e2 e3 ed et =
        et
        ∙ ap₂ (λ (m x : ℕ). timing_said kind m f2 (i + x) (length r2)) en ed
        ∙ ap₂ (λ (x y : List ℕ). timing_said kind (first + p.lines) x (i + (length s - length y)) (length y)) (e2 ∙ ap (take p.size) e0) (e3 ∙ ap (drop p.size) e0)
        ∙ sym (found_of (timing_of (lines_of s)) p (stands s x (Some p) e f))

    none_of : (t : Timing) → Stands s None t → held_said kind first i (length s) t (timing_says (style_of kind) first (lines_of s) t) ≡ quiet
    none_of untimed w = refl
    none_of (timed b l a) w = absurd w

    pub block_none : (t : Said) → x ≡ None → t ≡ at_fault 0 0 → t ≡ block_said kind first i s
    unfolding block_said block_says
    block_none t f et = et ∙ sym (none_of (timing_of (lines_of s)) (stands s x None e f))
