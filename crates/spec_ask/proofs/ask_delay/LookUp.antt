-- What is looked up is what is lost: the grades of a caption, and its fate under a delay.
use mathlib.Core.Path.{◌≡◌, refl, sym, ap, ◌∙◌}
use mathlib.Core.Bool.{Bool, true, false, cond, not}
use mathlib.Core.List.{List}
use Prim.Native.Nat.{ℕ, suc, ◌+◌, ◌-◌, ◌≤◌, ◌<◌}
use native.Mathlib.Omega.{arith}
use lib.Dec.{ltb, eqb}
use lib.IntN.{ℤ, pos, negsuc}
use lib.ListN.{get_or}
use borrow.Author.Tests.{ltb-false}
use Rattle.std.specs.Prelude.{Some, None}
use Rattle.spec_time.specs.caption_time.Kind.{units_of}
use Rattle.spec_map.specs.declared.segment.Segment.{Segment}
use Rattle.spec_caption.specs.declared.caption_fate.Config.{Config}
use Rattle.spec_caption.specs.caption_fate.Fates.{Fate, passed, dropped, shifted, clipped, fate_of}
use Rattle.spec_ask.specs.ask_edges.Edge.{edges_of, fate_grade, grade_through}
use Rattle.spec_ask.proofs.ask_edges.Units.{fate_grades}
use Rattle.spec_ask.specs.ask_delay.Delay.{delayed_of, Near}
use Rattle.spec_ask.specs.ask_delay.Loss.{whole, lost_at, lost_under}
use Rattle.spec_ask.specs.ask_delay.Paint.{reach, Window, lost_moved, lost_by}

grade_whole : (f : Fate) → eqb (fate_grade f) 2 ≡ whole f
grade_whole passed = refl
grade_whole dropped = refl
grade_whole (shifted s e) = refl
grade_whole (clipped s e) = refl

module _ (c : Config) (m : List Segment) (hT : 0 < c.timescale) (hU : 0 < units_of c.kind) (S E : ℕ) (l : List ℕ)
    (w : Window (edges_of c.timescale (units_of c.kind) m) S E l) where
  -- moved times s and e, j − 6000 later
  at_place : (j s e : ℕ) → j < 12001 → s + reach ≡ S + j → e + reach ≡ E + j → eqb (get_or l (s + reach - S) 0) 2 ≡ whole (fate_of c m s e)
  at_place j s e h ps pe =
      let a : s + reach - S ≡ j = omega arith in
      let b : S + j - reach ≡ s = omega arith in
      let d : E + j - reach ≡ e = omega arith in
      let k : get_or l j 0 ≡ grade_through (edges_of c.timescale (units_of c.kind) m) s e = rw (b, d) at (w.grades j h (omega arith) (omega arith)) in
      ap (λ (n : ℕ). eqb (get_or l n 0) 2) a ∙ ap (λ (n : ℕ). eqb n 2) (k ∙ sym (fate_grades c m hT hU s e)) ∙ grade_whole (fate_of c m s e)

  pub looked_up : (d : ℤ) → Near d → lost_by l S E d ≡ lost_under c m d S E
  unfolding lost_by lost_under delayed_of
  looked_up (pos n) h = ap not (at_place (n + reach) (S + n) (E + n) (omega arith) (omega arith) (omega arith))
  looked_up (negsuc n) h = go (ltb S (suc n)) (ltb E (suc n)) refl refl
    where
      go : (u v : Bool) → ltb S (suc n) ≡ u → ltb E (suc n) ≡ v
          → lost_moved l S (cond u None (Some (S - suc n))) (cond v None (Some (E - suc n))) ≡ lost_at c m (cond u None (Some (S - suc n))) (cond v None (Some (E - suc n)))
      go true v p q = refl
      go false true p q = refl
      go false false p q =
          let a : suc n ≤ S = ltb-false S (suc n) p in
          let b : suc n ≤ E = ltb-false E (suc n) q in
          ap not (at_place (reach - suc n) (S - suc n) (E - suc n) (omega arith) (omega arith) (omega arith))
