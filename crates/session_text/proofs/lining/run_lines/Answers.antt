use Rattle.std.proofs.Common.{ℕ, List, ◌≡◌, take, drop, Option, None, Some}
use Rattle.std.specs.Option.{MatchOption}
use Rattle.std.proofs.lemmas.Option.{MatchOption-at_some, MatchOption-at_none}
use mathlib.Core.Bool.{false}
use Rattle.spec_base.specs.base.Limits.{most_line}
use Rattle.spec_text.specs.text.Line.{has_lf}
use Rattle.spec_session.specs.session_text.Lined.{Closed, LineEnd}
use mathlib.Core.Path.{refl}
use Rattle.spec_machine.proofs.session_counts.GoodLines.{good_rest}
use native.Mathlib.Omega.{arith}
use Rattle.spec_session.proofs.session_text.StartLaws.{text_few}
use Rattle.spec_session.proofs.session_text.LineLaws.{line_few, lined_few, lined_room, skip_sum, line_passes, ends_rest, ends_fault, ends_all, lines_start, closed_later}
use Rattle.session_text.proofs.lining.run_lines.Goals as goal

closed_at : (text : List ℕ) (i e : ℕ) {o : Option ℕ} → o ≡ Some e → MatchOption o (has_lf (take most_line (drop i text)) ≡ false) (Closed text i) → Closed text i e
closed_at text i e q m = MatchOption-at_some (has_lf (take most_line (drop i text)) ≡ false) (Closed text i) e q m

open_at : (text : List ℕ) (i : ℕ) {o : Option ℕ} → o ≡ None → MatchOption o (has_lf (take most_line (drop i text)) ≡ false) (Closed text i) → LineEnd text i 0
open_at text i q m = record { closed = λ f. absurd (f refl); none = λ _. MatchOption-at_none (has_lf (take most_line (drop i text)) ≡ false) (Closed text i) q m }

pub loop-i-init : goal.loop-i-init
loop-i-init c = (lines_start _ _ _ _ _ c.requires.0 _ c.requires.1, search good_rest)

pub pass_joins-p-requires-clause-lines_bound : goal.pass_joins-p-requires-clause-lines_bound
pass_joins-p-requires-clause-lines_bound c = let I = c.loop-i.invariant.0 in (line_few _ _ _ _ _ _ _ _ I, I.order, I.within, text_few _ _ _ _ _ I.starts)

pub overflow_sub-text : goal.overflow_sub-text
overflow_sub-text c = let I = c.pass_joins-p.ensures.onto _ _ _ _ _ _ _ _ _ _ refl c.loop-i.invariant.0 in I.within

pub returns-in_default : goal.returns-in_default
returns-in_default c = let I = c.pass_joins-p.ensures.onto _ _ _ _ _ _ _ _ _ _ refl c.loop-i.invariant.0 in ends_rest _ _ _ _ _ _ _ _ I 0 (open_at c.args.text.now c.pass_joins-p.result.place c.in_default.is c.pass_joins-p.ensures.line_end) refl _ c.rest_number-number.ensures _ c.led_to.ensures

pub slice_bounds-take_grouped-count-in-loop-i : goal.slice_bounds-take_grouped-count-in-loop-i
slice_bounds-take_grouped-count-in-loop-i c = let I = c.pass_joins-p.ensures.onto _ _ _ _ _ _ _ _ _ _ refl c.loop-i.invariant.0 in omega (arith, (lined_room _ _ _ _ _ _ _ _ I).0)

pub slice_bounds-take_grouped-start-in-loop-i : goal.slice_bounds-take_grouped-start-in-loop-i
slice_bounds-take_grouped-start-in-loop-i c = let I = c.pass_joins-p.ensures.onto _ _ _ _ _ _ _ _ _ _ refl c.loop-i.invariant.0 in omega (arith, (lined_room _ _ _ _ _ _ _ _ I).0)

pub offset_bounds-warnings-w : goal.offset_bounds-warnings-w
offset_bounds-warnings-w c = let I = c.pass_joins-p.ensures.onto _ _ _ _ _ _ _ _ _ _ refl c.loop-i.invariant.0 in omega (arith, (lined_few _ _ _ _ _ _ _ _ I).1, I.order, I.within, text_few _ _ _ _ _ I.starts)

pub slice_bounds-take_grouped-count-in-loop-i-2 : goal.slice_bounds-take_grouped-count-in-loop-i-2
slice_bounds-take_grouped-count-in-loop-i-2 c = let I = c.pass_joins-p.ensures.onto _ _ _ _ _ _ _ _ _ _ refl c.loop-i.invariant.0 in omega (arith, (lined_room _ _ _ _ _ _ _ _ I).1)

pub slice_bounds-take_grouped-start-in-loop-i-2 : goal.slice_bounds-take_grouped-start-in-loop-i-2
slice_bounds-take_grouped-start-in-loop-i-2 c = let I = c.pass_joins-p.ensures.onto _ _ _ _ _ _ _ _ _ _ refl c.loop-i.invariant.0 in omega (arith, (lined_room _ _ _ _ _ _ _ _ I).1)

pub returns-then-told-ne0 : goal.returns-then-told-ne0
returns-then-told-ne0 c = let I = c.pass_joins-p.ensures.onto _ _ _ _ _ _ _ _ _ _ refl c.loop-i.invariant.0 in let C = closed_at c.args.text.now c.pass_joins-p.result.place c.in-Some.e c.in-Some.is c.pass_joins-p.ensures.line_end in let T = c.take_grouped-told in ends_fault _ _ _ _ _ _ _ _ I _ C T.result _ _ T.ensures c.if-told-ne0.true _ c.led_to-then-told-ne0.ensures

pub overflow_add-b : goal.overflow_add-b
overflow_add-b c = let I = c.pass_joins-p.ensures.onto _ _ _ _ _ _ _ _ _ _ refl c.loop-i.invariant.0 in let C = closed_at c.args.text.now c.pass_joins-p.result.place c.in-Some.e c.in-Some.is c.pass_joins-p.ensures.line_end in let T = c.take_grouped-told in omega (arith, skip_sum _ _ _ _ _ _ _ _ I _ C T.result _ _ T.ensures, C.hi, text_few _ _ _ _ _ I.starts)

pub overflow_add-o : goal.overflow_add-o
overflow_add-o c = let I = c.pass_joins-p.ensures.onto _ _ _ _ _ _ _ _ _ _ refl c.loop-i.invariant.0 in let C = closed_at c.args.text.now c.pass_joins-p.result.place c.in-Some.e c.in-Some.is c.pass_joins-p.ensures.line_end in let T = c.take_grouped-told in let N = line_passes _ _ _ _ _ _ _ _ I _ C T.result _ _ T.ensures c.if-told-ne0.false _ c.block_begin-b.ensures in omega (arith, (lined_few _ _ _ _ _ _ _ _ N).0, N.order, C.hi, text_few _ _ _ _ _ I.starts)

pub overflow_add-w : goal.overflow_add-w
overflow_add-w c = let I = c.pass_joins-p.ensures.onto _ _ _ _ _ _ _ _ _ _ refl c.loop-i.invariant.0 in let C = closed_at c.args.text.now c.pass_joins-p.result.place c.in-Some.e c.in-Some.is c.pass_joins-p.ensures.line_end in let T = c.take_grouped-told in let N = line_passes _ _ _ _ _ _ _ _ I _ C T.result _ _ T.ensures c.if-told-ne0.false _ c.block_begin-b.ensures in omega (arith, (lined_few _ _ _ _ _ _ _ _ N).1, N.order, C.hi, text_few _ _ _ _ _ I.starts)

pub overflow_add-n : goal.overflow_add-n
overflow_add-n c = let I = c.pass_joins-p.ensures.onto _ _ _ _ _ _ _ _ _ _ refl c.loop-i.invariant.0 in omega (arith, line_few _ _ _ _ _ _ _ _ I, I.within, text_few _ _ _ _ _ I.starts)

pub loop-i-preserved : goal.loop-i-preserved
loop-i-preserved c = let I = c.pass_joins-p.ensures.onto _ _ _ _ _ _ _ _ _ _ refl c.loop-i.invariant.0 in let C = closed_at c.args.text.now c.pass_joins-p.result.place c.in-Some.e c.in-Some.is c.pass_joins-p.ensures.line_end in let T = c.take_grouped-told in let N = line_passes _ _ _ _ _ _ _ _ I _ C T.result _ _ T.ensures c.if-told-ne0.false _ c.block_begin-b.ensures in (N, closed_later _ _ _ _ C c.pass_joins-p.ensures.text_value_2)

pub returns : goal.returns
returns c = let I = c.loop-i.invariant.0 in ends_all _ _ _ _ _ _ _ _ I c.loop-i-test.false _ c.led_to-2.ensures
