use mathlib.Core.Path.{◌≡◌, ap, subst, ◌∙◌}
use mathlib.Core.Bool.{false}
use mathlib.Core.List.{List}
use Prim.Native.Nat.{ℕ, ◌-◌}
use native.Mathlib.Omega.{arith}
use lib.ListN.{length, take, drop, length-drop}
use lib.Seq.{take_all}
use Rattle.spec_session.specs.declared.session_state.Session.{Session}
use Rattle.spec_session.specs.declared.session_state.Head.{Head}
use Rattle.spec_session.specs.session_state.Head.{view_of}
use Rattle.spec_session.specs.declared.session_text.TextFed.{TextFed}
use Rattle.spec_session.specs.session_text.Answer.{TextAnswered}
use Rattle.spec_runs.specs.one_call.Ran.{begun_of}
use Rattle.spec_runs.proofs.one_call.TextLaws.{few, at_room, at_lengths, at_sums, text_end}
use Rattle.spec_runs.proofs.one_call.WholeLaws.{whole_fault, whole_small, whole_at}
use Rattle.one_call.proofs.running.run_text.Goals as goal

over-begun : (s : Session) (h : Head) (m text : List ℕ) (r : TextFed) (out out' places places' : List ℕ) → h ≡ begun_of s → TextAnswered h m text false r out out' places places'
    → TextAnswered (begun_of s) m text false r out out' places places'
over-begun s h m text r out out' places places' e T = subst (λ (x : Head). TextAnswered x m text false r out out' places places') e T

rest_all : (text : List ℕ) (b : ℕ) → take (length text - b) (drop b text) ≡ drop b text
rest_all text b = let l = length-drop b text in take_all (length text - b) (drop b text) (omega arith)

pub returns-then-fed-ne0 : goal.returns-then-fed-ne0
returns-then-fed-ne0 c = let A = c.args in let X = c.take_text-fed in let T = over-begun A.session _ _ _ _ _ _ _ _ c.begun.ensures X.ensures in whole_fault A.session A.map.now A.text.now A.out.now A.warnings.now c.requires X.result _ _ T c.if-fed-ne0.true _ c.stopped.ensures

pub resumed-at-requires : goal.resumed-at-requires
resumed-at-requires c = let A = c.args in let X = c.take_text-fed in let T = over-begun A.session _ _ _ _ _ _ _ _ c.begun.ensures X.ensures in omega (arith, ap length (rest_all A.text.now X.result.begin), whole_small A.session A.map.now A.text.now A.out.now A.warnings.now c.requires X.result _ _ T)

pub slice_bounds-finish-count : goal.slice_bounds-finish-count
slice_bounds-finish-count c = let A = c.args in let X = c.take_text-fed in let T = over-begun A.session _ _ _ _ _ _ _ _ c.begun.ensures X.ensures in let S = c.resumed-at in let I = whole_at A.session A.map.now A.text.now A.out.now A.warnings.now c.requires X.result _ _ T c.if-fed-ne0.false S.result (S.ensures.0 ∙ ap (view_of X.result.head) (rest_all A.text.now X.result.begin)) S.ensures.1 in omega (arith, (at_room _ _ _ _ _ _ _ _ _ _ _ I).0)

pub slice_bounds-finish-start : goal.slice_bounds-finish-start
slice_bounds-finish-start c = let A = c.args in let X = c.take_text-fed in let T = over-begun A.session _ _ _ _ _ _ _ _ c.begun.ensures X.ensures in let S = c.resumed-at in let I = whole_at A.session A.map.now A.text.now A.out.now A.warnings.now c.requires X.result _ _ T c.if-fed-ne0.false S.result (S.ensures.0 ∙ ap (view_of X.result.head) (rest_all A.text.now X.result.begin)) S.ensures.1 in omega (arith, (at_room _ _ _ _ _ _ _ _ _ _ _ I).0)

pub offset_bounds-warnings-w : goal.offset_bounds-warnings-w
offset_bounds-warnings-w c = let A = c.args in let X = c.take_text-fed in let T = over-begun A.session _ _ _ _ _ _ _ _ c.begun.ensures X.ensures in let S = c.resumed-at in let I = whole_at A.session A.map.now A.text.now A.out.now A.warnings.now c.requires X.result _ _ T c.if-fed-ne0.false S.result (S.ensures.0 ∙ ap (view_of X.result.head) (rest_all A.text.now X.result.begin)) S.ensures.1 in omega (arith, (few _ _ _ _ _ _ _ _ _ _ _ I).1, I.short)

pub slice_bounds-finish-count-2 : goal.slice_bounds-finish-count-2
slice_bounds-finish-count-2 c = let A = c.args in let X = c.take_text-fed in let T = over-begun A.session _ _ _ _ _ _ _ _ c.begun.ensures X.ensures in let S = c.resumed-at in let I = whole_at A.session A.map.now A.text.now A.out.now A.warnings.now c.requires X.result _ _ T c.if-fed-ne0.false S.result (S.ensures.0 ∙ ap (view_of X.result.head) (rest_all A.text.now X.result.begin)) S.ensures.1 in omega (arith, (at_room _ _ _ _ _ _ _ _ _ _ _ I).1)

pub slice_bounds-finish-start-2 : goal.slice_bounds-finish-start-2
slice_bounds-finish-start-2 c = let A = c.args in let X = c.take_text-fed in let T = over-begun A.session _ _ _ _ _ _ _ _ c.begun.ensures X.ensures in let S = c.resumed-at in let I = whole_at A.session A.map.now A.text.now A.out.now A.warnings.now c.requires X.result _ _ T c.if-fed-ne0.false S.result (S.ensures.0 ∙ ap (view_of X.result.head) (rest_all A.text.now X.result.begin)) S.ensures.1 in omega (arith, (at_room _ _ _ _ _ _ _ _ _ _ _ I).1)

pub overflow_add-o : goal.overflow_add-o
overflow_add-o c = let A = c.args in let X = c.take_text-fed in let T = over-begun A.session _ _ _ _ _ _ _ _ c.begun.ensures X.ensures in let S = c.resumed-at in let I = whole_at A.session A.map.now A.text.now A.out.now A.warnings.now c.requires X.result _ _ T c.if-fed-ne0.false S.result (S.ensures.0 ∙ ap (view_of X.result.head) (rest_all A.text.now X.result.begin)) S.ensures.1 in let F = c.finish-last in omega (arith, (at_sums _ _ _ _ _ _ _ _ _ _ _ I _ _ _ _ _ _ F.ensures).0)

pub overflow_add-w : goal.overflow_add-w
overflow_add-w c = let A = c.args in let X = c.take_text-fed in let T = over-begun A.session _ _ _ _ _ _ _ _ c.begun.ensures X.ensures in let S = c.resumed-at in let I = whole_at A.session A.map.now A.text.now A.out.now A.warnings.now c.requires X.result _ _ T c.if-fed-ne0.false S.result (S.ensures.0 ∙ ap (view_of X.result.head) (rest_all A.text.now X.result.begin)) S.ensures.1 in let F = c.finish-last in omega (arith, (at_sums _ _ _ _ _ _ _ _ _ _ _ I _ _ _ _ _ _ F.ensures).1)

pub shape_of-out : goal.shape_of-out
shape_of-out c = let A = c.args in let X = c.take_text-fed in let T = over-begun A.session _ _ _ _ _ _ _ _ c.begun.ensures X.ensures in let S = c.resumed-at in let I = whole_at A.session A.map.now A.text.now A.out.now A.warnings.now c.requires X.result _ _ T c.if-fed-ne0.false S.result (S.ensures.0 ∙ ap (view_of X.result.head) (rest_all A.text.now X.result.begin)) S.ensures.1 in let F = c.finish-last in (at_lengths _ _ _ _ _ _ _ _ _ _ _ I _ _ _ _ F.ensures).0

pub shape_of-warnings : goal.shape_of-warnings
shape_of-warnings c = let A = c.args in let X = c.take_text-fed in let T = over-begun A.session _ _ _ _ _ _ _ _ c.begun.ensures X.ensures in let S = c.resumed-at in let I = whole_at A.session A.map.now A.text.now A.out.now A.warnings.now c.requires X.result _ _ T c.if-fed-ne0.false S.result (S.ensures.0 ∙ ap (view_of X.result.head) (rest_all A.text.now X.result.begin)) S.ensures.1 in let F = c.finish-last in (at_lengths _ _ _ _ _ _ _ _ _ _ _ I _ _ _ _ F.ensures).1

pub returns : goal.returns
returns c = let A = c.args in let X = c.take_text-fed in let T = over-begun A.session _ _ _ _ _ _ _ _ c.begun.ensures X.ensures in let S = c.resumed-at in let I = whole_at A.session A.map.now A.text.now A.out.now A.warnings.now c.requires X.result _ _ T c.if-fed-ne0.false S.result (S.ensures.0 ∙ ap (view_of X.result.head) (rest_all A.text.now X.result.begin)) S.ensures.1 in let F = c.finish-last in text_end A.session _ _ _ _ _ _ _ _ _ _ I (λ q. omega (arith, q)) _ _ _ F.ensures _ c.ended.ensures
