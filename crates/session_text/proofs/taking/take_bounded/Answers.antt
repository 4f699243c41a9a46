use mathlib.Core.Path.{◌≡◌, refl, ap, ◌∙◌}
use mathlib.Core.List.{List}
use Prim.Native.Nat.{ℕ}
use native.Mathlib.Omega.{arith}
use lib.ListN.{length, take}
use Rattle.spec_text.specs.text.Line.{concat}
use Rattle.spec_machine.specs.session_counts.Cut.{closed_lines}
use Rattle.spec_session.specs.declared.session_state.Head.{Head}
use Rattle.spec_session.specs.session_text.Lined.{line_start}
use Rattle.refusals.proofs.Laws.{refused_not_0}
use Rattle.spec_session.proofs.session_text.TextLaws.{text_refused, text_starts, text_ended, text_goes, begin_within}
use Rattle.session_text.proofs.taking.take_bounded.Goals as goal

start_is : (h : Head) (text held : List ℕ) (e : ℕ) → e ≡ length (concat (closed_lines held)) → held ≡ take h.held_len text → e ≡ line_start h text
start_is h text held e p q = p ∙ ap (λ (x : List ℕ). length (concat (closed_lines x))) q

pub refusal-requires : goal.refusal-requires
refusal-requires c = c.requires.0

pub returns-in-Err : goal.returns-in-Err
returns-in-Err c = search (text_refused, refused_not_0, c.in-Err.ensures) depth 12

pub run_lines-end-requires : goal.run_lines-end-requires
run_lines-end-requires c = let A = c.args in let S = text_starts A.head A.map.now A.text.now A.bad A.out.now A.warnings.now _ _ _ c.front-held.ensures c.text_bad-short.ensures c.in_default.ensures refl in (S, search start_is depth 12, c.requires.1 S.map_good)

pub overflow_sub-taken : goal.overflow_sub-taken
overflow_sub-taken c = let A = c.args in let S = text_starts A.head A.map.now A.text.now A.bad A.out.now A.warnings.now _ _ _ c.front-held.ensures c.text_bad-short.ensures c.in_default.ensures refl in S.long

pub overflow_cast-taken : goal.overflow_cast-taken
overflow_cast-taken c = let A = c.args in let S = text_starts A.head A.map.now A.text.now A.bad A.out.now A.warnings.now _ _ _ c.front-held.ensures c.text_bad-short.ensures c.in_default.ensures refl in omega (arith, S.few)

pub overflow_add-taken : goal.overflow_add-taken
overflow_add-taken c = let A = c.args in let S = text_starts A.head A.map.now A.text.now A.bad A.out.now A.warnings.now _ _ _ c.front-held.ensures c.text_bad-short.ensures c.in_default.ensures refl in omega (arith, S.few)

pub returns-then-end-ne0 : goal.returns-then-end-ne0
returns-then-end-ne0 c = let A = c.args in let R = c.run_lines-end in text_ended A.head A.map.now A.text.now A.bad A.out.now A.warnings.now _ _ _ c.front-held.ensures c.text_bad-short.ensures c.in_default.ensures refl R.result _ _ R.ensures _ refl c.if-end-ne0.true _ c.over.ensures

pub going_on-requires : goal.going_on-requires
going_on-requires c = let A = c.args in let R = c.run_lines-end in begin_within A.head A.map.now A.text.now A.bad A.out.now A.warnings.now _ _ _ c.front-held.ensures c.text_bad-short.ensures c.in_default.ensures refl R.result _ _ R.ensures _ refl c.if-end-ne0.false

pub returns : goal.returns
returns c = let A = c.args in let R = c.run_lines-end in text_goes A.head A.map.now A.text.now A.bad A.out.now A.warnings.now _ _ _ c.front-held.ensures c.text_bad-short.ensures c.in_default.ensures refl R.result _ _ R.ensures _ refl c.if-end-ne0.false _ c.going_on.ensures
