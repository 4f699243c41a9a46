use Prim.Native.Nat.{◌≤◌}
use native.Mathlib.Omega.{arith}
use Rattle.spec_ass.proofs.ass_columns.FieldLaws.{rest_part}
use Rattle.ass_columns.proofs.CommaLaws.{at_start, at_short, at_again, at_found, at_absent}
use Rattle.ass_columns.proofs.fields.field.Goals as goal

pub returns-then-place-eq0 : goal.returns-then-place-eq0
returns-then-place-eq0 c = search at_absent

pub loop-init : goal.loop-init
loop-init c = (search at_start, omega arith)

pub returns-then-t-i : goal.returns-then-t-i
returns-then-t-i c = search at_short

pub loop-preserved : goal.loop-preserved
loop-preserved c = (search at_again, search rest_part)

pub returns : goal.returns
returns c = let a : 1 ≤ c.args.place = omega arith in
    let b : c.args.place ≤ c.loop.counter = omega arith in
    let d : c.loop.counter ≤ c.args.place = omega arith in
    at_found _ _ _ _ _ c.loop.invariant.0 (omega arith) _ _ a b d c.field_length.ensures c.front-2.ensures
