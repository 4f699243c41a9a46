use native.Mathlib.Omega.{arith}
use Rattle.spec_ass.proofs.ass_columns.FieldLaws.{rest_part}
use Rattle.ass_columns.proofs.CommaLaws.{by_one_none, by_one_few, by_one_again, by_one_all}
use Rattle.ass_columns.proofs.fields.enough_by_one.Goals as goal

pub loop-init : goal.loop-init
loop-init c = (search by_one_none, omega arith)

pub returns-then-t-i : goal.returns-then-t-i
returns-then-t-i c = search by_one_few

pub loop-preserved : goal.loop-preserved
loop-preserved c = (search by_one_again, search rest_part)

pub returns : goal.returns
returns c = search by_one_all
