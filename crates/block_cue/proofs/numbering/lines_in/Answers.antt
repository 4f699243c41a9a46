use native.Mathlib.Omega.{arith}
use lib.Dec.{eqb}
use Rattle.std.proofs.lemmas.List.Sums.{count_by-le-length}
use Rattle.block_cue.proofs.LineCount.{no_lines, ended, one_open}
use Rattle.block_cue.proofs.numbering.lines_in.Goals as goal

pub returns-in-empty : goal.returns-in-empty
returns-in-empty c = search no_lines

pub returns-in-10 : goal.returns-in-10
returns-in-10 c = search ended

pub overflow_add-result : goal.overflow_add-result
overflow_add-result c = omega (arith, c.well_formed, count_by-le-length (λ b. eqb b 10) c.args.block.now)

pub returns-in_default : goal.returns-in_default
returns-in_default c = search one_open
