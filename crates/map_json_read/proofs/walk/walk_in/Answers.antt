use borrow.Author.Rules.{rules}
use mathlib.Core.Path.{◌≡◌}
use Rattle.spec_json.specs.json.Walk.{row_of}
use Rattle.map_json_read.proofs.WalkLaws.{walk_none, walk_stop, walk_most, walk_row, walk_end, walk_again, walk_over}
use Rattle.map_json_read.proofs.walk.walk_in.Goals as goal

pub returns-in_err-m : goal.returns-in_err-m
returns-in_err-m c = let h : row_of 10 0x7B c.args.s.now ≡ 0 = search (walk_none, c.in_err-m.ensures) in search rules

pub returns-in-125 : goal.returns-in-125
returns-in-125 c = search (walk_end, c.in_ok-m.ensures)

pub returns-in_default : goal.returns-in_default
returns-in_default c = search (walk_stop, c.in_ok-m.ensures)

pub loop-at-preserved : goal.loop-at-preserved
loop-at-preserved c = (search (walk_most, c.in_ok-m.ensures), search (walk_row, c.in_ok-m.ensures), search (walk_again, c.in_ok-m.ensures))

pub returns : goal.returns
returns c = search walk_over
