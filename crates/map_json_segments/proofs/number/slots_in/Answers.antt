use borrow.Author.Rules.{rules}
use mathlib.Core.Path.{◌≡◌}
use Rattle.spec_json.specs.json.Walk.{row_of}
use Rattle.map_json_segments.proofs.SegmentLaws.{in_none, in_stop, in_most, in_row, in_end, in_again, in_over}
use Rattle.map_json_segments.proofs.number.slots_in.Goals as goal

pub returns-in_err-m : goal.returns-in_err-m
returns-in_err-m c = let h : row_of 8 0x7B c.args.s.now ≡ 0 = search (in_none, c.in_err-m.ensures) in search rules

pub returns-in-125 : goal.returns-in-125
returns-in-125 c = search (in_end, c.in_ok-m.ensures)

pub returns-in_default : goal.returns-in_default
returns-in_default c = search (in_stop, c.in_ok-m.ensures)

pub loop-at-preserved : goal.loop-at-preserved
loop-at-preserved c = (search (in_most, c.in_ok-m.ensures), search (in_row, c.in_ok-m.ensures), search (in_again, c.in_ok-m.ensures))

pub returns : goal.returns
returns c = search in_over
