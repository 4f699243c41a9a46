use borrow.Author.Rules.{rules}
use mathlib.Core.Bool.{false}
use mathlib.Core.Path.{◌≡◌, refl}
use Rattle.spec_json.proofs.json.MemberLaws.{row_short}
use Rattle.spec_json.specs.json.Member.{elements_of}
use Rattle.spec_map_json.specs.map_json_write.Reads.{segments_said}
use Rattle.map_json_segments.proofs.ListLaws.{left_start, left_room, left_stop, left_bad, left_again, left_less, size_most, size_fits}
use Rattle.map_json_segments.proofs.list.segments_into.Goals as goal

pub loop-x-init : goal.loop-x-init
loop-x-init c = (search row_short, refl, search left_start)

pub returns-in_err-six : goal.returns-in_err-six
returns-in_err-six c = let h : segments_said (elements_of 9 c.args.s.now) ≡ false = search (left_bad, c.in-Some.ensures, c.in_err-six.was) in search rules

pub segment_at-requires : goal.segment_at-requires
segment_at-requires c = search left_room

pub overflow_add-n : goal.overflow_add-n
overflow_add-n c = record { fits = search (size_fits, c.in-Some.ensures) }

pub loop-x-smaller : goal.loop-x-smaller
loop-x-smaller c = search (left_less, c.in-Some.ensures)

pub loop-x-preserved : goal.loop-x-preserved
loop-x-preserved c = (search (size_most, c.in-Some.ensures), search rules, search (left_again, c.in-Some.ensures, c.in_ok-six.was))

pub returns : goal.returns
returns c = left_stop _ _ _ _ _ c.loop-x.invariant.2 c.in_default.ensures
