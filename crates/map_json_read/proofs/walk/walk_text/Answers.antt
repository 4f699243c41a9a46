use borrow.Author.Rules.{rules}
use mathlib.Core.Path.{◌≡◌}
use mathlib.Core.List.{[]}
use Rattle.spec_json.specs.json.Member.{members_of}
use Rattle.map_json_read.specs.Steps.{object_of}
use Rattle.map_json_read.proofs.PartLaws.{text_other, text_none, text_more, text_done}
use Rattle.map_json_read.proofs.walk.walk_text.Goals as goal

pub returns-then-not-begins : goal.returns-then-not-begins
returns-then-not-begins c = search text_other

pub returns-in_err-x : goal.returns-in_err-x
returns-in_err-x c = let h : members_of 10 (object_of c.args.text.now) ≡ [] = search (text_none, c.in_err-x.ensures) in search rules

pub returns-then-ends : goal.returns-then-ends
returns-then-ends c = search (text_done, c.in_ok-x.ensures)

pub returns-else-ends : goal.returns-else-ends
returns-else-ends c = search (text_more, c.in_ok-x.ensures)
