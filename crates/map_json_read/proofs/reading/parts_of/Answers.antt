use borrow.Author.Rules.{rules}
use mathlib.Core.Bool.{false}
use mathlib.Core.Path.{◌≡◌}
use Rattle.spec_json.specs.json.Member.{members_of}
use Rattle.spec_map_json.specs.map_json_write.Reads.{fields_said}
use Rattle.map_json_read.specs.Steps.{object_of}
use Rattle.map_json_read.proofs.PartLaws.{nothing_said}
use Rattle.map_json_read.proofs.WalkLaws.{parts_text}
use Rattle.map_json_read.proofs.reading.parts_of.Goals as goal

pub returns-in_err-x : goal.returns-in_err-x
returns-in_err-x c = let h : fields_said (members_of 10 (object_of c.args.text.now)) ≡ false = search (nothing_said, c.in_err-x.ensures) in search rules

pub returns : goal.returns
returns c = parts_text c.args.text.now _ _ _ _ _ _ _ c.in_ok-x.x c.in_ok-x.ensures c.part.ensures c.part-2.ensures c.requires.1 c.gather.result c.gather.ensures
