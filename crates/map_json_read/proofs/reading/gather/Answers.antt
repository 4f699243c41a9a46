use borrow.Author.Rules.{rules}
use mathlib.Core.Bool.{false}
use mathlib.Core.Path.{◌≡◌}
use Rattle.map_json_read.specs.Steps.{all_said}
use Rattle.map_json_read.proofs.GiveLaws.{no_list_in, gathered_all}
use Rattle.map_json_read.proofs.reading.gather.Goals as goal

pub returns-in_err-count : goal.returns-in_err-count
returns-in_err-count c = let h : all_said c.args.x c.args.input.now c.args.list.now ≡ false = search (no_list_in, c.in_err-count.ensures) in search rules

pub returns : goal.returns
returns c = search (gathered_all, c.in_ok-heads.ensures, c.in_ok-count.ensures)
