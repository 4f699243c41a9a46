use Rattle.spec_json.proofs.json.CharsLaws.{name_other, name_low, name_quote, name_again}
use Rattle.json_strings.proofs.WideLaws.{name_end}
use Rattle.json_strings.proofs.string.chars_are.Goals as goal
use Rattle.json_strings.proofs.string.chars_are.Goals.{then-c-x-via-then-c-x, then-c-x-via-else-c-x+then-c-lt32, then-c-x-via-else-c-x+else-c-lt32+then-c-eq34}

pub returns-then-c-x : goal.returns-then-c-x
returns-then-c-x c =
    elim c.then-c-x.branch [
      | then-c-x-via-then-c-x w ↦ search (name_other, w.if-c-x)
      | then-c-x-via-else-c-x+then-c-lt32 w ↦ search (name_low, w.if-c-lt32)
      | then-c-x-via-else-c-x+else-c-lt32+then-c-eq34 w ↦ search (name_quote, w.if-c-eq34)
    ]

pub loop-i-preserved : goal.loop-i-preserved
loop-i-preserved c = search name_again

pub returns : goal.returns
returns c = search name_end
