use Rattle.json_values.proofs.RunLaws.{digit_found, digit_again, digits_all}
use Rattle.json_values.proofs.number.digit_run.Goals as goal

pub returns-then-not-is_ascii_digit : goal.returns-then-not-is_ascii_digit
returns-then-not-is_ascii_digit c = search digit_found

pub loop-i-preserved : goal.loop-i-preserved
loop-i-preserved c = search digit_again

pub returns : goal.returns
returns c = search digits_all
