use Rattle.map_json_read.proofs.GiveLaws.{bad_over, bad_within}
use Rattle.map_json_read.proofs.reading.list_bad.Goals as goal

pub returns-then-count-gt1024 : goal.returns-then-count-gt1024
returns-then-count-gt1024 c = search bad_over

pub returns-else-count-gt1024 : goal.returns-else-count-gt1024
returns-else-count-gt1024 c = search bad_within
