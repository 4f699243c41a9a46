use Rattle.spec_trim.proofs.trim.ReadLaws.{head_long, head_bytes_lem, head_passed}
use Rattle.trim.proofs.list.head_number.Goals as goal

pub returns-then-list-gt-MOST_LIST_BYTES : goal.returns-then-list-gt-MOST_LIST_BYTES
returns-then-list-gt-MOST_LIST_BYTES c = search head_long

pub returns-then-is_utf8 : goal.returns-then-is_utf8
returns-then-is_utf8 c = search head_passed

pub returns-else-is_utf8 : goal.returns-else-is_utf8
returns-else-is_utf8 c = search head_bytes_lem
