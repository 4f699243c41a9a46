use Rattle.number_lines.proofs.LineLaws.{numbers_room, whole_after, whole_put}
use Rattle.number_lines.proofs.writing.whole.Goals as goal

pub numbers_at-b-requires : goal.numbers_at-b-requires
numbers_at-b-requires c = search numbers_room

pub returns : goal.returns
returns c = (search whole_after, search whole_put)
