use Rattle.spec_parking.proofs.parking.StoreLaws.{words_bytes_lem}
use Rattle.parking.proofs.storing.head_words.Goals as goal

pub returns-then-head : goal.returns-then-head
returns-then-head c = search words_bytes_lem
