use Rattle.spec_trim.proofs.trim.TokenLaws.{pair_none, pair_more, pair_some}
use Rattle.trim.proofs.token.pair_of.Goals as goal

pub returns-then-next_comma-u : goal.returns-then-next_comma-u
returns-then-next_comma-u c = search pair_more

pub returns-then-k-s : goal.returns-then-k-s
returns-then-k-s c = search pair_some

pub returns : goal.returns
returns c = search pair_none
