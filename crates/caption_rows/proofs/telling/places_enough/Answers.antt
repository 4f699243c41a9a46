use Rattle.spec_rows.proofs.caption_rows.EnoughLaws.{places_sure, places_counted}
use Rattle.caption_rows.proofs.telling.places_enough.Goals as goal

pub returns-then-text-lent : goal.returns-then-text-lent
returns-then-text-lent c = search places_sure

pub returns : goal.returns
returns c = search places_counted
