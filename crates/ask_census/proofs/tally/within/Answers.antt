use Rattle.spec_ask.proofs.ask_census.Turns.{within_of}
use Rattle.ask_census.proofs.tally.within.Goals as goal

pub returns : goal.returns
returns c = search within_of
