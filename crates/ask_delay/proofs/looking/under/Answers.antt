use Rattle.spec_ask.proofs.ask_delay.NearLaws.{near_back, under_is}
use borrow.Author.Rules.{rules}
use Rattle.ask_delay.proofs.looking.under.Goals as goal

pub delayed-requires : goal.delayed-requires
delayed-requires c = search (rules, near_back) depth 8

pub returns : goal.returns
returns c = search under_is
