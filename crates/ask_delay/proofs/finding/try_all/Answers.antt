use Rattle.ask_delay.proofs.ChoiceLaws.{chosen_same}
use borrow.Author.Rules.{rules}
use Rattle.spec_base.proofs.base.Laws.{zero_at}
use Rattle.ask_delay.proofs.finding.try_all.Goals as goal

pub count_all-requires : goal.count_all-requires
count_all-requires c = (search rules, search rules, search rules, search rules, search rules, search rules, search rules, search rules, λ k h. zero_at 12001 k)

pub returns : goal.returns
returns c = search chosen_same
