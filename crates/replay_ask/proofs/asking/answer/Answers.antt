use Rattle.std.proofs.Common.{◌≡◌, ℕ, true}
use Rattle.spec_base.proofs.base.Laws.{chain}
use Rattle.replay_ask.specs.Query.{is_query}
use Rattle.replay_ask.proofs.asking.answer.Goals as goal

op_8 : (op : ℕ) → op ≡ 8 → true ≡ is_query op
unfolding is_query
op_8 op e = rw e

pub returns-in_ok-print_why-in-8-clause-value : goal.returns-in_ok-print_why-in-8-clause-value
returns-in_ok-print_why-in-8-clause-value g c = search op_8

op_9 : (op : ℕ) → op ≡ 9 → true ≡ is_query op
unfolding is_query
op_9 op e = rw e

pub returns-in_ok-print_rough-in-9-clause-value : goal.returns-in_ok-print_rough-in-9-clause-value
returns-in_ok-print_rough-in-9-clause-value g c = search op_9

op_10 : (op : ℕ) → op ≡ 10 → true ≡ is_query op
unfolding is_query
op_10 op e = rw e

pub returns-in_ok-print_ascends-in-10-clause-value : goal.returns-in_ok-print_ascends-in-10-clause-value
returns-in_ok-print_ascends-in-10-clause-value g c = search op_10

op_11 : (op : ℕ) → op ≡ 11 → true ≡ is_query op
unfolding is_query
op_11 op e = rw e

pub returns-in_ok-print_census-in-11-clause-value : goal.returns-in_ok-print_census-in-11-clause-value
returns-in_ok-print_census-in-11-clause-value g c = search op_11

op_12 : (op : ℕ) → op ≡ 12 → true ≡ is_query op
unfolding is_query
op_12 op e = rw e

pub returns-in_ok-print_delay-in-12-clause-value : goal.returns-in_ok-print_delay-in-12-clause-value
returns-in_ok-print_delay-in-12-clause-value g c = search op_12

pub returns-in_default-clause-value : goal.returns-in_default-clause-value
unfolding is_query
returns-in_default-clause-value g c = search chain depth 12
