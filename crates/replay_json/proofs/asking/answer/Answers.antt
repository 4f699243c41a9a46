use Rattle.std.proofs.Common.{◌≡◌, ℕ, true}
use Rattle.spec_base.proofs.base.Laws.{chain}
use Rattle.replay_json.specs.Query.{is_text_query}
use Rattle.replay_json.proofs.asking.answer.Goals as goal

op_6 : (op : ℕ) → op ≡ 6 → true ≡ is_text_query op
unfolding is_text_query
op_6 op e = rw e

pub returns-in_ok-print_written-in-6-clause-value : goal.returns-in_ok-print_written-in-6-clause-value
returns-in_ok-print_written-in-6-clause-value g c = search op_6

op_7 : (op : ℕ) → op ≡ 7 → true ≡ is_text_query op
unfolding is_text_query
op_7 op e = rw e

pub returns-in_ok-print_read-in-7-clause-value : goal.returns-in_ok-print_read-in-7-clause-value
returns-in_ok-print_read-in-7-clause-value g c = search op_7

pub returns-in_default-clause-value : goal.returns-in_default-clause-value
unfolding is_text_query
returns-in_default-clause-value g c = search chain depth 12
