use Rattle.replay_sessions.proofs.OpLaws.{text_5, text_13, text_14, text_15, text_none}
use Rattle.replay_sessions.proofs.asking.answer.Goals as goal

pub returns-in_ok-print_retimed-in-5-clause-value : goal.returns-in_ok-print_retimed-in-5-clause-value
returns-in_ok-print_retimed-in-5-clause-value g c = search text_5

pub returns-in_ok-print_retimed-in-13-clause-value : goal.returns-in_ok-print_retimed-in-13-clause-value
returns-in_ok-print_retimed-in-13-clause-value g c = search text_13

pub returns-in_ok-print_taken-in-14-clause-value : goal.returns-in_ok-print_taken-in-14-clause-value
returns-in_ok-print_taken-in-14-clause-value g c = search text_14

pub returns-in_ok-print_parked-in-15-clause-value : goal.returns-in_ok-print_parked-in-15-clause-value
returns-in_ok-print_parked-in-15-clause-value g c = search text_15

pub returns-in_default-clause-value : goal.returns-in_default-clause-value
returns-in_default-clause-value g c = search text_none
