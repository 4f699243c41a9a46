use Rattle.c_api.proofs.Call.{number_called, bytes_called, text_called, warnings_called, written_called, warned_called}
use Rattle.c_api.proofs.captions.retimer_feed.Goals as goal

pub returns-clause-value : goal.returns-clause-value
returns-clause-value c = search number_called

pub returns-clause-session_after : goal.returns-clause-session_after
returns-clause-session_after c = search bytes_called

pub returns-clause-out_after : goal.returns-clause-out_after
returns-clause-out_after c = search text_called

pub returns-clause-warnings_after : goal.returns-clause-warnings_after
returns-clause-warnings_after c = search warnings_called

pub returns-clause-written_after : goal.returns-clause-written_after
returns-clause-written_after c = search written_called

pub returns-clause-warned_after : goal.returns-clause-warned_after
returns-clause-warned_after c = search warned_called
