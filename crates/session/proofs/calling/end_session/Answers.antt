use Rattle.spec_base.specs.base.Limits.{most_held}
use lib.ListN.{replicate}
use Rattle.session.proofs.calling.end_session.Goals as goal

pub returns : goal.returns
returns c = let a = c.args in λ i. record { config = a.config; ended = mathlib.Core.Bool.true; outcome = a.outcome; taken = a.taken; lines = 0; counts = a.counts; columns = c.no_columns.ensures i; held_len = 0; held = replicate most_held 0 }
