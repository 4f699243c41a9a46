use mathlib.Core.Path.{refl}
use Rattle.spec_time.proofs.caption_stamp.Reading.{time_joined, value_le}
use Rattle.caption_stamp.proofs.read.join.Goals as goal

pub returns-in_err-hours : goal.returns-in_err-hours
returns-in_err-hours c = rw (c.from_residual.ensures, c.in_err-hours.was) refl

pub returns-in_err-minutes : goal.returns-in_err-minutes
returns-in_err-minutes c = rw (c.from_residual-in_err-minutes.ensures, c.in_ok-hours.was, c.in_err-minutes.was) refl

pub returns-in_err-seconds : goal.returns-in_err-seconds
returns-in_err-seconds c = rw (c.from_residual-in_err-seconds.ensures, c.in_ok-hours.was, c.in_ok-minutes.was, c.in_err-seconds.was) refl

pub returns-in_err-fraction : goal.returns-in_err-fraction
returns-in_err-fraction c = rw (c.from_residual-in_err-fraction.ensures, c.in_ok-hours.was, c.in_ok-minutes.was, c.in_ok-seconds.was, c.in_err-fraction.was) refl

pub units_from-units-requires : goal.units_from-units-requires
units_from-units-requires c = let p = c.requires in (p.0, (value_le p.1.0 c.in_ok-hours.was, (value_le p.1.1.0 c.in_ok-minutes.was, (value_le p.1.1.1.0 c.in_ok-seconds.was, value_le p.1.1.1.1 c.in_ok-fraction.was))))

pub returns : goal.returns
returns c = time_joined _ _ _ _ _ _ _ _ _ _ _ c.in_ok-hours.was c.in_ok-minutes.was c.in_ok-seconds.was c.in_ok-fraction.was c.units_from-units.ensures
