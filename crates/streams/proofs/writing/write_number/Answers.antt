use Rattle.streams.proofs.DigitLaws.{front_digits}
use Rattle.streams.proofs.LeftLaws.{front_as, whole_as}
use Rattle.streams.proofs.writing.write_number.Goals as goal

pub returns-clause-whole : goal.returns-clause-whole
returns-clause-whole g c =
    whole_as _ _ _ _ _ (front_digits _ _ _ _ c.ranges.n.fits c.digits-w.ensures c.last_digits.ensures c.front.ensures) c.write_text.ensures.whole

pub returns-clause-front : goal.returns-clause-front
returns-clause-front g c =
    front_as _ _ _ _ (front_digits _ _ _ _ c.ranges.n.fits c.digits-w.ensures c.last_digits.ensures c.front.ensures) c.write_text.ensures.front
