use native.Mathlib.Omega.{arith}
use Rattle.spec_session.proofs.session_text.BoundLaws.{survey_bounds, survey_small}
use Rattle.session_text.proofs.taking.take_text.Goals as goal

pub take_bounded-requires : goal.take_bounded-requires
take_bounded-requires c = let S = c.survey-seen.ensures in (survey_small _ _ _ _ S, survey_bounds _ _ _ _ _ (omega arith) S c.front.ensures)
