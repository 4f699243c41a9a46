-- The session that a refused open returns is ended, and passes 17: every call with it answers 18.
use mathlib.Core.Path.{◌≡◌, refl, ap}
use mathlib.Core.Bool.{Bool, true, false}
use mathlib.Core.List.{[], ◌∷◌}
use native.Mathlib.Omega.{arith}
use Rattle.spec_time.specs.caption_time.Kind.{kind_bad}
use Rattle.spec_time.specs.caption_time.Convert.{timescale_bad}
use Rattle.spec_map.specs.segment.Segment.{map_bad}
use Rattle.spec_machine.specs.session_counts.Counts.{no_counts}
use Rattle.spec_machine.specs.session_counts.Session.{is_outcome, outcome_bad, config_bad, Call, lent_of, argument_bad, gate, foreign, no_session, respond, answer}
use Rattle.spec_machine.proofs.session_counts.Native.{not_foreign}
use Rattle.spec_machine.proofs.session_counts.CutLaws.{has_none}
use Rattle.spec_machine.specs.kinds.Takes.{no_columns, blank_state}
use Rattle.spec_machine.specs.kinds.Kit.{kit}
use Rattle.spec_machine.proofs.kinds.KindLaws.{ass_laws}

config_good : config_bad (record { kind = 0; timescale = 1 }) ≡ false
unfolding kind_bad timescale_bad
config_good = refl

refused_outcome : outcome_bad true 0 ≡ false
unfolding outcome_bad is_outcome
refused_outcome = refl

refused_values : (no_session kit).config.kind ∷ (no_session kit).config.timescale ∷ (no_session kit).outcome ∷ (no_session kit).taken ∷ (no_session kit).lines ∷ [] ≡ 0 ∷ 1 ∷ 0 ∷ 0 ∷ 0 ∷ []
refused_values = refl

pub refused_native : foreign kit (no_session kit) ≡ false
refused_native =
    not_foreign kit (record { kind = 0; timescale = 1 }) 0 0 [] no_columns no_counts 0 true config_good (omega arith) (omega arith) (omega arith) (omega arith)
    (ass_laws.not_strange blank_state [] ass_laws.start_fit (omega arith) has_none) refused_outcome (omega arith)

pub refused_ended : (x : Call) → (answer kit (no_session kit) x).number ≡ 18
refused_ended x = ap (λ (f : Bool). (respond kit (gate f true (map_bad (lent_of x).map) (argument_bad 0 x)) (no_session kit) x).number) refused_native
