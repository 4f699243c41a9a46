-- Lists of feeds and finishes with parkings under mark 2 (`UnderTwo`).
use mathlib.Core.Path.{◌≡◌, refl, sym, ap, subst, ◌∙◌}
use mathlib.Core.List.{List, []}
use Prim.Native.Nat.{ℕ}
use native.Mathlib.Omega.{arith}
use Rattle.spec_ass.specs.declared.ass_columns.Columns.{Columns}
use Rattle.spec_machine.specs.session_counts.Session.{fresh, open_session}
use Rattle.spec_machine.specs.session_counts.Session as model
use Rattle.spec_machine.specs.session_counts.Calls.{play}
use Rattle.spec_machine.proofs.session_counts.Numbers.{Opened, opened, opens_fresh}
use Rattle.spec_machine.proofs.session_counts.Refine.{trace_plays}
use Rattle.spec_machine.specs.kinds.Kit.{kit}
use Rattle.spec_session.specs.declared.session_state.Session.{Session}
use Rattle.spec_session.specs.session_state.View.{view, stored}
use Rattle.spec_session.specs.declared.session.Opened as calling
use Rattle.spec_session.specs.session.SessionCalls.{OpenAnswered}
use Rattle.promise.specs.Demand.{Demand}
use Rattle.promise.specs.Promise.{config_of}
use Rattle.promise.specs.Runs.{Made, calls_of, Ran, outcome}
use Rattle.promise.proofs.RunLaws.{Whole, ran_trace, ran_outcome}
use Rattle.promise.proofs.TheDemand.{session_is, open_view, open_whole, open_number_lem, demand_opened}
use Rattle.spec_runs.specs.parkruns.Steps.{made_in}
use Rattle.spec_runs.specs.parkruns.Claims.{UnderTwo}
use Rattle.spec_runs.proofs.parkruns.Tidy.{Tidy, live_tidy}
use Rattle.spec_runs.proofs.parkruns.Walk.{At, walk}

-- a run of calls is played by the model
pub ran_plays : (s : Session) → Whole s → (cs : List Made) → Ran s cs → outcome s cs ≡ play kit (view s) (calls_of cs)
ran_plays s w cs r = ran_outcome s cs ∙ trace_plays kit view (ran_trace s w cs r)

-- ---- the session that open returned
module _ (kind T : ℕ) (m : List ℕ) (o : calling.Opened) (a : OpenAnswered kind T m o) (z : o.number ≡ 0) where
  pub sound : Opened (config_of kind T) m
  sound = opened kit (config_of kind T) m (sym (open_number_lem kind T m o a) ∙ z)

  pub is_fresh : (open_session kit (config_of kind T) m).session ≡ fresh kit (config_of kind T)
  is_fresh = ap (λ (x : model.Answer Columns). x.session) (opens_fresh kit (config_of kind T) m sound)

  tidy : Tidy o.session
  tidy = subst Tidy (sym (session_is kind T m o a ∙ ap stored is_fresh)) (live_tidy (fresh kit (config_of kind T)) (omega arith) refl)

  pub open_fresh : view o.session ≡ fresh kit (config_of kind T)
  open_fresh = open_view kind T m o a ∙ is_fresh

  pub at_open : At (config_of kind T) m sound o.session
  at_open = record { whole = open_whole kind T m o a; tidy = tidy; past = []; proper = tt; is = open_fresh }

pub under_two : UnderTwo
under_two kind T m o a z xs p r =
    let w = walk (config_of kind T) m (sound kind T m o a z) o.session (at_open kind T m o a z) xs p r in
    let whole = open_whole kind T m o a in
    record {
      parked = w.kept;
      demand = subst (Demand (config_of kind T) m (calls_of (made_in xs))) (sym w.same) (demand_opened kind T m o a z (made_in xs) p w.ran);
      without = λ cs e q.
          w.same ∙ ran_plays o.session whole (made_in xs) w.ran
          ∙ ap (play kit (view o.session)) (sym e) ∙ sym (ran_plays o.session whole cs q);
    }
