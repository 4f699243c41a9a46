-- A run of calls that met their contracts is a trace of the model's.
use mathlib.Core.Path.{◌≡◌, refl, sym, ap, subst, ◌∙◌}
use mathlib.Core.Bool.{false}
use mathlib.Core.List.{List, [], ◌∷◌, ◌++◌}
use Prim.Native.Nat.{ℕ, ◌≤◌, ◌+◌}
use native.Mathlib.Omega.{arith}
use lib.ListN.{length, take}
use Rattle.spec_base.specs.base.Limits.{most_held}
use Rattle.spec_base.specs.base.Put.{put}
use Rattle.spec_base.proofs.base.PutLaws.{take_put}
use Rattle.spec_map.specs.segment.Segment.{map_bad}
use Rattle.spec_caption.specs.caption_fate.Emit.{Warning, output_of, warnings_of, places_of}
use Rattle.spec_ass.specs.declared.ass_columns.Columns.{Columns}
use Rattle.spec_machine.specs.session_counts.Machine.{Run, going, stopped, finish_run, rest_of}
use Rattle.spec_machine.specs.session_counts.Session.{Call, feed, finish, lent_of, argument_bad, Gate, refuse, admit, settle, resume, respond, answer}
use Rattle.spec_machine.specs.session_counts.Session as model
use Rattle.spec_machine.specs.session_counts.Calls.{Played}
use Rattle.spec_machine.proofs.session_counts.Resume.{Stopped, finish_stops}
use Rattle.spec_machine.proofs.session_counts.Refine.{Returned, Answers, Trace, done, next, traced}
use Rattle.spec_machine.specs.kinds.Takes.{State, machine_of}
use Rattle.spec_machine.specs.kinds.Kit.{kit}
use Rattle.spec_machine.proofs.kinds.EmptyPiece.{empty_piece_lem}
use Rattle.spec_session.specs.declared.session_state.Session.{Session}
use Rattle.spec_session.specs.session_state.View.{view, stored, foreign_of}
use Rattle.spec_session.proofs.session_state.ViewLaws.{view_stored, padded_length, native_view}
use Rattle.spec_session.specs.declared.session.Fed.{Fed}
use Rattle.spec_session.specs.session.SessionCalls.{answer_of, session_gate, gate_number, next_by, next_of, Answered}
use Rattle.spec_session.proofs.session.CallLaws.{gate_passed, answer_by, settled_small}
use Rattle.promise.specs.Runs.{Made, calls_of, Met, Ran, warnings_in, written_by, warned_by, outcome}

-- ---- what a caller takes: as much as was told is what was written, and two places are a warning
pub front : (v l got : List ℕ) (n : ℕ) → n ≡ length v → got ≡ put v l → take n got ≡ v
front v l got n p q = rw (p, q) (take_put v l)

pub warnings_back : (ws : List Warning) → warnings_in (places_of ws) ≡ ws
unfolding places_of
warnings_back [] = refl
warnings_back (x ∷ ws) = ap (λ (l : List Warning). x ∷ l) (warnings_back ws)

-- ---- the array of a session that a call returned
abbrev pub Whole : Session → Type 0
Whole s = length s.held ≡ most_held

stored_whole : (t : model.Session Columns) → length t.held ≤ most_held → Whole (stored t)
unfolding stored
stored_whole t p = padded_length t.held p

-- what an admitted call leaves fits it
gate_admits : (s : Session) (x : Call) → session_gate s x ≡ admit → (foreign_of s ≡ false) × (map_bad (lent_of x).map ≡ false)
unfolding session_gate
gate_admits s x e =
    let g = gate_passed (foreign_of s) s.ended (map_bad (lent_of x).map) (argument_bad s.taken x) (ap gate_number e) in
    (g.0, g.2)

stopped_small : (v : model.Session Columns) (t : ℕ) (map : List ℕ) (y : Run State) → Stopped (machine_of v.config.kind) y → length (settle kit v t map y).session.held ≤ most_held
stopped_small v t map (going st n h ps) e = absurd e
stopped_small v t map (stopped k ps) e = omega arith

pub next_small : (s : Session) (x : Call) → session_gate s x ≡ admit → length (respond kit admit (view s) x).session.held ≤ most_held
next_small s (feed l piece) e =
    let g = gate_admits s (feed l piece) e in
    settled_small (view s) (native_view s g.0) l.map piece g.1 (s.taken + length piece)
next_small s (finish l) e =
    stopped_small (view s) s.taken l.map (finish_run (machine_of s.config.kind) (resume kit (view s)))
    (finish_stops (machine_of s.config.kind) (rest_of s.lines (kit.open_line (view s).held)) (kit.state (view s).known (view s).held) s.lines (kit.open_line (view s).held) [])

-- ---- the session that a call returns stands for the model's
module _ (s : Session) (w : Whole s) where
  gate_whole : (x : Call) (g : Gate) → session_gate s x ≡ g → Whole (next_by g s x (respond kit g (view s) x).session)
  gate_whole x (refuse k) e = w
  gate_whole (feed l []) admit e = w
  gate_whole (feed l (b ∷ p)) admit e = stored_whole (respond kit admit (view s) (feed l (b ∷ p))).session (next_small s (feed l (b ∷ p)) e)
  gate_whole (finish l) admit e = stored_whole (respond kit admit (view s) (finish l)).session (next_small s (finish l) e)

  empty : (l : model.Lent) → (answer_of s (feed l [])).session ≡ view s
  unfolding answer_of
  empty l = empty_piece_lem (view s) l

  gate_view : (x : Call) (g : Gate) → session_gate s x ≡ g → view (next_by g s x (respond kit g (view s) x).session) ≡ (respond kit g (view s) x).session
  gate_view x (refuse k) e = refl
  gate_view (feed l []) admit e =
      sym (ap (λ (g : Gate). (respond kit g (view s) (feed l [])).session) (sym e) ∙ ap (λ (a : model.Answer Columns). a.session) (sym (answer_by s (feed l []))) ∙ empty l)
  gate_view (feed l (b ∷ p)) admit e = view_stored (respond kit admit (view s) (feed l (b ∷ p))).session (next_small s (feed l (b ∷ p)) e)
  gate_view (finish l) admit e = view_stored (respond kit admit (view s) (finish l)).session (next_small s (finish l) e)

  pub next_is : (x : Call) → next_of s x ≡ next_by (session_gate s x) s x (respond kit (session_gate s x) (view s) x).session
  unfolding next_of
  next_is x = ap (λ (a : model.Answer Columns). next_by (session_gate s x) s x a.session) (answer_by s x)

  pub next_whole : (x : Call) → Whole (next_of s x)
  next_whole x = subst Whole (sym (next_is x)) (gate_whole x (session_gate s x) refl)

  model_answer : (x : Call) → answer_of s x ≡ answer kit (view s) x
  unfolding answer_of
  model_answer x = refl

  pub next_view : (x : Call) → view (next_of s x) ≡ (answer kit (view s) x).session
  next_view x =
      ap view (next_is x) ∙ gate_view x (session_gate s x) refl ∙ ap (λ (a : model.Answer Columns). a.session) (sym (answer_by s x) ∙ model_answer x)

  -- ---- a call that met its contract
  abbrev returned : Fed → (out' places' : List ℕ) → Returned Session
  returned r out' places' =
      record { number = r.number; session = r.session; output = take r.written out'; warnings = warnings_in (take r.warned places') }

  answers : (x : Call) (r : Fed) (out out' places places' : List ℕ) → Answered s x r out out' places places' → Answers kit view s x (returned r out' places')
  answers x r out out' places places' a =
      let m = model_answer x in
      record {
        number = a.number ∙ ap (λ (y : model.Answer Columns). y.number) m;
        session = ap view a.session ∙ next_view x;
        output = front (output_of (answer_of s x).emits) out out' r.written a.written a.text ∙ ap (λ (y : model.Answer Columns). output_of y.emits) m;
        warnings =
            ap warnings_in (front (places_of (warnings_of (answer_of s x).emits)) places places' r.warned a.warned a.warnings)
            ∙ warnings_back (warnings_of (answer_of s x).emits) ∙ ap (λ (y : model.Answer Columns). warnings_of y.emits) m;
      }

abbrev pub returned_by : Made → Returned Session
returned_by c = record { number = c.result.number; session = c.result.session; output = written_by c; warnings = warned_by c }

abbrev pub returned_all : List Made → List (Returned Session)
returned_all [] = []
returned_all (c ∷ cs) = returned_by c ∷ returned_all cs

met_answers : (s : Session) → Whole s → (c : Made) → Met s c → Answers kit view s c.call (returned_by c)
met_answers s w c a = answers s w c.call c.result c.out c.out' c.places c.places' a.1

met_whole : (s : Session) → Whole s → (c : Made) → Met s c → Whole c.result.session
met_whole s w c a = subst Whole (sym a.1.session) (next_whole s w c.call)

-- ---- the list
pub ran_trace : (s : Session) → Whole s → (cs : List Made) → Ran s cs → Trace kit view s (calls_of cs) (returned_all cs)
ran_trace s w [] r = done
ran_trace s w (c ∷ cs) r = next (met_answers s w c r.0) (ran_trace c.result.session (met_whole s w c r.0) cs r.1)

pub ran_outcome : (s : Session) (cs : List Made) → outcome s cs ≡ traced kit view s (returned_all cs)
ran_outcome s [] = refl
ran_outcome s (c ∷ cs) =
    ap (λ (p : Played Columns). record {
      numbers = c.result.number ∷ p.numbers;
      session = p.session;
      output = written_by c ++ p.output;
      warnings = warned_by c ++ p.warnings;
    }) (ran_outcome c.result.session cs)
