-- A whole text as one feed of a session that has just been opened: its fault, or the session that is left to finish.
use mathlib.Core.Path.{◌≡◌, refl, sym, ap, ap₂, subst, ◌∙◌}
use mathlib.Core.Bool.{Bool, true, false}
use mathlib.Core.List.{List, [], append-nil}
use Prim.Native.Nat.{ℕ, ◌+◌, ◌-◌, ◌*◌, ◌/◌, ◌≤◌}
use native.Mathlib.Omega.{arith}
use lib.ListN.{length, take, drop}
use lib.Seq.{take_all}
use borrow.Author.Tests.{le-ltb, eqb-false}
use Rattle.spec_base.specs.base.Limits.{most_taken, most_held}
use Rattle.spec_base.specs.base.Put.{placed, placed_length}
use Rattle.spec_base.proofs.base.PutLaws.{length_put, length_yes, placed_yes, take_put}
use Rattle.spec_map.specs.segment.Segment.{map_bad}
use Rattle.spec_caption.specs.declared.caption_fate.Config.{Config}
use Rattle.spec_ass.specs.declared.ass_columns.Columns.{Columns}
use Rattle.spec_machine.specs.session_counts.Counts.{no_counts}
use Rattle.spec_machine.specs.session_counts.Machine.{Machine, Run, going, stopped, run}
use Rattle.spec_machine.specs.session_counts.Reader.{reading, read_text}
use Rattle.spec_machine.specs.session_counts.Session.{is_outcome, outcome_bad, Gate, admit, gate, foreign, fresh, settle, resume, respond}
use Rattle.spec_machine.specs.session_counts.Session as model
use Rattle.spec_machine.proofs.session_counts.CutLaws.{has_none}
use Rattle.spec_machine.proofs.session_counts.Bytes.{ran_to, begin, bytes_reading}
use Rattle.spec_machine.proofs.session_counts.Resume.{ByFault, run_fault}
use Rattle.spec_machine.proofs.session_counts.Laws.{Lawful}
use Rattle.spec_machine.proofs.session_counts.Lists.{Inv, live}
use Rattle.spec_machine.proofs.session_counts.Numbers.{Opened, opened_config}
use Rattle.spec_machine.proofs.session_counts.Wholly.{fault_whole}
use Rattle.spec_machine.proofs.session_counts.Native.{not_foreign}
use Rattle.spec_machine.specs.kinds.Takes.{State, no_columns}
use Rattle.spec_machine.specs.kinds.Kit.{kit}
use Rattle.spec_machine.proofs.kinds.KindLaws.{lawful}
use Rattle.spec_machine.proofs.kinds.Native.{is_native}
use Rattle.spec_session.specs.declared.session_state.Session.{Session}
use Rattle.spec_session.specs.declared.session_state.Head.{Head}
use Rattle.spec_session.specs.session_state.View.{held_of, view}
use Rattle.spec_session.specs.session_state.Head.{view_of, head_of}
use Rattle.spec_session.proofs.session_state.ViewLaws.{held_plain}
use Rattle.spec_session.specs.session_lines.Done.{Wrote}
use Rattle.spec_session.specs.session.SessionCalls.{feed_call}
use Rattle.spec_session.proofs.session.CallLaws.{settled_small}
use Rattle.spec_session.specs.declared.session_text.TextFed.{TextFed}
use Rattle.spec_session.specs.session_text.Answer.{text_session, text_bad, text_gate, text_answer, text_head, text_kept, head_by, kept_by, TextTells, TextAnswered}
use Rattle.promise.proofs.PlainText.{said_plain}
use Rattle.spec_runs.specs.declared.one_call.Ran.{Ran}
use Rattle.spec_runs.specs.one_call.Ran.{Ready, begun_of, RanText}
use Rattle.spec_runs.proofs.one_call.StandLaws.{opens_well, is_fresh}
use Rattle.spec_runs.proofs.one_call.TextLaws.{At, own_of, Hands, read_ran}

-- ---- a session that has just been opened is not foreign
module _ (c : Config) (m : List ℕ) (o : Opened c m) where
  abbrev L : Lawful kit c.kind
  L = lawful c.kind o.kind_known

  live_outcome : outcome_bad false 0 ≡ false
  unfolding outcome_bad is_outcome
  live_outcome = refl

  fresh_native : foreign kit (fresh kit c) ≡ false
  fresh_native =
      not_foreign kit c 0 0 [] no_columns no_counts 0 false (opened_config c m o) (omega arith) (omega arith) (omega arith) (omega arith)
      (L.not_strange (kit.machine c.kind).start [] L.start_fit (omega arith) has_none) live_outcome (omega arith)

module _ (b : Session) (m text out places : List ℕ) (R : Ready b m (length text) (length out) (length places)) where
  abbrev c : Config
  c = own_of b

  abbrev M : Machine State
  M = kit.machine c.kind

  opens : Opened c m
  opens = opens_well b m R.opens R.session

  plain_fresh : view b ≡ fresh kit c
  plain_fresh = is_fresh b m R.opens R.session

  freshly : text_session (begun_of b) text ≡ fresh kit c
  freshly =
      let f = plain_fresh in
      λ i. record {
        config = (f i).config;
        taken = (f i).taken;
        lines = (f i).lines;
        held = [];
        known = (f i).known;
        counts = (f i).counts;
        outcome = (f i).outcome;
        ended = (f i).ended;
      }

  nothing_taken : b.taken ≡ 0
  nothing_taken = ap (λ (v : model.Session Columns). v.taken) plain_fresh

  not_bad : text_bad false (begun_of b) (length text) (length out) (length places) ≡ false
  unfolding text_bad
  not_bad =
      rw (
        le-ltb (length text) 0 (omega arith),
        le-ltb most_taken (b.taken + (length text - 0)) (omega (arith, nothing_taken, R.short)),
        le-ltb (length out) (3 * length text) (omega (arith, R.output)),
        le-ltb (length places) (length text / 3 + 4) (omega (arith, R.placed)),
      )

  admits : text_gate (begun_of b) m text false (length out) (length places) ≡ admit
  unfolding text_gate
  admits =
      ap (gate (foreign kit (text_session (begun_of b) text)) b.ended (map_bad m)) not_bad
      ∙ ap (λ (x : Bool). gate (foreign kit (text_session (begun_of b) text)) b.ended x false) opens.map_good
      ∙ ap (λ (v : model.Session Columns). gate (foreign kit v) v.ended false false) freshly
      ∙ ap (λ (x : Bool). gate x false false false) (fresh_native c m opens)

  -- one feed of the whole text
  abbrev fed_by_lem : model.Session Columns → model.Answer Columns
  fed_by_lem v = settle kit v (v.taken + length text) m (run (kit.machine v.config.kind) (resume kit v) text)

  abbrev settled : Run State → model.Answer Columns
  settled q = settle kit (fresh kit c) (0 + length text) m q

  module _ (r : TextFed) (out' places' : List ℕ) where
    abbrev Tells : model.Answer Columns → Type 0
    Tells a = TextTells a (head_of a.session) a.session.held text r out out' places places'

    module _ (T : TextAnswered (begun_of b) m text false r out out' places places') where
      by_gate : (g : Gate) → text_gate (begun_of b) m text false (length out) (length places) ≡ g
          → TextTells (respond kit g (text_session (begun_of b) text) (feed_call m text (length out) (length places)))
          (head_by g (begun_of b) (respond kit g (text_session (begun_of b) text) (feed_call m text (length out) (length places))).session)
          (kept_by g text (respond kit g (text_session (begun_of b) text) (feed_call m text (length out) (length places))).session.held) text r out out' places places'
      unfolding text_answer text_head text_kept
      by_gate g e =
          subst (λ (y : Gate). TextTells (respond kit y (text_session (begun_of b) text) (feed_call m text (length out) (length places)))
          (head_by y (begun_of b) (respond kit y (text_session (begun_of b) text) (feed_call m text (length out) (length places))).session)
          (kept_by y text (respond kit y (text_session (begun_of b) text) (feed_call m text (length out) (length places))).session.held) text r out out' places places') e T

      told : Tells (settled (run M (begin M) text))
      told = subst (λ (v : model.Session Columns). Tells (fed_by_lem v)) freshly (by_gate admit admits)

      -- ---- a fault
      fault_by : (q : Run State) → run M (begin M) text ≡ q → Tells (settled q) → (r.number ≡ 0 → ⊥) → (z : Ran) → Hands z r.number r.written r.warned r.head.counts
          → RanText b.config m text z out out' places places'
      fault_by (going s n l ps) e d f z h = absurd (f d.number)
      fault_by (stopped k ps) e d f z h =
          let w : Wrote c m ps r.written r.warned out out' places places' = record { written = d.written; warned = d.warned; text = d.text; warnings = d.warnings } in
          let x : read_text M false text ≡ reading k ps = sym (bytes_reading M false text) ∙ ap ran_to e in
          let y : read_text M true text ≡ reading k ps = ap (read_text M true) (sym (append-nil text)) ∙ fault_whole M text [] k ps x (λ u. f (d.number ∙ u)) in
          read_ran b.config m text k ps (sym (said_plain c.kind opens.kind_known true text) ∙ y) r.written r.warned out out' places places' w r.head.counts
          (ap (λ (u : Head). u.counts) d.head) z (h.0 ∙ d.number, h.1, h.2, h.3)

      pub whole_fault : (r.number ≡ 0 → ⊥) → (z : Ran) → Hands z r.number r.written r.warned r.head.counts → RanText b.config m text z out out' places places'
      whole_fault f z h = fault_by (run M (begin M) text) refl told f z h

      -- ---- no fault: at most 8,192 bytes are held
      pub whole_small : length (drop r.begin text) ≤ most_held
      whole_small =
          let s = settled_small (fresh kit c) (is_native (fresh kit c) (fresh_native c m opens)) m text opens.map_good (0 + length text) in
          omega (arith, s, ap length told.held)

      at_by : (q : Run State) → run M (begin M) text ≡ q → ByFault q → Tells (settled q) → r.number ≡ 0 → (s : Session) → view s ≡ view_of r.head (drop r.begin text) → length s.held ≡ most_held
          → At c m text (length text) s r.written r.warned out out' places places'
      at_by (stopped k ps) e y d f s v l = absurd (eqb-false k 0 y (sym d.number ∙ f))
      at_by (going t n h ps) e y d f s v l =
          let k = lawful c.kind opens.kind_known in
          let g = opened_config c m opens in
          let u : view s ≡ (settled (going t n h ps)).session = v ∙ ap₂ (λ (x : Head) (z : List ℕ). view_of x z) d.head d.held in
          let z : 0 + length text ≡ length text = omega arith in
          let a : take (length text) text ≡ text = take_all (length text) text (omega arith) in
          record {
            opens = opens;
            within = omega arith;
            short = R.short;
            output = R.output;
            warned = R.placed;
            stands =
                record {
                  parts = ps;
                  led =
                      record {
                        inv =
                            subst (λ (x : List ℕ). Inv kit c m k g (view s) ps (record { text = x; finished = false; ended = false })) (sym a)
                            (subst (λ (x : model.Session Columns). Inv kit c m k g x ps (record { text = text; finished = false; ended = false }))
                            (sym (u ∙ ap (λ (j : ℕ). (settle kit (fresh kit c) j m (going t n h ps)).session) z)) (live text t n h ps e R.short));
                        whole = l;
                      };
                  wrote = record { written = d.written; warned = d.warned; text = d.text; warnings = d.warnings };
                };
          }

      pub whole_at : r.number ≡ 0 → (s : Session) → view s ≡ view_of r.head (drop r.begin text) → length s.held ≡ most_held
          → At c m text (length text) s r.written r.warned out out' places places'
      whole_at f s v l = at_by (run M (begin M) text) refl (run_fault M (begin M) text tt) told f s v l

-- ---- bytes put into a room of 8,192 are held there
module _ (k room r : List ℕ) (n : ℕ) (small : length k ≤ most_held) (size : length room ≡ most_held) (en : n ≡ placed_length k room) (er : r ≡ placed k room) where
  fits : length k ≤ length room
  fits = omega (arith, small, size)

  pub room_whole : length r ≡ most_held
  room_whole = ap length (er ∙ placed_yes k room fits) ∙ length_put k room fits ∙ size

  pub room_holds : held_of n r ≡ k
  room_holds =
      let l : n ≤ length r = omega (arith, en, length_yes k room fits, small, room_whole) in
      held_plain n r l ∙ ap₂ (λ (j : ℕ) (x : List ℕ). take j x) (en ∙ length_yes k room fits) (er ∙ placed_yes k room fits) ∙ take_put k room
