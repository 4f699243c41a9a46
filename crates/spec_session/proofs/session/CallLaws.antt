-- Laws of what a call answers.
use mathlib.Core.Path.{◌≡◌, refl, sym, ap, ap₂, subst, ◌∙◌}
use mathlib.Core.Bool.{Bool, true, false, ◌||◌}
use mathlib.Core.List.{List, [], ◌∷◌, ◌++◌, append-nil}
use Prim.Native.Nat.{ℕ, zero, suc, ◌+◌, ◌-◌, ◌≤◌}
use native.Mathlib.Omega.{arith}
use native.Mathlib.Nat.{le_of_eq, not-suc-le-zero}
use lib.Dec.{ltb}
use lib.ListN.{length, take, drop, replicate, length-append, length-drop, length-take, drop_of_length-le}
use borrow.Author.Tests.{ltb-false, eqb-false}
use Rattle.spec_base.specs.base.Limits.{most_piece, least_output, least_places, most_taken, most_held, most_block}
use Rattle.spec_base.specs.base.Put.{put}
use Rattle.spec_base.proofs.base.Laws.{or_left, or_right}
use Rattle.spec_base.proofs.base.PutLaws.{put_nil}
use Rattle.spec_text.specs.text.Line.{concat, line_count}
use Rattle.spec_time.specs.caption_time.Kind.{kind_bad}
use Rattle.spec_time.specs.caption_time.Convert.{timescale_bad}
use Rattle.spec_map.specs.segment.Segment.{map_bad}
use Rattle.spec_caption.specs.declared.caption_fate.Config.{Config}
use Rattle.spec_caption.specs.caption_fate.Says.{Part}
use Rattle.spec_caption.specs.caption_fate.Emit.{output_of, warnings_of, places_of}
use Rattle.spec_ass.specs.declared.ass_columns.Columns.{Columns}
use Rattle.spec_machine.specs.declared.session_counts.Counts.{Counts}
use Rattle.spec_machine.specs.session_counts.Counts.{no_counts, count_all}
use Rattle.spec_machine.specs.session_counts.Cut.{closed_lines, unfinished}
use Rattle.spec_machine.specs.session_counts.Machine.{Run, going, stopped, run, finish_run, rest_of}
use Rattle.spec_machine.specs.session_counts.Session.{Call, Gate, refuse, admit, gate, config_bad, counts_above, foreign, emitted, settle, resume, respond, open_by, fresh, no_session}
use Rattle.spec_machine.specs.session_counts.Session as model
use Rattle.spec_machine.proofs.session_counts.Emits.{emits_none}
use Rattle.spec_machine.proofs.session_counts.Resume.{ByFault, run_fault, Stopped, finish_stops}
use Rattle.spec_machine.proofs.session_counts.Native.{Ok, run_ok}
use Rattle.spec_machine.specs.kinds.Takes.{State, no_columns, machine_of}
use Rattle.spec_machine.specs.kinds.Kit.{kit, strange}
use Rattle.spec_machine.proofs.kinds.KindLaws.{lawful, known_three}
use Rattle.spec_machine.proofs.kinds.Native.{Native}
use Rattle.spec_machine.proofs.kinds.Fits.{resume_ok}
use Rattle.spec_session.specs.declared.session_state.Session.{Session}
use Rattle.spec_session.specs.session_state.View.{held_of, view, padded, stored, foreign_of}
use Rattle.spec_session.proofs.session_state.ViewLaws.{held_length, held_plain, foreign_view, native_view}
use Rattle.spec_session.specs.declared.session.Fed.{Fed}
use Rattle.spec_session.specs.declared.session.Opened.{Opened}
use Rattle.spec_session.specs.declared.session.Going.{Going}
use Rattle.spec_session.specs.session_lines.Done.{Ready, Below}
use Rattle.spec_session.proofs.session_lines.LentLaws.{none_above}
use Rattle.spec_session.specs.session.Stand.{Holds, Shows, Opening, resume_at}
use Rattle.spec_session.specs.session.SessionCalls.{feed_call, finish_call, answer_of, session_gate, gate_number, lengths_bad, refusal_of, next_by, next_of, Answered, ended_session, unchanged_fed, ended_fed, held_fed, begin_at, OpenAnswered, open_of}

-- ---- the gate
pub gate_passed : (f e m a : Bool) → gate_number (gate f e m a) ≡ 0 → (f ≡ false) × (e ≡ false) × (m ≡ false) × (a ≡ false)
gate_passed true e m a q = absurd (let z : ◌≡◌ {A = ℕ} 17 0 = q in omega arith)
gate_passed false true m a q = absurd (let z : ◌≡◌ {A = ℕ} 18 0 = q in omega arith)
gate_passed false false true a q = absurd (let z : ◌≡◌ {A = ℕ} 15 0 = q in omega arith)
gate_passed false false false true q = absurd (let z : ◌≡◌ {A = ℕ} 16 0 = q in omega arith)
gate_passed false false false false q = (refl, refl, refl, refl)

-- ---- what 17 leaves
not_strange : (v : model.Session Columns) → foreign kit v ≡ false → strange v.config.kind v.known v.held ≡ false
not_strange v e =
    or_left (strange v.config.kind v.known v.held) _
    (or_right (ltb v.taken (length v.held)) _
    (or_right (ltb v.taken v.lines) _ (or_right (counts_above v.taken v.counts) _ (or_right (ltb most_taken v.taken) _ (or_right (config_bad v.config) _ e)))))

sane : (s : Session) → foreign_of s ≡ false → strange s.config.kind s.columns (held_of s.held_len s.held) ≡ false
sane s e = not_strange (view s) (sym (foreign_view s) ∙ e)

pub native_few : (s : Session) → Native (view s) → s.held_len ≤ most_held
native_few s n = omega (arith, n.holds.few, held_length s.held_len s.held)

-- ---- what an admitted call knows
pub record Passed (s : Session) (map : List ℕ) (piece out places : ℕ) : Type 0 where
  pub native : Native (view s)
  pub not_foreign : foreign_of s ≡ false
  pub not_ended : s.ended ≡ false
  pub map_good : map_bad map ≡ false
  pub lengths : lengths_bad s.taken piece out places ≡ false
  pub piece_fits : piece ≤ most_piece
  pub out_fits : least_output ≤ out
  pub places_fit : least_places ≤ places
  pub total : s.taken + piece ≤ most_taken

pub not_refused : (s : Session) (map : List ℕ) (piece out places : ℕ) → refusal_of s map piece out places ≡ 0 → Passed s map piece out places
unfolding refusal_of
not_refused s map piece out places e =
    let g = gate_passed (foreign_of s) s.ended (map_bad map) (lengths_bad s.taken piece out places) e in
    let a = or_right (ltb most_piece piece) _ g.3 in
    let b = or_right (ltb out least_output) _ a in
    record {
      native = native_view s g.0;
      not_foreign = g.0;
      not_ended = g.1;
      map_good = g.2;
      lengths = g.3;
      piece_fits = ltb-false most_piece piece (or_left (ltb most_piece piece) _ g.3);
      out_fits = ltb-false out least_output (or_left (ltb out least_output) _ a);
      places_fit = ltb-false places least_places (or_left (ltb places least_places) _ b);
      total = ltb-false most_taken (s.taken + piece) (or_right (ltb places least_places) _ b);
    }

pub passed_ready : (s : Session) (map : List ℕ) (piece out places : ℕ) → Passed s map piece out places → Ready s.config map
passed_ready s map piece out places p =
    record { kind_known = p.native.kind_known; timescale_good = p.native.timescale_good; map_good = p.map_good }

counts_below : (t : ℕ) (c : Counts) → counts_above t c ≡ false → t ≤ most_taken → Below c most_taken
counts_below t c e h = let d = none_above t c e in omega arith

pub passed_opening : (s : Session) (map : List ℕ) (piece out places : ℕ) (r : Going) → length s.held ≡ most_held → Passed s map piece out places → r ≡ begin_at s
    → Opening s.config r s.held out places
passed_opening s map piece out places r l p e =
    let n = p.native in
    let h = native_few s n in
    rw e
    (record {
      number = refl;
      written = refl;
      warned = refl;
      start = refl;
      size = l;
      count = h;
      rows = subst (λ (x : List ℕ). line_count (closed_lines x) ≤ s.lines) (held_plain s.held_len s.held (omega arith)) p.native.rows_few;
      sane = subst (λ (x : List ℕ). strange s.config.kind s.columns x ≡ false) (held_plain s.held_len s.held (omega arith)) (sane s p.not_foreign);
      out_long = p.out_fits;
      places_long = p.places_fit;
      lines = omega (arith, n.lines_few, n.taken_few);
      counts = counts_below s.taken s.counts n.counts_few n.taken_few;
    })

-- ---- the answer by the gate
pub answer_by : (s : Session) (x : Call) → answer_of s x ≡ respond kit (session_gate s x) (view s) x
unfolding answer_of session_gate foreign_of
answer_by s x = refl

pub record By (g : Gate) (s : Session) (x : Call) (a : model.Answer Columns) (r : Fed) (out out' places places' : List ℕ) : Type 0 where
  pub number : r.number ≡ a.number
  pub written : r.written ≡ length (output_of a.emits)
  pub warned : r.warned ≡ length (places_of (warnings_of a.emits))
  pub session : r.session ≡ next_by g s x a.session
  pub text : out' ≡ put (output_of a.emits) out
  pub warnings : places' ≡ put (places_of (warnings_of a.emits)) places

by_gate : (s : Session) (x : Call) (r : Fed) (out out' places places' : List ℕ) (g : Gate) → session_gate s x ≡ g
    → By g s x (respond kit g (view s) x) r out out' places places' → Answered s x r out out' places places'
unfolding next_of
by_gate s x r out out' places places' g e b =
    let a : answer_of s x ≡ respond kit g (view s) x = answer_by s x ∙ ap (λ (y : Gate). respond kit y (view s) x) e in
    record {
      number = b.number ∙ ap (λ (y : model.Answer Columns). y.number) (sym a);
      written = b.written ∙ ap (λ (y : model.Answer Columns). length (output_of y.emits)) (sym a);
      warned = b.warned ∙ ap (λ (y : model.Answer Columns). length (places_of (warnings_of y.emits))) (sym a);
      session = b.session ∙ ap₂ (λ (h : Gate) (y : model.Answer Columns). next_by h s x y.session) (sym e) (sym a);
      text = b.text ∙ ap (λ (y : model.Answer Columns). put (output_of y.emits) out) (sym a);
      warnings = b.warnings ∙ ap (λ (y : model.Answer Columns). put (places_of (warnings_of y.emits)) places) (sym a);
    }

-- nothing emitted, nothing written
pub nothing_written : (out : List ℕ) → out ≡ put (output_of []) out
unfolding output_of
nothing_written out = sym (put_nil out)

pub nothing_warned : (places : List ℕ) → places ≡ put (places_of (warnings_of [])) places
unfolding warnings_of places_of
nothing_warned places = sym (put_nil places)

no_output : 0 ≡ length (output_of [])
unfolding output_of
no_output = refl

no_warnings : 0 ≡ length (places_of (warnings_of []))
unfolding warnings_of places_of
no_warnings = refl

answered_refused : (s : Session) (x : Call) (out places : List ℕ) (n : ℕ) (r : Fed) → n ≡ gate_number (session_gate s x) → (n ≡ 0 → ⊥) → r ≡ unchanged_fed n s
    → Answered s x r out out places places
answered_refused s x out places n r e z f = subst (λ (y : Fed). Answered s x y out out places places) (sym f) (go (session_gate s x) refl)
  where
    go : (g : Gate) → session_gate s x ≡ g → Answered s x (unchanged_fed n s) out out places places
    go (refuse k) q =
        by_gate s x _ out out places places (refuse k) q
        (record { number = e ∙ ap gate_number q; written = no_output; warned = no_warnings; session = refl; text = nothing_written out; warnings = nothing_warned places })
    go admit q = absurd (z (e ∙ ap gate_number q))

feed_gate : (s : Session) (map piece : List ℕ) (o w : ℕ) → refusal_of s map (length piece) o w ≡ gate_number (session_gate s (feed_call map piece o w))
unfolding refusal_of session_gate
feed_gate s map piece o w = refl

finish_gate : (s : Session) (map : List ℕ) (o w : ℕ) → refusal_of s map 0 o w ≡ gate_number (session_gate s (finish_call map o w))
unfolding refusal_of session_gate
finish_gate s map o w = refl

pub feed_refused : (s : Session) (map piece out places : List ℕ) (n : ℕ) (r : Fed) → n ≡ refusal_of s map (length piece) (length out) (length places) → (n ≡ 0 → ⊥)
    → r ≡ unchanged_fed n s → Answered s (feed_call map piece (length out) (length places)) r out out places places
feed_refused s map piece out places n r e z f =
    answered_refused s (feed_call map piece (length out) (length places)) out places n r (e ∙ feed_gate s map piece (length out) (length places)) z f

pub finish_refused : (s : Session) (map out places : List ℕ) (n : ℕ) (r : Fed) → n ≡ refusal_of s map 0 (length out) (length places) → (n ≡ 0 → ⊥)
    → r ≡ unchanged_fed n s → Answered s (finish_call map (length out) (length places)) r out out places places
finish_refused s map out places n r e z f =
    answered_refused s (finish_call map (length out) (length places)) out places n r (e ∙ finish_gate s map (length out) (length places)) z f

feed_admits : (s : Session) (map piece : List ℕ) (o w : ℕ) → Passed s map (length piece) o w → session_gate s (feed_call map piece o w) ≡ admit
unfolding session_gate
feed_admits s map piece o w p =
    let a = p.not_foreign in
    let b = p.not_ended in
    let c = p.map_good in
    let d = p.lengths in
    rw (a, b, c, d)

finish_admits : (s : Session) (map : List ℕ) (o w : ℕ) → Passed s map 0 o w → session_gate s (finish_call map o w) ≡ admit
unfolding session_gate
finish_admits s map o w p =
    let a = p.not_foreign in
    let b = p.not_ended in
    let c = p.map_good in
    let d = p.lengths in
    rw (a, b, c, d)

pub answered_empty : (s : Session) (map piece out places : List ℕ) (r : Fed) → Passed s map (length piece) (length out) (length places) → length piece ≡ 0
    → r ≡ unchanged_fed 0 s → Answered s (feed_call map piece (length out) (length places)) r out out places places
answered_empty s map [] out places r p e f =
    subst (λ (y : Fed). Answered s (feed_call map [] (length out) (length places)) y out out places places) (sym f)
    (by_gate s (feed_call map [] (length out) (length places)) (unchanged_fed 0 s) out out places places admit (feed_admits s map [] (length out) (length places) p)
    (record {
      number = refl;
      written = rw emits_none no_output;
      warned = rw emits_none no_warnings;
      session = refl;
      text = rw emits_none (nothing_written out);
      warnings = rw emits_none (nothing_warned places);
    }))
answered_empty s map (b ∷ piece) out places r p e f = absurd (not-suc-le-zero (le_of_eq e))

-- ---- the session afterwards
-- the run that the code makes is the model's
pub same_run : (s : Session) → s.held_len ≤ length s.held → resume_at (begin_at s) s.held ≡ resume kit (view s)
same_run s h =
    ap (λ (x : List ℕ). going (record { columns = s.columns; block = closed_lines x }) s.lines (unfinished x) []) (sym (held_plain s.held_len s.held h))

-- after a fault or a finish
pub ended_is : (c : Config) (t : ℕ) (r : Going) (z : Session) → z ≡ ended_session c r.number t r.counts
    → ◌≡◌ {A = Fed} (record { number = r.number; written = r.written; warned = r.warned; session = z }) (ended_fed c t r)
ended_is c t r z e = λ i. record { number = r.number; written = r.written; warned = r.warned; session = e i }

dead_stored : (s : Session) (q k : ℕ) (map : List ℕ) (ps : List Part) (y : Counts) → y ≡ count_all s.counts (emitted s.config map ps)
    → ended_session s.config k q y ≡ stored (settle kit (view s) q map (stopped k ps)).session
unfolding stored padded
dead_stored s q k map ps y e =
    λ i. record {
      config = s.config;
      ended = true;
      outcome = k;
      taken = q;
      lines = 0;
      counts = e i;
      columns = no_columns;
      held_len = 0;
      held = replicate most_held 0;
    }

pad_back : (n : ℕ) (h held zs : List ℕ) → length held ≡ most_held → n ≡ length h → take n held ≡ h → zs ≡ replicate (length (take (most_held - n) (drop n held))) 0
    → take n held ++ (zs ++ drop (most_held - n) (drop n held)) ≡ padded h
unfolding padded
pad_back n h held zs l e b z =
    let k : length (drop n held) ≡ most_held - n = rw length-drop (omega arith) in
    let m : length (take (most_held - n) (drop n held)) ≡ most_held - n = rw (length-take, k) (omega arith) in
    rw (b, z, m, drop_of_length-le (drop n held) (le_of_eq k), append-nil, e)

abbrev pub cleared : Going → (held zs : List ℕ) → List ℕ
cleared r held zs = take r.held held ++ (zs ++ drop (most_held - r.held) (drop r.held held))

live_stored : (s : Session) (q n : ℕ) (h map : List ℕ) (ps : List Part) (st : State) (r : Going) (held zs : List ℕ) → Holds st n h r held
    → r.counts ≡ count_all s.counts (emitted s.config map ps) → length held ≡ most_held
    → zs ≡ replicate (length (take (most_held - r.held) (drop r.held held))) 0
    → (held_fed s.config s.outcome q r (cleared r held zs)).session ≡ stored (settle kit (view s) q map (going st n h ps)).session
unfolding stored
live_stored s q n h map ps st r held zs d e l z =
    let p = pad_back r.held (concat st.block ++ h) held zs l d.count d.bytes z in
    λ i. record {
      config = s.config;
      ended = false;
      outcome = s.outcome;
      taken = q;
      lines = d.lines i;
      counts = e i;
      columns = d.columns i;
      held_len = d.count i;
      held = p i;
    }

-- ---- a piece
module _ (s : Session) (map : List ℕ) (b : ℕ) (piece out places : List ℕ) (p : Passed s map (length (b ∷ piece)) (length out) (length places)) (r : Going) (held out' places' : List ℕ) where
  abbrev x : Call
  x = feed_call map (b ∷ piece) (length out) (length places)

  abbrev q : ℕ
  q = s.taken + length (b ∷ piece)

  fed_dead : (y : Run State) → Shows s.config map s.counts y out places r held out' places' → (r.number ≡ 0 → ⊥)
      → By admit s x (settle kit (view s) q map y) (ended_fed s.config q r) out out' places places'
  fed_dead (going st n h ps) sh e = absurd (e sh.number)
  fed_dead (stopped k ps) sh e =
      record {
        number = sh.number;
        written = sh.wrote.written;
        warned = sh.wrote.warned;
        session = ap (λ (j : ℕ). ended_session s.config j q r.counts) sh.number ∙ dead_stored s q k map ps r.counts sh.counts;
        text = sh.wrote.text;
        warnings = sh.wrote.warnings;
      }

  fed_live : (y : Run State) → ByFault y → Shows s.config map s.counts y out places r held out' places' → r.number ≡ 0 → (zs : List ℕ) → length held ≡ most_held
      → zs ≡ replicate (length (take (most_held - r.held) (drop r.held held))) 0
      → By admit s x (settle kit (view s) q map y) (held_fed s.config s.outcome q r (cleared r held zs)) out out' places places'
  fed_live (stopped k ps) f sh e zs l z = absurd (eqb-false k 0 f (sym sh.number ∙ e))
  fed_live (going st n h ps) f sh e zs l z =
      record {
        number = refl;
        written = sh.wrote.written;
        warned = sh.wrote.warned;
        session = live_stored s q n h map ps st r held zs sh.holds sh.counts l z;
        text = sh.wrote.text;
        warnings = sh.wrote.warnings;
      }

-- the run of the code from its own numbers, as the model's
module _ (s : Session) (map out places : List ℕ) (l : length s.held ≡ most_held) (st : Going) (begun : st ≡ begin_at s) (r : Going) (held out' places' : List ℕ) where
  own_run : (y : ℕ) → (f : Run State → Run State) → Passed s map y (length out) (length places)
      → Shows s.config map st.counts (f (resume_at st s.held)) out places r held out' places'
      → Shows s.config map s.counts (f (resume kit (view s))) out places r held out' places'
  own_run y f p sh =
      subst (λ (q : Run State). Shows s.config map s.counts (f q) out places r held out' places') (same_run s (let k = native_few s p.native in omega arith))
      (subst (λ (g : Going). Shows s.config map g.counts (f (resume_at g s.held)) out places r held out' places') begun sh)

  pub answered_dead : (piece : List ℕ) → Passed s map (length piece) (length out) (length places) → (length piece ≡ 0 → ⊥)
      → Shows s.config map st.counts (run (machine_of s.config.kind) (resume_at st s.held) piece) out places r held out' places'
      → (r.number ≡ 0 → ⊥) → (z : Fed) → z ≡ ended_fed s.config (s.taken + length piece) r
      → Answered s (feed_call map piece (length out) (length places)) z out out' places places'
  answered_dead [] p e sh n z f = absurd (e refl)
  answered_dead (b ∷ piece) p e sh n z f =
      subst (λ (y : Fed). Answered s (feed_call map (b ∷ piece) (length out) (length places)) y out out' places places') (sym f)
      (by_gate s (feed_call map (b ∷ piece) (length out) (length places)) _ out out' places places' admit (feed_admits s map (b ∷ piece) (length out) (length places) p)
      (fed_dead s map b piece out places p r held out' places' (run (machine_of s.config.kind) (resume kit (view s)) (b ∷ piece))
      (own_run (length (b ∷ piece)) (λ (q : Run State). run (machine_of s.config.kind) q (b ∷ piece)) p sh) n))

  pub answered_live : (piece zs : List ℕ) → Passed s map (length piece) (length out) (length places) → (length piece ≡ 0 → ⊥)
      → Shows s.config map st.counts (run (machine_of s.config.kind) (resume_at st s.held) piece) out places r held out' places'
      → r.number ≡ 0 → length held ≡ most_held → zs ≡ replicate (length (take (most_held - r.held) (drop r.held held))) 0
      → (y : Fed) → y ≡ held_fed s.config s.outcome (s.taken + length piece) r (cleared r held zs)
      → Answered s (feed_call map piece (length out) (length places)) y out out' places places'
  answered_live [] zs p e sh n h z y f = absurd (e refl)
  answered_live (b ∷ piece) zs p e sh n h z y f =
      subst (λ (y : Fed). Answered s (feed_call map (b ∷ piece) (length out) (length places)) y out out' places places') (sym f)
      (by_gate s (feed_call map (b ∷ piece) (length out) (length places)) _ out out' places places' admit (feed_admits s map (b ∷ piece) (length out) (length places) p)
      (fed_live s map b piece out places p r held out' places' (run (machine_of s.config.kind) (resume kit (view s)) (b ∷ piece))
      (run_fault (machine_of s.config.kind) (resume kit (view s)) (b ∷ piece) tt)
      (own_run (length (b ∷ piece)) (λ (q : Run State). run (machine_of s.config.kind) q (b ∷ piece)) p sh) n zs h z))

-- ---- at the end of a piece at most 8,192 bytes are held
fit_small : (kind : ℕ) (e : kind_bad kind ≡ false) (t : State) → (lawful kind e).Fit t → length (concat t.block) ≤ most_block
fit_small zero e t f = f.small
fit_small (suc zero) e t f = f.small
fit_small (suc (suc zero)) e t f = f.small
fit_small (suc (suc (suc k))) e t f = absurd (known_three k e)

pub settled_small : (v : model.Session Columns) (N : Native v) (map piece : List ℕ) → map_bad map ≡ false → (t : ℕ)
    → length (settle kit v t map (run (machine_of v.config.kind) (resume kit v) piece)).session.held ≤ most_held
settled_small v N map piece g t =
    go (run (machine_of v.config.kind) (resume kit v) piece)
    (run_ok kit v.config.kind (lawful v.config.kind N.kind_known) 1 (v.lines + length v.held) (resume kit v) piece (resume_ok v N map g))
  where
    go : (y : Run State) → Ok kit v.config.kind (lawful v.config.kind N.kind_known) 1 (length piece + (v.lines + length v.held)) y
        → length (settle kit v t map y).session.held ≤ most_held
    go (stopped k ps) o = omega arith
    go (going st n h ps) o =
        omega (arith, length-append (concat st.block) h, o.short, fit_small v.config.kind N.kind_known st o.fit)

pub end_small : (s : Session) (map piece : List ℕ) (o w : ℕ) (out places : List ℕ) (st r : Going) (held out' places' : List ℕ) → length s.held ≡ most_held
    → Passed s map (length piece) o w → st ≡ begin_at s
    → Shows s.config map st.counts (run (machine_of s.config.kind) (resume_at st s.held) piece) out places r held out' places'
    → r.number ≡ 0 → r.held ≤ most_held
end_small s map piece o w out places st r held out' places' l p e sh n =
    go (run (machine_of s.config.kind) (resume kit (view s)) piece)
    (subst (λ (y : Run State). Shows s.config map st.counts (run (machine_of s.config.kind) y piece) out places r held out' places')
    (ap (λ (g : Going). resume_at g s.held) e ∙ same_run s (let k = native_few s p.native in omega arith)) sh)
    (run_fault (machine_of s.config.kind) (resume kit (view s)) piece tt)
    (settled_small (view s) p.native map piece p.map_good 0)
  where
    go : (y : Run State) → Shows s.config map st.counts y out places r held out' places' → ByFault y
        → length (settle kit (view s) 0 map y).session.held ≤ most_held → r.held ≤ most_held
    go (stopped k ps) h f t = absurd (eqb-false k 0 f (sym h.number ∙ n))
    go (going x y g ps) h f t = omega (arith, h.holds.count)

-- ---- open
open_by_lem : (kind T : ℕ) (m : List ℕ) (r : Opened) (g : Gate) → gate false false (timescale_bad T || map_bad m) (kind_bad kind) ≡ g
    → r.number ≡ (open_by kit g (record { kind = kind; timescale = T })).number → r.session ≡ stored (open_by kit g (record { kind = kind; timescale = T })).session
    → OpenAnswered kind T m r
unfolding open_of
open_by_lem kind T m r g e a b =
    record {
      number = a ∙ ap (λ (y : Gate). (open_by kit y (record { kind = kind; timescale = T })).number) (sym e);
      session = b ∙ ap (λ (y : Gate). stored (open_by kit y (record { kind = kind; timescale = T })).session) (sym e);
    }

none_stored : ended_session (record { kind = 0; timescale = 1 }) 0 0 no_counts ≡ stored (no_session kit)
unfolding stored padded
none_stored = refl

-- a session that nothing was fed to, with columns k
abbrev fresh_with : (kind T : ℕ) → Columns → Session
fresh_with kind T k =
    record {
      config = record { kind = kind; timescale = T };
      ended = false;
      outcome = 0;
      taken = 0;
      lines = 0;
      counts = no_counts;
      columns = k;
      held_len = 0;
      held = replicate most_held 0;
    }

-- the session that open returns with 0
abbrev fresh_session : (kind T : ℕ) → Session
fresh_session kind T = fresh_with kind T no_columns

fresh_stored : (kind T : ℕ) → fresh_session kind T ≡ stored (fresh kit (record { kind = kind; timescale = T }))
unfolding stored padded
fresh_stored kind T = refl

pub opened_refused : (kind T : ℕ) (m : List ℕ) (n : ℕ) (z : Session) → n ≡ (open_of kind T m).number → (n ≡ 0 → ⊥)
    → z ≡ ended_session (record { kind = 0; timescale = 1 }) 0 0 no_counts → OpenAnswered kind T m (record { number = n; session = z })
unfolding open_of
opened_refused kind T m n z e f g = go (gate false false (timescale_bad T || map_bad m) (kind_bad kind)) refl
  where
    go : (y : Gate) → gate false false (timescale_bad T || map_bad m) (kind_bad kind) ≡ y → OpenAnswered kind T m (record { number = n; session = z })
    go (refuse k) q = open_by_lem kind T m _ (refuse k) q (e ∙ ap (λ (y : Gate). (open_by kit y (record { kind = kind; timescale = T })).number) q) (g ∙ none_stored)
    go admit q = absurd (f (e ∙ ap (λ (y : Gate). (open_by kit y (record { kind = kind; timescale = T })).number) q))

open_admits : (a b : Bool) (c : Config) → (open_by kit (gate false false a b) c).number ≡ 0 → gate false false a b ≡ admit
open_admits true b c e = absurd (let z : ◌≡◌ {A = ℕ} 15 0 = e in omega arith)
open_admits false true c e = absurd (let z : ◌≡◌ {A = ℕ} 16 0 = e in omega arith)
open_admits false false c e = refl

pub opened_fresh : (kind T : ℕ) (m : List ℕ) (n : ℕ) (k : Columns) → n ≡ (open_of kind T m).number → n ≡ 0 → k ≡ no_columns
    → OpenAnswered kind T m (record { number = 0; session = fresh_with kind T k })
unfolding open_of
opened_fresh kind T m n k e f g =
    rw g
    (open_by_lem kind T m (record { number = 0; session = fresh_session kind T }) admit
    (open_admits (timescale_bad T || map_bad m) (kind_bad kind) (record { kind = kind; timescale = T }) (sym e ∙ f)) refl (fresh_stored kind T))

-- ---- finish
module _ (s : Session) (map out places : List ℕ) (p : Passed s map 0 (length out) (length places)) (r : Going) (held out' places' : List ℕ) where
  finished_by : (y : Run State) → Stopped (machine_of s.config.kind) y → Shows s.config map s.counts y out places r held out' places'
      → By admit s (finish_call map (length out) (length places)) (settle kit (view s) s.taken map y) (ended_fed s.config s.taken r) out out' places places'
  finished_by (going st n h ps) e sh = absurd e
  finished_by (stopped k ps) e sh =
      record {
        number = sh.number;
        written = sh.wrote.written;
        warned = sh.wrote.warned;
        session = ap (λ (j : ℕ). ended_session s.config j s.taken r.counts) sh.number ∙ dead_stored s s.taken k map ps r.counts sh.counts;
        text = sh.wrote.text;
        warnings = sh.wrote.warnings;
      }

  pub answered_finished : length s.held ≡ most_held → (st : Going) → st ≡ begin_at s
      → Shows s.config map st.counts (finish_run (machine_of s.config.kind) (resume_at st s.held)) out places r held out' places'
      → (z : Fed) → z ≡ ended_fed s.config s.taken r → Answered s (finish_call map (length out) (length places)) z out out' places places'
  answered_finished l st e sh z f =
      subst (λ (y : Fed). Answered s (finish_call map (length out) (length places)) y out out' places places') (sym f)
      (by_gate s (finish_call map (length out) (length places)) _ out out' places places' admit (finish_admits s map (length out) (length places) p)
      (finished_by (finish_run (machine_of s.config.kind) (resume kit (view s)))
      (finish_stops (machine_of s.config.kind) (rest_of s.lines (kit.open_line (view s).held)) (kit.state (view s).known (view s).held) s.lines (kit.open_line (view s).held) [])
      (own_run s map out places l st e r held out' places' 0 (λ (q : Run State). finish_run (machine_of s.config.kind) q) p sh)))

-- ---- where a call begins
pub begin_is : (s : Session) (front : List ℕ) (e : ℕ) → front ≡ take s.held_len s.held → e ≡ length (concat (closed_lines front))
    → ◌≡◌ {A = Going}
    (record { number = 0; lines = s.lines; counts = s.counts; columns = s.columns; start = e; held = s.held_len; written = 0; warned = 0 }) (begin_at s)
begin_is s front e p q =
    let z = q ∙ ap (λ (l : List ℕ). length (concat (closed_lines l))) p in
    λ i. record { number = 0; lines = s.lines; counts = s.counts; columns = s.columns; start = z i; held = s.held_len; written = 0; warned = 0 }
