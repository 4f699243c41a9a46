-- A run over a piece: its states fit, and what it writes has room.
use mathlib.Core.Path.{◌≡◌, refl, sym, ap, subst, ◌∙◌}
use mathlib.Core.Bool.{Bool, true, false}
use mathlib.Core.List.{List, [], ◌∷◌, ◌++◌}
use Prim.Native.Nat.{ℕ, zero, suc, ◌+◌, ◌-◌, ◌≤◌, ◌<◌}
use native.Mathlib.Omega.{arith}
use native.Mathlib.Numerals.{add-one}
use lib.Dec.{eqb, leb}
use lib.ListN.{length, take, set, get_or, length-set}
use lib.Seq.{length-take-le}
use borrow.Author.Tests.{leb-true, eqb-false}
use Rattle.spec_base.specs.base.Limits.{most_line, most_taken, most_piece}
use Rattle.spec_base.proofs.base.PutLaws.{put_nil}
use Rattle.spec_time.specs.caption_time.Kind.{kind_bad}
use Rattle.spec_map.specs.segment.Segment.{segments_of}
use Rattle.spec_caption.specs.declared.caption_fate.Config.{Config}
use Rattle.spec_caption.specs.caption_fate.Fates.{passed, dropped, shifted, clipped}
use Rattle.spec_caption.specs.caption_fate.Says.{Part, captions_in}
use Rattle.spec_caption.specs.caption_fate.Emit.{Emit, Caption, none, decided, output_of, warnings_of, places_of}
use Rattle.spec_cue.proofs.block_cue.FineBlock.{lines_held}
use Rattle.spec_ass.specs.declared.ass_columns.Columns.{Columns}
use Rattle.spec_machine.specs.declared.session_counts.Counts.{Counts}
use Rattle.spec_machine.specs.session_counts.Counts.{no_counts, count, count_all, one, captions}
use Rattle.spec_machine.specs.session_counts.Cut.{closed_lines, unfinished}
use Rattle.spec_machine.specs.session_counts.Machine.{Machine, Says, faulty, says, Run, going, stopped, line_end, take_line, byte, byte_step, run}
use Rattle.spec_machine.specs.session_counts.Session.{is_outcome, outcome_bad, Session, emitted}
use Rattle.spec_machine.proofs.session_counts.Emits.{parts_append, parts_none, captions_emitted, count_none, emits_none, output_none}
use Rattle.spec_machine.proofs.session_counts.CutLaws.{cut_joined, cut_length}
use Rattle.spec_machine.proofs.session_counts.Resume.{ByFault, run_take, run_fault}
use Rattle.spec_machine.proofs.session_counts.Laws.{StepOk, Lawful}
use Rattle.spec_machine.proofs.session_counts.Native as sound
use Rattle.spec_machine.proofs.session_counts.Room as room
use Rattle.spec_machine.proofs.session_counts.Room.{out_len, warn_len}
use Rattle.spec_machine.specs.kinds.Takes.{State, machine_of}
use Rattle.spec_machine.specs.kinds.Kit.{kit}
use Rattle.spec_machine.proofs.kinds.KindLaws.{Fit, known_three, lawful, lawful_size, lawful_pending}
use Rattle.spec_machine.proofs.kinds.Native.{Native, is_native}
use Rattle.spec_machine.proofs.kinds.Fits.{places_two, resume_ok, feed_room}
use Rattle.spec_session.specs.declared.session.Going.{Going}
use Rattle.spec_session.specs.session_lines.Done.{Wrote, Ready, Parsed}
use Rattle.spec_session.specs.session.Stand.{Joins, Shows, ByteRoom, ParsedIn, Opening, resume_at, holding_to}
use Rattle.spec_session.proofs.session.StandLaws.{held_sizes, byte_more}

-- ---- captions are at most the lines ended, and one
module _ (kind : ℕ) (L : Lawful kit kind) (n₀ : ℕ) where
  abbrev M : Machine State
  M = machine_of kind

  -- n₀ lines had ended before
  abbrev pub Slow : Run State → Type 0
  Slow (going s n h ps) = captions_in ps + L.pending s + n₀ ≤ suc n
  Slow (stopped k ps) = Unit {0}

  end_slow : (s : State) (n : ℕ) (l : List ℕ) (ps : List Part) (x : Says State) → captions_in ps + L.pending s + n₀ ≤ suc n
      → StepOk L.Fit L.pending L.size s l x → Slow (line_end M n ps x)
  end_slow s n l ps (faulty f) g o = tt
  end_slow s n l ps (says t new) g o = omega (arith, parts_append ps new, o.few)

  byte_slow : (ok lf : Bool) (s : State) (n : ℕ) (l : List ℕ) (ps : List Part) → leb (length l) most_line ≡ ok → L.Fit s
      → captions_in ps + L.pending s + n₀ ≤ suc n → Slow (byte M ok lf s n l ps)
  byte_slow false lf s n l ps e f g = tt
  byte_slow true true s n l ps e f g =
      end_slow s n l ps (take_line M s n l) g (sound.line_ok kit kind L 1 s n l f (leb-true (length l) most_line e))
  byte_slow true false s n l ps e f g = g

  step_slow : (t : ℕ) (q : Run State) (b : ℕ) → sound.Ok kit kind L 1 t q → Slow q → Slow (byte_step M q b)
  step_slow t (going s n h ps) b o g =
      byte_slow (leb (length (h ++ (b ∷ []))) most_line) (eqb b 10) s n (h ++ (b ∷ [])) ps refl o.fit g
  step_slow t (stopped k ps) b o g = tt

  pub run_slow : (t : ℕ) (q : Run State) (xs : List ℕ) → sound.Ok kit kind L 1 t q → Slow q → Slow (run M q xs)
  run_slow t q [] o g = g
  run_slow t q (b ∷ xs) o g = run_slow (suc t) (byte_step M q b) xs (sound.step_ok kit kind L 1 t q b o) (step_slow t q b o g)

-- ---- each count grows by at most the captions
pub record Grown (c d : Counts) (k : ℕ) : Type 0 where
  pub shifted : d.shifted ≤ c.shifted + k
  pub clipped : d.clipped ≤ c.clipped + k
  pub dropped : d.dropped ≤ c.dropped + k
  pub passed : d.passed ≤ c.passed + k

one_grown : (x : Caption) (c : Counts) → Grown c (count x c) (one x)
one_grown none c = omega arith
one_grown (decided passed) c = omega arith
one_grown (decided dropped) c = omega arith
one_grown (decided (shifted s e)) c = omega arith
one_grown (decided (clipped s e)) c = omega arith

all_grown : (c : Counts) (es : List Emit) → Grown c (count_all c es) (captions es)
unfolding count_all captions
all_grown c [] = omega arith
all_grown c (e ∷ es) = omega (arith, one_grown e.caption c, all_grown (count e.caption c) es)

pub counts_grown : (c : Config) (m : List ℕ) (t : Counts) (ps : List Part) → Grown t (count_all t (emitted c m ps)) (captions_in ps)
counts_grown c m t ps = subst (Grown t (count_all t (emitted c m ps))) (captions_emitted c (segments_of m) ps) (all_grown t (emitted c m ps))

-- ---- what a state of any kind holds
pub fit_back : (kind : ℕ) (e : kind_bad kind ≡ false) (s : State) → (lawful kind e).Fit s → Fit kind s
fit_back zero e s f = f
fit_back (suc zero) e s f = f
fit_back (suc (suc zero)) e s f = f
fit_back (suc (suc (suc k))) e s f = absurd (known_three k e)

pub fit_parsed : (kind : ℕ) → kind_bad kind ≡ false → (s : State) → Fit kind s → Parsed (eqb kind 0) s.block
fit_parsed zero e s f = f.block
fit_parsed (suc zero) e s f = lines_held s.block f.block
fit_parsed (suc (suc zero)) e s f = lines_held s.block f.block
fit_parsed (suc (suc (suc k))) e s f = absurd (known_three k e)

-- ---- a call begins
pub places_none : places_of (warnings_of []) ≡ []
unfolding places_of warnings_of
places_none = refl

pub wrote_none : (c : Config) (m o w : List ℕ) → Wrote c m [] 0 0 o o w w
wrote_none c m o w =
    let e : output_of (emitted c m []) ≡ [] = ap output_of (emits_none c (segments_of m)) ∙ output_none in
    let f : places_of (warnings_of (emitted c m [])) ≡ [] = ap (λ (es : List Emit). places_of (warnings_of es)) (emits_none c (segments_of m)) ∙ places_none in
    record {
      written = sym (ap length e);
      warned = sym (ap length f);
      text = rw e (sym (put_nil o));
      warnings = rw f (sym (put_nil w));
    }

-- at the loop's head: i bytes of the piece were taken
pub record Turn (c : Config) (m : List ℕ) (r : Going) (piece held o w : List ℕ) (at : Going) (held' out' places' : List ℕ) (i : ℕ) : Type 0 where
  pub within : i ≤ length piece
  pub shows : Shows c m r.counts (run (machine_of c.kind) (resume_at r held) (take i piece)) o w at held' out' places'
  pub held_long : length held' ≡ length held
  pub out_long : length out' ≡ length o
  pub places_long : length places' ≡ length w

module _ (c : Config) (m : List ℕ) (r : Going) (held : List ℕ) (out places : ℕ) (d : Ready c m) (p : Opening c r held out places) where
  abbrev pub bytes : List ℕ
  bytes = take r.held held

  abbrev pub s₀ : State
  s₀ = record { columns = r.columns; block = closed_lines bytes }

  -- a session that stands as the call's numbers do
  abbrev pub begun : Session Columns
  begun =
      record {
        config = c;
        taken = most_taken;
        lines = r.lines;
        held = bytes;
        known = r.columns;
        counts = no_counts;
        outcome = 0;
        ended = false;
      }

  pub bytes_length : length bytes ≡ r.held
  bytes_length = length-take-le r.held held (omega (arith, p.size, p.count))

  pub begin_sizes : r.start + length (unfinished bytes) ≡ r.held
  begin_sizes = ap (λ (j : ℕ). j + length (unfinished bytes)) p.start ∙ cut_length bytes ∙ bytes_length

  live_outcome : outcome_bad false 0 ≡ false
  unfolding outcome_bad is_outcome
  live_outcome = refl

  pub begin_native : Native begun
  begin_native =
      is_native begun
      (sound.not_foreign kit c most_taken r.lines bytes r.columns no_counts 0 false (rw (d.kind_known, d.timescale_good)) (omega arith) p.lines
      (omega arith) (omega (arith, bytes_length, p.count)) p.sane live_outcome p.rows)

  abbrev pub L : Lawful kit c.kind
  L = lawful c.kind begin_native.kind_known

  pub begin_shows : (o w : List ℕ) → Shows c m r.counts (resume_at r held) o w r held o w
  begin_shows o w =
      record {
        number = p.number;
        counts = sym (ap (count_all r.counts) (emits_none c (segments_of m)) ∙ count_none r.counts);
        wrote = rw (p.written, p.warned) (wrote_none c m o w);
        holds =
            record {
              lines = refl;
              columns = refl;
              start = p.start;
              count = sym bytes_length ∙ ap length (sym (cut_joined bytes));
              bytes = sym (cut_joined bytes);
            };
      }

  -- ---- after the bytes xs of a piece
  pub run_sound : (xs : List ℕ) → sound.Ok kit c.kind L 1 (length xs + (r.lines + length bytes)) (run (machine_of c.kind) (resume_at r held) xs)
  run_sound xs =
      sound.run_ok kit c.kind L 1 (r.lines + length bytes) (resume_at r held) xs (resume_ok begun begin_native m d.map_good)

  pub run_few : (xs : List ℕ) → Slow c.kind L r.lines (run (machine_of c.kind) (resume_at r held) xs)
  run_few xs =
      run_slow c.kind L r.lines (r.lines + length bytes) (resume_at r held) xs (resume_ok begun begin_native m d.map_good)
      (omega (arith, parts_none, lawful_pending c.kind begin_native.kind_known s₀))

  pub run_parsed : (xs : List ℕ) → ParsedIn (eqb c.kind 0) (run (machine_of c.kind) (resume_at r held) xs)
  run_parsed xs = go (run (machine_of c.kind) (resume_at r held) xs) (run_sound xs) (run_fault (machine_of c.kind) (resume_at r held) xs tt)
    where
      go : (q : Run State) → sound.Ok kit c.kind L 1 (length xs + (r.lines + length bytes)) q → ByFault q → ParsedIn (eqb c.kind 0) q
      go (going s n h ps) o f = fit_parsed c.kind begin_native.kind_known s (fit_back c.kind begin_native.kind_known s o.fit)
      go (stopped k ps) o f = f

  -- room for one more byte, after i of at most 1,024
  byte_room : (i : ℕ) (q : Run State) (o w : List ℕ) (at : Going) (held' out' places' : List ℕ) → sound.Ok kit c.kind L 1 (i + (r.lines + length bytes)) q
      → Slow c.kind L r.lines q → room.Room c (segments_of m) L.size 3 (i + length bytes) q → ParsedIn (eqb c.kind 0) q
      → Shows c m r.counts q o w at held' out' places' → i < most_piece → length held' ≡ length held → length out' ≡ out → length places' ≡ places → at.number ≡ 0
      → ByteRoom at (length held') (length out') (length places')
  unfolding out_len warn_len
  byte_room i (stopped k ps) o w at held' out' places' ok few g f sh h1 h2 h3 h4 e = absurd (eqb-false k 0 f (sym sh.number ∙ e))
  byte_room i (going s n h ps) o w at held' out' places' ok few g f sh h1 h2 h3 h4 e =
      let C = held_sizes s n h at held' sh.holds in
      let F = fit_back c.kind begin_native.kind_known s ok.fit in
      let Z = lawful_size c.kind begin_native.kind_known s in
      let W = places_two (warnings_of (emitted c m ps)) in
      let G = counts_grown c m r.counts ps in
      let B = bytes_length in
      record {
        size = h2 ∙ p.size;
        order = omega (arith, C);
        block = omega (arith, F.small, sh.holds.start);
        line = omega (arith, C, ok.short);
        text = omega (arith, C, Z, B, sh.holds.start, g.out, sh.wrote.written, p.count, p.out_long);
        warnings = omega (arith, Z, B, g.warn, sh.wrote.warned, W, p.count, p.places_long);
        lines = omega (arith, sh.holds.lines, ok.bytes, B, p.count, p.lines);
        counts = rw sh.counts (omega (arith, G, few, ok.bytes, B, p.count, p.counts));
      }

  pub turn_byte : (piece o w : List ℕ) (at : Going) (held' out' places' : List ℕ) (i : ℕ) → Turn c m r piece held o w at held' out' places' i → length o ≡ out → length w ≡ places
      → i < length piece → length piece ≤ most_piece → at.number ≡ 0 → ByteRoom at (length held') (length out') (length places')
  turn_byte piece o w at held' out' places' i t h1 h2 h k e =
      let z : length (take i piece) ≡ i = length-take-le i piece t.within in
      byte_room (length (take i piece)) (run (machine_of c.kind) (resume_at r held) (take i piece)) o w at held' out' places' (run_sound (take i piece)) (run_few (take i piece))
      (feed_room begun begin_native m d.map_good (take i piece)) (run_parsed (take i piece)) t.shows (omega arith) t.held_long (t.out_long ∙ h1) (t.places_long ∙ h2) e

pub run_more : (M : Machine State) (q : Run State) (t : List ℕ) (i : ℕ) → i < length t → run M q (take (i + 1) t) ≡ byte_step M (run M q (take i t)) (get_or t i 0)
run_more M q t i h = rw add-one (run_take M q t i h)

-- the same numbers under another name
pub turn_held : (c : Config) (m : List ℕ) (r : Going) (piece held o w : List ℕ) (x y : Going) (held' out' places' : List ℕ) (i : ℕ) → y ≡ x
    → Turn c m r piece held o w x held' out' places' i → Turn c m r piece held o w y held' out' places' i
turn_held c m r piece held o w x y held' out' places' i e t = subst (λ (z : Going). Turn c m r piece held o w z held' out' places' i) (sym e) t

-- ---- at the loop's head k bytes are held, and `at` was made when the last line ended
module _ (c : Config) (m : List ℕ) (r : Going) (held : List ℕ) (out places : ℕ) (d : Ready c m) (p : Opening c r held out places) where
  module _ (piece o w : List ℕ) (at : Going) (k : ℕ) (held' out' places' : List ℕ) (i : ℕ) (t : Turn c m r piece held o w (holding_to at k) held' out' places' i)
      (h1 : length o ≡ out) (h2 : length w ≡ places) (h : i < length piece) (j : length piece ≤ most_piece) where
    -- a byte that joins has a place
    pub turn_place : (x b : ℕ) → x ≡ k - at.start → Joins at.number x b → k < length held'
    turn_place x b e y =
        let R : ByteRoom (holding_to at k) (length held') (length out') (length places') =
        turn_byte c m r held out places d p piece o w (holding_to at k) held' out' places' i t h1 h2 h j y.live in
        omega (arith, R, y.room, e)

    pub turn_join : (x b : ℕ) → x ≡ k - at.start → Joins at.number x b → b ≡ get_or piece i 0
        → Turn c m r piece held o w (holding_to at (k + 1)) (set held' k b) out' places' (i + 1)
    turn_join x b e y f =
        let q : Run State = run (machine_of c.kind) (resume_at r held) (take i piece) in
        let z : k - at.start < most_line = omega (arith, y.room, e) in
        let v : Shows c m r.counts (byte_step (machine_of c.kind) q b) o w (holding_to at (k + 1)) (set held' k b) out' places' =
        byte_more c m (machine_of c.kind) (eqb c.kind 0) r.counts o w (holding_to at k) held' out' places' b q (holding_to at (k + 1))
        (run_parsed c m r held out places d p (take i piece)) t.shows y.live z (turn_place x b e y) refl y.no_end in
        record {
          within = omega (arith, h);
          shows =
              rw (run_more (machine_of c.kind) (resume_at r held) piece i h)
              (subst (λ (x : ℕ). Shows c m r.counts (byte_step (machine_of c.kind) q x) o w (holding_to at (k + 1)) (set held' k b) out' places') f v);
          held_long = length-set held' k b ∙ t.held_long;
          out_long = t.out_long;
          places_long = t.places_long;
        }
