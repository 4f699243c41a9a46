-- What any call writes fits the output and the places that it is lent, whatever session it is given.
use mathlib.Core.Path.{◌≡◌, refl, subst}
use mathlib.Core.Bool.{Bool, true, false}
use mathlib.Core.List.{List, [], ◌∷◌}
use Prim.Native.Nat.{ℕ, zero, suc, ◌+◌, ◌*◌, ◌≤◌}
use native.Mathlib.Omega.{arith}
use lib.Dec.{ltb}
use lib.ListN.{length}
use borrow.Author.Tests.{ltb-false}
use Rattle.spec_base.specs.base.Limits.{most_piece, least_output, least_places, most_held}
use Rattle.spec_base.proofs.base.Laws.{or_left}
use Rattle.spec_time.specs.caption_time.Kind.{kind_bad}
use Rattle.spec_map.specs.segment.Segment.{segments_of, map_bad}
use Rattle.spec_caption.specs.declared.caption_fate.Config.{Config}
use Rattle.spec_caption.specs.caption_fate.Says.{Part}
use Rattle.spec_caption.specs.caption_fate.Emit.{Emit, Warning, output_of, warnings_of, places_of, emits_of}
use Rattle.spec_caption.proofs.caption_fate.FineLaws.{Set}
use Rattle.spec_ass.specs.declared.ass_columns.Columns.{Columns}
use Rattle.spec_machine.specs.session_counts.Machine.{Run, going, stopped, run, finish_run}
use Rattle.spec_machine.specs.session_counts.Session.{Session, Call, feed, finish, lent_of, argument_bad, gate, foreign, settle, resume, accepted, respond, answer}
use Rattle.spec_machine.proofs.session_counts.Emits.{parts_none}
use Rattle.spec_machine.proofs.session_counts.CutLaws.{cut_length}
use Rattle.spec_machine.proofs.session_counts.Bytes.{begin}
use Rattle.spec_machine.proofs.session_counts.Laws.{Lawful}
use Rattle.spec_machine.proofs.session_counts.Native.{GoingOk, text_ok}
use Rattle.spec_machine.proofs.session_counts.Room.{out_len, warn_len, out_none, warn_none, GoingRoom, Room, Roomy, run_room, finish_room}
use Rattle.spec_machine.specs.kinds.Takes.{State}
use Rattle.spec_machine.specs.kinds.Kit.{kit}
use Rattle.spec_machine.proofs.kinds.KindLaws.{known_three, lawful, lawful_fit, lawful_size, lawful_pending, size}
use Rattle.spec_machine.proofs.kinds.Native.{Native, is_native}
use Rattle.spec_machine.proofs.kinds.KindRoom.{ass_roomy, srt_roomy, vtt_roomy}

pub record Fits (es : List Emit) : Type 0 where
  pub out : length (output_of es) ≤ least_output
  pub places : length (places_of (warnings_of es)) ≤ least_places

pub places_two : (ws : List Warning) → length (places_of ws) ≡ 2 * length ws
unfolding places_of
places_two [] = refl
places_two (w ∷ ws) = omega (arith, places_two ws)

fits_none : Fits []
unfolding output_of warnings_of places_of
fits_none = record { out = omega arith; places = omega arith }

roomy : (kind : ℕ) (e : kind_bad kind ≡ false) (c : Config) → Set c → (g : List ℕ) → map_bad g ≡ false → Roomy kit kind (lawful kind e) c (segments_of g) 3
roomy zero e c set g good = ass_roomy c set g good
roomy (suc zero) e c set g good = srt_roomy c set g good
roomy (suc (suc zero)) e c set g good = vtt_roomy c set g good
roomy (suc (suc (suc k))) e c set g good = absurd (known_three k e)

-- ---- a whole text: three bytes of output for each byte, and two places for every seven
module _ (c : Config) (set : Set c) (g : List ℕ) (good : map_bad g ≡ false) where
  abbrev T : Lawful kit c.kind
  T = lawful c.kind set.kind_known

  text_room : (t : List ℕ) → Room c (segments_of g) T.size 3 (length t + 0) (run (kit.machine c.kind) (begin (kit.machine c.kind)) t)
  text_room t =
      run_room kit c.kind T c (segments_of g) 3 (roomy c.kind set.kind_known c set g good) 0 0 0 (begin (kit.machine c.kind)) t (text_ok kit c.kind T 0 [])
      (record {
        out = rw (out_none c (segments_of g), T.start_size) (omega arith);
        warn = rw (warn_none c (segments_of g), T.start_size) (omega arith);
      })

  pub record TextFits (t : List ℕ) (es : List Emit) : Type 0 where
    pub out : length (output_of es) ≤ 3 * length t
    pub places : 3 * length (places_of (warnings_of es)) ≤ length t

  going_fits : (t : List ℕ) (s : State) (n : ℕ) (h : List ℕ) (ps : List Part) → Room c (segments_of g) T.size 3 (length t + 0) (going s n h ps)
      → TextFits t (emits_of c (segments_of g) ps)
  unfolding out_len warn_len
  going_fits t s n h ps x =
      record { out = omega (arith, x.out); places = omega (arith, x.warn, places_two (warnings_of (emits_of c (segments_of g) ps))) }

  pub text_fits : (t : List ℕ) (s : State) (n : ℕ) (h : List ℕ) (ps : List Part) → run (kit.machine c.kind) (begin (kit.machine c.kind)) t ≡ going s n h ps
      → TextFits t (emits_of c (segments_of g) ps)
  text_fits t s n h ps e = going_fits t s n h ps (subst (Room c (segments_of g) T.size 3 (length t + 0)) e (text_room t))

module _ (s : Session Columns) (N : Native s) (g : List ℕ) (good : map_bad g ≡ false) where
  abbrev kind : ℕ
  kind = s.config.kind

  abbrev L : Lawful kit kind
  L = lawful kind N.kind_known

  abbrev state : State
  state = kit.state s.known s.held

  abbrev line : List ℕ
  line = kit.open_line s.held

  pub room_of_lem : Roomy kit kind L s.config (segments_of g) 3
  room_of_lem = roomy kind N.kind_known s.config (record { kind_known = N.kind_known; timescale_good = N.timescale_good }) g good

  held_size : L.size state + length line ≡ length s.held
  held_size = omega (arith, lawful_size kind N.kind_known state, cut_length s.held)

  pub resume_ok : GoingOk kit kind L 1 (s.lines + length s.held) state s.lines line []
  resume_ok =
      record {
        fit = lawful_fit kind N.kind_known state N.holds.fit;
        short = N.holds.short;
        open_line = N.holds.open_line;
        bytes = omega (arith, held_size);
        room = omega (arith, held_size);
        few = omega (arith, lawful_pending kind N.kind_known state, parts_none);
      }

  pub resume_room : GoingRoom s.config (segments_of g) L.size 3 (length s.held) state line []
  resume_room =
      record {
        out = rw (out_none s.config (segments_of g), held_size) (omega arith);
        warn = rw (warn_none s.config (segments_of g), held_size) (omega arith);
      }

  pub feed_room : (piece : List ℕ) → Room s.config (segments_of g) L.size 3 (length piece + length s.held) (run (kit.machine kind) (resume kit s) piece)
  feed_room piece =
      run_room kit kind L s.config (segments_of g) 3 room_of_lem 1 (s.lines + length s.held) (length s.held) (resume kit s) piece resume_ok resume_room

  pub end_room : Room s.config (segments_of g) L.size 3 (length s.held) (finish_run (kit.machine kind) (resume kit s))
  end_room =
      finish_room kit kind L s.config (segments_of g) 3 room_of_lem (length s.held) state s.lines line []
      resume_ok.fit resume_ok.short resume_ok.open_line resume_room

  settle_fits : (t b : ℕ) (r : Run State) → Room s.config (segments_of g) L.size 3 b r → b ≤ most_held + most_piece → Fits (settle kit s t g r).emits
  unfolding out_len warn_len
  settle_fits t b (going st n h ps) x q =
      record { out = omega (arith, x.out); places = omega (arith, x.warn, places_two (warnings_of (emits_of s.config (segments_of g) ps))) }
  settle_fits t b (stopped k ps) x q =
      record { out = omega (arith, x.out); places = omega (arith, x.warn, places_two (warnings_of (emits_of s.config (segments_of g) ps))) }

accepted_fits : (s : Session Columns) → foreign kit s ≡ false → (x : Call) → map_bad (lent_of x).map ≡ false → argument_bad s.taken x ≡ false → Fits (accepted kit s x).emits
accepted_fits s e (feed l piece) p q =
    let N = is_native s e in
    let short = ltb-false most_piece (length piece) (or_left (ltb most_piece (length piece)) _ q) in
    settle_fits s N l.map p (s.taken + length piece) (length piece + length s.held) (run (kit.machine s.config.kind) (resume kit s) piece) (feed_room s N l.map p piece) (omega (arith, N.holds.few))
accepted_fits s e (finish l) p q =
    let N = is_native s e in
    settle_fits s N l.map p s.taken (length s.held) (finish_run (kit.machine s.config.kind) (resume kit s)) (end_room s N l.map p) (omega (arith, N.holds.few))

gate_fits : (s : Session Columns) (x : Call) (f e m a : Bool) → foreign kit s ≡ f → map_bad (lent_of x).map ≡ m → argument_bad s.taken x ≡ a
    → Fits (respond kit (gate f e m a) s x).emits
gate_fits s x true e m a p q r = fits_none
gate_fits s x false true m a p q r = fits_none
gate_fits s x false false true a p q r = fits_none
gate_fits s x false false false true p q r = fits_none
gate_fits s x false false false false p q r = accepted_fits s p x q r

pub answer_fits : (s : Session Columns) (x : Call) → Fits (answer kit s x).emits
answer_fits s x = gate_fits s x (foreign kit s) s.ended (map_bad (lent_of x).map) (argument_bad s.taken x) refl refl refl
