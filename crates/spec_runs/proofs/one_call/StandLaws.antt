-- Where the pieces of a text have led: the session is that of the text so far (`Led`), and what it says stands in the output and the places (`Stands`).
use mathlib.Core.Path.{◌≡◌, refl, sym, ap, subst, ◌∙◌}
use mathlib.Core.Logic.{inl}
use mathlib.Core.Bool.{Bool, true, false, not}
use mathlib.Core.List.{List, [], ◌++◌}
use Prim.Native.Nat.{ℕ, ◌+◌, ◌*◌, ◌≤◌}
use native.Mathlib.Omega.{arith}
use lib.Dec.{eqb}
use lib.ListN.{length}
use borrow.Author.Tests.{le-leb}
use Rattle.spec_base.specs.base.Limits.{most_piece, most_taken, least_output, least_places}
use Rattle.spec_base.specs.base.Refusal.{◌or_else◌, fault_unless}
use Rattle.spec_base.specs.base.Put.{put}
use Rattle.spec_caption.specs.declared.caption_fate.Config.{Config}
use Rattle.spec_caption.specs.caption_fate.Says.{Part}
use Rattle.spec_caption.specs.caption_fate.Emit.{Emit, output_of, warnings_of, places_of}
use Rattle.spec_ass.specs.declared.ass_columns.Columns.{Columns}
use Rattle.spec_machine.specs.session_counts.Counts.{counts_of}
use Rattle.spec_machine.specs.session_counts.Reader.{Reading, reading, read_text}
use Rattle.spec_machine.specs.session_counts.Session.{config_bad, Call, lent_of, emitted, answer, fresh, open_session}
use Rattle.spec_machine.specs.session_counts.Session as model
use Rattle.spec_machine.specs.session_counts.Calls.{Reader, ReaderAnswer, new_reader, reader_refusal, reader_accepts, reader_by, reader_answer}
use Rattle.spec_machine.proofs.session_counts.Laws.{Lawful}
use Rattle.spec_machine.proofs.session_counts.Lists.{Inv, Kept, keeps, at_last, starts}
use Rattle.spec_machine.proofs.session_counts.Numbers.{Opened, opened, opened_config, opens_fresh}
use Rattle.spec_machine.proofs.session_counts.Wholly.{fault_whole, alive}
use Rattle.spec_machine.specs.kinds.Kit.{kit}
use Rattle.spec_machine.proofs.kinds.KindLaws.{lawful}
use Rattle.spec_machine.proofs.kinds.Fits.{text_fits}
use Rattle.spec_session.specs.declared.session_state.Session.{Session}
use Rattle.spec_session.specs.session_state.View.{view, stored}
use Rattle.spec_session.specs.session_lines.Done.{Wrote}
use Rattle.spec_session.specs.declared.session.Fed.{Fed}
use Rattle.spec_session.specs.declared.session.Opened as opening
use Rattle.spec_session.specs.session.SessionCalls.{feed_call, finish_call, answer_of, open_of, Answered, OpenAnswered}
use Rattle.spec_session.proofs.session.StandLaws.{lent, back, wrote_more}
use Rattle.promise.specs.Plain.{plain_read}
use Rattle.promise.specs.Promise.{config_of}
use Rattle.promise.proofs.PlainText.{said_plain}
use Rattle.promise.proofs.TheDemand.{open_view, open_whole}
use Rattle.promise.proofs.RunLaws.{Whole, next_whole, next_view}

module _ (c : Config) (m : List ℕ) (op : Opened c m) where
  abbrev L : Lawful kit c.kind
  L = lawful c.kind op.kind_known

  abbrev ok : config_bad c ≡ false
  ok = opened_config c m op

  abbrev pub R : Bool → List ℕ → Reading
  R f t = read_text (kit.machine c.kind) f t

  abbrev before : List ℕ → Reader
  before t = record { text = t; finished = false; ended = false }

  -- the session has taken the text t, which says these parts
  pub record Led (t : List ℕ) (s : Session) (parts : List Part) : Type 0 where
    pub inv : Inv kit c m L ok (view s) parts (before t)
    pub whole : Whole s

  -- and what t says stands in the output and the places
  pub record Stands (t : List ℕ) (s : Session) (o w : ℕ) (out₀ out places₀ places : List ℕ) : Type 0 where
    pub parts : List Part
    pub led : Led t s parts
    pub wrote : Wrote c m parts o w out₀ out places₀ places

  -- what the text so far has written and warned of
  pub stands_room : (t : List ℕ) (s : Session) (o w : ℕ) (out₀ out places₀ places : List ℕ) → Stands t s o w out₀ out places₀ places
      → (o ≤ 3 * length t) × (3 * w ≤ length t)
  stands_room t s o w out₀ out places₀ places S =
      let D = S.led in
      let a = alive kit c m L ok (view s) S.parts (before t) D.inv refl in
      let f = text_fits c (record { kind_known = op.kind_known; timescale_good = op.timescale_good }) m op.map_good t a.state a.lines a.line S.parts a.ran in
      (omega (arith, f.out, S.wrote.written), omega (arith, f.places, S.wrote.warned))

  -- the text has ended: what is read of it, and the session's counts
  pub record Over (text : List ℕ) (number : ℕ) (s : Session) (parts : List Part) : Type 0 where
    pub is : R true text ≡ reading number parts
    pub counts : s.counts ≡ counts_of (emitted c m parts)

  module _ (t : List ℕ) (s : Session) (ps : List Part) (D : Led t s ps) where
    -- ---- one call
    pub kept : (x : Call) → (lent_of x).map ≡ m → Kept kit c m L ok (answer kit (view s) x) ps (reader_answer R (before t) x)
    kept x p = keeps kit c m L ok (view s) ps (before t) D.inv x (inl p)

    -- the parts behind it
    abbrev pub parts_behind : (x : Call) → (lent_of x).map ≡ m → List Part
    parts_behind x p = ps ++ (kept x p).new

    module _ (x : Call) (p : (lent_of x).map ≡ m) (r : Fed) (u y v z : List ℕ) (a : Answered s x r u y v z) where
      emits_new : (answer_of s x).emits ≡ emitted c m (kept x p).new
      unfolding answer_of
      emits_new = (kept x p).emits

      number_is : r.number ≡ (reader_answer R (before t) x).number
      unfolding answer_of
      number_is = a.number ∙ (kept x p).number

      inv_next : Inv kit c m L ok (view r.session) (parts_behind x p) (reader_answer R (before t) x).reader
      inv_next =
          subst (λ (b : model.Session Columns). Inv kit c m L ok b (parts_behind x p) (reader_answer R (before t) x).reader)
          (sym (ap view a.session ∙ next_view s D.whole x)) (kept x p).inv

      still_whole : Whole r.session
      still_whole = subst Whole (sym a.session) (next_whole s D.whole x)

      -- what it wrote
      pub wrote_new : Wrote c m (kept x p).new r.written r.warned u y v z
      wrote_new =
          record {
            written = a.written ∙ ap (λ (es : List Emit). length (output_of es)) emits_new;
            warned = a.warned ∙ ap (λ (es : List Emit). length (places_of (warnings_of es))) emits_new;
            text = a.text ∙ ap (λ (es : List Emit). put (output_of es) u) emits_new;
            warnings = a.warnings ∙ ap (λ (es : List Emit). put (places_of (warnings_of es)) v) emits_new;
          }

    -- ---- a piece
    module _ (piece : List ℕ) (short : length piece ≤ 1024) (few : length t + length piece ≤ most_taken) (o w : ℕ) (oo : least_output ≤ o) (ww : least_places ≤ w)
        (r : Fed) (u y v z : List ℕ) (a : Answered s (feed_call m piece o w) r u y v z) where
      abbrev X : Call
      X = feed_call m piece o w

      fed_none : reader_refusal (before t) X ≡ 0
      unfolding reader_refusal fault_unless ◌or_else◌
      fed_none =
          rw (op.map_good, le-leb (length piece) most_piece short, le-leb least_output o oo, le-leb least_places w ww, le-leb (length t + length piece) most_taken few)

      fed_heard : reader_answer R (before t) X ≡ reader_accepts R (before t) X
      fed_heard = ap (λ (k : ℕ). reader_by R k (before t) X) fed_none

      fed_number : r.number ≡ (R false (t ++ piece)).fault
      fed_number = number_is X refl r u y v z a ∙ ap (λ (h : ReaderAnswer). h.number) fed_heard

      fed_inv : Inv kit c m L ok (view r.session) (parts_behind X refl) (record { text = t ++ piece; finished = false; ended = not (eqb r.number 0) })
      fed_inv =
          subst (λ (k : ℕ). Inv kit c m L ok (view r.session) (parts_behind X refl) (record { text = t ++ piece; finished = false; ended = not (eqb k 0) })) (sym fed_number)
          (subst (λ (h : ReaderAnswer). Inv kit c m L ok (view r.session) (parts_behind X refl) h.reader) fed_heard (inv_next X refl r u y v z a))

      -- the text goes on
      pub led_turn : r.number ≡ 0 → Led (t ++ piece) r.session (parts_behind X refl)
      led_turn e =
          record {
            inv =
                subst (λ (k : ℕ). Inv kit c m L ok (view r.session) (parts_behind X refl) (record { text = t ++ piece; finished = false; ended = not (eqb k 0) })) e fed_inv;
            whole = still_whole X refl r u y v z a;
          }

      -- a fault: it is the whole text's, whatever comes behind the piece
      pub led_fault : (rest : List ℕ) → (r.number ≡ 0 → ⊥) → Over ((t ++ piece) ++ rest) r.number r.session (parts_behind X refl)
      led_fault rest f =
          let l = at_last kit c m L ok (view r.session) (parts_behind X refl) (record { text = t ++ piece; finished = false; ended = not (eqb r.number 0) }) fed_inv in
          let k : r.number ≡ r.session.outcome = fed_number ∙ ap (λ (h : Reading). h.fault) l.is in
          let q : R false (t ++ piece) ≡ reading r.number (parts_behind X refl) = l.is ∙ ap (λ (n : ℕ). reading n (parts_behind X refl)) (sym k) in
          record { is = fault_whole (kit.machine c.kind) (t ++ piece) rest r.number (parts_behind X refl) q f; counts = l.counts }

    -- ---- the finish
    module _ (few : length t ≤ most_taken) (o w : ℕ) (oo : least_output ≤ o) (ww : least_places ≤ w) (r : Fed) (u y v z : List ℕ) (a : Answered s (finish_call m o w) r u y v z) where
      abbrev Y : Call
      Y = finish_call m o w

      end_none : reader_refusal (before t) Y ≡ 0
      unfolding reader_refusal fault_unless ◌or_else◌
      end_none =
          let f : length t + 0 ≤ most_taken = omega arith in
          rw (op.map_good, le-leb least_output o oo, le-leb least_places w ww, le-leb (length t + 0) most_taken f)

      end_heard : reader_answer R (before t) Y ≡ reader_accepts R (before t) Y
      end_heard = ap (λ (k : ℕ). reader_by R k (before t) Y) end_none

      end_number : r.number ≡ (R true t).fault
      end_number = number_is Y refl r u y v z a ∙ ap (λ (h : ReaderAnswer). h.number) end_heard

      end_inv : Inv kit c m L ok (view r.session) (parts_behind Y refl) (record { text = t; finished = true; ended = true })
      end_inv = subst (λ (h : ReaderAnswer). Inv kit c m L ok (view r.session) (parts_behind Y refl) h.reader) end_heard (inv_next Y refl r u y v z a)

      pub led_end : Over t r.number r.session (parts_behind Y refl)
      led_end =
          let l = at_last kit c m L ok (view r.session) (parts_behind Y refl) (record { text = t; finished = true; ended = true }) end_inv in
          let k : r.number ≡ r.session.outcome = end_number ∙ ap (λ (h : Reading). h.fault) l.is in
          record { is = l.is ∙ ap (λ (n : ℕ). reading n (parts_behind Y refl)) (sym k); counts = l.counts }

  -- what a call wrote stands behind what stood there
  module _ (t : List ℕ) (s : Session) (o w : ℕ) (out₀ out places₀ places : List ℕ) (S : Stands t s o w out₀ out places₀ places) (x : Call) (p : (lent_of x).map ≡ m) where
    pub wrote_behind : (r : Fed) (y z : List ℕ) → Answered s x r (lent o out) y (lent w places) z
        → Wrote c m (parts_behind t s S.parts S.led x p) (o + r.written) (w + r.warned) out₀ (back o out y) places₀ (back w places z)
    wrote_behind r y z a =
        wrote_more c m S.parts (kept t s S.parts S.led x p).new o w r.written r.warned out₀ places₀ out places y z S.wrote
        (wrote_new t s S.parts S.led x p r (lent o out) y (lent w places) z a)

-- ---- the start: the session that open returned with 0
module _ (s : Session) (m : List ℕ) (e : (open_of s.config.kind s.config.timescale m).number ≡ 0) (h : s ≡ stored (open_of s.config.kind s.config.timescale m).session) where
  abbrev pub own : Config
  own = config_of s.config.kind s.config.timescale

  abbrev O : opening.Opened
  O = record { number = (open_of s.config.kind s.config.timescale m).number; session = s }

  answered : OpenAnswered s.config.kind s.config.timescale m O
  answered = record { number = refl; session = h }

  number_zero : (open_session kit own m).number ≡ 0
  unfolding open_of
  number_zero = e

  pub opens_well : Opened own m
  opens_well = opened kit own m number_zero

  pub is_fresh : view s ≡ fresh kit own
  is_fresh =
      open_view s.config.kind s.config.timescale m O answered
      ∙ ap (λ (a : model.Answer Columns). a.session) (opens_fresh kit own m opens_well)

  pub led_start : Led own m opens_well [] s []
  led_start =
      let k = lawful s.config.kind opens_well.kind_known in
      let g = opened_config own m opens_well in
      record {
        inv = subst (λ (v : model.Session Columns). Inv kit own m k g v [] new_reader) (sym is_fresh) (starts kit own m k g);
        whole = open_whole s.config.kind s.config.timescale m O answered;
      }

-- ---- what is read is the plain reader's
pub over_plain : (c : Config) (m : List ℕ) (op : Opened c m) (text : List ℕ) (k : ℕ) (s : Session) (parts : List Part) → Over c m op text k s parts
    → plain_read c.kind true text ≡ reading k parts
over_plain c m op text k s parts v = sym (said_plain c.kind op.kind_known true text) ∙ v.is
