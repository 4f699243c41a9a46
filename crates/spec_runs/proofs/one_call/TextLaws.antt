-- A text that has been fed, and its finish.
use mathlib.Core.Path.{◌≡◌, refl, sym, ap, subst, ◌∙◌}
use mathlib.Core.Bool.{Bool, true, false, cond}
use mathlib.Core.List.{List, ◌++◌}
use Prim.Native.Nat.{ℕ, ◌+◌, ◌-◌, ◌*◌, ◌≤◌, ◌<◌}
use native.Mathlib.Omega.{arith}
use lib.Dec.{ltb}
use lib.ListN.{length, take, drop, length-take, length-drop, length-append}
use lib.Seq.{take-add, take_all}
use borrow.Author.Tests.{ltb-true, ltb-false, lt-ltb, le-ltb}
use Rattle.spec_base.specs.base.Limits.{most_taken, least_output, least_places}
use Rattle.spec_base.specs.base.Put.{put}
use Rattle.spec_base.proofs.base.PutLaws.{length_put}
use Rattle.spec_caption.specs.declared.caption_fate.Config.{Config}
use Rattle.spec_caption.specs.caption_fate.Says.{Part}
use Rattle.spec_caption.specs.caption_fate.Emit.{output_of, warnings_of, places_of}
use Rattle.spec_machine.specs.declared.session_counts.Counts.{Counts}
use Rattle.spec_machine.specs.session_counts.Counts.{counts_of}
use Rattle.spec_machine.specs.session_counts.Reader.{Reading, reading}
use Rattle.spec_machine.specs.session_counts.Session.{Call, emitted}
use Rattle.spec_machine.proofs.session_counts.Numbers.{Opened}
use Rattle.spec_machine.proofs.kinds.Fits.{answer_fits}
use Rattle.spec_session.specs.declared.session_state.Session.{Session}
use Rattle.spec_session.specs.session_state.View.{view}
use Rattle.spec_session.specs.session_lines.Done.{Wrote}
use Rattle.spec_session.specs.declared.session.Fed.{Fed}
use Rattle.spec_session.specs.session.SessionCalls.{finish_call, answer_of, Answered}
use Rattle.spec_session.proofs.session.StandLaws.{lent, back}
use Rattle.promise.specs.Plain.{plain_read}
use Rattle.promise.specs.Promise.{config_of}
use Rattle.spec_runs.specs.declared.one_call.Ran.{Ran}
use Rattle.spec_runs.specs.one_call.Text.{output_for, places_for, emits_for}
use Rattle.spec_runs.specs.one_call.Ran.{RanText}
use Rattle.spec_runs.proofs.one_call.StandLaws.{Stands, Over, stands_room, parts_behind, led_end, wrote_behind, over_plain}
use Rattle.spec_base.proofs.base.PartLaws.{rest_length}

-- the first i bytes have been fed
pub record At (c : Config) (m text : List ℕ) (i : ℕ) (s : Session) (o w : ℕ) (out₀ out places₀ places : List ℕ) : Type 0 where
  pub opens : Opened c m
  pub within : i ≤ length text
  pub short : length text ≤ most_taken
  pub output : output_for (length text) ≤ length out₀
  pub warned : places_for (length text) ≤ length places₀
  pub stands : Stands c m opens (take i text) s o w out₀ out places₀ places

-- ---- the start
abbrev pub own_of : Session → Config
own_of s = config_of s.config.kind s.config.timescale

-- ---- the text has ended
pub record Ended (c : Config) (m text : List ℕ) (number : ℕ) (s : Session) (o w : ℕ) (out₀ out places₀ places : List ℕ) : Type 0 where
  pub opens : Opened c m
  pub parts : List Part
  pub over : Over c m opens text number s parts
  pub wrote : Wrote c m parts o w out₀ out places₀ places

back_length : (a : ℕ) (l y : List ℕ) → a ≤ length l → length y ≡ length (lent a l) → length (back a l y) ≡ length l
back_length a l y h e =
    let p = length-append (take a l) (y ++ drop (length l - a) (drop a l)) in
    let q = length-append y (drop (length l - a) (drop a l)) in
    omega (arith, p, q, length-take a l, length-drop (length l - a) (drop a l), length-drop a l, rest_length a l)

-- ---- a call more
module _ (c : Config) (m text : List ℕ) (i : ℕ) (s : Session) (o w : ℕ) (out₀ out places₀ places : List ℕ) (A : At c m text i s o w out₀ out places₀ places) where
  pub few : (o ≤ 3 * length text) × (3 * w ≤ length text)
  few =
      let r = stands_room c m A.opens (take i text) s o w out₀ out places₀ places A.stands in
      let n = length-take i text in
      (omega (arith, r.0, n), omega (arith, r.1, n))

  out_long : length out ≡ length out₀
  out_long =
      let W = A.stands.wrote in
      ap length W.text ∙ length_put _ out₀ (omega (arith, W.written, few.0, A.output))

  places_long : length places ≡ length places₀
  places_long =
      let W = A.stands.wrote in
      ap length W.warnings ∙ length_put _ places₀ (omega (arith, W.warned, few.1, A.warned))

  -- enough is left for a call
  pub at_room : (o + 32768 ≤ length out) × (w + 4096 ≤ length places)
  at_room = (omega (arith, few.0, A.output, out_long), omega (arith, few.1, A.warned, places_long))

  enough : least_output ≤ length (lent o out)
  enough = omega (arith, rest_length o out, at_room.0)

  enough_places : least_places ≤ length (lent w places)
  enough_places = omega (arith, rest_length w places, at_room.1)

  -- what a call wrote fits behind what was written, and the buffers keep their lengths
  pub at_sums : (x : Call) (r : Fed) (u u' v v' : List ℕ) → Answered s x r u u' v v' → (o + r.written ≤ 4294967295) × (w + r.warned ≤ 4294967295)
  unfolding answer_of
  at_sums x r u u' v v' a =
      let f = answer_fits (view s) x in
      (omega (arith, a.written, f.out, few.0, A.short), omega (arith, a.warned, f.places, few.1, A.short))

  pub at_lengths : (x : Call) (r : Fed) (y z : List ℕ) → Answered s x r (lent o out) y (lent w places) z
      → (length (back o out y) ≡ length out₀) × (length (back w places z) ≡ length places₀)
  unfolding answer_of
  at_lengths x r y z a =
      let f = answer_fits (view s) x in
      let p : length y ≡ length (lent o out) = ap length a.text ∙ length_put _ (lent o out) (omega (arith, f.out, enough)) in
      let q : length z ≡ length (lent w places) = ap length a.warnings ∙ length_put _ (lent w places) (omega (arith, f.places, enough_places)) in
      (back_length o out y (omega (arith, at_room.0)) p ∙ out_long, back_length w places z (omega (arith, at_room.1)) q ∙ places_long)

  -- ---- the end of the text
  pub at_end_lem : length text ≤ i → (r : Fed) (y z : List ℕ) → Answered s (finish_call m (length (lent o out)) (length (lent w places))) r (lent o out) y (lent w places) z
      → Ended c m text r.number r.session (o + r.written) (w + r.warned) out₀ (back o out y) places₀ (back w places z)
  at_end_lem l r y z a =
      let x : Call = finish_call m (length (lent o out)) (length (lent w places)) in
      record {
        opens = A.opens;
        parts = parts_behind c m A.opens (take i text) s A.stands.parts A.stands.led x refl;
        over =
            subst (λ (t : List ℕ). Over c m A.opens t r.number r.session (parts_behind c m A.opens (take i text) s A.stands.parts A.stands.led x refl)) (take_all i text l)
            (led_end c m A.opens (take i text) s A.stands.parts A.stands.led (omega (arith, length-take i text, A.short)) (length (lent o out)) (length (lent w places)) enough enough_places
            r (lent o out) y (lent w places) z a);
        wrote = wrote_behind c m A.opens (take i text) s o w out₀ out places₀ places A.stands x refl r y z a;
      }

-- ---- as the code has it: the last call, then what is handed out
abbrev pub Hands : Ran → (number written warned : ℕ) → Counts → Type 0
Hands r k o w t = (r.number ≡ k) × (r.written ≡ o) × (r.warned ≡ w) × (r.counts ≡ t)

-- what is read of the text stands in the output and the places
module _ (c : Config) (m text : List ℕ) (k : ℕ) (ps : List Part) (plain : plain_read c.kind true text ≡ reading k ps) where
  abbrev own : Config
  own = config_of c.kind c.timescale

  parts_are : ps ≡ (plain_read c.kind true text).parts
  parts_are = sym (ap (λ (r : Reading). r.parts) plain)

  pub read_ran : (o w : ℕ) (out₀ out places₀ places : List ℕ) → Wrote own m ps o w out₀ out places₀ places → (t : Counts) → t ≡ counts_of (emitted own m ps)
      → (r : Ran) → Hands r k o w t → RanText c m text r out₀ out places₀ places
  unfolding emits_for
  read_ran o w out₀ out places₀ places W t n r e =
      record {
        number = e.0 ∙ sym (ap (λ (x : Reading). x.fault) plain);
        written = e.1 ∙ W.written ∙ ap (λ (x : List Part). length (output_of (emitted own m x))) parts_are;
        warned = e.2 ∙ W.warned ∙ ap (λ (x : List Part). length (places_of (warnings_of (emitted own m x)))) parts_are;
        counts = e.3 ∙ n ∙ ap (λ (x : List Part). counts_of (emitted own m x)) parts_are;
        output = W.text ∙ ap (λ (x : List Part). put (output_of (emitted own m x)) out₀) parts_are;
        warnings = W.warnings ∙ ap (λ (x : List Part). put (places_of (warnings_of (emitted own m x))) places₀) parts_are;
      }

ended_ran : (c : Config) (m text : List ℕ) (k : ℕ) (s : Session) (o w : ℕ) (out₀ out places₀ places : List ℕ)
    → Ended (config_of c.kind c.timescale) m text k s o w out₀ out places₀ places → (r : Ran) → Hands r k o w s.counts → RanText c m text r out₀ out places₀ places
ended_ran c m text k s o w out₀ out places₀ places v r e =
    read_ran c m text k v.parts (over_plain (config_of c.kind c.timescale) m v.opens text k s v.parts v.over) o w out₀ out places₀ places v.wrote s.counts v.over.counts r e

module _ (b : Session) (m text : List ℕ) (i : ℕ) (s : Session) (o w : ℕ) (out₀ out places₀ places : List ℕ) (A : At (own_of b) m text i s o w out₀ out places₀ places) where
  pub text_end : (i < length text → ⊥) → (f : Fed) (y z : List ℕ) → Answered s (finish_call m (length (lent o out)) (length (lent w places))) f (lent o out) y (lent w places) z
      → (r : Ran) → Hands r f.number (o + f.written) (w + f.warned) f.session.counts
      → RanText b.config m text r out₀ (back o out y) places₀ (back w places z)
  text_end n f y z a r q =
      ended_ran b.config m text f.number f.session (o + f.written) (w + f.warned) out₀ (back o out y) places₀ (back w places z)
      (at_end_lem (own_of b) m text i s o w out₀ out places₀ places A (omega arith) f y z a) r q
