-- The refusals, the session that is opened, and the numbers that are told.
use mathlib.Core.Path.{◌≡◌, refl, sym, ap, subst, ◌∙◌}
use mathlib.Core.Bool.{Bool, true, false, not, cond, ◌||◌}
use mathlib.Core.List.{List, [], ◌∷◌}
use Prim.Native.Nat.{ℕ, ◌≤◌}
use native.Mathlib.Omega.{arith}
use lib.Dec.{leb}
use lib.ListN.{length, set}
use borrow.Author.Tests.{ne_eqb, leb-true}
use Rattle.spec_base.specs.base.Limits.{most_taken}
use Rattle.spec_base.specs.base.Refusal.{◌or_else◌, fault_unless, unless_refused}
use Rattle.spec_base.specs.base.Put.{put}
use Rattle.spec_base.proofs.base.RefusalLaws.{else_none, else_found, else_zero, held}
use Rattle.spec_base.proofs.base.PutLaws.{put_nil, sets_put}
use Rattle.spec_time.specs.caption_time.Kind.{kind_bad}
use Rattle.spec_time.specs.caption_time.Convert.{timescale_bad}
use Rattle.spec_map.specs.segment.Segment.{map_bad}
use Rattle.spec_caption.specs.declared.caption_fate.Config.{Config}
use Rattle.spec_caption.specs.caption_fate.Emit.{Emit, output_of, warnings_of, places_of}
use Rattle.spec_ass.specs.declared.ass_columns.Columns.{Columns}
use Rattle.spec_machine.specs.declared.session_counts.Counts.{Counts}
use Rattle.spec_machine.specs.session_counts.Session.{gate, open_by, fresh}
use Rattle.spec_machine.specs.session_counts.Session as model
use Rattle.spec_machine.proofs.session_counts.Counted.{counted_by}
use Rattle.spec_machine.proofs.session_counts.Numbers.{Opened, opened, opens_fresh}
use Rattle.spec_machine.specs.kinds.Kit.{kit}
use Rattle.spec_session.specs.declared.session_state.Session.{Session}
use Rattle.spec_session.specs.session_state.View.{stored}
use Rattle.spec_session.specs.declared.session.Opened as opening
use Rattle.spec_session.specs.session.SessionCalls.{open_of, OpenAnswered}
use Rattle.promise.specs.Plain.{plain_read}
use Rattle.promise.specs.Promise.{config_of}
use Rattle.spec_runs.specs.declared.one_call.Ran.{Ran}
use Rattle.spec_runs.specs.one_call.Text.{output_for, places_for, lengths_fault, refused_with, emits_for, text_number, told_of, Retimed}
use Rattle.spec_runs.specs.one_call.Ran.{Ready, RanText, tells_of}

-- ---- seven numbers stored
pub seven_stored : (l : List ℕ) (a b c d e f g : ℕ) → 7 ≤ length l
    → set (set (set (set (set (set (set l 0 a) 1 b) 2 c) 3 d) 4 e) 5 f) 6 g ≡ put (a ∷ b ∷ c ∷ d ∷ e ∷ f ∷ g ∷ []) l
seven_stored l a b c d e f g h = sets_put (a ∷ b ∷ c ∷ d ∷ e ∷ f ∷ g ∷ []) l h

-- ---- the lengths
pub record Enough (n o w t : ℕ) : Type 0 where
  pub short : n ≤ most_taken
  pub output : output_for n ≤ o
  pub places : places_for n ≤ w
  pub told : 7 ≤ t

pub lengths_enough : (n o w t : ℕ) → lengths_fault n o w t ≡ 0 → Enough n o w t
unfolding lengths_fault
lengths_enough n o w t e =
    let a = else_zero (fault_unless (leb n most_taken) 16) _ e in
    let b = else_zero (fault_unless (leb (output_for n) o) 16) _ a.1 in
    let c = else_zero (fault_unless (leb (places_for n) w) 16) _ b.1 in
    record {
      short = leb-true n most_taken (held _ 16 (λ z. omega arith) a.0);
      output = leb-true (output_for n) o (held _ 16 (λ z. omega arith) b.0);
      places = leb-true (places_for n) w (held _ 16 (λ z. omega arith) c.0);
      told = leb-true 7 t (held _ 16 (λ z. omega arith) c.1);
    }

-- ---- the refusals: open's, then those of the lengths
by_tests : (kind T l : ℕ) (a b k : Bool)
    → (fault_unless (not a) 15 or_else fault_unless (not b) 15 or_else fault_unless (not k) 16 or_else l) ≡ (open_by kit (gate false false (a || b) k) (config_of kind T)).number or_else l
unfolding fault_unless ◌or_else◌
by_tests kind T l true b k = refl
by_tests kind T l false true k = refl
by_tests kind T l false false true = refl
by_tests kind T l false false false = refl

-- ---- the session that open returned with 0 has the kind and the timescale that it was given
module _ (kind T : ℕ) (m : List ℕ) (o : opening.Opened) (a : OpenAnswered kind T m o) (z : o.number ≡ 0) where
  well : Opened (config_of kind T) m
  unfolding open_of
  well = opened kit (config_of kind T) m (sym a.number ∙ z)

  session_is : (open_of kind T m).session ≡ fresh kit (config_of kind T)
  unfolding open_of
  session_is = ap (λ (x : model.Answer Columns). x.session) (opens_fresh kit (config_of kind T) m well)

  fresh_config : (stored (fresh kit (config_of kind T))).config ≡ config_of kind T
  unfolding stored
  fresh_config = refl

  pub config_of_lem : o.session.config ≡ config_of kind T
  config_of_lem = ap (λ (s : Session). s.config) (a.session ∙ ap stored session_is) ∙ fresh_config

module _ (kind T : ℕ) (m text out places told : List ℕ) where
  abbrev short : ℕ
  short = lengths_fault (length text) (length out) (length places) (length told)

  abbrev refusal : ℕ
  refusal = refused_with kind T m (length text) (length out) (length places) (length told)

  refused_is : refusal ≡ (open_of kind T m).number or_else short
  unfolding refused_with open_of
  refused_is = by_tests kind T short (timescale_bad T) (map_bad m) (kind_bad kind)

  -- refused, nothing is written
  none_put : (v l : List ℕ) → (refusal ≡ 0 → ⊥) → l ≡ put (unless_refused refusal v) l
  none_put v l h = sym (ap (λ (b : Bool). put (cond b v []) l) (ne_eqb refusal 0 h) ∙ put_nil l)

  refused_with_lem : (k : ℕ) → k ≡ refusal → (k ≡ 0 → ⊥) → Retimed kind T m text out out places places told told k
  unfolding text_number
  refused_with_lem k e h =
      let z : refusal ≡ 0 → ⊥ = λ q. h (e ∙ q) in
      record {
        answer = e ∙ sym (else_found refusal _ z);
        written = none_put _ out z;
        warned = none_put _ places z;
        tells = none_put _ told z;
      }

  module _ (o : opening.Opened) (a : OpenAnswered kind T m o) where
    pub open_refused : (o.number ≡ 0 → ⊥) → Retimed kind T m text out out places places told told o.number
    open_refused h = refused_with_lem o.number (sym (refused_is ∙ else_found (open_of kind T m).number short (λ q. h (a.number ∙ q)) ∙ sym a.number)) h

    module _ (z : o.number ≡ 0) where
      opens : (open_of kind T m).number ≡ 0
      opens = sym a.number ∙ z

      short_is : refusal ≡ short
      short_is = refused_is ∙ else_none short opens

      pub lengths_refused : (k : ℕ) → k ≡ short → (k ≡ 0 → ⊥) → Retimed kind T m text out out places places told told k
      lengths_refused k e h = refused_with_lem k (e ∙ sym short_is) h

      pub is_ready : (k : ℕ) → k ≡ short → k ≡ 0 → Ready o.session m (length text) (length out) (length places)
      is_ready k e h =
          let E = lengths_enough (length text) (length out) (length places) (length told) (sym e ∙ h) in
          let c = config_of_lem kind T m o a z in
          record {
            opens = ap (λ (x : Config). (open_of x.kind x.timescale m).number) c ∙ opens;
            session = a.session ∙ sym (ap (λ (x : Config). stored (open_of x.kind x.timescale m).session) c);
            short = E.short;
            output = E.output;
            placed = E.places;
          }

      pub told_fits : (k : ℕ) → k ≡ short → k ≡ 0 → 7 ≤ length told
      told_fits k e h = (lengths_enough (length text) (length out) (length places) (length told) (sym e ∙ h)).told

      -- ---- done
      module _ (k : ℕ) (e : k ≡ short) (h : k ≡ 0) (r : Ran) (out' places' : List ℕ) (ran : RanText o.session.config m text r out out' places places') where
        N : refusal ≡ 0
        N = short_is ∙ sym e ∙ h

        P : RanText (config_of kind T) m text r out out' places places'
        P = subst (λ (c : Config). RanText c m text r out out' places places') (config_of_lem kind T m o a z) ran

        abbrev es : List Emit
        es = emits_for kind T m text

        put_done : (v l : List ℕ) → put v l ≡ put (unless_refused refusal v) l
        put_done v l = sym (ap (λ (x : ℕ). put (unless_refused x v) l) N)

        tells_are : (n : ℕ) → tells_of r n ≡ told_of es n
        unfolding told_of
        tells_are n =
            let c = P.counts in
            let b = counted_by es in
            λ i. P.written i ∷ P.warned i ∷ (ap (λ (x : Counts). x.shifted) c ∙ b.shifted_are) i ∷ (ap (λ (x : Counts). x.clipped) c ∙ b.clipped_are) i
            ∷ (ap (λ (x : Counts). x.dropped) c ∙ b.dropped_are) i ∷ (ap (λ (x : Counts). x.passed) c ∙ b.passed_are) i ∷ n ∷ []

        pub text_done : (told' : List ℕ) → told' ≡ put (tells_of r (length text)) told → Retimed kind T m text out out' places places' told told' r.number
        unfolding text_number
        text_done told' q =
            record {
              answer = P.number ∙ sym (else_none (plain_read kind true text).fault N);
              written = P.output ∙ put_done (output_of es) out;
              warned = P.warnings ∙ put_done (places_of (warnings_of es)) places;
              tells = q ∙ ap (λ (v : List ℕ). put v told) (tells_are (length text)) ∙ put_done (told_of es (length text)) told;
            }
