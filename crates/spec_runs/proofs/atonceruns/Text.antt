-- DEMAND 3 of a whole text at once, proved: `text_promise` through every map that open accepts, `text_fed` beside every list of calls.
use mathlib.Core.Path.{◌≡◌, refl, sym, ap, ap₂, ◌∙◌}
use mathlib.Core.Bool.{Bool, true, not}
use mathlib.Core.List.{List}
use Prim.Native.Nat.{ℕ, ◌+◌}
use native.Mathlib.Omega.{arith}
use lib.ListN.{length, take, get_or}
use borrow.Author.Tests.{not-true}
use Rattle.spec_base.specs.base.Refusal.{fault_unless, unless_refused}
use Rattle.spec_base.specs.base.Put.{put}
use Rattle.spec_base.proofs.base.RefusalLaws.{else_none, else_zero, held}
use Rattle.spec_time.specs.caption_time.Kind.{kind_bad}
use Rattle.spec_time.specs.caption_time.Convert.{timescale_bad}
use Rattle.spec_time.proofs.caption_time.Limits.{units_low, timescale_low}
use Rattle.spec_map.specs.segment.Segment.{segments_of, map_bad}
use Rattle.spec_caption.specs.caption_fate.Says.{captions_in}
use Rattle.spec_caption.specs.caption_fate.Emit.{Emit, output_of, warnings_of, places_of}
use Rattle.spec_machine.specs.session_counts.Counts.{total, counts_of, CountedBy, how_many, was_shifted, was_clipped, was_dropped, was_passed}
use Rattle.spec_machine.specs.session_counts.Reader.{Reading}
use Rattle.spec_machine.specs.session_counts.Session.{emitted}
use Rattle.spec_machine.specs.session_counts.Calls.{reading_of}
use Rattle.spec_machine.proofs.session_counts.Emits.{total_parts}
use Rattle.spec_machine.proofs.session_counts.Counted.{counted_by}
use Rattle.spec_machine.proofs.session_counts.Numbers.{Opened}
use Rattle.promise.specs.Plain.{plain_read}
use Rattle.promise.specs.Demand.{passings, heard}
use Rattle.promise.specs.Promise.{config_of}
use Rattle.promise.specs.Runs.{warnings_in}
use Rattle.promise.proofs.AgainLaws.{text_again}
use Rattle.promise.proofs.PartLaws.{all_right, passed_warnings}
use Rattle.promise.proofs.RunLaws.{front, warnings_back}
use Rattle.spec_runs.specs.one_call.Text.{refused_with, emits_for, text_number, told_of, Retimed}
use Rattle.spec_runs.specs.atonceruns.Claims.{said_of, put_through, TextHolds, TextPromise, TextFed}

-- what is not refused has a good timescale, a good map and a known kind
pub good_of : (kind T : ℕ) (m : List ℕ) (n o w t : ℕ) → refused_with kind T m n o w t ≡ 0 → Opened (config_of kind T) m
unfolding refused_with
good_of kind T m n o w t e =
    let a = else_zero (fault_unless (not (timescale_bad T)) 15) _ e in
    let b = else_zero (fault_unless (not (map_bad m)) 15) _ a.1 in
    let c = else_zero (fault_unless (not (kind_bad kind)) 16) _ b.1 in
    record {
      timescale_good = not-true (timescale_bad T) (held _ 15 (λ z. omega arith) a.0);
      map_good = not-true (map_bad m) (held _ 15 (λ z. omega arith) b.0);
      kind_known = not-true (kind_bad kind) (held _ 16 (λ z. omega arith) c.0);
    }

module _ (kind T : ℕ) (m text out out' places places' told told' : List ℕ) (number : ℕ) (a : Retimed kind T m text out out' places places' told told' number)
    (z : refused_with kind T m (length text) (length out) (length places) (length told) ≡ 0) where
  abbrev es : List Emit
  es = put_through kind T m text

  emits_are : emits_for kind T m text ≡ es
  unfolding emits_for
  emits_are = refl

  done : (v : List Emit → List ℕ) (l : List ℕ) → put (unless_refused (refused_with kind T m (length text) (length out) (length places) (length told)) (v (emits_for kind T m text))) l ≡ put (v es) l
  done v l = ap₂ (λ (k : ℕ) (x : List Emit). put (unless_refused k (v x)) l) z emits_are

  tells : told' ≡ put (told_of es (length text)) told
  tells = a.tells ∙ done (λ x. told_of x (length text)) told

  told_are : (get_or told' 0 0 ≡ length (output_of es)) × (get_or told' 1 0 ≡ length (places_of (warnings_of es))) × (get_or told' 2 0 ≡ how_many was_shifted es)
      × (get_or told' 3 0 ≡ how_many was_clipped es) × (get_or told' 4 0 ≡ how_many was_dropped es) × (get_or told' 5 0 ≡ how_many was_passed es) × (get_or told' 6 0 ≡ length text)
  unfolding told_of put
  told_are = (
    ap (λ (l : List ℕ). get_or l 0 0) tells,
    ap (λ (l : List ℕ). get_or l 1 0) tells,
    ap (λ (l : List ℕ). get_or l 2 0) tells,
    ap (λ (l : List ℕ). get_or l 3 0) tells,
    ap (λ (l : List ℕ). get_or l 4 0) tells,
    ap (λ (l : List ℕ). get_or l 5 0) tells,
    ap (λ (l : List ℕ). get_or l 6 0) tells,
  )

  output_is : take (get_or told' 0 0) out' ≡ output_of es
  output_is = front (output_of es) out out' (get_or told' 0 0) told_are.0 (a.written ∙ done output_of out)

  warnings_are : warnings_in (take (get_or told' 1 0) places') ≡ warnings_of es
  warnings_are =
      ap warnings_in (front (places_of (warnings_of es)) places places' (get_or told' 1 0) told_are.1 (a.warned ∙ done (λ x. places_of (warnings_of x)) places))
      ∙ warnings_back (warnings_of es)

  number_is : number ≡ (plain_read kind true text).fault
  unfolding text_number
  number_is = a.answer ∙ else_none (plain_read kind true text).fault z

  all_counted : captions_in (said_of kind T m text) ≡ get_or told' 2 0 + get_or told' 3 0 + get_or told' 4 0 + get_or told' 5 0
  all_counted =
      let b = counted_by es in
      let t : total (counts_of es) ≡ captions_in (said_of kind T m text) = total_parts (config_of kind T) (segments_of m) (said_of kind T m text) in
      omega (arith, t, b.shifted_are, b.clipped_are, b.dropped_are, b.passed_are, told_are.2, told_are.3, told_are.4, told_are.5)

  passed_is : get_or told' 5 0 ≡ passings (warnings_in (take (get_or told' 1 0) places'))
  passed_is =
      told_are.5 ∙ sym (counted_by es).passed_are ∙ passed_warnings (config_of kind T) (segments_of m) (said_of kind T m text) ∙ ap passings (sym warnings_are)

  holds : TextHolds kind T m text number out' places' told'
  holds =
      let g = good_of kind T m (length text) (length out) (length places) (length told) z in
      record {
        number_is = number_is;
        output = output_is;
        warnings = warnings_are;
        shifted = told_are.2;
        clipped = told_are.3;
        dropped = told_are.4;
        passed = told_are.5;
        sum = all_counted;
        passings_are = passed_is;
        taken = told_are.6;
        fates = all_right (config_of kind T) (segments_of m) (timescale_low T g.timescale_good) (omega (arith, units_low kind g.kind_known)) (said_of kind T m text);
        again = text_again true text kind g.kind_known;
      }

pub text_promise : TextPromise
text_promise kind T m text out out' places places' told told' number a z = holds kind T m text out out' places places' told told' number a z

-- ---- a list of calls that takes the same text
pub text_fed : TextFed
text_fed kind T m text out places told number h xs p d t f =
    let c = config_of kind T in
    let r : Reading = reading_of (plain_read kind) (heard c xs).reader in
    let e : r ≡ plain_read kind true text = ap₂ (λ (b : Bool) (x : List ℕ). plain_read kind b x) f t in
    let q : emitted c m r.parts ≡ put_through kind T m text = ap (λ (x : Reading). emitted c m x.parts) e in
    let n : CountedBy (emitted c m r.parts) p.session.counts = d.counted in
    record {
      output = d.same.output ∙ ap output_of q ∙ sym h.output;
      warnings = d.same.warnings ∙ ap warnings_of q ∙ sym h.warnings;
      outcome = d.same.outcome ∙ ap (λ (x : Reading). x.fault) e ∙ sym h.number_is;
      shifted = n.shifted_are ∙ ap (how_many was_shifted) q ∙ sym h.shifted;
      clipped = n.clipped_are ∙ ap (how_many was_clipped) q ∙ sym h.clipped;
      dropped = n.dropped_are ∙ ap (how_many was_dropped) q ∙ sym h.dropped;
      passed = n.passed_are ∙ ap (how_many was_passed) q ∙ sym h.passed;
    }
