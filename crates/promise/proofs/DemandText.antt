-- Demand 3: for every configuration and map that open accepts, and for every list of calls that are lent the map or one that 15 refuses.
use mathlib.Core.Path.{◌≡◌, sym, ap, subst, ◌∙◌}
use mathlib.Core.Bool.{Bool}
use mathlib.Core.List.{List}
use Prim.Native.Nat.{ℕ}
use native.Mathlib.Omega.{arith}
use Rattle.spec_time.proofs.caption_time.Limits.{units_low, timescale_low}
use Rattle.spec_map.specs.segment.Segment.{segments_of}
use Rattle.spec_caption.specs.declared.caption_fate.Config.{Config}
use Rattle.spec_ass.specs.declared.ass_columns.Columns.{Columns}
use Rattle.spec_machine.specs.declared.session_counts.Counts.{Counts}
use Rattle.spec_machine.specs.session_counts.Counts.{total, CountedBy}
use Rattle.spec_machine.specs.session_counts.Reader.{Reading}
use Rattle.spec_machine.specs.session_counts.Session.{Session, Answer, Call, open_session, fresh}
use Rattle.spec_machine.specs.session_counts.Calls.{play, Proper, new_reader, hear, emits_in, SameAsReader}
use Rattle.spec_machine.proofs.session_counts.Emits.{total_parts}
use Rattle.spec_machine.proofs.session_counts.Counted.{counted_by}
use Rattle.spec_machine.proofs.session_counts.Lists.{same_as_reader}
use Rattle.spec_machine.proofs.session_counts.Numbers.{Opened, opened, opens_fresh, opened_config}
use Rattle.spec_machine.proofs.session_counts.Refine.{Returned, Trace, traced, trace_plays}
use Rattle.spec_machine.specs.kinds.Kit.{kit, said}
use Rattle.promise.specs.Plain.{plain_read}
use Rattle.promise.specs.Demand.{passings, heard, said_in, played, Demand}
use Rattle.spec_machine.proofs.kinds.KindLaws.{lawful}
use Rattle.promise.proofs.PlainText.{said_plain}
use Rattle.promise.proofs.AgainLaws.{text_again}
use Rattle.promise.proofs.PartLaws.{all_right, passed_warnings}

-- from a fresh session the plain reader's answers
module _ (c : Config) (m : List ℕ) (o : Opened c m) where
  pub read_same : ◌≡◌ {A = Bool → List ℕ → Reading} (λ f t. said c.kind f t) (λ f t. plain_read c.kind f t)
  read_same = λ i f t. said_plain c.kind o.kind_known f t i

  fresh_same : (xs : List Call) → Proper m xs
      → SameAsReader (λ f t. plain_read c.kind f t) c m (play kit (fresh kit c) xs) (hear (λ f t. plain_read c.kind f t) new_reader xs)
  fresh_same xs p =
      subst (λ (r : Bool → List ℕ → Reading). SameAsReader r c m (play kit (fresh kit c) xs) (hear r new_reader xs)) read_same
      (same_as_reader kit c m (lawful c.kind o.kind_known) (opened_config c m o) xs p)

  fresh_demand : (xs : List Call) → Proper m xs → Demand c m xs (play kit (fresh kit c) xs)
  fresh_demand xs p =
      let h = fresh_same xs p in
      let ps = (said_in c xs).parts in
      record {
        same = h;
        sum = sym (ap total h.counts ∙ total_parts c (segments_of m) ps);
        counted =
            let es = emits_in (plain_read c.kind) c m (heard c xs).reader in
            subst (CountedBy es) (sym h.counts) (counted_by es);
        passed =
            ap (λ (k : Counts). k.passed) h.counts ∙ passed_warnings c (segments_of m) ps
            ∙ ap passings (sym h.warnings);
        fates = all_right c (segments_of m) (timescale_low c.timescale o.timescale_good) (omega (arith, units_low c.kind o.kind_known)) ps;
        again = text_again (heard c xs).reader.finished (heard c xs).reader.text c.kind o.kind_known;
      }

-- DEMAND 3 of the model
pub demand : (c : Config) (m : List ℕ) → (open_session kit c m).number ≡ 0 → (xs : List Call) → Proper m xs → Demand c m xs (played c m xs)
demand c m z xs p =
    let o = opened kit c m z in
    subst (λ (s : Session Columns). Demand c m xs (play kit s xs)) (ap (λ (a : Answer Columns). a.session) (sym (opens_fresh kit c m o)))
    (fresh_demand c m o xs p)

-- DEMAND 3 of the code: s is the session that open answered with 0, C the sessions as the code has them, and each call's result is as its contract says
pub demand_traced : {C : Type 0} (view : C → Session Columns) (c : Config) (m : List ℕ) → (open_session kit c m).number ≡ 0
    → (s : C) → view s ≡ (open_session kit c m).session → (xs : List Call) → Proper m xs
    → (rs : List (Returned C)) → Trace kit view s xs rs → Demand c m xs (traced kit view s rs)
demand_traced view c m z s e xs p rs t =
    subst (Demand c m xs) (sym (trace_plays kit view t ∙ ap (λ (y : Session Columns). play kit y xs) e)) (demand c m z xs p)
