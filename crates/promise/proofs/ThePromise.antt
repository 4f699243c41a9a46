-- DEMAND 3, proved: `promise` from the bytes of a sheet and a trim list, `promise_opened` for every map that open accepts, `promise_records` for maps
-- of records. And that nothing is lost by its words: `said_is_demand`.
use mathlib.Core.Path.{◌≡◌, refl, sym, ap, subst, ◌∙◌}
use mathlib.Core.List.{List, [], ◌∷◌, ◌++◌, map, flat_map}
use Prim.Native.Nat.{ℕ}
use Rattle.spec_map.specs.declared.segment.Segment.{Segment}
use Rattle.spec_map.specs.segment.Segment.{segments_of, flat_of}
use Rattle.spec_map.specs.segmap.Map.{map_of}
use Rattle.spec_map.proofs.segment.SegmentLaws.{flat_back}
use Rattle.spec_caption.specs.declared.caption_fate.Config.{Config}
use Rattle.spec_caption.specs.caption_fate.Emit.{Warning, Emit, output_of, warnings_of, emits_of}
use Rattle.spec_ass.specs.declared.ass_columns.Columns.{Columns}
use Rattle.spec_machine.specs.declared.session_counts.Counts.{Counts}
use Rattle.spec_machine.specs.session_counts.Counts.{counts_of, total, CountedBy}
use Rattle.spec_machine.specs.session_counts.Session as model
use Rattle.spec_machine.proofs.session_counts.Counted.{counted_by}
use Rattle.spec_session.specs.declared.session_state.Session.{Session}
use Rattle.spec_session.specs.session_state.View.{view}
use Rattle.promise.specs.Demand.{passings, reader_in, said_in, Demand}
use Rattle.promise.specs.Runs.{Made, calls_of, written_by, warned_by, last_of, outcome}
use Rattle.promise.specs.Promise.{config_of, AsSaid, PromiseOpened, PromiseRecords, Promise}
use Rattle.promise.specs.Stronger.{SaidIsDemand}
use Rattle.promise.proofs.AgainLaws.{text_again}
use Rattle.promise.proofs.OnlyEmits.{computed_right, all_right_of, right_is_computed}
use Rattle.promise.proofs.TheDemand.{demand_opened, demand_built}

-- ---- what the calls left, and joined, as `Demand` has it
numbers_left : (s : Session) (cs : List Made) → (outcome s cs).numbers ≡ map (λ x. x.result.number) cs
numbers_left s [] = refl
numbers_left s (c ∷ cs) = ap (λ (l : List ℕ). c.result.number ∷ l) (numbers_left c.result.session cs)

session_left : (s : Session) (cs : List Made) → (outcome s cs).session ≡ view (last_of s cs)
session_left s [] = refl
session_left s (c ∷ cs) = session_left c.result.session cs

output_left : (s : Session) (cs : List Made) → (outcome s cs).output ≡ flat_map written_by cs
unfolding flat_map
output_left s [] = refl
output_left s (c ∷ cs) = ap (λ (l : List ℕ). written_by c ++ l) (output_left c.result.session cs)

warnings_left_lem : (s : Session) (cs : List Made) → (outcome s cs).warnings ≡ flat_map warned_by cs
unfolding flat_map
warnings_left_lem s [] = refl
warnings_left_lem s (c ∷ cs) = ap (λ (l : List Warning). warned_by c ++ l) (warnings_left_lem c.result.session cs)

output_joined : (es : List Emit) → output_of es ≡ flat_map (λ e. e.out) es
unfolding output_of flat_map
output_joined [] = refl
output_joined (e ∷ es) = ap (λ (l : List ℕ). e.out ++ l) (output_joined es)

warnings_joined : (es : List Emit) → warnings_of es ≡ flat_map (λ e. e.warnings) es
unfolding warnings_of flat_map
warnings_joined [] = refl
warnings_joined (e ∷ es) = ap (λ (l : List Warning). e.warnings ++ l) (warnings_joined es)

-- ---- the emits that are computed are right
module _ (c : Config) (m : List ℕ) (s : Session) (cs : List Made) where
  abbrev emits : List Emit
  emits = emits_of c (segments_of m) (said_in c (calls_of cs)).parts

  counts_left : (outcome s cs).session.counts ≡ (last_of s cs).counts
  counts_left = ap (λ (x : model.Session Columns). x.counts) (session_left s cs)

  said : Demand c m (calls_of cs) (outcome s cs) → AsSaid c (segments_of m) s cs
  said d =
      record {
        numbers = sym (numbers_left s cs) ∙ d.same.numbers;
        emits = emits;
        right = computed_right c (segments_of m) (said_in c (calls_of cs)).parts d.fates;
        output = sym (output_left s cs) ∙ d.same.output ∙ output_joined emits;
        warnings = sym (warnings_left_lem s cs) ∙ d.same.warnings ∙ warnings_joined emits;
        outcome = sym (ap (λ (x : model.Session Columns). x.outcome) (session_left s cs)) ∙ d.same.outcome;
        counts = subst (CountedBy emits) counts_left d.counted;
        sum = d.sum ∙ ap total counts_left;
        passed = sym (ap (λ (n : Counts). n.passed) counts_left) ∙ d.passed ∙ ap passings (warnings_left_lem s cs);
        taken = sym (ap (λ (x : model.Session Columns). x.taken) (session_left s cs)) ∙ d.same.taken;
        ended = sym (ap (λ (x : model.Session Columns). x.ended) (session_left s cs)) ∙ d.same.ended;
      }

-- DEMAND 3 through every map that open accepts
pub promise_opened : PromiseOpened
promise_opened kind T m o a z cs p r = said (config_of kind T) m o.session cs (demand_opened kind T m o a z cs p r)

-- and of a map of records
pub promise_records : PromiseRecords
promise_records kind T xs o a z cs p r =
    subst (λ (m : List Segment). AsSaid (config_of kind T) m o.session cs) (flat_back xs) (promise_opened kind T (flat_of xs) o a z cs p r)

-- DEMAND 3 from the bytes of a sheet and a trim list
pub promise : Promise
promise sheet list d l w kind e k o a =
    let z = (demand_built sheet list d l w kind e k o a).opens in
    record { opens = z; kept = promise_records kind (map_of sheet list d l w).timescale (map_of sheet list d l w).segments o a z }

-- ---- nothing is lost
counts_only : (es : List Emit) (n : Counts) → CountedBy es n → n ≡ counts_of es
counts_only es n a =
    let b = counted_by es in
    λ i. record {
      shifted = (a.shifted_are ∙ sym b.shifted_are) i;
      clipped = (a.clipped_are ∙ sym b.clipped_are) i;
      dropped = (a.dropped_are ∙ sym b.dropped_are) i;
      passed = (a.passed_are ∙ sym b.passed_are) i;
    }

pub said_is_demand : SaidIsDemand
said_is_demand c m s cs t k a =
    let ps = (said_in c (calls_of cs)).parts in
    let p : a.emits ≡ emits c m s cs = right_is_computed c (segments_of m) ps a.emits t k a.right in
    let n : CountedBy (emits c m s cs) (outcome s cs).session.counts =
    subst (CountedBy (emits c m s cs)) (sym (counts_left c m s cs)) (subst (λ (es : List Emit). CountedBy es (last_of s cs).counts) p a.counts) in
    record {
      same =
          record {
            numbers = numbers_left s cs ∙ a.numbers;
            output = output_left s cs ∙ a.output ∙ sym (output_joined a.emits) ∙ ap output_of p;
            warnings = warnings_left_lem s cs ∙ a.warnings ∙ sym (warnings_joined a.emits) ∙ ap warnings_of p;
            outcome = ap (λ (x : model.Session Columns). x.outcome) (session_left s cs) ∙ a.outcome;
            counts = counts_only (emits c m s cs) (outcome s cs).session.counts n;
            taken = ap (λ (x : model.Session Columns). x.taken) (session_left s cs) ∙ a.taken;
            ended = ap (λ (x : model.Session Columns). x.ended) (session_left s cs) ∙ a.ended;
          };
      sum = a.sum ∙ sym (ap total (counts_left c m s cs));
      counted = n;
      passed = ap (λ (x : Counts). x.passed) (counts_left c m s cs) ∙ a.passed ∙ sym (ap passings (warnings_left_lem s cs));
      fates = all_right_of c (segments_of m) ps t k;
      again = text_again (reader_in c (calls_of cs)).finished (reader_in c (calls_of cs)).text c.kind k;
    }
