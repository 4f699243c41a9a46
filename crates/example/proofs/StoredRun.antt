-- The four calls on an ASS text over a session that is kept as its bytes, and the whole text in one call, through demand 3 of the C functions: both tell what the four calls on
-- a session told (`stored_run`, `text_run_lem`).
use mathlib.Core.Path.{◌≡◌, refl, sym, ap, subst, ◌∙◌}
use mathlib.Core.Logic.{inl}
use mathlib.Core.Bool.{true}
use mathlib.Core.List.{List, [], ◌∷◌, ◌++◌}
use Prim.Native.Nat.{ℕ, ◌≤◌}
use lib.ListN.{length}
use borrow.Author.Tests.{le-leb}
use Rattle.spec_base.specs.base.Limits.{most_work}
use Rattle.spec_base.specs.base.Refusal.{fault_unless}
use Rattle.spec_base.proofs.base.RefusalLaws.{else_none}
use Rattle.sheet_vectors.specs.Small.{small_sheet}
use Rattle.spec_map.specs.segment.Segment.{flat_of}
use Rattle.spec_map.specs.segmap.Map.{Map}
use Rattle.table.specs.Example.{the_list, the_map}
use Rattle.table.proofs.TheMap.{map_is}
use Rattle.spec_machine.specs.session_counts.Session.{Call, open_session}
use Rattle.spec_machine.specs.session_counts.Calls.{new_reader, hear}
use Rattle.spec_machine.proofs.session_counts.Counted.{counted_by}
use Rattle.spec_machine.specs.kinds.Kit.{kit}
use Rattle.spec_session.specs.session.SessionCalls.{open_of}
use Rattle.spec_parked_blocks.specs.parked_blocks.Sealed.{sealed_length}
use Rattle.promise.specs.Plain.{plain_read}
use Rattle.promise.specs.Demand.{Demand, heard}
use Rattle.promise.specs.Promise.{config_of}
use Rattle.promise.proofs.TheDemand.{built_opens}
use Rattle.spec_parking.specs.session_bytes.ByteCalls.{open_number, bytes_after}
use Rattle.spec_runs.specs.keptruns.Kept.{KeptCall, kept_calls, KeptRan, kept_outcome}
use Rattle.spec_runs.proofs.keptruns.Runs.{kept_promise}
use Rattle.spec_runs.specs.atonceruns.Claims.{put_through, TextHolds}
use Rattle.example.specs.Calls.{Asked, feeding, finishing, asked_call}
use Rattle.example.specs.Worked.{lent_map, four, four_calls, told_by, read_by}
use Rattle.example.specs.Texts.{ass_first, ass_rest, ass_told}
use Rattle.example.specs.Stored.{keeps, opened_bytes, stored_calls, told_text, in_one}
use Rattle.example.proofs.AssRun.{known, read_is, ass_read_lem}

-- ---- every list of calls over bytes has a run
keeps_ran : (b : List ℕ) (asked : List Asked) → KeptRan b (keeps b asked)
keeps_ran b [] = tt
keeps_ran b (feeding m piece out places ∷ later) =
    (record { number = refl; bytes = refl; text = refl; warnings = refl; told_written = refl; told_warned = refl }, keeps_ran (bytes_after b (asked_call (feeding m piece out places))) later)
keeps_ran b (finishing m out places ∷ later) =
    (record { number = refl; bytes = refl; text = refl; warnings = refl; told_written = refl; told_warned = refl }, keeps_ran (bytes_after b (asked_call (finishing m out places))) later)

-- ---- the map of the example's bytes opens
map_number_lem : the_map.number ≡ 0
map_number_lem = ap (λ (x : Map). x.number) map_is

timescale_is : the_map.timescale ≡ 30000
timescale_is = ap (λ (x : Map). x.timescale) map_is

opens_0 : (open_session kit (config_of 0 30000) lent_map).number ≡ 0
opens_0 = subst (λ (T : ℕ). (open_session kit (config_of 0 T) lent_map).number ≡ 0) timescale_is (built_opens small_sheet the_list 0 6144 most_work map_number_lem 0 known)

module _ (lent : List ℕ) (lent_long : sealed_length ≤ length lent) where
  opens_stored : open_number 0 30000 lent_map (length lent) ≡ 0
  unfolding open_number open_of fault_unless
  opens_stored = else_none _ opens_0 ∙ rw (le-leb sealed_length (length lent) lent_long)

  module _ (out short places : List ℕ) where
    abbrev calls : List KeptCall
    calls = stored_calls 0 lent ass_first ass_rest out short places

    -- demand 3 holds of the list
    pub stored_demand : Demand (config_of 0 30000) lent_map (kept_calls calls) (kept_outcome (opened_bytes 0 lent) calls)
    stored_demand =
        kept_promise 0 30000 lent_map lent opens_stored calls (inl refl, (inl refl, (inl refl, (inl refl, tt))))
        (keeps_ran (opened_bytes 0 lent) (four lent_map ass_first ass_rest out short places))

    came : told_by (kept_outcome (opened_bytes 0 lent) calls) ≡ read_by 0 (record { number = 0; timescale = 30000; count = 2; segments = the_map.segments }) (heard (config_of 0 30000) (kept_calls calls))
    came =
        let d = stored_demand.same in
        λ i. record {
          numbers = d.numbers i;
          output = d.output i;
          warnings = d.warnings i;
          outcome = d.outcome i;
          counts = d.counts i;
          taken = d.taken i;
          ended = d.ended i;
        }

    -- the four calls told what they tell on a session
    pub stored_run : length out ≡ 32768 → length short ≡ 32767 → length places ≡ 4096 → told_by (kept_outcome (opened_bytes 0 lent) calls) ≡ ass_told
    stored_run long few enough =
        came
        ∙ ap (λ (xs : List Call). read_by 0 (record { number = 0; timescale = 30000; count = 2; segments = the_map.segments }) (hear (plain_read 0) new_reader xs))
        (λ i. four_calls lent_map ass_first ass_rest (long i) (few i) (enough i))
        ∙ ap (λ (x : Map). read_by 0 (record { number = 0; timescale = 30000; count = 2; segments = x.segments }) (hear (plain_read 0) new_reader (four_calls (flat_of x.segments) ass_first ass_rest 32768 32767 4096))) map_is
        ∙ ass_read_lem

-- ---- the whole text in one call, where it is not refused (spec_runs/proofs/atonceruns/Text `text_promise`)
pub text_run_lem : (k : ℕ) (out places told : List ℕ) → TextHolds 0 30000 lent_map (ass_first ++ ass_rest) k out places told → told_text k out places told ≡ in_one ass_told
text_run_lem k out places told h =
    let t = ass_first ++ ass_rest in
    let c = counted_by (put_through 0 30000 lent_map t) in
    (λ i. record {
      numbers = h.number_is i ∷ [];
      output = h.output i;
      warnings = h.warnings i;
      outcome = h.number_is i;
      counts =
          record {
            shifted = (h.shifted ∙ sym c.shifted_are) i;
            clipped = (h.clipped ∙ sym c.clipped_are) i;
            dropped = (h.dropped ∙ sym c.dropped_are) i;
            passed = (h.passed ∙ sym c.passed_are) i;
          };
      taken = h.taken i;
      ended = true;
    })
    ∙ ap (λ (x : Map). in_one (read_by 0 (record { number = 0; timescale = 30000; count = 2; segments = x.segments }) (record { numbers = []; reader = record { text = t; finished = true; ended = true } }))) map_is
    ∙ ap in_one read_is
