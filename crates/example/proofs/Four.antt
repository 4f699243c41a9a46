-- The four calls through demand 3: what they told is what the plain reader tells, for every kind, any two pieces and any buffers of these lengths.
use mathlib.Core.Path.{◌≡◌, refl, sym, ap, subst, ◌∙◌}
use mathlib.Core.Logic.{inl}
use mathlib.Core.Bool.{false}
use mathlib.Core.List.{List, []}
use Prim.Native.Nat.{ℕ}
use lib.ListN.{length}
use Rattle.spec_base.specs.base.Limits.{most_work}
use Rattle.sheet_vectors.specs.Small.{small_sheet}
use Rattle.spec_time.specs.caption_time.Kind.{kind_bad}
use Rattle.spec_map.specs.segment.Segment.{flat_of, segments_of}
use Rattle.spec_map.specs.segmap.Map.{Map}
use Rattle.spec_ass.specs.declared.ass_columns.Columns.{Columns}
use Rattle.table.specs.Example.{the_list, the_map, setting}
use Rattle.table.proofs.TheMap.{map_is}
use Rattle.spec_machine.specs.session_counts.Session as model
use Rattle.spec_machine.specs.session_counts.Session.{Call, fresh, open_session}
use Rattle.spec_machine.specs.session_counts.Calls.{new_reader, hear, reading_of}
use Rattle.spec_machine.proofs.session_counts.Numbers.{opened as opened-good, opens_fresh}
use Rattle.spec_machine.specs.kinds.Kit.{kit}
use Rattle.spec_session.specs.session_state.View.{stored}
use Rattle.spec_session.specs.session.SessionCalls.{OpenAnswered, open_of}
use Rattle.promise.specs.Plain.{plain_read}
use Rattle.promise.specs.Demand.{AllRight, Demand, heard}
use Rattle.promise.specs.Runs.{Made, calls_of, outcome}
use Rattle.promise.specs.Promise.{config_of}
use Rattle.promise.proofs.TheDemand.{built_opens, demand_built}
use Rattle.example.specs.Worked.{lent_map, plain_map, open_answer, four, four_calls, made_calls, told_by, read_by, plain_four}
use Rattle.example.proofs.RunsExist.{made_ran}

map_number_lem : the_map.number ≡ 0
map_number_lem = ap (λ (x : Map). x.number) map_is

-- ---- the session
module _ (kind : ℕ) (k : kind_bad kind ≡ false) where
  opens_0 : (open_session kit (config_of kind the_map.timescale) lent_map).number ≡ 0
  opens_0 = built_opens small_sheet the_list 0 6144 most_work map_number_lem kind k

  open_is : open_session kit (config_of kind the_map.timescale) lent_map ≡ record { number = 0; session = fresh kit (setting kind); emits = [] }
  open_is =
      opens_fresh kit (config_of kind the_map.timescale) lent_map (opened-good kit (config_of kind the_map.timescale) lent_map opens_0)
      ∙ ap (λ (x : Map). record { number = 0; session = fresh kit (config_of kind x.timescale); emits = [] }) map_is

  pub opens : OpenAnswered kind the_map.timescale lent_map (open_answer kind)
  unfolding open_of
  opens =
      record {
        number = sym (ap (λ (a : model.Answer Columns). a.number) open_is);
        session = sym (ap (λ (a : model.Answer Columns). stored a.session) open_is);
      }

-- ---- the calls
module _ (kind : ℕ) (k : kind_bad kind ≡ false) (first rest out short places : List ℕ) where
  abbrev calls : List Made
  calls = made_calls kind first rest out short places

  -- the premises are met, and demand 3 holds of the list
  pub demanded : Demand (config_of kind the_map.timescale) lent_map (calls_of calls) (outcome (open_answer kind).session calls)
  demanded =
      (demand_built small_sheet the_list 0 6144 most_work kind map_number_lem k (open_answer kind) (opens kind k)).kept calls
      (inl refl, (inl refl, (inl refl, (inl refl, tt))))
      (made_ran (open_answer kind).session (four lent_map first rest out short places))

  came : told_by (outcome (open_answer kind).session calls) ≡ read_by kind the_map (heard (config_of kind the_map.timescale) (calls_of calls))
  came =
      let d = demanded.same in
      λ i. record {
        numbers = d.numbers i;
        output = d.output i;
        warnings = d.warnings i;
        outcome = d.outcome i;
        counts = d.counts i;
        taken = d.taken i;
        ended = d.ended i;
      }

  -- by the lengths that were lent
  module _ (long : length out ≡ 32768) (few : length short ≡ 32767) (enough : length places ≡ 4096) where
    calls_are : calls_of calls ≡ four_calls lent_map first rest 32768 32767 4096
    calls_are = λ i. four_calls lent_map first rest (long i) (few i) (enough i)

    pub worked : told_by (outcome (open_answer kind).session calls) ≡ read_by kind plain_map (plain_four kind first rest)
    worked =
        came
        ∙ ap (λ (xs : List Call). read_by kind the_map (hear (plain_read kind) new_reader xs)) calls_are
        ∙ ap (λ (x : Map). read_by kind x (hear (plain_read kind) new_reader (four_calls (flat_of x.segments) first rest 32768 32767 4096))) map_is

    pub fates : AllRight (setting kind) (segments_of (flat_of plain_map.segments)) (reading_of (plain_read kind) (plain_four kind first rest).reader).parts
    fates =
        subst (λ (x : Map). AllRight (config_of kind x.timescale) (segments_of (flat_of x.segments))
        (reading_of (plain_read kind) (hear (plain_read kind) new_reader (four_calls (flat_of x.segments) first rest 32768 32767 4096)).reader).parts) map_is
        (subst (λ (xs : List Call). AllRight (config_of kind the_map.timescale) (segments_of lent_map)
        (reading_of (plain_read kind) (hear (plain_read kind) new_reader xs).reader).parts) calls_are demanded.fates)
