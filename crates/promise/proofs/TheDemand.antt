-- Demand 3 by `Demand`: `demand_built` from the bytes of a sheet and a trim list, `demand_opened` for every map that open accepts.
use mathlib.Core.Path.{◌≡◌, refl, sym, ap, subst, ◌∙◌}
use mathlib.Core.Bool.{false, ◌||◌}
use mathlib.Core.List.{List}
use Prim.Native.Nat.{ℕ, ◌≤◌}
use native.Mathlib.Omega.{arith}
use lib.ListN.{length}
use Rattle.spec_base.specs.base.Limits.{most_held}
use Rattle.spec_sheet.proofs.sheet.SheetLaws.{sound_head}
use Rattle.spec_time.specs.caption_time.Kind.{kind_bad}
use Rattle.spec_time.specs.caption_time.Convert.{timescale_bad}
use Rattle.spec_time.proofs.caption_time.Limits.{timescale_good}
use Rattle.spec_map.specs.declared.segment.Segment.{Segment}
use Rattle.spec_map.specs.segment.Segment.{flat_of, map_bad}
use Rattle.spec_map.specs.segmap.Map.{map_of, map_number}
use Rattle.spec_map.proofs.segment.SegmentLaws.{flat_back}
use Rattle.spec_map.proofs.segmap.Built.{map_number_lem, made_parts, made_timescale, made_good}
use Rattle.spec_ass.specs.declared.ass_columns.Columns.{Columns}
use Rattle.spec_machine.specs.session_counts.Session.{Gate, refuse, admit, gate, open_by, open_session}
use Rattle.spec_machine.specs.session_counts.Session as model
use Rattle.spec_machine.proofs.session_counts.Numbers.{opens_fresh}
use Rattle.spec_machine.specs.kinds.Kit.{kit}
use Rattle.spec_session.specs.session_state.View.{view, stored}
use Rattle.spec_session.proofs.session_state.ViewLaws.{view_stored, padded_length}
use Rattle.spec_session.specs.declared.session.Opened.{Opened}
use Rattle.spec_session.specs.session.SessionCalls.{OpenAnswered, open_of}
use Rattle.promise.specs.Demand.{AllRight, said_in, Demand}
use Rattle.promise.specs.Runs.{calls_of}
use Rattle.promise.specs.Promise.{config_of}
use Rattle.promise.specs.Stronger.{DemandOpened, DemandRecords, DemandBuilt}
use Rattle.promise.proofs.DemandText.{demand_traced}
use Rattle.promise.proofs.RunLaws.{Whole, returned_all, ran_trace, ran_outcome}

-- ---- the session that open returned
open_small : (kind T : ℕ) (g : Gate) → length (open_by kit g (config_of kind T)).session.held ≤ most_held
open_small kind T (refuse k) = omega arith
open_small kind T admit = omega arith

held_small : (kind T : ℕ) (m : List ℕ) → length (open_session kit (config_of kind T) m).session.held ≤ most_held
held_small kind T m = open_small kind T (gate false false (timescale_bad T || map_bad m) (kind_bad kind))

module _ (kind T : ℕ) (m : List ℕ) (o : Opened) (a : OpenAnswered kind T m o) where
  open_is : open_of kind T m ≡ open_session kit (config_of kind T) m
  unfolding open_of
  open_is = refl

  pub session_is : o.session ≡ stored (open_session kit (config_of kind T) m).session
  session_is = a.session ∙ ap (λ (x : model.Answer Columns). stored x.session) open_is

  pub open_view : view o.session ≡ (open_session kit (config_of kind T) m).session
  open_view = ap view session_is ∙ view_stored (open_session kit (config_of kind T) m).session (held_small kind T m)

  stored_size : Whole (stored (open_session kit (config_of kind T) m).session)
  unfolding stored
  stored_size = padded_length (open_session kit (config_of kind T) m).session.held (held_small kind T m)

  pub open_whole : Whole o.session
  open_whole = subst Whole (sym session_is) stored_size

  pub open_number_lem : o.number ≡ (open_session kit (config_of kind T) m).number
  open_number_lem = a.number ∙ ap (λ (x : model.Answer Columns). x.number) open_is

-- demand 3 through every map that open accepts
pub demand_opened : DemandOpened
demand_opened kind T m o a z cs p r =
    subst (Demand (config_of kind T) m (calls_of cs)) (sym (ran_outcome o.session cs))
    (demand_traced view (config_of kind T) m (sym (open_number_lem kind T m o a) ∙ z) o.session (open_view kind T m o a) (calls_of cs) p (returned_all cs)
    (ran_trace o.session (open_whole kind T m o a) cs r))

-- and of a map of records
pub demand_records : DemandRecords
demand_records kind T xs o a z cs p r =
    let d = demand_opened kind T (flat_of xs) o a z cs p r in
    (d, subst (λ (m : List Segment). AllRight (config_of kind T) m (said_in (config_of kind T) (calls_of cs)).parts) (flat_back xs) d.fates)

-- ---- the map that is built opens with 0
module _ (sheet list : List ℕ) (d l w : ℕ) (e : (map_of sheet list d l w).number ≡ 0) where
  built_number : map_number sheet list d l w ≡ 0
  built_number = sym (map_number_lem sheet list d l w) ∙ e

  pub built_timescale : timescale_bad (map_of sheet list d l w).timescale ≡ false
  built_timescale =
      let h = sound_head sheet (made_parts sheet list d l w built_number).sheet_sound in
      ap timescale_bad (made_timescale sheet list d l w built_number) ∙ timescale_good _ h.timescale_low h.timescale_high

  pub built_opens : (kind : ℕ) → kind_bad kind ≡ false → (open_session kit (config_of kind (map_of sheet list d l w).timescale) (flat_of (map_of sheet list d l w).segments)).number ≡ 0
  built_opens kind k =
      ap (λ (x : model.Answer Columns). x.number)
      (opens_fresh kit (config_of kind (map_of sheet list d l w).timescale) (flat_of (map_of sheet list d l w).segments)
      (record { timescale_good = built_timescale; map_good = made_good sheet list d l w built_number; kind_known = k }))

-- demand 3 from the bytes of a sheet and a trim list
pub demand_built : DemandBuilt
demand_built sheet list d l w kind e k o a =
    let z = open_number_lem kind (map_of sheet list d l w).timescale (flat_of (map_of sheet list d l w).segments) o a ∙ built_opens sheet list d l w e kind k in
    record {
      opens = z;
      kept = demand_opened kind (map_of sheet list d l w).timescale (flat_of (map_of sheet list d l w).segments) o a z;
    }
