use mathlib.Core.Bool.{Bool, ◌&&◌}
use mathlib.Core.Path.{refl, sym, ap, ◌∙◌}
use Rattle.spec_json.specs.json.Value.{is_value}
use Rattle.map_json_read.proofs.WalkLaws.{heads_by_all, heads_at, and_true, and_off}
use Rattle.map_json_read.proofs.fields.heads_after.Goals as goal

pub returns-in-Some-Timescale : goal.returns-in-Some-Timescale
returns-in-Some-Timescale c = heads_at c.args.x c.args.v.now c.in-Some-Timescale.is (rw c.in-Some-Timescale.is at c.in-Some-Timescale.field-0-is) (heads_by_all c.args.x 1 c.args.v.now _ _ _ _ _ _ _ c.slot_with.ensures refl refl refl refl refl (and_true _))

pub returns-in-Some-RateNum : goal.returns-in-Some-RateNum
returns-in-Some-RateNum c = heads_at c.args.x c.args.v.now c.in-Some-RateNum.is (rw c.in-Some-RateNum.is at c.in-Some-RateNum.field-0-is) (heads_by_all c.args.x 2 c.args.v.now _ _ _ _ _ _ _ refl c.slot_with-in-Some-RateNum.ensures refl refl refl refl (and_true _))

pub returns-in-Some-RateDen : goal.returns-in-Some-RateDen
returns-in-Some-RateDen c = heads_at c.args.x c.args.v.now c.in-Some-RateDen.is (rw c.in-Some-RateDen.is at c.in-Some-RateDen.field-0-is) (heads_by_all c.args.x 3 c.args.v.now _ _ _ _ _ _ _ refl refl c.slot_with-in-Some-RateDen.ensures refl refl refl (and_true _))

pub returns-in-Some-Input : goal.returns-in-Some-Input
returns-in-Some-Input c = heads_at c.args.x c.args.v.now c.in-Some-Input.is (rw c.in-Some-Input.is at c.in-Some-Input.field-0-is) (heads_by_all c.args.x 4 c.args.v.now _ _ _ _ _ _ _ refl refl refl refl refl refl (and_true _))

pub returns-in-Some-Frames : goal.returns-in-Some-Frames
returns-in-Some-Frames c = heads_at c.args.x c.args.v.now c.in-Some-Frames.is (rw c.in-Some-Frames.is at c.in-Some-Frames.field-0-is) (heads_by_all c.args.x 5 c.args.v.now _ _ _ _ _ _ _ refl refl refl c.slot_with-in-Some-Frames.ensures refl refl (and_true _))

pub returns-in-Some-Segments : goal.returns-in-Some-Segments
returns-in-Some-Segments c = heads_at c.args.x c.args.v.now c.in-Some-Segments.is (rw c.in-Some-Segments.is at c.in-Some-Segments.field-0-is) (heads_by_all c.args.x 6 c.args.v.now _ _ _ _ _ _ _ refl refl refl refl refl refl (and_true _))

pub returns-then-x : goal.returns-then-x
returns-then-x c = rw c.in-None.is (heads_by_all c.args.x 0 c.args.v.now _ _ _ _ _ _ _ refl refl refl refl refl refl (c.is_value.ensures ∙ ap (λ (t : Bool). t && is_value 8 c.args.v.now) (sym c.if-x.true)))

pub returns-else-x : goal.returns-else-x
returns-else-x c = rw c.in-None.is (heads_by_all c.args.x 0 c.args.v.now _ _ _ _ _ _ _ refl refl refl refl refl refl (and_off _ _ c.if-x.false))
