use Rattle.spec_session.specs.session.SessionCalls.{open_of}
use Rattle.spec_map.specs.segment.Segment.{map_bad}
use Rattle.spec_time.specs.caption_time.Convert.{timescale_bad}
use Rattle.spec_time.specs.caption_time.Kind.{kind_bad}
use mathlib.Core.Bool.{true, false}
use mathlib.Core.Path.{◌≡◌, sym, ◌∙◌}
use Rattle.session.proofs.calling.open_refusal.Goals as goal

pub returns-then-timescale_bad : goal.returns-then-timescale_bad
unfolding open_of
returns-then-timescale_bad c = let t : timescale_bad c.args.timescale ≡ true = sym c.timescale_bad.ensures ∙ c.if-timescale_bad.true in rw t

pub returns-then-map_bad : goal.returns-then-map_bad
unfolding open_of
returns-then-map_bad c = let t : timescale_bad c.args.timescale ≡ false = sym c.timescale_bad.ensures ∙ c.if-timescale_bad.false in let m : map_bad c.args.map.now ≡ true = sym c.map_bad.ensures ∙ c.if-map_bad.true in rw (t, m)

pub returns-then-kind_bad : goal.returns-then-kind_bad
unfolding open_of
returns-then-kind_bad c = let t : timescale_bad c.args.timescale ≡ false = sym c.timescale_bad.ensures ∙ c.if-timescale_bad.false in let m : map_bad c.args.map.now ≡ false = sym c.map_bad.ensures ∙ c.if-map_bad.false in let k : kind_bad c.args.kind ≡ true = sym c.kind_bad.ensures ∙ c.if-kind_bad.true in rw (t, m, k)

pub returns : goal.returns
unfolding open_of
returns c = let t : timescale_bad c.args.timescale ≡ false = sym c.timescale_bad.ensures ∙ c.if-timescale_bad.false in let m : map_bad c.args.map.now ≡ false = sym c.map_bad.ensures ∙ c.if-map_bad.false in let k : kind_bad c.args.kind ≡ false = sym c.kind_bad.ensures ∙ c.if-kind_bad.false in rw (t, m, k)
