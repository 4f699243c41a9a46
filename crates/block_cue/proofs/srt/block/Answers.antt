use mathlib.Core.Path.{refl, subst}
use Prim.Native.Nat.{◌≤◌}
use lib.ListN.{length}
use Rattle.std.specs.Prelude.{Option, IfSome}
use Rattle.spec_cue.specs.declared.block_timing.Place.{Place}
use Rattle.spec_caption.proofs.caption_fate.TellLaws.{tells_same, tells_refused}
use Rattle.spec_cue.proofs.block_cue.BlockLaws.{block_3, block_4, block_room}
use Rattle.block_cue.proofs.BlockForms.{block_refused}
use Rattle.block_cue.proofs.srt.block.Goals as goal

pub returns-then-out-text : goal.returns-then-out-text
returns-then-out-text c = tells_same (block_refused _ _ _ _ _ _ _ c.then-out-text.either) (tells_refused 16 _ _ _ c.refused.ensures)

pub timed-requires : goal.timed-requires
timed-requires c = let A = c.args in let p = c.in-Some.p in (block_room A.text.now _ _ _ _ A.out.now p.at p.size c.rest-rest.ensures c.front-before.ensures c.front-line.ensures c.rest-after.ensures c.if-out-text.false, c.if-warnings-lt4.false, subst (λ (x : Option Place). IfSome x (λ (q : Place). q.lines ≤ length A.text.now)) c.in-Some.is c.locate.ensures.few)

pub returns-in-Some : goal.returns-in-Some
returns-in-Some c = block_3 _ _ _ _ _ c.locate.ensures.value c.in-Some.p _ _ _ _ _ _ _ _ _ _ c.if-out-text.false c.if-warnings-lt4.false c.in-Some.is refl c.rest-rest.ensures c.front-before.ensures c.front-line.ensures c.rest-after.ensures c.timed.ensures

pub returns : goal.returns
returns c = block_4 _ _ _ _ _ c.locate.ensures.value _ _ _ _ c.in_default.is c.if-out-text.false c.if-warnings-lt4.false c.put.ensures
