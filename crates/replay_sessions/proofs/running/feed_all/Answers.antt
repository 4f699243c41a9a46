use Rattle.std.proofs.Common.{ℕ, refl, ◌∙◌, arith}
use lib.ListN.{length-replicate}
use Rattle.replay_sessions.proofs.RunLaws.{size_is, at_most, still_fits, fits_first, piece_less}
use Rattle.replay_sessions.proofs.running.feed_all.Goals as goal

pub loop-t-init : goal.loop-t-init
loop-t-init c = (omega arith, refl, refl, length-replicate {A = ℕ} 4096 0)

pub shape_of-all-then-s-ne0 : goal.shape_of-all-then-s-ne0
shape_of-all-then-s-ne0 c = c.take_piece-s.auto.all ∙ c.loop-t.invariant.1

pub shape_of-notes-then-s-ne0 : goal.shape_of-notes-then-s-ne0
shape_of-notes-then-s-ne0 c = c.take_piece-s.auto.notes ∙ c.loop-t.invariant.2

pub returns-then-s-ne0 : goal.returns-then-s-ne0
returns-then-s-ne0 c = at_most _ _ _ c.take_piece-s.ensures c.loop-t.invariant.1

pub loop-t-smaller : goal.loop-t-smaller
loop-t-smaller c = search piece_less

pub loop-t-preserved : goal.loop-t-preserved
loop-t-preserved c = let d = c.take_piece-s in let v = c.loop-t.invariant in (search still_fits, d.auto.all ∙ v.1, d.auto.notes ∙ v.2, search size_is)

pub returns : goal.returns
returns c = search fits_first
