use Rattle.std.proofs.Common.{refl}
use Rattle.std.proofs.KnownBytes.{Appends-kept}
use Rattle.streams.proofs.LeftLaws.{appends_grows, front_more, front_whole, rest_fits}
use Rattle.streams.proofs.writing.write_text.Goals as goal

pub loop-preserved : goal.loop-preserved
loop-preserved g c =
    (rest_fits _ _ _ _ refl c.loop.invariant.0 c.in_ok-done.ensures.bound, front_more _ _ _ _ _ _ _ refl c.loop.invariant.1 c.in_ok-done.ensures.bytes)

pub returns-then-text-done-clause-whole : goal.returns-then-text-done-clause-whole
returns-then-text-done-clause-whole g c = front_whole _ _ _ _ c.if-text-done.true c.loop.invariant.1

pub returns-then-text-done-clause-front : goal.returns-then-text-done-clause-front
returns-then-text-done-clause-front g c = (c.loop.done, c.loop.invariant.1)

pub returns-then-text-done-clause-grows : goal.returns-then-text-done-clause-grows
returns-then-text-done-clause-grows g c = appends_grows _ _ _ c.loop.invariant.1

pub returns-in_err-done-clause-front : goal.returns-in_err-done-clause-front
returns-in_err-done-clause-front g c = (c.loop.done, Appends-kept _ _ _ _ c.loop.invariant.1 c.in_err-done.ensures.bytes)

pub returns-in_err-done-clause-grows : goal.returns-in_err-done-clause-grows
returns-in_err-done-clause-grows g c = appends_grows _ _ _ (Appends-kept _ _ _ _ c.loop.invariant.1 c.in_err-done.ensures.bytes)

pub returns-clause-front : goal.returns-clause-front
returns-clause-front g c = (c.loop.done, c.loop.invariant.1)

pub returns-clause-grows : goal.returns-clause-grows
returns-clause-grows g c = appends_grows _ _ _ c.loop.invariant.1
