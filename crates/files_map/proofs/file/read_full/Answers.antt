use Rattle.std.proofs.Common.{rules}
use Rattle.streams.proofs.LeftLaws.{consumes_drains, nothing_kept, taken_kept, taken_more, taken_none}
use Rattle.files_map.proofs.file.read_full.Goals as goal

pub loop-done-init : goal.loop-done-init
loop-done-init g c = (search rules, taken_none _ c.args.buf.now)

pub loop-done-preserved : goal.loop-done-preserved
loop-done-preserved g c =
    (search rules, taken_more _ _ _ _ _ _ _ _ c.loop-done.invariant.0 (search rules) c.loop-done.invariant.1 c.in_ok-n.ensures.bytes.0)

pub returns-in_err-n-clause-front : goal.returns-in_err-n-clause-front
returns-in_err-n-clause-front g c =
    (c.loop-done.done, taken_kept _ _ _ _ _ _ c.loop-done.invariant.0 c.loop-done.invariant.1 c.in_err-n.ensures.bytes)

pub returns-in_err-n-clause-drains : goal.returns-in_err-n-clause-drains
returns-in_err-n-clause-drains g c =
    consumes_drains _ _ _ (taken_kept _ _ _ c.loop-done.buf c.read.new.buf _ c.loop-done.invariant.0 c.loop-done.invariant.1 c.in_err-n.ensures.bytes)

pub returns-after-loop-done-clause-front : goal.returns-after-loop-done-clause-front
returns-after-loop-done-clause-front g c = (c.loop-done.done, c.loop-done.invariant.1)

pub returns-after-loop-done-clause-drains : goal.returns-after-loop-done-clause-drains
returns-after-loop-done-clause-drains g c = consumes_drains _ _ _ c.loop-done.invariant.1

pub returns-then-n-eq0-clause-front : goal.returns-then-n-eq0-clause-front
returns-then-n-eq0-clause-front g c =
    (c.loop-done.done, taken_kept _ _ _ _ _ _ c.loop-done.invariant.0 c.loop-done.invariant.1 (nothing_kept _ _ _ _ c.if-n-eq0.true c.in_ok-n.ensures.bytes.0))

pub returns-then-n-eq0-clause-drains : goal.returns-then-n-eq0-clause-drains
returns-then-n-eq0-clause-drains g c =
    consumes_drains _ _ _
    (taken_kept _ _ _ c.loop-done.buf c.read.new.buf _ c.loop-done.invariant.0 c.loop-done.invariant.1 (nothing_kept _ _ _ _ c.if-n-eq0.true c.in_ok-n.ensures.bytes.0))
