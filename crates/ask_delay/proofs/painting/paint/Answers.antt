use mathlib.Core.Path.{refl, sym, ◌∙◌}
use mathlib.Core.List.{[]}
use Rattle.std.proofs.Common.{append-nil}
use native.Mathlib.Omega.{arith}
use Rattle.spec_ask.proofs.ask_delay.WindowLaws.{till_fits, from_fits, low_fits, high_fits, loop_start, loop_again_is}
use Rattle.ask_delay.proofs.Chunks.{last_six}
use Rattle.ask_delay.proofs.painting.paint.Goals as goal

pub loop-s-init : goal.loop-s-init
loop-s-init c =
    let e = c.into_iter-s-iterator.ensures.into_iter_gives in
    let f = c.rev-s-items.ensures.source in
    let g = c.chunks_exact.ensures in
    record {
      size = rw (e, f) g.size;
      tail = ([], rw (e, f, g.rest) (sym (append-nil c.args.map.now)));
      window = rw (e, f, g.rest) (loop_start _ _ _ _ _ c.args.map.now _ _ c.requires.0 c.fill.ensures refl);
    }

pub paint_one-requires : goal.paint_one-requires
paint_one-requires c =
    let e = c.edge_at-e.ensures in
    (c.loop-s.invariant.window.size, till_fits _ _ _ _ _ e, from_fits _ _ _ _ _ e, low_fits _ _ _ _ _ e, high_fits _ _ _ _ _ e)

pub loop-s-preserved : goal.loop-s-preserved
loop-s-preserved c =
    let h = c.requires in
    let l = c.loop-s.invariant in
    let p = c.in-Some.ensures.steps in
    let k = last_six _ _ _ _ _ p.2.0 l.tail.0 l.size l.tail.1 p.2.1 p.2.2 p.2.3 in
    record {
      size = p.0 ∙ l.size;
      tail = k.tail;
      window = rw k.less (loop_again_is _ _ _ _ _ _ _ _ _ _ _ _ h.2 h.1 h.3 k.some k.inside l.window refl (k.at 2 (omega arith)) (k.at 5 (omega arith)) c.edge_at-e.ensures c.paint_one.ensures);
    }
