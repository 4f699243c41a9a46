use mathlib.Core.Path.{◌≡◌, ap, ◌∙◌}
use Prim.Native.Nat.{◌<◌}
use native.Mathlib.Omega.{arith}
use lib.ListN.{length}
use Rattle.std.specs.Slice.Iter.{chunks_exact_rest, chunks_exact_size}
use Rattle.map_json_write.proofs.LayoutLaws.{list_start, list_again, list_end, six_left, close_most}
use Rattle.map_json_write.proofs.layout.rest_at.Goals as goal

pub loop-s-init : goal.loop-s-init
loop-s-init c =
    let r : chunks_exact_rest c.into_iter-s-iterator.result ≡ c.args.map.now = ap (λ x. chunks_exact_rest x) c.into_iter-s-iterator.ensures.into_iter_gives ∙ c.chunks_exact-s-items.ensures.rest in
    let n : length (chunks_exact_rest c.into_iter-s-iterator.result) ≡ length c.args.map.now = ap length r in
    (omega arith, list_start _ _ _ _ r, ap (λ x. chunks_exact_size x) c.into_iter-s-iterator.ensures.into_iter_gives ∙ c.chunks_exact-s-items.ensures.size)

pub loop-s-preserved : goal.loop-s-preserved
loop-s-preserved c =
    let h : length c.in-Some.s.now ≡ 6 = c.in-Some.ensures.steps.1.1 ∙ c.loop-s.invariant.2 in
    (search (six_left, c.in-Some.ensures.steps.1.0, h), search (list_again, c.in-Some.ensures.steps.1.0, h), c.in-Some.ensures.steps.0 ∙ c.loop-s.invariant.2)

pub returns : goal.returns
returns c =
    let h : length (chunks_exact_rest c.loop-s.s-iterator) < 6 = omega (arith, c.in-None.ensures.steps.1.0, c.loop-s.invariant.2) in
    (search (list_end, h), search close_most)
