use mathlib.Core.Path.{sym, ap, ◌∙◌}
use lib.Seq.{take_all}
use Rattle.spec_base.specs.base.Put.{put}
use Rattle.spec_base.proofs.base.PutLaws.{not_copied, put_nil, length_yes, placed_yes}
use Rattle.base.proofs.Copying.{copied_next}
use Rattle.base.proofs.write.put.Goals as goal

pub returns-then-out-n : goal.returns-then-out-n
returns-then-out-n g c = not_copied _ _ c.if-out-n.true

pub loop-i-init : goal.loop-i-init
loop-i-init g c = sym (put_nil _)

pub loop-i-preserved : goal.loop-i-preserved
loop-i-preserved g c = copied_next _ _ _ _ _ c.loop-i.invariant c.index-s-i.is c.loop-i-test.true c.if-out-n.false

pub returns : goal.returns
returns g c =
    let s = c.args.s.now in
    let l = c.args.out.now in
    (sym (length_yes s l c.if-out-n.false), c.loop-i.invariant ∙ ap (λ x. put x l) (take_all _ s c.loop-i-test.false) ∙ sym (placed_yes s l c.if-out-n.false))
