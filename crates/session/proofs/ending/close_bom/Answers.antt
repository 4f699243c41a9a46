use mathlib.Core.Path.{sym, ap}
use native.Mathlib.Omega.{arith}
use lib.ListN.{length}
use lib.Seq.{length-take-le}
use Rattle.spec_machine.specs.kinds.Takes.{machine_of, ends}
use Rattle.spec_session.specs.declared.session.Going.{Going}
use Rattle.spec_session.proofs.session.RunLaws.{begin_sizes}
use Rattle.spec_session.proofs.session.EndLaws.{finish_ass, bom_only, bom_ends, bom_sums, bom_stops, bom_closes}
use Rattle.session.proofs.ending.close_bom.Goals as goal

pub returns-then-config-eq0 : goal.returns-then-config-eq0
returns-then-config-eq0 c = let A = c.args in let p = c.requires.1 in λ s a q g. bom_only A.config A.map.now (machine_of A.config.kind) A.at A.held.now A.out.now A.warnings.now p s (ends A.config.kind s A.at.lines) _ _ (finish_ass A.config.kind s A.at.lines c.if-config-eq0.true) c.after_bom-next.ensures c.put_bom.ensures

pub slice_bounds-end_block-end : goal.slice_bounds-end_block-end
slice_bounds-end_block-end c = let A = c.args in let p = c.requires.1 in let z = begin_sizes A.config A.map.now A.at A.held.now (length A.out.now) (length A.warnings.now) c.requires.0 p in sym (length-take-le _ _ (omega (arith, z, p.count, p.size)))

pub returns-then-end-ne0 : goal.returns-then-end-ne0
returns-then-end-ne0 c = let A = c.args in let p = c.requires.1 in let e = c.end_block-end in λ s a q g. bom_stops A.config A.map.now (machine_of A.config.kind) A.at A.held.now A.out.now A.warnings.now p e.new.out e.new.warnings e.result A.config.kind s c.if-config-eq0.false q g (bom_ends A.config A.map.now (machine_of A.config.kind) A.at A.held.now A.out.now A.warnings.now p e.new.out e.new.warnings e.result c.requires.0 e.ensures) _ c.if-end-ne0.true c.stop.ensures

pub closing-requires : goal.closing-requires
closing-requires c = let A = c.args in let p = c.requires.1 in let e = c.end_block-end in let n = c.after_bom-next in let x = bom_sums A.config A.map.now (machine_of A.config.kind) A.at A.held.now A.out.now A.warnings.now p e.new.out e.new.warnings e.result c.requires.0 e.ensures e.auto.out e.auto.warnings in let u = ap (λ (g : Going). g.written) n.ensures in let v = ap (λ (g : Going). g.warned) n.ensures in (omega (arith, x, u, c.before.before.before.before.before.before.before.before.before.before.before.before.before.before.before.before.before.before.before.before.before.before), omega (arith, x, v, p.warned, c.before.before.before.before.before.before.before.before.before.before.before.before.before.before.before.before.before.before.before.before.before.before))

pub returns : goal.returns
returns c = let A = c.args in let p = c.requires.1 in let e = c.end_block-end in λ s a q g. bom_closes A.config A.map.now (machine_of A.config.kind) A.at A.held.now A.out.now A.warnings.now p e.new.out e.new.warnings e.result A.config.kind s c.if-config-eq0.false q g (bom_ends A.config A.map.now (machine_of A.config.kind) A.at A.held.now A.out.now A.warnings.now p e.new.out e.new.warnings e.result c.requires.0 e.ensures) _ _ _ c.if-end-ne0.false c.after_bom-next.ensures c.closing.ensures c.put_bom-2.ensures
