use mathlib.Core.Path.{sym}
use native.Mathlib.Omega.{arith}
use lib.Seq.{length-take-le}
use Rattle.spec_machine.specs.kinds.Takes.{machine_of, ends}
use Rattle.spec_session.proofs.session.EndLaws.{finish_ass, block_done, block_sums, close_none, close_block}
use Rattle.session.proofs.ending.close.Goals as goal

pub returns-then-config-eq0 : goal.returns-then-config-eq0
returns-then-config-eq0 c = let A = c.args in λ t s n ps o w p sh. close_none A.config A.map.now (machine_of A.config.kind) t s n ps o w A.at A.held.now A.out.now A.warnings.now sh (ends A.config.kind s n) (finish_ass A.config.kind s n c.if-config-eq0.true)

pub slice_bounds-end_block-end : goal.slice_bounds-end_block-end
slice_bounds-end_block-end c = let R = c.requires.1 in sym (length-take-le _ _ R.block)

pub closing-requires : goal.closing-requires
closing-requires c = let A = c.args in let e = c.end_block-end in let x = block_sums A.config A.map.now A.at A.held.now A.out.now A.warnings.now c.requires.1 e.result e.new.out e.new.warnings e.ensures e.auto.out e.auto.warnings in (omega (arith, x, c.before.before.before.before.before.before.before.before.before.before.before.before.before.before.before), omega (arith, x, c.before.before.before.before.before.before.before.before.before.before.before.before.before.before.before))

pub returns : goal.returns
returns c = let A = c.args in let e = c.end_block-end in λ t s n ps o w p sh. close_block A.config A.map.now (machine_of A.config.kind) t s n ps o w A.at A.held.now A.out.now A.warnings.now sh e.new.out e.new.warnings e.result _ c.closing.ensures A.config.kind c.if-config-eq0.false p (block_done A.config A.map.now A.at A.held.now A.out.now A.warnings.now c.requires.1 e.result e.new.out e.new.warnings e.ensures c.requires.0)
