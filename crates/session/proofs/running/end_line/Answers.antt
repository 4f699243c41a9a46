use mathlib.Core.Path.{sym}
use Prim.Native.Nat.{◌≤◌, ◌<◌, ◌+◌, ◌-◌, ◌^◌}
use native.Mathlib.Omega.{arith}
use lib.Seq.{length-take-le}
use borrow.Author.Tests.{not-true, not-false}
use Rattle.spec_machine.specs.kinds.Takes.{machine_of}
use Rattle.spec_session.proofs.session.StandLaws.{held_block, line_done, line_skip, skip_held, line_sums, end_stop, end_empty, end_added}
use Rattle.session.proofs.running.end_line.Goals as goal

pub slice_bounds-take_line-end-2 : goal.slice_bounds-take_line-end-2
slice_bounds-take_line-end-2 c = let R = c.requires.1 in sym (length-take-le _ _ (omega (arith, R.line, R.block, R.size)))

pub returns-then-told-ne0 : goal.returns-then-told-ne0
returns-then-told-ne0 c = let A = c.args in let d = c.take_line-told in λ t s n l ps o w p sh. end_stop A.config A.map.now (machine_of A.config.kind) t s n l ps o w A.at A.held.now A.out.now A.warnings.now sh d.result d.new.out d.new.warnings _ (line_done A.config A.map.now A.at A.held.now A.out.now A.warnings.now c.requires.1 d.result d.new.out d.new.warnings d.ensures c.requires.0 s sh.holds.columns (held_block s n l A.at A.held.now sh.holds) p) c.if-told-ne0.true c.stop.ensures

pub lined-requires : goal.lined-requires
lined-requires c =
    let lined-fits : (c.args.at.lines ≤ 2 ^ 31) × (c.args.at.written + c.take_line-told.result.written < 2 ^ 64) × (c.args.at.warned + c.take_line-told.result.warned < 2 ^ 64) = let A = c.args in
    let R = c.requires.1 in
    let d = c.take_line-told in
    let x = line_sums A.config A.map.now A.at A.held.now A.out.now A.warnings.now R d.result d.new.out d.new.warnings d.ensures d.auto.out d.auto.warnings in
    (R.lines, omega (arith, x), omega (arith, x)) in
    lined-fits

pub returns-then-not-told : goal.returns-then-not-told
returns-then-not-told c = let A = c.args in let d = c.take_line-told in λ t s n l ps o w p sh. end_empty A.config A.map.now (machine_of A.config.kind) t s n l ps o w A.at A.held.now A.out.now A.warnings.now sh d.result d.new.out d.new.warnings _ (line_done A.config A.map.now A.at A.held.now A.out.now A.warnings.now c.requires.1 d.result d.new.out d.new.warnings d.ensures c.requires.0 s sh.holds.columns (held_block s n l A.at A.held.now sh.holds) p) c.if-told-ne0.false (not-true _ c.if-not-told.true) c.lined.ensures

pub overflow_sub-m : goal.overflow_sub-m
overflow_sub-m c = let R = c.requires.1 in omega (arith, R.order)

pub overflow_sub-m-2 : goal.overflow_sub-m-2
overflow_sub-m-2 c =
    let skip_small : c.take_line-told.result.skip ≤ c.args.at.held - c.args.at.start = let A = c.args in
    let d = c.take_line-told in
    skip_held A.config A.map.now A.at A.held.now A.out.now A.warnings.now c.requires.1 d.result d.new.out d.new.warnings d.ensures in
    omega (arith, skip_small)

pub move_down-requires : goal.move_down-requires
move_down-requires c =
    let skip_small : c.take_line-told.result.skip ≤ c.args.at.held - c.args.at.start = let A = c.args in
    let d = c.take_line-told in
    skip_held A.config A.map.now A.at A.held.now A.out.now A.warnings.now c.requires.1 d.result d.new.out d.new.warnings d.ensures in
    let R = c.requires.1 in omega (arith, R, skip_small)

pub overflow_sub-m-3 : goal.overflow_sub-m-3
overflow_sub-m-3 c =
    let skip_small : c.take_line-told.result.skip ≤ c.args.at.held - c.args.at.start = let A = c.args in
    let d = c.take_line-told in
    skip_held A.config A.map.now A.at A.held.now A.out.now A.warnings.now c.requires.1 d.result d.new.out d.new.warnings d.ensures in
    omega (arith, skip_small)

pub lined-requires-2 : goal.lined-requires-2
lined-requires-2 c =
    let lined-fits : (c.args.at.lines ≤ 2 ^ 31) × (c.args.at.written + c.take_line-told.result.written < 2 ^ 64) × (c.args.at.warned + c.take_line-told.result.warned < 2 ^ 64) = let A = c.args in
    let R = c.requires.1 in
    let d = c.take_line-told in
    let x = line_sums A.config A.map.now A.at A.held.now A.out.now A.warnings.now R d.result d.new.out d.new.warnings d.ensures d.auto.out d.auto.warnings in
    (R.lines, omega (arith, x), omega (arith, x)) in
    lined-fits

pub returns : goal.returns
returns c = let A = c.args in let d = c.take_line-told in let R = c.requires.1 in λ t s n l ps o w p sh. end_added A.config A.map.now (machine_of A.config.kind) t s n l ps o w A.at A.held.now A.out.now A.warnings.now sh d.result d.new.out d.new.warnings _ _ (line_done A.config A.map.now A.at A.held.now A.out.now A.warnings.now c.requires.1 d.result d.new.out d.new.warnings d.ensures c.requires.0 s sh.holds.columns (held_block s n l A.at A.held.now sh.holds) p) c.if-told-ne0.false (not-false _ c.if-not-told.false) (line_skip A.config A.map.now A.at A.held.now A.out.now A.warnings.now R d.result d.new.out d.new.warnings d.ensures) R.order (omega (arith, R)) c.move_down.ensures c.lined-2.ensures
