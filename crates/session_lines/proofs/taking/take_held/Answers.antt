use native.Mathlib.Omega.{arith}
use Rattle.spec_caption.specs.caption_fate.Grouped.{segments_by}
use Rattle.spec_session.specs.session_lines.LinesThrough.{state_of}
use lib.ListN.{take, length-take, length-drop}
use Rattle.spec_session.proofs.session_lines.BomLaws.{behind_room, take_fault, take_plain, take_behind}
use Rattle.spec_base.proofs.base.PartLaws.{rest_all}
use Rattle.session_lines.proofs.taking.take_held.Goals as goal
use Rattle.session_lines.proofs.taking.take_held.Goals.{then-told-ne0-via-then-told-ne0, then-told-ne0-via-else-told-ne0+then-k-eq0}

pub any_line-told-requires : goal.any_line-told-requires
any_line-told-requires c = let b = c.bom_size-k.ensures in let v = rw length-drop at (rw rest_all at b.upper_bound.0) in (record { counts = c.requires.0.counts; room_long = simp (length-take, length-drop) (omega (arith, v, b.upper_bound.1)); places_long = omega arith }, omega arith, omega (arith, v))

pub returns-then-told-ne0 : goal.returns-then-told-ne0
returns-then-told-ne0 c =
    let b = c.bom_size-k.ensures in
    let a = c.args in
    let n = c.any_line-told in
    let k = c.bom_size-k.result in
    elim c.then-told-ne0.branch [
      | then-told-ne0-via-then-told-ne0 w ↦ take_fault a.at.config (segments_by a.at.groups.now a.at.map.now) a.at.columns a.at.counts n.result a.out.now n.new.out a.warnings.now n.new.warnings (state_of a.at.config.kind a.at.columns (take a.s a.held.now)) a.at.n a.held.now a.s k b.value n.ensures w.if-told-ne0.true
      | then-told-ne0-via-else-told-ne0+then-k-eq0 w ↦ take_plain a.at.config (segments_by a.at.groups.now a.at.map.now) a.at.columns a.at.counts n.result a.out.now n.new.out a.warnings.now n.new.warnings (state_of a.at.config.kind a.at.columns (take a.s a.held.now)) a.at.n a.held.now a.s k b.value n.ensures w.if-k-eq0.true
    ]

pub behind_bom-requires : goal.behind_bom-requires
behind_bom-requires c = let a = c.args in let n = c.any_line-told in let k = c.bom_size-k.result in let f = behind_room a.at.config (segments_by a.at.groups.now a.at.map.now) a.at.columns a.at.counts n.result a.out.now n.new.out a.warnings.now n.new.warnings (state_of a.at.config.kind a.at.columns (take a.s a.held.now)) a.at.n a.held.now a.s k n.ensures n.auto.out n.auto.warnings in omega (arith, f)

pub returns : goal.returns
returns c = let b = c.bom_size-k.ensures in let v = rw length-drop at (rw rest_all at b.upper_bound.0) in let a = c.args in let n = c.any_line-told in let k = c.bom_size-k.result in let e = c.behind_bom.ensures in take_behind a.at.config (segments_by a.at.groups.now a.at.map.now) a.at.columns a.at.counts n.result a.out.now n.new.out a.warnings.now n.new.warnings (state_of a.at.config.kind a.at.columns (take a.s a.held.now)) a.at.n a.held.now a.s k _ _ b.value n.ensures c.if-told-ne0.false c.if-k-eq0.false (omega (arith, v, c.requires.0.room_long)) c.put_bom.ensures e
