use mathlib.Core.Path.{refl, ◌∙◌}
use Prim.Native.Nat.{◌<◌}
use native.Mathlib.Omega.{arith}
use lib.ListN.{length, take}
use Rattle.spec_machine.specs.kinds.Takes.{machine_of}
use Rattle.spec_session.specs.session.Stand.{resume_at, holding_to}
use Rattle.spec_session.proofs.session.RunLaws.{begin_shows, turn_byte, turn_held, turn_place, turn_join, run_parsed, run_more}
use Rattle.session.proofs.running.run_piece.Goals as goal
use Rattle.session.proofs.running.run_piece.Goals.{then-joins, else-joins}

pub loop-b-init : goal.loop-b-init
loop-b-init c = let A = c.args in record { within = omega arith; shows = begin_shows A.config A.map.now A.start A.held.now (length A.out.now) (length A.warnings.now) c.requires.0 c.requires.1 A.out.now A.warnings.now; held_long = refl; out_long = refl; places_long = refl }

pub bounds-held-m : goal.bounds-held-m
bounds-held-m c = let A = c.args in let l = c.loop-b in let lt : l.b-index < length A.piece.now = omega (arith, c.loop-b-test.true) in turn_place A.config A.map.now A.start A.held.now (length A.out.now) (length A.warnings.now) c.requires.0 c.requires.1 A.piece.now A.out.now A.warnings.now l.at l.m l.held l.out l.warnings l.b-index l.invariant refl refl lt c.requires.2 _ _ c.saturating_sub.ensures (c.joins.ensures c.if-joins.true)

pub overflow_add-m : goal.overflow_add-m
overflow_add-m c = let A = c.args in let l = c.loop-b in let lt : l.b-index < length A.piece.now = omega (arith, c.loop-b-test.true) in let p : l.m < length l.held = turn_place A.config A.map.now A.start A.held.now (length A.out.now) (length A.warnings.now) c.requires.0 c.requires.1 A.piece.now A.out.now A.warnings.now l.at l.m l.held l.out l.warnings l.b-index l.invariant refl refl lt c.requires.2 _ _ c.saturating_sub.ensures (c.joins.ensures c.if-joins.true) in omega (arith, p, l.invariant.held_long, c.requires.1.size)

pub step-at-requires : goal.step-at-requires
step-at-requires c = let A = c.args in let l = c.loop-b in let lt : l.b-index < length A.piece.now = omega (arith, c.loop-b-test.true) in (c.requires.0, λ z. turn_byte A.config A.map.now A.start A.held.now (length A.out.now) (length A.warnings.now) c.requires.0 c.requires.1 A.piece.now A.out.now A.warnings.now c.holding.result l.held l.out l.warnings l.b-index (turn_held A.config A.map.now A.start A.piece.now A.held.now A.out.now A.warnings.now (holding_to l.at l.m) c.holding.result l.held l.out l.warnings l.b-index c.holding.ensures l.invariant) refl refl lt c.requires.2 z)

pub loop-b-preserved : goal.loop-b-preserved
loop-b-preserved c = let A = c.args in let l = c.loop-b in let lt : l.b-index < length A.piece.now = omega (arith, c.loop-b-test.true) in
    elim c.if-joins.branch [
      | then-joins w ↦ rw (w.at-is, w.m-is, w.held-is, w.out-is, w.warnings-is) (turn_join A.config A.map.now A.start A.held.now (length A.out.now) (length A.warnings.now) c.requires.0 c.requires.1 A.piece.now A.out.now A.warnings.now l.at l.m l.held l.out l.warnings l.b-index l.invariant refl refl lt c.requires.2 _ _ c.saturating_sub.ensures (c.joins.ensures w.if-joins.true) refl)
      | else-joins w ↦ let d = w.step-at in let v = turn_held A.config A.map.now A.start A.piece.now A.held.now A.out.now A.warnings.now (holding_to l.at l.m) w.holding.result l.held l.out l.warnings l.b-index w.holding.ensures l.invariant in rw (w.at-is, w.m-is, w.held-is, w.out-is, w.warnings-is) (record { within = omega (arith, lt); shows = rw (run_more (machine_of A.config.kind) (resume_at A.start A.held.now) A.piece.now l.b-index lt) (d.ensures _ _ _ _ (run_parsed A.config A.map.now A.start A.held.now (length A.out.now) (length A.warnings.now) c.requires.0 c.requires.1 (take l.b-index A.piece.now)) v.shows); held_long = d.auto.held ∙ v.held_long; out_long = d.auto.out ∙ v.out_long; places_long = d.auto.warnings ∙ v.places_long })
    ]
