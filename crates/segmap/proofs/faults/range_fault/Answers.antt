use Rattle.std.proofs.Common.{arith}
use Rattle.spec_map.proofs.segmap.BuildLaws.{fault_turned, fault_past, fault_none}
use Rattle.segmap.proofs.faults.range_fault.Goals as goal

pub returns-then-end-start : goal.returns-then-end-start
returns-then-end-start c = search fault_turned

pub returns-then-from-count : goal.returns-then-from-count
returns-then-from-count c = fault_past _ _ _ _ _ _ c.if-end-start.false c.frame_count.ensures c.decode_at-decode.ensures (omega arith)

pub returns-else-from-count : goal.returns-else-from-count
returns-else-from-count c = fault_none _ _ _ _ _ _ c.if-end-start.false c.frame_count.ensures c.decode_at-decode.ensures (omega arith)
