use mathlib.Core.Path.{refl}
use native.Mathlib.Omega.{arith}
use Rattle.spec_session.proofs.session.EndLaws.{start_shows, start_parsed, start_held, close_start, end_room, finish_none, finish_bom, finish_fault, finish_last, close_last}
use Rattle.session.proofs.ending.finish_run.Goals as goal

pub close-requires : goal.close-requires
close-requires c = let A = c.args in (c.requires.0, close_start A.config A.map.now A.at A.held.now A.out.now A.warnings.now c.requires.0 c.requires.1)

pub returns-then-m-s : goal.returns-then-m-s
returns-then-m-s c = let A = c.args in let k = c.close in finish_none A.config A.map.now A.at A.held.now A.out.now A.warnings.now c.requires.0 c.requires.1 c.if-m-s.true k.result k.new.out k.new.warnings (λ sh. k.ensures _ _ _ _ _ _ (start_parsed A.config A.map.now A.at A.held.now A.out.now A.warnings.now c.requires.0 c.requires.1) sh)

pub slice_bounds-bom_alone-count : goal.slice_bounds-bom_alone-count
slice_bounds-bom_alone-count c = let A = c.args in omega (arith, (end_room A.config A.map.now A.at A.held.now A.out.now A.warnings.now c.requires.0 c.requires.1).order)

pub slice_bounds-bom_alone-start : goal.slice_bounds-bom_alone-start
slice_bounds-bom_alone-start c = let A = c.args in omega (arith, (end_room A.config A.map.now A.at A.held.now A.out.now A.warnings.now c.requires.0 c.requires.1).order)

pub close_bom-requires : goal.close_bom-requires
close_bom-requires c = (c.requires.0, c.requires.1)

pub returns-then-bom_alone : goal.returns-then-bom_alone
returns-then-bom_alone c = let A = c.args in let k = c.close_bom in finish_bom A.config A.map.now A.at A.held.now A.out.now A.warnings.now c.requires.0 c.requires.1 c.bom_alone.result c.if-m-s.false c.bom_alone.ensures c.if-bom_alone.true k.result _ _ _ (k.ensures _ refl (start_held A.config A.map.now A.at A.held.now A.out.now A.warnings.now c.requires.0 c.requires.1) (start_parsed A.config A.map.now A.at A.held.now A.out.now A.warnings.now c.requires.0 c.requires.1))

pub end_line-last-requires : goal.end_line-last-requires
end_line-last-requires c = let A = c.args in (c.requires.0, end_room A.config A.map.now A.at A.held.now A.out.now A.warnings.now c.requires.0 c.requires.1)

pub returns-then-last-ne0 : goal.returns-then-last-ne0
returns-then-last-ne0 c = let A = c.args in let e = c.end_line-last in let sh = e.ensures _ _ _ _ _ _ _ (start_parsed A.config A.map.now A.at A.held.now A.out.now A.warnings.now c.requires.0 c.requires.1) (start_shows A.config A.map.now A.at A.held.now A.out.now A.warnings.now c.requires.0 c.requires.1) in finish_fault A.config A.map.now A.at A.held.now A.out.now A.warnings.now c.requires.0 c.requires.1 c.bom_alone.result c.if-m-s.false c.bom_alone.ensures c.if-bom_alone.false e.result _ _ _ sh c.if-last-ne0.true

pub close-requires-2 : goal.close-requires-2
close-requires-2 c = let A = c.args in let e = c.end_line-last in let sh = e.ensures _ _ _ _ _ _ _ (start_parsed A.config A.map.now A.at A.held.now A.out.now A.warnings.now c.requires.0 c.requires.1) (start_shows A.config A.map.now A.at A.held.now A.out.now A.warnings.now c.requires.0 c.requires.1) in (c.requires.0, close_last A.config A.map.now A.at A.held.now A.out.now A.warnings.now c.requires.0 c.requires.1 e.result _ _ _ sh c.if-last-ne0.false e.auto.held e.auto.out e.auto.warnings)

pub returns : goal.returns
returns c = let A = c.args in let e = c.end_line-last in let sh = e.ensures _ _ _ _ _ _ _ (start_parsed A.config A.map.now A.at A.held.now A.out.now A.warnings.now c.requires.0 c.requires.1) (start_shows A.config A.map.now A.at A.held.now A.out.now A.warnings.now c.requires.0 c.requires.1) in let k = c.close-2 in finish_last A.config A.map.now A.at A.held.now A.out.now A.warnings.now c.requires.0 c.requires.1 c.bom_alone.result c.if-m-s.false c.bom_alone.ensures c.if-bom_alone.false e.result k.result _ _ _ _ _ sh c.if-last-ne0.false (λ t n ps g v. k.ensures _ t n ps _ _ g v)
