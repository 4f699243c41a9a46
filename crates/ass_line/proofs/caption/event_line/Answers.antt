use mathlib.Core.Path.{refl, ap}
use Prim.Native.Nat.{ℕ, ◌+◌}
use native.Mathlib.Omega.{arith}
use Rattle.spec_caption.specs.caption_fate.Grouped.{segments_by}
use Rattle.spec_ass.specs.ass_line.Line.{dialogue_word, comment_word}
use Rattle.spec_ass.proofs.ass_line.SayLaws.{word_1, word_2, word_3, word_4, word_room}
use Rattle.ass_line.proofs.caption.event_line.Goals as goal

pub returns-then-starts_with-clause-told : goal.returns-then-starts_with-clause-told
returns-then-starts_with-clause-told c = let whole = let a = c.args in word_1 a.cut.config (segments_by a.cut.groups.now a.cut.map.now) a.columns a.n a.text.now _ c.text_of-t.ensures _ c.starts_with.ensures _ _ _ a.warnings.now _ _ _ c.if-starts_with.true refl c.stayed-told.ensures c.rest.ensures c.columns_of.ensures.0 in whole.0

pub returns-then-starts_with-clause-columns : goal.returns-then-starts_with-clause-columns
returns-then-starts_with-clause-columns c = let whole = let a = c.args in word_1 a.cut.config (segments_by a.cut.groups.now a.cut.map.now) a.columns a.n a.text.now _ c.text_of-t.ensures _ c.starts_with.ensures _ _ _ a.warnings.now _ _ _ c.if-starts_with.true refl c.stayed-told.ensures c.rest.ensures c.columns_of.ensures.0 in whole.1

pub caption-told-requires : goal.caption-told-requires
caption-told-requires c = (c.requires.0, (c.requires.1, (omega arith, word_room c.args.text.now _ dialogue_word _ c.text_of-t.ensures c.starts_with-2.ensures c.if-starts_with-2.true)))

pub returns-then-starts_with-2-clause-told : goal.returns-then-starts_with-2-clause-told
returns-then-starts_with-2-clause-told c = let whole = let a = c.args in word_2 a.cut.config (segments_by a.cut.groups.now a.cut.map.now) a.columns a.n a.text.now _ c.text_of-t.ensures _ c.starts_with.ensures _ _ _ _ _ c.if-starts_with.false _ c.starts_with-2.ensures _ c.if-starts_with-2.true (ap (λ (x : ℕ). x + 1) c.from-at.ensures) c.caption-told.ensures in whole.0

pub returns-then-starts_with-2-clause-columns : goal.returns-then-starts_with-2-clause-columns
returns-then-starts_with-2-clause-columns c = let whole = let a = c.args in word_2 a.cut.config (segments_by a.cut.groups.now a.cut.map.now) a.columns a.n a.text.now _ c.text_of-t.ensures _ c.starts_with.ensures _ _ _ _ _ c.if-starts_with.false _ c.starts_with-2.ensures _ c.if-starts_with-2.true (ap (λ (x : ℕ). x + 1) c.from-at.ensures) c.caption-told.ensures in whole.1

pub caption-told-requires-then-starts_with-3 : goal.caption-told-requires-then-starts_with-3
caption-told-requires-then-starts_with-3 c = (c.requires.0, (c.requires.1, (omega arith, word_room c.args.text.now _ comment_word _ c.text_of-t.ensures c.starts_with-3.ensures c.if-starts_with-3.true)))

pub returns-then-starts_with-3-clause-told : goal.returns-then-starts_with-3-clause-told
returns-then-starts_with-3-clause-told c = let whole = let a = c.args in word_3 a.cut.config (segments_by a.cut.groups.now a.cut.map.now) a.columns a.n a.text.now _ c.text_of-t.ensures _ c.starts_with.ensures _ _ _ _ _ c.if-starts_with.false _ c.starts_with-2.ensures c.if-starts_with-2.false _ c.starts_with-3.ensures _ c.if-starts_with-3.true (ap (λ (x : ℕ). x + 1) c.from-at.ensures) c.caption-told-then-starts_with-3.ensures in whole.0

pub returns-then-starts_with-3-clause-columns : goal.returns-then-starts_with-3-clause-columns
returns-then-starts_with-3-clause-columns c = let whole = let a = c.args in word_3 a.cut.config (segments_by a.cut.groups.now a.cut.map.now) a.columns a.n a.text.now _ c.text_of-t.ensures _ c.starts_with.ensures _ _ _ _ _ c.if-starts_with.false _ c.starts_with-2.ensures c.if-starts_with-2.false _ c.starts_with-3.ensures _ c.if-starts_with-3.true (ap (λ (x : ℕ). x + 1) c.from-at.ensures) c.caption-told-then-starts_with-3.ensures in whole.1

pub returns-clause-told : goal.returns-clause-told
returns-clause-told c = let whole = let a = c.args in word_4 a.cut.config (segments_by a.cut.groups.now a.cut.map.now) a.columns a.n a.text.now _ c.text_of-t.ensures _ c.starts_with.ensures _ _ _ a.warnings.now _ c.if-starts_with.false _ c.starts_with-2.ensures c.if-starts_with-2.false _ c.starts_with-3.ensures c.if-starts_with-3.false refl c.stayed-told-2.ensures in whole.0

pub returns-clause-columns : goal.returns-clause-columns
returns-clause-columns c = let whole = let a = c.args in word_4 a.cut.config (segments_by a.cut.groups.now a.cut.map.now) a.columns a.n a.text.now _ c.text_of-t.ensures _ c.starts_with.ensures _ _ _ a.warnings.now _ c.if-starts_with.false _ c.starts_with-2.ensures c.if-starts_with-2.false _ c.starts_with-3.ensures c.if-starts_with-3.false refl c.stayed-told-2.ensures in whole.1
