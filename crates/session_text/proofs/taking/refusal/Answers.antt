use Rattle.spec_session.proofs.session_text.TextLaws.{refused_foreign, refused_ended, refused_map, refused_lengths, refused_not}
use Rattle.session_text.proofs.taking.refusal.Goals as goal

pub returns-then-foreign_head : goal.returns-then-foreign_head
returns-then-foreign_head c = search refused_foreign depth 12

pub returns-then-head : goal.returns-then-head
returns-then-head c = search refused_ended depth 12

pub map_wrong-requires : goal.map_wrong-requires
map_wrong-requires c = c.requires

pub returns-then-map_wrong : goal.returns-then-map_wrong
returns-then-map_wrong c = search refused_map depth 12

pub returns-then-bad : goal.returns-then-bad
returns-then-bad c = search refused_lengths depth 12

pub returns : goal.returns
returns c = search refused_not depth 12
