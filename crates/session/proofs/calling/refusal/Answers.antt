use Rattle.spec_session.specs.session.SessionCalls.{refusal_of, lengths_bad}
use Rattle.spec_session.specs.session_state.View.{foreign_of}
use Rattle.spec_map.specs.segment.Segment.{map_bad}
use mathlib.Core.Bool.{true, false}
use mathlib.Core.Path.{◌≡◌, sym, ◌∙◌}
use Rattle.session.proofs.calling.refusal.Goals as goal

pub returns-then-foreign : goal.returns-then-foreign
unfolding refusal_of
returns-then-foreign c = let f : foreign_of c.args.session ≡ true = sym c.foreign.ensures ∙ c.if-foreign.true in rw f

pub returns-then-session : goal.returns-then-session
unfolding refusal_of
returns-then-session c = let f : foreign_of c.args.session ≡ false = sym c.foreign.ensures ∙ c.if-foreign.false in let e : c.args.session.ended ≡ true = c.if-session.true in rw (f, e)

pub returns-then-map_bad : goal.returns-then-map_bad
unfolding refusal_of
returns-then-map_bad c = let f : foreign_of c.args.session ≡ false = sym c.foreign.ensures ∙ c.if-foreign.false in let e : c.args.session.ended ≡ false = c.if-session.false in let m : map_bad c.args.map.now ≡ true = sym c.map_bad.ensures ∙ c.if-map_bad.true in rw (f, e, m)

pub returns-then-lengths_bad : goal.returns-then-lengths_bad
unfolding refusal_of
returns-then-lengths_bad c = let f : foreign_of c.args.session ≡ false = sym c.foreign.ensures ∙ c.if-foreign.false in let e : c.args.session.ended ≡ false = c.if-session.false in let m : map_bad c.args.map.now ≡ false = sym c.map_bad.ensures ∙ c.if-map_bad.false in let q : lengths_bad c.args.session.taken c.args.piece c.args.out c.args.places ≡ true = sym c.lengths_bad.ensures ∙ c.if-lengths_bad.true in rw (f, e, m, q)

pub returns : goal.returns
unfolding refusal_of
returns c = let f : foreign_of c.args.session ≡ false = sym c.foreign.ensures ∙ c.if-foreign.false in let e : c.args.session.ended ≡ false = c.if-session.false in let m : map_bad c.args.map.now ≡ false = sym c.map_bad.ensures ∙ c.if-map_bad.false in let q : lengths_bad c.args.session.taken c.args.piece c.args.out c.args.places ≡ false = sym c.lengths_bad.ensures ∙ c.if-lengths_bad.false in rw (f, e, m, q)
