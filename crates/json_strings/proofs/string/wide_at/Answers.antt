use mathlib.Core.Path.{sym}
use native.Mathlib.Omega.{arith}
use Rattle.spec_json.proofs.json.CharsLaws.{at_low, at_quote, at_one}
use Rattle.json_strings.proofs.string.wide_at.Goals as goal

pub returns-in-0-to-31 : goal.returns-in-0-to-31
returns-in-0-to-31 c = sym (at_quote c.args.s.now c.args.at _ c.get_or.ensures (omega arith))

pub returns-in-0-to-31-2 : goal.returns-in-0-to-31-2
returns-in-0-to-31-2 c = sym (at_low c.args.s.now c.args.at _ c.get_or.ensures (omega arith))

pub returns-in_default : goal.returns-in_default
returns-in_default c = (at_one c.args.s.now c.args.at _ c.get_or.ensures (omega arith) (λ q. omega arith) (λ q. omega arith), λ z. omega arith)
