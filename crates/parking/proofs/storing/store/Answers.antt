use mathlib.Core.Path.{◌≡◌}
use lib.ListN.{length}
use Rattle.spec_parking.proofs.parking.StoreLaws.{stored_is}
use borrow.Author.Rules.{rules}
use Rattle.parking.proofs.storing.store.Goals as goal

pub returns : goal.returns
returns c =
    let size : length c.args.session.now.held ≡ 8192 = search rules in
    search (stored_is c.args.session.now size)
