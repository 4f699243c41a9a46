-- Six places for each eight bytes of a text are enough: `places_enough`.
use mathlib.Core.Path.{◌≡◌, sym, ap, ◌∙◌}
use mathlib.Core.Bool.{true, false}
use mathlib.Core.List.{List}
use Prim.Native.Nat.{ℕ, ◌*◌, ◌≤◌}
use native.Mathlib.Omega.{arith}
use borrow.Author.Tests.{le-leb}
use lib.ListN.{length}
use Rattle.spec_base.specs.base.Limits.{most_taken}
use Rattle.spec_base.specs.base.Refusal.{◌or_else◌, fault_unless}
use Rattle.spec_time.specs.caption_time.Kind.{kind_bad}
use Rattle.spec_caption.specs.caption_fate.Says.{captions_in}
use Rattle.promise.specs.Plain.{plain_read}
use Rattle.spec_rows.specs.caption_rows.Cues.{cues_refused}
use Rattle.spec_rows.proofs.caption_rows.EnoughLaws.{walk_within}
use Rattle.spec_rows.proofs.caption_rows.ReadLaws.{rows_many}
use Rattle.spec_rows.proofs.caption_rows.AgreeText.{walk_plain}
use Rattle.spec_rows.specs.cueplaces.Enough.{PlacesEnough}

-- a text has at most a caption for each eight bytes
captions_few : (kind : ℕ) (text : List ℕ) → kind_bad kind ≡ false → 8 * captions_in (plain_read kind true text).parts ≤ length text
captions_few kind text k =
    let w = walk_within kind text in
    let q : 6 * captions_in (plain_read kind true text).parts ≡ 6 * w.captions = sym (ap length (walk_plain kind text k).rows ∙ rows_many kind text (plain_read kind true text).parts) ∙ w.rows in
    let b = w.bytes in
    omega (arith, q, b)

pub places_enough : PlacesEnough
unfolding cues_refused fault_unless ◌or_else◌
places_enough kind text lent told k h g r =
    let f = captions_few kind text k in
    rw (k, le-leb (length text) most_taken h, le-leb 2 told g, le-leb (6 * captions_in (plain_read kind true text).parts) lent (omega (arith, f, r)))
