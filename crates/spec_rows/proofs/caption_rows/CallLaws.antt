-- Laws of the whole call, over `walk_plain`.
use mathlib.Core.Path.{◌≡◌}
use mathlib.Core.Bool.{Bool, true, false, not}
use mathlib.Core.List.{List, [], ◌∷◌}
use Prim.Native.Nat.{ℕ}
use lib.Dec.{leb}
use lib.ListN.{length}
use Rattle.spec_base.specs.base.Limits.{most_taken}
use Rattle.spec_base.specs.base.Refusal.{◌or_else◌, fault_unless}
use Rattle.spec_base.specs.base.Put.{put}
use Rattle.spec_time.specs.caption_time.Kind.{kind_bad}
use Rattle.spec_rows.specs.declared.caption_rows.Walked.{Walked}
use Rattle.spec_rows.specs.caption_rows.Walk.{walk_of, WalkedBy}
use Rattle.spec_rows.specs.caption_rows.Cues.{CuesRead}
use Rattle.spec_rows.proofs.caption_rows.ReadLaws.{read_few, read_told}
use Rattle.spec_rows.proofs.caption_rows.AgreeText.{walk_plain}

module _ (kind : ℕ) (text rows told : List ℕ) (bad : ℕ)
    (e : bad ≡ (fault_unless (not (kind_bad kind)) 16 or_else fault_unless (leb (length text) most_taken) 16 or_else fault_unless (leb 2 (length told)) 16)) (z : bad ≡ 0)
    (fits : Bool) (ef : fits ≡ leb (length (walk_of kind text).rows) (length rows)) where
  pub call_few : fits ≡ false → CuesRead kind text rows rows told told 16
  call_few f = read_few kind text (walk_plain kind text) rows told bad e z fits ef f

  pub call_told : (v : Walked) (rows' told' : List ℕ) → fits ≡ true → WalkedBy (walk_of kind text) v rows rows' → told' ≡ put (v.captions ∷ v.line ∷ []) told
      → CuesRead kind text rows rows' told told' v.number
  call_told v rows' told' f g et = read_told kind text (walk_plain kind text) rows told bad e z fits ef v rows' told' f g et
