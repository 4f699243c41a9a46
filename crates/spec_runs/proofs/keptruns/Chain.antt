-- From the bytes of a sheet and a trim list: the numbers that `retimer_map` wrote are the map, open accepts it, and the promise is kept (`kept_chain`).
use mathlib.Core.Path.{◌≡◌, sym, ap, subst, ◌∙◌}
use mathlib.Core.Bool.{Bool, false}
use mathlib.Core.List.{List}
use Prim.Native.Nat.{ℕ, ◌≤◌, ◌*◌}
use lib.ListN.{length, take}
use borrow.Author.Tests.{le-leb}
use Rattle.spec_base.specs.base.Refusal.{fault_unless}
use Rattle.spec_base.specs.base.Put.{put}
use Rattle.spec_base.proofs.base.RefusalLaws.{else_none}
use Rattle.spec_time.specs.caption_time.Kind.{kind_bad}
use Rattle.spec_map.specs.segment.Segment.{flat_of}
use Rattle.spec_map.specs.segmap.Map.{map_of}
use Rattle.spec_map.proofs.segmap.Built.{map_front}
use Rattle.spec_session.specs.session.SessionCalls.{open_of}
use Rattle.spec_parked_blocks.specs.parked_blocks.Sealed.{sealed_length}
use Rattle.spec_parking.specs.parking.Parkings.{keep_number}
use Rattle.promise.proofs.TheDemand.{built_opens}
use Rattle.spec_parking.specs.session_bytes.ByteCalls.{open_number}
use Rattle.spec_runs.specs.keptruns.Claims.{ChainHolds, KeptChain}
use Rattle.spec_runs.proofs.keptruns.Runs.{kept_promise}

room_lent : (n : ℕ) → sealed_length ≤ n → keep_number n ≡ 0
unfolding fault_unless
room_lent n h = ap (λ (t : Bool). fault_unless t 16) (le-leb sealed_length n h)

module _ (sheet list : List ℕ) (d work kind : ℕ) (map map' lent : List ℕ) (e : (map_of sheet list d (length map) work).number ≡ 0) where
  T : ℕ
  T = (map_of sheet list d (length map) work).timescale

  flat : List ℕ
  flat = flat_of (map_of sheet list d (length map) work).segments

  taken : map' ≡ put flat map → take (6 * (map_of sheet list d (length map) work).count) map' ≡ flat
  unfolding flat
  taken p = ap (take (6 * (map_of sheet list d (length map) work).count)) p ∙ map_front sheet list d (length map) work map

  accepts : kind_bad kind ≡ false → sealed_length ≤ length lent → open_number kind T flat (length lent) ≡ 0
  unfolding T flat open_number open_of
  accepts k h = else_none (keep_number (length lent)) (built_opens sheet list d (length map) work e kind k) ∙ room_lent (length lent) h

  holds : kind_bad kind ≡ false → sealed_length ≤ length lent → ChainHolds kind T flat lent
  holds k h = record { opens = accepts k h; kept = kept_promise kind T flat lent (accepts k h) }

pub kept_chain : KeptChain
unfolding T flat
kept_chain sheet list d work kind map map' lent e p k h =
    subst (λ (m : List ℕ). ChainHolds kind (map_of sheet list d (length map) work).timescale m lent) (sym (taken sheet list d work kind map map' lent e p)) (holds sheet list d work kind map map' lent e k h)
