-- A part written whole, and the bytes of a word.
use Rattle.std.proofs.Common.{◌≡◌, ℕ, ◌+◌, ◌-◌, List, length, arith, ap}
use Rattle.std.proofs.Common.{◌/◌, ◌∙◌}
use Rattle.std.proofs.Math.Nat.{div-div-eq-div-mul}
use borrow.Rule.Slice.PartMut.{put_mid}
use Rattle.std.specs.Int.{to_le_bytes, w32}
use Rattle.spec_base.specs.base.Put.{put, put_at}
use Rattle.spec_parked_blocks.specs.parked_blocks.Sealed.{word_bytes}

pub part_put : (at k : ℕ) (l v : List ℕ) → k ≡ length v → put_mid at k l v ≡ put_at at v l
unfolding put_at put
part_put at k l v e = rw e

pub word_le : (w : ℕ) → to_le_bytes w32 w ≡ word_bytes w
unfolding word_bytes
word_le w =
    let a : w / 256 / 256 ≡ w / 65536 = div-div-eq-div-mul w 256 256 in
    let b : w / 256 / 256 / 256 ≡ w / 16777216 = div-div-eq-div-mul (w / 256) 256 256 ∙ div-div-eq-div-mul w 256 65536 in
    cc

pub word_put : (l v : List ℕ) (at w : ℕ) → v ≡ to_le_bytes w32 w → put_mid at (at + 4 - at) l v ≡ put_at at (word_bytes w) l
word_put l v at w e =
    let f : v ≡ word_bytes w = e ∙ word_le w in
    let g : length v ≡ 4 = ap length e in
    part_put at (at + 4 - at) l v (omega arith) ∙ ap (λ (x : List ℕ). put_at at x l) f
