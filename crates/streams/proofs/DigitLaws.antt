-- The digits of a number in a buffer of 20 bytes.
use Rattle.std.proofs.Common.{◌≡◌, ℕ, ◌≤◌, ◌<◌, ◌^◌, List, length, take, sym, ap, ◌∙◌, arith}
use lib.ListN.{replicate, length-replicate}
use Rattle.spec_base.specs.base.Put.{put, placed}
use Rattle.spec_base.proofs.base.PutLaws.{placed_yes, take_put}
use Rattle.spec_time.specs.caption_stamp.Write.{pad, width}
use Rattle.spec_time.proofs.caption_stamp.Pad.{pad_length, width_bound}
use Rattle.spec_json.specs.json.Quote.{decimal}

pub front_digits : (n w : ℕ) (room text : List ℕ) → n < 2 ^ 64 → w ≡ width n → room ≡ placed (pad w n) (replicate 20 0) → text ≡ take w room → text ≡ decimal n
unfolding decimal
front_digits n w room text h e r t =
    let p : length (pad w n) ≡ w = pad_length w n in
    let k : length {A = ℕ} (replicate 20 0) ≡ 20 = length-replicate {A = ℕ} 20 0 in
    let f : width n ≤ 20 = width_bound 19 n (omega arith) in
    let q : room ≡ put (pad w n) (replicate 20 0) = r ∙ placed_yes (pad w n) (replicate 20 0) (omega arith) in
    t ∙ ap (take w) q ∙ ap (λ (j : ℕ). take j (put (pad w n) (replicate 20 0))) (sym p) ∙ take_put (pad w n) (replicate 20 0) ∙ ap (λ (j : ℕ). pad j n) e
