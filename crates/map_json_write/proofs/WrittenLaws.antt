-- Laws of pieces written one behind the other.
use mathlib.Core.Path.{◌≡◌, sym, ap, subst, ◌∙◌}
use mathlib.Core.List.{List, ◌++◌, append_assoc}
use Prim.Native.Nat.{ℕ, ◌+◌, ◌-◌, ◌^◌, ◌≤◌, ◌<◌}
use native.Mathlib.Omega.{arith}
use lib.ListN.{length, take, drop, length-append, length-drop}
use lib.Seq.{drop-drop, length-take-le, take_at, drop_at}
use Rattle.spec_base.specs.base.Put.{put, put_at, placed, placed_at}
use Rattle.spec_base.proofs.base.PutLaws.{at_yes, placed_yes, tail_back, length_put}
use Rattle.spec_time.specs.caption_stamp.Write.{pad, width}
use Rattle.spec_time.proofs.caption_stamp.Pad.{pad_length, width_bound}
use Rattle.spec_json.specs.json.Quote.{decimal}
use Rattle.map_json_write.specs.Written.{Written, three_text}
use Rattle.spec_base.proofs.base.PartLaws.{rest_length}

pub bytes_written : (at n : ℕ) (s l l' : List ℕ) → n ≡ at + length s → l' ≡ placed_at at s l → Written at s l n l'
bytes_written at n s l l' e h = record { place = e; bytes = λ k. h ∙ at_yes at s l (omega arith) }

-- a piece behind a piece
length_at : (at : ℕ) (v l : List ℕ) → at + length v ≤ length l → length (put_at at v l) ≡ length l
unfolding put_at
length_at at v l h =
    let a : length (take at l) ≡ at = length-take-le at l (omega arith) in
    let d : length (drop at l) ≡ length l - at = length-drop at l in
    let p : length (put v (drop at l)) ≡ length (drop at l) = length_put v (drop at l) (omega arith) in
    length-append (take at l) (put v (drop at l)) ∙ omega arith

take_put_at : (at : ℕ) (v l : List ℕ) → at + length v ≤ length l → take (at + length v) (put_at at v l) ≡ take at l ++ v
unfolding put_at put
take_put_at at v l h =
    let a : length (take at l) ≡ at = length-take-le at l (omega arith) in
    let n : length (take at l ++ v) ≡ at + length v = length-append (take at l) v ∙ ap (λ (k : ℕ). k + length v) a in
    ap (take (at + length v)) (sym (append_assoc (take at l) v (drop (length v) (drop at l)))) ∙ take_at (take at l ++ v) (drop (length v) (drop at l)) (at + length v) n

drop_put_at : (at : ℕ) (v l : List ℕ) → at + length v ≤ length l → drop (at + length v) (put_at at v l) ≡ drop (at + length v) l
unfolding put_at put
drop_put_at at v l h =
    let a : length (take at l) ≡ at = length-take-le at l (omega arith) in
    let n : length (take at l ++ v) ≡ at + length v = length-append (take at l) v ∙ ap (λ (k : ℕ). k + length v) a in
    ap (drop (at + length v)) (sym (append_assoc (take at l) v (drop (length v) (drop at l)))) ∙ drop_at (take at l ++ v) (drop (length v) (drop at l)) (at + length v) n ∙ drop-drop (length v) at l

put_at_then : (at : ℕ) (v w l : List ℕ) → at + length v + length w ≤ length l → put_at (at + length v) w (put_at at v l) ≡ put_at at (v ++ w) l
unfolding put_at put
put_at_then at v w l h =
    let n : at + length v + length w ≡ at + length (v ++ w) = omega (arith, length-append v w) in
    ap (λ (x : List ℕ). x ++ (w ++ drop (length w) (drop (at + length v) (put_at at v l)))) (take_put_at at v l (omega arith))
    ∙ ap (λ (x : List ℕ). (take at l ++ v) ++ (w ++ drop (length w) x)) (drop_put_at at v l (omega arith))
    ∙ ap (λ (x : List ℕ). (take at l ++ v) ++ (w ++ x)) (drop-drop (length w) (at + length v) l ∙ ap (λ (k : ℕ). drop k l) n ∙ sym (drop-drop (length (v ++ w)) at l))
    ∙ append_assoc (take at l) v (w ++ drop (length (v ++ w)) (drop at l))
    ∙ ap (λ (x : List ℕ). take at l ++ x) (sym (append_assoc v w (drop (length (v ++ w)) (drop at l))))

pub written_then : (at n m : ℕ) (v w l l₁ l₂ : List ℕ) → Written at v l n l₁ → Written n w l₁ m l₂ → Written at (v ++ w) l m l₂
written_then at n m v w l l₁ l₂ x y =
    let pn : n ≡ at + length v = x.place in
    let pm : m ≡ n + length w = y.place in
    let lv : length (v ++ w) ≡ length v + length w = length-append v w in
    record { place = omega arith; bytes = λ h. by pn pm h }
  where
    by : n ≡ at + length v → m ≡ n + length w → m ≤ length l → l₂ ≡ put_at at (v ++ w) l
    by pn pm h =
        let a : l₁ ≡ put_at at v l = x.bytes (omega arith) in
        let len : length l₁ ≡ length l = ap length a ∙ length_at at v l (omega arith) in
        let b : l₂ ≡ put_at n w l₁ = y.bytes (omega arith) in
        b ∙ ap (put_at n w) a ∙ ap (λ (k : ℕ). put_at k w (put_at at v l)) pn ∙ put_at_then at v w l (omega arith)

pub written_is : (at r : ℕ) (v w l l' : List ℕ) → v ≡ w → Written at v l r l' → Written at w l r l'
written_is at r v w l l' e x = subst (λ (y : List ℕ). Written at y l r l') e x

-- ---- digits
decimal_length : (n : ℕ) → length (decimal n) ≡ width n
unfolding decimal
decimal_length n = pad_length (width n) n

pub width_most : (n : ℕ) → n < 2 ^ 64 → width n ≤ 20
width_most n h = width_bound 19 n (omega arith)

pub decimal_none : (at w n : ℕ) (l : List ℕ) → w ≡ width n → length l < at + w → Written at (decimal n) l (at + w) l
decimal_none at w n l e h = record { place = ap (λ (k : ℕ). at + k) (e ∙ sym (decimal_length n)); bytes = λ k. absurd (omega arith) }

pub decimal_done : (at w n : ℕ) (l t : List ℕ) → w ≡ width n → at + w ≤ length l → t ≡ placed (pad w n) (take (length l - at) (drop at l)) → Written at (decimal n) l (at + w) (take at l ++ (t ++ drop (length l - at) (drop at l)))
unfolding decimal
decimal_done at w n l t e f h =
    let r : length (take (length l - at) (drop at l)) ≡ length l - at = rest_length at l in
    let d : length (pad w n) ≡ w = pad_length w n in
    let q : t ≡ put (pad w n) (take (length l - at) (drop at l)) = h ∙ placed_yes (pad w n) (take (length l - at) (drop at l)) (omega arith) in
    record {
      place = ap (λ (k : ℕ). at + k) (e ∙ sym (pad_length (width n) n));
      bytes = λ k. tail_back at (pad (width n) n) l t (q ∙ ap (λ (j : ℕ). put (pad j n) (take (length l - at) (drop at l))) e);
    }

pub named_written : (at p r n : ℕ) (s l l₁ l₂ : List ℕ) → Written at s l p l₁ → Written p (decimal n) l₁ r l₂ → Written at (s ++ decimal n) l r l₂
named_written at p r n s l l₁ l₂ x y = written_then at p r s (decimal n) l l₁ l₂ x y

pub three_written : (at p q r a b c : ℕ) (la lb lc l l₁ l₂ l₃ : List ℕ) → Written at (la ++ decimal a) l p l₁ → Written p (lb ++ decimal b) l₁ q l₂ → Written q (lc ++ decimal c) l₂ r l₃
    → Written at (three_text la a lb b lc c) l r l₃
three_written at p q r a b c la lb lc l l₁ l₂ l₃ x y z =
    written_then at p r (la ++ decimal a) ((lb ++ decimal b) ++ (lc ++ decimal c)) l l₁ l₃ x (written_then p q r (lb ++ decimal b) (lc ++ decimal c) l₁ l₂ l₃ y z)

pub end_fits : (at w n : ℕ) → at ≤ 1000000 → w ≡ width n → n < 2 ^ 64 → at + w < 2 ^ 64
end_fits at w n h e l = let a = width_most n l in omega arith

pub end_most : (at w n : ℕ) → w ≡ width n → n < 2 ^ 64 → at + w ≤ at + 20
end_most at w n e l = let a = width_most n l in omega arith
