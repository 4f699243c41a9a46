-- Laws of the new block: written piece by piece, and no longer than three times the old one.
use mathlib.Core.Path.{◌≡◌, refl, sym, ap, subst, ◌∙◌}
use mathlib.Core.Bool.{Bool, true, false}
use mathlib.Core.List.{List, [], ◌∷◌, ◌++◌, append_assoc, append-nil}
use Prim.Native.Nat.{ℕ, ◌+◌, ◌≤◌, ◌<◌, ◌^◌}
use native.Mathlib.Omega.{arith}
use lib.ListN.{length, take, drop, length-append}
use Rattle.spec_base.specs.base.Put.{put, placed_at, place_after}
use Rattle.spec_base.proofs.base.PartLaws.{part_lengths}
use Rattle.spec_base.proofs.base.PutLaws.{put_nil, then_placed}
use Rattle.spec_text.specs.pattern.Find.{up_to, past}
use Rattle.spec_text.specs.whitespace.White.{trim_head}
use Rattle.spec_text.specs.text.Line.{text_of, terminator_of}
use Rattle.spec_text.proofs.pattern.Laws.{up_past}
use Rattle.spec_text.proofs.text.LineLaws.{text_terminator, trim_head_length}
use Rattle.spec_time.specs.caption_stamp.Read.{stamp, time_in}
use Rattle.spec_time.specs.caption_stamp.Write.{time_text}
use Rattle.spec_time.proofs.caption_stamp.Reading.{time_long}
use Rattle.spec_time.proofs.caption_stamp.Written.{text_23}
use Rattle.spec_caption.specs.caption_fate.Emit.{warn_if, places_of, render}
use Rattle.spec_cue.specs.block_timing.Style.{end_in, style_of}
use Rattle.spec_cue.specs.block_timing.Arrow.{arrow, after_arrow}
use Rattle.spec_cue.specs.block_cue.Block.{written_arrow, block_frame, end_text, trailing}

-- ---- the frame with its times, piece behind piece
pieces : (b S w E t x a : List ℕ) → b ++ (S ++ (w ++ (E ++ (t ++ (x ++ (a ++ [])))))) ≡ b ++ S ++ w ++ E ++ t ++ x ++ a
pieces b S w E t x a = simp (append_assoc, append-nil)

pub frame_pieces : (b t x a S E : List ℕ) → render (block_frame b t x a) S E ≡ b ++ S ++ written_arrow ++ E ++ t ++ x ++ a
unfolding render
frame_pieces b t x a S E = pieces b S written_arrow E t x a

-- the length of the new block: the old parts and at most 51 bytes
pub frame_length : (b t x a S E : List ℕ) → length S ≤ 23 → length E ≤ 23 → length (render (block_frame b t x a) S E) ≤ length b + length t + length x + length a + 51
frame_length b t x a S E hs he = rw (frame_pieces b t x a S E) (simp length-append (omega arith))

pub kept_length : (kind i j s e : ℕ) (b t x a : List ℕ) → s < 2 ^ 64 → e < 2 ^ 64
    → length (render (block_frame b t x a) (time_text kind i s) (time_text kind j e)) ≤ length b + length t + length x + length a + 51
kept_length kind i j s e b t x a hs he = frame_length b t x a _ _ (text_23 kind i s hs) (text_23 kind j e he)

-- seven pieces, each from the place where the one before it ends
module _ (b S E t x a o l1 l2 l3 l4 l5 l6 l7 : List ℕ) (n1 n2 n3 n4 n5 n6 n7 : ℕ) (hs : length S ≤ 23) (he : length E ≤ 23) (room : length b + length t + length x + length a + 51 ≤ length o) where
  pub frame_written : (n1 ≡ place_after 0 b o) × (l1 ≡ placed_at 0 b o) → (n2 ≡ place_after n1 S l1) × (l2 ≡ placed_at n1 S l1)
      → (n3 ≡ place_after n2 written_arrow l2) × (l3 ≡ placed_at n2 written_arrow l2) → (n4 ≡ place_after n3 E l3) × (l4 ≡ placed_at n3 E l3)
      → (n5 ≡ place_after n4 t l4) × (l5 ≡ placed_at n4 t l4) → (n6 ≡ place_after n5 x l5) × (l6 ≡ placed_at n5 x l5) → (n7 ≡ place_after n6 a l6) × (l7 ≡ placed_at n6 a l6)
      → (l7 ≡ put (render (block_frame b t x a) S E) o) × (n7 ≡ length (render (block_frame b t x a) S E))
  frame_written p1 p2 p3 p4 p5 p6 p7 =
      let w2 : List ℕ = b ++ S in
      let w3 : List ℕ = w2 ++ written_arrow in
      let w4 : List ℕ = w3 ++ E in
      let w5 : List ℕ = w4 ++ t in
      let w6 : List ℕ = w5 ++ x in
      let k2 : length w2 ≡ length b + length S = length-append b S in
      let k3 : length w3 ≡ length w2 + 5 = length-append w2 written_arrow in
      let k4 : length w4 ≡ length w3 + length E = length-append w3 E in
      let k5 : length w5 ≡ length w4 + length t = length-append w4 t in
      let k6 : length w6 ≡ length w5 + length x = length-append w5 x in
      let k7 : length (w6 ++ a) ≡ length w6 + length a = length-append w6 a in
      let q1 : (l1 ≡ put b o) × (n1 ≡ length b) = then_placed 0 n1 [] b o o l1 (sym (put_nil o)) refl (omega arith) p1.0 p1.1 in
      let q2 : (l2 ≡ put w2 o) × (n2 ≡ length w2) = then_placed n1 n2 b S o l1 l2 q1.0 q1.1 (omega arith) p2.0 p2.1 in
      let q3 : (l3 ≡ put w3 o) × (n3 ≡ length w3) = then_placed n2 n3 w2 written_arrow o l2 l3 q2.0 q2.1 (omega arith) p3.0 p3.1 in
      let q4 : (l4 ≡ put w4 o) × (n4 ≡ length w4) = then_placed n3 n4 w3 E o l3 l4 q3.0 q3.1 (omega arith) p4.0 p4.1 in
      let q5 : (l5 ≡ put w5 o) × (n5 ≡ length w5) = then_placed n4 n5 w4 t o l4 l5 q4.0 q4.1 (omega arith) p5.0 p5.1 in
      let q6 : (l6 ≡ put w6 o) × (n6 ≡ length w6) = then_placed n5 n6 w5 x o l5 l6 q5.0 q5.1 (omega arith) p6.0 p6.1 in
      let q7 : (l7 ≡ put (w6 ++ a) o) × (n7 ≡ length (w6 ++ a)) = then_placed n6 n7 w6 a o l6 l7 q6.0 q6.1 (omega arith) p7.0 p7.1 in
      let f : render (block_frame b t x a) S E ≡ w6 ++ a = frame_pieces b t x a S E in
      (q7.0 ∙ ap (λ (y : List ℕ). put y o) (sym f), q7.1 ∙ ap length (sym f))

-- a timing line whose times are read has 17 bytes beside what is trailing and its terminator
pub line_long : (kind : ℕ) (l : List ℕ) (S E i j : ℕ) → time_in kind (up_to arrow (text_of l)) ≡ stamp S i → time_in kind (end_text (style_of kind) (text_of l)) ≡ stamp E j
    → 17 + length (trailing (style_of kind) (text_of l)) + length (terminator_of l) ≤ length l
unfolding after_arrow
line_long kind l S E i j eS eE =
    let T = text_of l in
    let r = trim_head (past arrow T) in
    let a = time_long kind S i (up_to arrow T) eS in
    let b = time_long kind E j (take (end_in kind r) r) eE in
    let c : length (take (end_in kind r) r) + length (drop (end_in kind r) r) ≡ length r = part_lengths (end_in kind r) r in
    let d = trim_head_length (past arrow T) in
    let u : length (up_to arrow T) + length arrow + length (past arrow T) ≡ length T = up_past arrow T (omega arith) in
    let v : length T + length (terminator_of l) ≡ length l = sym (length-append T (terminator_of l)) ∙ ap length (text_terminator l) in
    omega arith

-- ---- the warnings
module _ (tag lost : Bool) (x : ℕ) (w : List ℕ) (room : 4 ≤ length w) where
  abbrev Places : List ℕ
  Places = places_of (warn_if tag 4 x ++ warn_if lost 5 x)

  by_places : (l : List ℕ) (v : List ℕ) (n : ℕ) → Places ≡ l → (v ≡ put l w) × (n ≡ length l) → (n ≡ length Places) × (v ≡ put Places w)
  by_places l v n e p = (p.1 ∙ ap length (sym e), p.0 ∙ ap (λ (y : List ℕ). put y w) (sym e))

  module _ (w₁ : List ℕ) (n₁ : ℕ) (p₁ : (n₁ ≡ place_after 0 (4 ∷ x ∷ []) w) × (w₁ ≡ placed_at 0 (4 ∷ x ∷ []) w)) (t : tag ≡ true) where
    four : (w₁ ≡ put (4 ∷ x ∷ []) w) × (n₁ ≡ 2)
    four = then_placed 0 n₁ [] (4 ∷ x ∷ []) w w w₁ (sym (put_nil w)) refl (omega arith) p₁.0 p₁.1

    pub warn_tag : lost ≡ false → (n₁ ≡ length Places) × (w₁ ≡ put Places w)
    unfolding places_of
    warn_tag l = by_places (4 ∷ x ∷ []) w₁ n₁ (rw (t, l)) four

    pub warn_both : (w₂ : List ℕ) (n₂ : ℕ) → lost ≡ true → (n₂ ≡ place_after n₁ (5 ∷ x ∷ []) w₁) × (w₂ ≡ placed_at n₁ (5 ∷ x ∷ []) w₁) → (n₂ ≡ length Places) × (w₂ ≡ put Places w)
    unfolding places_of
    warn_both w₂ n₂ l p₂ =
        by_places (4 ∷ x ∷ 5 ∷ x ∷ []) w₂ n₂ (rw (t, l))
        (then_placed n₁ n₂ (4 ∷ x ∷ []) (5 ∷ x ∷ []) w w₁ w₂ four.0 four.1 (omega arith) p₂.0 p₂.1)

  pub warn_lost : (w₁ : List ℕ) (n₁ : ℕ) → tag ≡ false → lost ≡ true → (n₁ ≡ place_after 0 (5 ∷ x ∷ []) w) × (w₁ ≡ placed_at 0 (5 ∷ x ∷ []) w) → (n₁ ≡ length Places) × (w₁ ≡ put Places w)
  unfolding places_of
  warn_lost w₁ n₁ t l p =
      by_places (5 ∷ x ∷ []) w₁ n₁ (rw (t, l)) (then_placed 0 n₁ [] (5 ∷ x ∷ []) w w w₁ (sym (put_nil w)) refl (omega arith) p.0 p.1)

  pub warn_none : tag ≡ false → lost ≡ false → (0 ≡ length Places) × (w ≡ put Places w)
  unfolding places_of
  warn_none t l = by_places [] w 0 (rw (t, l)) (sym (put_nil w), refl)

-- the line's number worked out
pub warn_number : (tag lost : Bool) (x y n : ℕ) (w v : List ℕ) → y ≡ x → (n ≡ length (places_of (warn_if tag 4 y ++ warn_if lost 5 y))) × (v ≡ put (places_of (warn_if tag 4 y ++ warn_if lost 5 y)) w)
    → (n ≡ length (places_of (warn_if tag 4 x ++ warn_if lost 5 x))) × (v ≡ put (places_of (warn_if tag 4 x ++ warn_if lost 5 x)) w)
warn_number tag lost x y n w v e p = subst (λ (z : ℕ). (n ≡ length (places_of (warn_if tag 4 z ++ warn_if lost 5 z))) × (v ≡ put (places_of (warn_if tag 4 z ++ warn_if lost 5 z)) w)) e p
