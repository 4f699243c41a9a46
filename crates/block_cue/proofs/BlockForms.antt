-- Laws of the forms of a block's functions: two reasons for one answer, and one warning after another.
use mathlib.Core.Path.{◌≡◌, refl, sym, ap, ◌∙◌}
use mathlib.Core.Bool.{Bool, true, false, cond}
use mathlib.Core.List.{List, [], ◌∷◌, ◌++◌}
use mathlib.Core.Logic.{◌⊎◌, inl, inr}
use Prim.Native.Nat.{ℕ, ◌+◌, ◌/◌, ◌≤◌, ◌<◌}
use native.Mathlib.Omega.{arith}
use lib.Dec.{leb}
use lib.ListN.{length, length-append}
use Rattle.spec_base.specs.base.Put.{put, put_at, placed_at, place_after}
use Rattle.spec_base.proofs.base.PutLaws.{put_nil, put_at_nil, then_placed}
use Rattle.spec_caption.specs.declared.caption_fate.Config.{Config}
use Rattle.spec_caption.specs.caption_fate.Grouped.{segments_by}
use Rattle.spec_caption.specs.caption_fate.Emit.{warn_if, places_of}
use Rattle.spec_caption.specs.caption_fate.Told.{refusal}
use Rattle.spec_cue.specs.block_cue.BlockThrough.{block_in}
use Rattle.spec_cue.proofs.block_cue.BlockLaws.{answer_1, answer_2}

-- too little output, or too few places
pub block_refused : (config : Config) (g m : List ℕ) (first : ℕ) (s : List ℕ) (room places : ℕ) → (room / 3 < length s) ⊎ ((length s ≤ room / 3) × (places < 4))
    → block_in config (segments_by g m) first s room places ≡ refusal 16
block_refused config g m first s room places (inl h) = answer_1 config (segments_by g m) first s room places h
block_refused config g m first s room places (inr q) = answer_2 config (segments_by g m) first s room places q.0 q.1

-- ---- a warning where there is one
pub warn_yes : (b : Bool) (k x at n : ℕ) (w w' : List ℕ) → b ≡ true → (n ≡ place_after at (k ∷ x ∷ []) w) × (w' ≡ placed_at at (k ∷ x ∷ []) w)
    → (n ≡ place_after at (places_of (warn_if b k x)) w) × (w' ≡ placed_at at (places_of (warn_if b k x)) w)
unfolding places_of
warn_yes b k x at n w w' e p = rw e p

none_at : (at : ℕ) (w : List ℕ) → (at ≡ place_after at [] w) × (w ≡ placed_at at [] w)
unfolding place_after placed_at
none_at at w = go (leb (at + 0) (length w))
  where
    go : (t : Bool) → (at ≡ cond t (at + 0) at) × (w ≡ cond t (put_at at [] w) w)
    go true = (omega arith, sym (put_at_nil at w))
    go false = (refl, refl)

pub warn_no : (b : Bool) (k x at : ℕ) (w : List ℕ) → b ≡ false → (at ≡ place_after at (places_of (warn_if b k x)) w) × (w ≡ placed_at at (places_of (warn_if b k x)) w)
unfolding places_of
warn_no b k x at w e = rw e (none_at at w)

-- two in a row
both_places : (a b : Bool) (j k x : ℕ) → places_of (warn_if a j x) ++ places_of (warn_if b k x) ≡ places_of (warn_if a j x ++ warn_if b k x)
unfolding places_of
both_places true b j k x = refl
both_places false b j k x = refl

few_places : (a : Bool) (j x : ℕ) → length (places_of (warn_if a j x)) ≤ 2
unfolding places_of
few_places true j x = omega arith
few_places false j x = omega arith

pub warn_two : (a b : Bool) (j k x n₁ n₂ : ℕ) (w w₁ w₂ : List ℕ) → 4 ≤ length w
    → (n₁ ≡ place_after 0 (places_of (warn_if a j x)) w) × (w₁ ≡ placed_at 0 (places_of (warn_if a j x)) w)
    → (n₂ ≡ place_after n₁ (places_of (warn_if b k x)) w₁) × (w₂ ≡ placed_at n₁ (places_of (warn_if b k x)) w₁)
    → (n₂ ≡ length (places_of (warn_if a j x ++ warn_if b k x))) × (w₂ ≡ put (places_of (warn_if a j x ++ warn_if b k x)) w)
warn_two a b j k x n₁ n₂ w w₁ w₂ h p q =
    let u = places_of (warn_if a j x) in
    let v = places_of (warn_if b k x) in
    let fu : length u ≤ 2 = few_places a j x in
    let fv : length v ≤ 2 = few_places b k x in
    let one = then_placed 0 n₁ [] u w w w₁ (sym (put_nil w)) refl (omega arith) p.0 p.1 in
    let two = then_placed n₁ n₂ u v w w₁ w₂ one.0 one.1 (omega (arith, length-append u v)) q.0 q.1 in
    (two.1 ∙ ap length (both_places a b j k x), two.0 ∙ ap (λ (y : List ℕ). put y w) (both_places a b j k x))
