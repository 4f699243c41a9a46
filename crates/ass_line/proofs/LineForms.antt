-- Laws of the forms of an ASS line's functions: two reasons for one answer, and one warning after another.
use mathlib.Core.Path.{◌≡◌, refl, sym, ap, ◌∙◌}
use mathlib.Core.Bool.{Bool, true, false, cond}
use mathlib.Core.List.{List, [], ◌∷◌, ◌++◌}
use mathlib.Core.Logic.{◌⊎◌, inl, inr}
use Prim.Native.Nat.{ℕ, ◌+◌, ◌/◌, ◌≤◌, ◌<◌}
use native.Mathlib.Omega.{arith}
use lib.Dec.{leb}
use lib.ListN.{length, length-append}
use Rattle.spec_base.specs.base.Put.{put, put_at, placed_at, place_after}
use Rattle.spec_base.proofs.base.PutLaws.{put_nil, put_at_nil, then_placed}
use Rattle.spec_caption.specs.declared.caption_fate.Config.{Config}
use Rattle.spec_caption.specs.declared.caption_fate.Told.{Told}
use Rattle.spec_caption.specs.caption_fate.Grouped.{segments_by}
use Rattle.spec_caption.specs.caption_fate.Says.{unplaced, passes}
use Rattle.spec_caption.specs.caption_fate.Emit.{warn_if, places_of}
use Rattle.spec_caption.specs.caption_fate.Told.{Tells, refused_with}
use Rattle.spec_ass.specs.declared.ass_columns.Columns.{Columns}
use Rattle.spec_ass.specs.ass_line.Line.{says, caption_says}
use Rattle.spec_ass.specs.ass_line.AssThrough.{line_in, columns_next}
use Rattle.spec_ass.proofs.ass_line.SayLaws.{caption_start, caption_end, line_short, line_few}

-- a column is unknown
pub caption_unplaced : (c : Columns) (n : ℕ) (l v r : List ℕ) → (c.start ≡ 0) ⊎ ((c.start ≡ 0 → ⊥) × (c.«end» ≡ 0)) → caption_says c n l v r ≡ says c (passes unplaced n l)
caption_unplaced c n l v r (inl h) = caption_start c n l v r h
caption_unplaced c n l v r (inr q) = caption_end c n l v r q.0 q.1

-- too little output, or too few places
pub line_refused : (s : Config) (g m : List ℕ) (c : Columns) (n : ℕ) (l : List ℕ) (t : Told) (o o' w w' : List ℕ)
    → (length o / 3 < length l) ⊎ ((length l ≤ length o / 3) × (length w < 4)) → o ≡ o' → w ≡ w' → t ≡ refused_with 16
    → Tells (line_in s (segments_by g m) c n l (length o) (length w)) t o o' w w' × (c ≡ columns_next c n l (length o) (length w))
line_refused s g m c n l t o o' w w' (inl h) eo ew e = line_short s (segments_by g m) c n l t o o' w w' h eo ew e
line_refused s g m c n l t o o' w w' (inr q) eo ew e = line_few s (segments_by g m) c n l t o o' w w' q.0 q.1 eo ew e

-- ---- a warning where there is one
pub warn_yes : (b : Bool) (k x at n : ℕ) (w w' : List ℕ) → b ≡ true → (n ≡ place_after at (k ∷ x ∷ []) w) × (w' ≡ placed_at at (k ∷ x ∷ []) w)
    → (n ≡ place_after at (places_of (warn_if b k x)) w) × (w' ≡ placed_at at (places_of (warn_if b k x)) w)
unfolding places_of
warn_yes b k x at n w w' e p = rw e p

none_at : (at : ℕ) (w : List ℕ) → (at ≡ place_after at [] w) × (w ≡ placed_at at [] w)
unfolding place_after placed_at
none_at at w = go (leb (at + 0) (length w))
  where
    go : (t : Bool) → (at ≡ cond t (at + 0) at) × (w ≡ cond t (put_at at [] w) w)
    go true = (omega arith, sym (put_at_nil at w))
    go false = (refl, refl)

pub warn_no : (b : Bool) (k x at : ℕ) (w : List ℕ) → b ≡ false → (at ≡ place_after at (places_of (warn_if b k x)) w) × (w ≡ placed_at at (places_of (warn_if b k x)) w)
unfolding places_of
warn_no b k x at w e = rw e (none_at at w)

-- two in a row
both_places : (a b : Bool) (j k x : ℕ) → places_of (warn_if a j x) ++ places_of (warn_if b k x) ≡ places_of (warn_if a j x ++ warn_if b k x)
unfolding places_of
both_places true b j k x = refl
both_places false b j k x = refl

few_places : (a : Bool) (j x : ℕ) → length (places_of (warn_if a j x)) ≤ 2
unfolding places_of
few_places true j x = omega arith
few_places false j x = omega arith

pub warn_two : (a b : Bool) (j k x n₁ n₂ : ℕ) (w w₁ w₂ : List ℕ) → 4 ≤ length w
    → (n₁ ≡ place_after 0 (places_of (warn_if a j x)) w) × (w₁ ≡ placed_at 0 (places_of (warn_if a j x)) w)
    → (n₂ ≡ place_after n₁ (places_of (warn_if b k x)) w₁) × (w₂ ≡ placed_at n₁ (places_of (warn_if b k x)) w₁)
    → (n₂ ≡ length (places_of (warn_if a j x ++ warn_if b k x))) × (w₂ ≡ put (places_of (warn_if a j x ++ warn_if b k x)) w)
warn_two a b j k x n₁ n₂ w w₁ w₂ h p q =
    let u = places_of (warn_if a j x) in
    let v = places_of (warn_if b k x) in
    let fu : length u ≤ 2 = few_places a j x in
    let fv : length v ≤ 2 = few_places b k x in
    let one = then_placed 0 n₁ [] u w w w₁ (sym (put_nil w)) refl (omega arith) p.0 p.1 in
    let two = then_placed n₁ n₂ u v w w₁ w₂ one.0 one.1 (omega (arith, length-append u v)) q.0 q.1 in
    (two.1 ∙ ap length (both_places a b j k x), two.0 ∙ ap (λ (y : List ℕ). put y w) (both_places a b j k x))
