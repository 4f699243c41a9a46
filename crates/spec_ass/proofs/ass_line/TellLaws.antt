-- Laws of what the functions of a caption tell: lines that stay, captions that pass, and captions that are kept.
use mathlib.Core.Path.{◌≡◌, refl, sym, ap, ◌∙◌}
use mathlib.Core.Bool.{Bool, true, false, ◌&&◌}
use mathlib.Core.List.{List, [], ◌∷◌, ◌++◌, append-nil}
use Prim.Native.Nat.{ℕ, ◌*◌, ◌≤◌, ◌<◌, ◌^◌}
use native.Mathlib.Omega.{arith}
use lib.ListN.{length, length-append}
use Rattle.spec_base.specs.base.Put.{put, placed, placed_length, placed_at, place_after}
use Rattle.spec_base.proofs.base.PutLaws.{put_nil, placed_yes, length_yes, then_placed}
use Rattle.spec_time.specs.caption_stamp.Write.{time_text}
use Rattle.spec_time.proofs.caption_stamp.Written.{text_23}
use Rattle.spec_caption.specs.declared.caption_fate.Told.{Told}
use Rattle.spec_caption.specs.declared.caption_fate.Counted.{Counted}
use Rattle.spec_caption.specs.declared.caption_fate.Counted.TheVariants.{Nothing, Passed}
use Rattle.spec_caption.specs.declared.caption_fate.Retimed.{Retimed}
use Rattle.spec_caption.specs.caption_fate.Fates.{passed, fate_for}
use Rattle.spec_caption.specs.caption_fate.Says.{Piece, bytes, start, stop}
use Rattle.spec_caption.specs.caption_fate.Emit.{Warning, none, decided, emit, warning, warn_if, places_of, render, kept_emit}
use Rattle.spec_caption.specs.caption_fate.Told.{answered, counted_of, Tells}
use Rattle.spec_ass.specs.declared.ass_columns.Columns.{Columns}
use Rattle.spec_ass.specs.ass_columns.Columns.{fields, field_at}
use Rattle.spec_ass.specs.ass_write.Tags.{tagged}
use Rattle.spec_ass.specs.ass_write.Frame.{line_frame, frame_placed, frame_after, frame_most}
use Rattle.spec_ass.specs.ass_line.Line.{line_cue}
use Rattle.spec_ass.specs.ass_line.AssThrough.{stayed_with}
use Rattle.spec_ass.proofs.ass_write.WriteLaws.{frame_put}

-- ---- a line that stays
pub stayed_told : (l o o' : List ℕ) (n : ℕ) → 3 * length l ≤ length o → (n ≡ placed_length l o) × (o' ≡ placed l o)
    → (◌≡◌ {A = Told} (record { number = 0; counted = Nothing; written = n; warned = 0 }) (stayed_with (length l))) × (o' ≡ put l o)
stayed_told l o o' n h p =
    let f : length l ≤ length o = omega arith in
    (ap stayed_with (p.0 ∙ length_yes l o f), p.1 ∙ placed_yes l o f)

pub tells_stayed : (l o o' w : List ℕ) (r : Told) → (r ≡ stayed_with (length l)) × (o' ≡ put l o) → Tells (answered (emit l [] none)) r o o' w w
unfolding places_of
tells_stayed l o o' w r p =
    record {
      number = ap (λ (d : Told). d.number) p.0;
      counted = ap (λ (d : Told). d.counted) p.0;
      written = ap (λ (d : Told). d.written) p.0;
      warned = ap (λ (d : Told). d.warned) p.0;
      text = p.1;
      warnings = sym (put_nil w);
    }

-- ---- a caption that passes
two_places : (k n : ℕ) → places_of (warning k n ∷ []) ≡ k ∷ n ∷ []
unfolding places_of
two_places k n = refl

pub passing_told : (k x i j : ℕ) (l o o' w w' : List ℕ) → (3 * length l ≤ length o) × (4 ≤ length w) → (i ≡ placed_length l o) × (o' ≡ placed l o)
    → (j ≡ place_after 0 (k ∷ x ∷ []) w) × (w' ≡ placed_at 0 (k ∷ x ∷ []) w)
    → Tells (answered (emit l (warning k x ∷ []) (decided passed))) (record { number = 0; counted = Passed; written = i; warned = j }) o o' w w'
passing_told k x i j l o o' w w' h p q =
    let f : length l ≤ length o = omega arith in
    let one = then_placed 0 j [] (k ∷ x ∷ []) w w w' (sym (put_nil w)) refl (omega arith) q.0 q.1 in
    record {
      number = refl;
      counted = refl;
      written = p.0 ∙ length_yes l o f;
      warned = one.1 ∙ ap length (sym (two_places k x));
      text = p.1 ∙ placed_yes l o f;
      warnings = one.0 ∙ ap (λ (v : List ℕ). put v w) (sym (two_places k x));
    }

-- ---- warnings 3 and 4
pub tag_yes : (cut t : Bool) (c : ℕ) (r f : List ℕ) → cut ≡ true → f ≡ field_at c (fields c r) → t ≡ tagged f → t ≡ (cut && tagged (field_at c (fields c r)))
tag_yes cut t c r f p ef et = rw p (et ∙ ap tagged ef)

pub tag_no : (cut : Bool) (c : ℕ) (r : List ℕ) → cut ≡ false → false ≡ (cut && tagged (field_at c (fields c r)))
tag_no cut c r p = rw p

module _ (tag lost : Bool) (x : ℕ) (w : List ℕ) (room : 4 ≤ length w) where
  abbrev Places : List ℕ
  Places = places_of (warn_if tag 3 x ++ warn_if lost 4 x)

  by_places : (v w' : List ℕ) (n : ℕ) → Places ≡ v → (w' ≡ put v w) × (n ≡ length v) → (n ≡ length Places) × (w' ≡ put Places w)
  by_places v w' n e p = (p.1 ∙ ap length (sym e), p.0 ∙ ap (λ (y : List ℕ). put y w) (sym e))

  module _ (w₁ : List ℕ) (n₁ : ℕ) (p₁ : (n₁ ≡ place_after 0 (3 ∷ x ∷ []) w) × (w₁ ≡ placed_at 0 (3 ∷ x ∷ []) w)) (t : tag ≡ true) where
    three : (w₁ ≡ put (3 ∷ x ∷ []) w) × (n₁ ≡ 2)
    three = then_placed 0 n₁ [] (3 ∷ x ∷ []) w w w₁ (sym (put_nil w)) refl (omega arith) p₁.0 p₁.1

    pub warn_tag : lost ≡ false → (n₁ ≡ length Places) × (w₁ ≡ put Places w)
    unfolding places_of
    warn_tag l = by_places (3 ∷ x ∷ []) w₁ n₁ (rw (t, l)) three

    pub warn_both : (w₂ : List ℕ) (n₂ : ℕ) → lost ≡ true → (n₂ ≡ place_after n₁ (4 ∷ x ∷ []) w₁) × (w₂ ≡ placed_at n₁ (4 ∷ x ∷ []) w₁) → (n₂ ≡ length Places) × (w₂ ≡ put Places w)
    unfolding places_of
    warn_both w₂ n₂ l p₂ =
        by_places (3 ∷ x ∷ 4 ∷ x ∷ []) w₂ n₂ (rw (t, l))
        (then_placed n₁ n₂ (3 ∷ x ∷ []) (4 ∷ x ∷ []) w w₁ w₂ three.0 three.1 (omega arith) p₂.0 p₂.1)

  pub warn_lost : (w₁ : List ℕ) (n₁ : ℕ) → tag ≡ false → lost ≡ true → (n₁ ≡ place_after 0 (4 ∷ x ∷ []) w) × (w₁ ≡ placed_at 0 (4 ∷ x ∷ []) w) → (n₁ ≡ length Places) × (w₁ ≡ put Places w)
  unfolding places_of
  warn_lost w₁ n₁ t l p =
      by_places (4 ∷ x ∷ []) w₁ n₁ (rw (t, l)) (then_placed 0 n₁ [] (4 ∷ x ∷ []) w w w₁ (sym (put_nil w)) refl (omega arith) p.0 p.1)

  pub warn_none : tag ≡ false → lost ≡ false → (0 ≡ length Places) × (w ≡ put Places w)
  unfolding places_of
  warn_none t l = by_places [] w 0 (rw (t, l)) (sym (put_nil w), refl)

-- ---- a caption that is kept: its frame fits
pub render_most : (ps : List Piece) (s e : List ℕ) → length s ≤ 23 → length e ≤ 23 → length (render ps s e) ≤ frame_most ps
unfolding render frame_most
render_most [] s e hs he = omega arith
render_most (bytes l ∷ ps) s e hs he = omega (arith, render_most ps s e hs he, length-append l (render ps s e))
render_most (start ∷ ps) s e hs he = omega (arith, render_most ps s e hs he, length-append s (render ps s e))
render_most (stop ∷ ps) s e hs he = omega (arith, render_most ps s e hs he, length-append e (render ps s e))

module _ (kind x S a E b : ℕ) (c : Columns) (v r y : List ℕ) (R : Retimed) (i j : ℕ) (o o' w w' : List ℕ) (t : Bool) (C : Counted) where
  pub keep_told : R.start < 2 ^ 64 → R.stop < 2 ^ 64 → frame_most (line_frame c v (fields c.columns r) y) ≤ length o
      → t ≡ (R.start_cut && tagged (field_at c.columns (fields c.columns r))) → C ≡ counted_of (decided (fate_for R))
      → (i ≡ frame_after (time_text kind a R.start) (time_text kind b R.stop) 0 (line_frame c v (fields c.columns r) y) o) × (o' ≡ frame_placed (time_text kind a R.start) (time_text kind b R.stop) 0 (line_frame c v (fields c.columns r) y) o)
      → (j ≡ length (places_of (warn_if t 3 x ++ warn_if R.lost 4 x))) × (w' ≡ put (places_of (warn_if t 3 x ++ warn_if R.lost 4 x)) w)
      → Tells (answered (kept_emit kind (line_cue c x v (fields c.columns r) y S a E b) R)) (record { number = 0; counted = C; written = i; warned = j }) o o' w w'
  keep_told hs he room et eC p q =
      let F = line_frame c v (fields c.columns r) y in
      let st = time_text kind a R.start in
      let en = time_text kind b R.stop in
      let f : length (render F st en) ≤ length o = omega (arith, render_most F st en (text_23 kind a R.start hs) (text_23 kind b R.stop he)) in
      let fp = frame_put st en F o f in
      let z : places_of (warn_if t 3 x ++ warn_if R.lost 4 x) ≡ places_of (warn_if (R.start_cut && tagged (field_at c.columns (fields c.columns r))) 3 x ++ (warn_if R.lost 4 x ++ [])) =
      ap (λ (u : Bool). places_of (warn_if u 3 x ++ warn_if R.lost 4 x)) et
      ∙ ap (λ (ws : List Warning). places_of (warn_if (R.start_cut && tagged (field_at c.columns (fields c.columns r))) 3 x ++ ws)) (sym (append-nil (warn_if R.lost 4 x))) in
      record {
        number = refl;
        counted = eC;
        written = p.0 ∙ fp.1;
        warned = q.0 ∙ ap length z;
        text = p.1 ∙ fp.0;
        warnings = q.1 ∙ ap (λ (u : List ℕ). put u w) z;
      }
