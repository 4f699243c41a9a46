-- Laws of paths, and of a file's bytes in a buffer.
use mathlib.Core.Path.{◌≡◌, refl, sym, ap, ◌∙◌}
use mathlib.Core.Bool.{Bool, cond}
use mathlib.Core.List.{List, [], ◌∷◌, ◌++◌, append_assoc}
use Prim.Native.Nat.{ℕ, ◌+◌, ◌-◌, ◌≤◌, ◌<◌}
use native.Mathlib.Omega.{arith}
use borrow.Author.Tests.{eq-eqb, ne_eqb}
use lib.ListN.{length, take, replicate, length-append, length-take, length-replicate}
use Rattle.spec_base.specs.base.Put.{put, placed, placed_length, placed_at, place_after}
use Rattle.spec_base.proofs.base.PutLaws.{put_nil, placed_yes, placed_no, length_yes, length_no, then_placed}
use Rattle.files_map.specs.Folder.{path_below, Held}

-- ---- the path
path_alone : (f n : List ℕ) → length f ≡ 0 → path_below f n ≡ n
unfolding path_below
path_alone f n h = ap (λ (t : Bool). cond t n (f ++ (47 ∷ n))) (eq-eqb (length f) 0 h)

path_joined : (f n : List ℕ) → (length f ≡ 0 → ⊥) → path_below f n ≡ f ++ (47 ∷ n)
unfolding path_below
path_joined f n h = ap (λ (t : Bool). cond t n (f ++ (47 ∷ n))) (ne_eqb (length f) 0 h)

path_length : (f n : List ℕ) → (length f ≡ 0 → ⊥) → length (path_below f n) ≡ length f + 1 + length n
path_length f n h = ap length (path_joined f n h) ∙ length-append f (47 ∷ n) ∙ omega arith

pub path_current : (f n p p' : List ℕ) (r : ℕ) → length f ≡ 0 → (r ≡ placed_length n p) × (p' ≡ placed n p)
    → (r ≡ placed_length (path_below f n) p) × (p' ≡ placed (path_below f n) p)
path_current f n p p' r h e = rw (path_alone f n h) e

pub path_short : (f n p : List ℕ) → (length f ≡ 0 → ⊥) → length p - length f ≤ length n
    → (0 ≡ placed_length (path_below f n) p) × (p ≡ placed (path_below f n) p)
path_short f n p h l =
    let k : length p < length (path_below f n) = omega (arith, path_length f n h) in
    (sym (length_no (path_below f n) p k), sym (placed_no (path_below f n) p k))

pub path_written : (f n p p₁ p₂ p₃ : List ℕ) (a b c : ℕ) → (length f ≡ 0 → ⊥) → length f ≤ length p → length n < length p - length f
    → (a ≡ place_after 0 f p) × (p₁ ≡ placed_at 0 f p) → (b ≡ place_after a (47 ∷ []) p₁) × (p₂ ≡ placed_at a (47 ∷ []) p₁) → (c ≡ place_after b n p₂) × (p₃ ≡ placed_at b n p₂)
    → (c ≡ placed_length (path_below f n) p) × (p₃ ≡ placed (path_below f n) p)
path_written f n p p₁ p₂ p₃ a b c h l k ea eb ec =
    let one = then_placed 0 a [] f p p p₁ (sym (put_nil p)) refl (omega arith) ea.0 ea.1 in
    let lf : length (f ++ (47 ∷ [])) ≡ length f + 1 = length-append f (47 ∷ []) ∙ omega arith in
    let two = then_placed a b f (47 ∷ []) p p₁ p₂ one.0 one.1 (omega arith) eb.0 eb.1 in
    let ln : length ((f ++ (47 ∷ [])) ++ n) ≡ length f + 1 + length n = length-append (f ++ (47 ∷ [])) n ∙ omega arith in
    let three = then_placed b c (f ++ (47 ∷ [])) n p p₂ p₃ two.0 two.1 (omega arith) ec.0 ec.1 in
    let z : (f ++ (47 ∷ [])) ++ n ≡ path_below f n = append_assoc f (47 ∷ []) n ∙ sym (path_joined f n h) in
    let r : length (path_below f n) ≤ length p = omega (arith, path_length f n h) in
    (three.1 ∙ ap length z ∙ sym (length_yes (path_below f n) p r), three.0 ∙ ap (λ (x : List ℕ). put x p) z ∙ sym (placed_yes (path_below f n) p r))

-- ---- a file's bytes
pub none_held : Held (replicate 65537 0) 0
none_held = record { bytes = []; fits = omega arith; counted = refl; held = sym (put_nil (replicate 65537 0)) }

pub file_held : (y s v : List ℕ) (n k : ℕ) → v ≡ take n s → (k ≡ placed_length v (replicate 65537 0)) × (y ≡ placed v (replicate 65537 0)) → n ≤ 65537 → Held y k
file_held y s v n k ev e h =
    let z : length {A = ℕ} (replicate 65537 0) ≡ 65537 = length-replicate {A = ℕ} 65537 0 in
    let r : length v ≤ length {A = ℕ} (replicate 65537 0) = omega (arith, ap length ev ∙ length-take n s) in
    record {
      bytes = v;
      fits = omega arith;
      counted = e.0 ∙ length_yes v (replicate 65537 0) r;
      held = e.1 ∙ placed_yes v (replicate 65537 0) r;
    }
