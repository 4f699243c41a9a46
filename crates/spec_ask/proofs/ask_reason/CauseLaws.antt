-- Laws of the causes: the tests, the loop over the map.
use mathlib.Core.Path.{◌≡◌, refl, sym, ap, ◌∙◌}
use mathlib.Core.Bool.{Bool, true, false}
use mathlib.Core.List.{List, [], ◌∷◌}
use Prim.Native.Nat.{ℕ, suc, ◌+◌, ◌-◌, ◌*◌, ◌/◌, ◌^◌, ◌≤◌, ◌<◌}
use native.Mathlib.Omega.{arith}
use native.Mathlib.Numerals.{add-one}
use mir.Syntax.{w64}
use mir.Val.{Fits}
use lib.Dec.{leb}
use lib.ListN.{length, take, drop, get_or, set, length-drop, length-set}
use lib.Seq.{take_all, drop-cons}
use borrow.Author.Tests.{le-leb, lt-leb, eq-eqb, ne_eqb, leb-true, leb-false}
use Rattle.spec_base.specs.base.Put.{put}
use Rattle.spec_base.proofs.base.Laws.{yes!, no! }
use Rattle.spec_base.proofs.base.PutLaws.{put_nil, put_take}
use Rattle.spec_map.specs.segment.Segment.{segments_of}
use Rattle.spec_map.proofs.segment.SegmentLaws.{segments_cut}
use Rattle.spec_ask.specs.ask_reason.Reason.{cause_parts, causes_of}

pub ends_1 : (q d at : ℕ) → at < q → false ≡ leb (q + d) at
ends_1 q d at h = sym (lt-leb (q + d) at (omega arith))

pub ends_2 : (q d at : ℕ) → q ≤ at → leb d (at - q) ≡ leb (q + d) at
ends_2 q d at h = go (leb d (at - q)) refl
  where
    go : (t : Bool) → leb d (at - q) ≡ t → t ≡ leb (q + d) at
    go true e = sym (le-leb (q + d) at (omega (arith, leb-true d (at - q) e)))
    go false e = sym (lt-leb (q + d) at (omega (arith, leb-false d (at - q) e)))

module _ (q d a b : ℕ) where
  pub cause_1 : d ≡ 0 → 1 ≡ cause_parts q d a b
  unfolding cause_parts
  cause_1 e = yes! _ (eq-eqb d 0 e) refl

  module _ (n : d ≡ 0 → ⊥) (x : Bool) (e : x ≡ leb (q + d) a) where
    pub cause_2 : x ≡ true → 2 ≡ cause_parts q d a b
    unfolding cause_parts
    cause_2 h = no! _ (ne_eqb d 0 n) (yes! _ (sym e ∙ h) refl)

    pub cause_3 : x ≡ false → b ≤ q → 3 ≡ cause_parts q d a b
    unfolding cause_parts
    cause_3 h l = no! _ (ne_eqb d 0 n) (no! _ (sym e ∙ h) (yes! _ (le-leb b q l) refl))

    pub cause_0 : x ≡ false → q < b → 0 ≡ cause_parts q d a b
    unfolding cause_parts
    cause_0 h l = no! _ (ne_eqb d 0 n) (no! _ (sym e ∙ h) (no! _ (lt-leb b q l) refl))

-- ---- the loop: i causes are written, those of the rest of the map are left
causes_length : (t : List ℕ) (a b : ℕ) → length (causes_of (segments_of t) a b) ≡ length t / 6
unfolding causes_of segments_of
causes_length [] a b = refl
causes_length (c ∷ []) a b = refl
causes_length (c ∷ d ∷ []) a b = refl
causes_length (c ∷ d ∷ e ∷ []) a b = refl
causes_length (c ∷ d ∷ e ∷ f ∷ []) a b = refl
causes_length (c ∷ d ∷ e ∷ f ∷ g ∷ []) a b = refl
causes_length (c ∷ d ∷ e ∷ f ∷ g ∷ h ∷ r) a b = let ih = causes_length r a b in omega arith

pub record Filling (m t : List ℕ) (a b i : ℕ) (l₀ l : List ℕ) : Type 0 where
  pub written : l ≡ put (take i (causes_of (segments_of m) a b)) l₀
  pub left : drop i (causes_of (segments_of m) a b) ≡ causes_of (segments_of t) a b
  pub room : length (causes_of (segments_of m) a b) ≤ length l₀
  pub size : length l ≡ length l₀

pub filling_start : (m : List ℕ) (a b : ℕ) (l : List ℕ) → length m / 6 ≤ length l → Filling m m a b 0 l l
filling_start m a b l h =
    record {
      written = sym (put_nil l);
      left = refl;
      room = omega (arith, causes_length m a b);
      size = refl;
    }

left_cut : (t : List ℕ) (a b q d : ℕ) → 6 ≤ length t → q ≡ get_or t 2 0 → d ≡ get_or t 5 0
    → causes_of (segments_of t) a b ≡ cause_parts q d a b ∷ causes_of (segments_of (drop 6 t)) a b
unfolding causes_of
left_cut t a b q d h eq ed = rw (segments_cut t h, eq, ed)

module _ (m t : List ℕ) (a b i : ℕ) (l₀ l : List ℕ) (f : Filling m t a b i l₀ l) where
  abbrev all : List ℕ
  all = causes_of (segments_of m) a b

  left_length : length all - i ≡ length t / 6
  left_length = sym (length-drop i all) ∙ ap length f.left ∙ causes_length t a b

  pub filling_end : length t < 6 → l ≡ put all l₀
  filling_end h =
      let n : length all ≤ i = omega (arith, left_length) in
      f.written ∙ ap (λ (s : List ℕ). put s l₀) (take_all i all n)

  module _ (h : 6 ≤ length t) where
    inside : i < length all
    inside = omega (arith, left_length)

    pub filling_index : i < length l
    filling_index = omega (arith, inside, f.room, f.size)

    pub index_fits : length l₀ * 8 < 2 ^ 63 → Fits w64 (i * 8)
    index_fits r = record { fits = omega (arith, filling_index, f.size) }

    pub next_fits : length l₀ * 8 < 2 ^ 63 → Fits w64 (i + 1)
    next_fits r = record { fits = omega (arith, filling_index, f.size) }

    module _ (k q d : ℕ) (eq : q ≡ get_or t 2 0) (ed : d ≡ get_or t 5 0) (ek : k ≡ cause_parts q d a b) where
      both : get_or all i 0 ∷ drop (suc i) all ≡ k ∷ causes_of (segments_of (drop 6 t)) a b
      both = sym (drop-cons all i 0 inside) ∙ f.left ∙ left_cut t a b q d h eq ed ∙ ap (λ (n : ℕ). n ∷ causes_of (segments_of (drop 6 t)) a b) (sym ek)

      here : get_or all i 0 ≡ k
      here = ap (λ (s : List ℕ). get_or s 0 0) both

      pub filling_again : (u : List ℕ) → u ≡ drop 6 t → Filling m u a b (i + 1) l₀ (set l i k)
      filling_again u eu =
          let w : set l i k ≡ put (take (i + 1) all) l₀ =
          ap (λ (s : List ℕ). set s i k) f.written ∙ ap (λ (n : ℕ). set (put (take i all) l₀) i n) (sym here) ∙ put_take all l₀ i inside f.room in
          let r : drop (i + 1) all ≡ causes_of (segments_of (drop 6 t)) a b = rw add-one (ap (λ (s : List ℕ). drop 1 s) both) in
          record {
            written = w;
            left = r ∙ ap (λ (s : List ℕ). causes_of (segments_of s) a b) (sym eu);
            room = f.room;
            size = length-set l i k ∙ f.size;
          }
