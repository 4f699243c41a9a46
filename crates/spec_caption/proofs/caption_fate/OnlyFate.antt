-- The fate that is right for a caption is the only one: the first segment that is met is one segment, and it moves the ticks to one place.
use mathlib.Core.Path.{◌≡◌, refl, sym, ap, ap₂, subst, ◌∙◌}
use mathlib.Core.Bool.{Bool, true, false, ◌||◌, true≢false}
use mathlib.Core.List.{List, [], ◌∷◌, ◌++◌, Memᴰ}
use Prim.Native.Nat.{ℕ, min, max}
use lib.Dec.{ltb}
use Rattle.spec_time.specs.caption_time.Convert.{ticks_of, start_units, end_units}
use Rattle.spec_map.specs.declared.segment.Segment.{Segment}
use Rattle.spec_map.specs.segment.Segment.{source_of, source_end}
use Rattle.spec_caption.specs.caption_fate.Fates.{Fate, passed, dropped, shifted, clipped, Meets, NoneMeets, FirstMet, moved_by, IsKept, Right}

-- ---- the first segment that is met, and those behind it
stands_first : (a b : ℕ) (es fs : List Segment) (x y : Segment) (xs ys : List Segment) → es ++ x ∷ xs ≡ fs ++ y ∷ ys → Meets x a b → Meets y a b
    → NoneMeets es a b → NoneMeets fs a b → (x ≡ y) × (xs ≡ ys)
stands_first a b [] [] x y xs ys e p q n k =
    (ap (λ (l : List Segment). elim l [ [] ↦ x | z ∷ zs ↦ z ]) e, ap (λ (l : List Segment). elim l [ [] ↦ xs | z ∷ zs ↦ zs ]) e)
stands_first a b [] (z ∷ fs) x y xs ys e p q n k =
    absurd (k z (Memᴰ.head refl) (subst (λ (s : Segment). Meets s a b) (ap (λ (l : List Segment). elim l [ [] ↦ x | w ∷ ws ↦ w ]) e) p))
stands_first a b (z ∷ es) [] x y xs ys e p q n k =
    absurd (n z (Memᴰ.head refl) (subst (λ (s : Segment). Meets s a b) (ap (λ (l : List Segment). elim l [ [] ↦ y | w ∷ ws ↦ w ]) (sym e)) q))
stands_first a b (z ∷ es) (w ∷ fs) x y xs ys e p q n k =
    stands_first a b es fs x y xs ys (ap (λ (l : List Segment). elim l [ [] ↦ [] | v ∷ vs ↦ vs ]) e) p q (λ v j. n v (Memᴰ.tail j)) (λ v j. k v (Memᴰ.tail j))

module _ (m : List Segment) (a b : ℕ) where
  pub first_only : (x y : Segment) → (f : FirstMet m a b x) → (g : FirstMet m a b y) → (x ≡ y) × (f.others ≡ g.others)
  first_only x y f g =
      stands_first a b f.earlier g.earlier x y f.others g.others (sym f.stands ∙ g.stands) f.met g.met f.none_earlier g.none_earlier

  stands_in : (es xs : List Segment) (x : Segment) → Memᴰ x (es ++ x ∷ xs)
  stands_in [] xs x = Memᴰ.head refl
  stands_in (e ∷ es) xs x = Memᴰ.tail (stands_in es xs x)

  not_none : (x : Segment) → FirstMet m a b x → NoneMeets m a b → ⊥
  not_none x f n = n x (subst (λ (l : List Segment). Memᴰ x l) (sym f.stands) (stands_in f.earlier f.others x)) f.met

-- ---- the fate
module _ (T U : ℕ) (m : List Segment) (S E : ℕ) where
  kept_same : (c d : Bool) (s e t f : ℕ) (p : IsKept T U m S E c s e) (q : IsKept T U m S E d t f) → p.segment ≡ q.segment
  kept_same c d s e t f p q = (first_only m (ticks_of T U S) (ticks_of T U E) p.segment q.segment p.first q.first).0

  kept_only : (c d : Bool) (s e t f : ℕ) → IsKept T U m S E c s e → IsKept T U m S E d t f → (s ≡ t) × (e ≡ f)
  kept_only c d s e t f p q =
      let k = kept_same c d s e t f p q in (
        p.start_written ∙ ap (λ (x : Segment). start_units T U (moved_by x (max (ticks_of T U S) (source_of x)))) k ∙ sym q.start_written,
        p.end_written ∙ ap (λ (x : Segment). end_units T U (moved_by x (min (ticks_of T U E) (source_end x)))) k ∙ sym q.end_written,
      )

  cut_only : (c d : Bool) (s e t f : ℕ) → IsKept T U m S E c s e → IsKept T U m S E d t f → c ≡ d
  cut_only c d s e t f p q =
      sym p.was_cut ∙ ap (λ (x : Segment). ltb (ticks_of T U S) (source_of x) || ltb (source_end x) (ticks_of T U E)) (kept_same c d s e t f p q) ∙ q.was_cut

  not_kept : (c : Bool) (s e : ℕ) → NoneMeets m (ticks_of T U S) (ticks_of T U E) → IsKept T U m S E c s e → ⊥
  not_kept c s e n p = not_none m (ticks_of T U S) (ticks_of T U E) p.segment p.first n

  -- of two fates that are right for a caption both are the same
  pub fate_only : (f g : Fate) → Right T U m S E f → Right T U m S E g → f ≡ g
  fate_only passed g p q = absurd p
  fate_only dropped passed p q = absurd q
  fate_only dropped dropped p q = refl
  fate_only dropped (shifted s e) p q = absurd (not_kept false s e p q)
  fate_only dropped (clipped s e) p q = absurd (not_kept true s e p q)
  fate_only (shifted s e) passed p q = absurd q
  fate_only (shifted s e) dropped p q = absurd (not_kept false s e q p)
  fate_only (shifted s e) (shifted t f) p q = let k = kept_only false false s e t f p q in ap₂ shifted k.0 k.1
  fate_only (shifted s e) (clipped t f) p q = absurd (true≢false (sym (cut_only false true s e t f p q)))
  fate_only (clipped s e) passed p q = absurd q
  fate_only (clipped s e) dropped p q = absurd (not_kept true s e q p)
  fate_only (clipped s e) (shifted t f) p q = absurd (true≢false (cut_only true false s e t f p q))
  fate_only (clipped s e) (clipped t f) p q = let k = kept_only true true s e t f p q in ap₂ clipped k.0 k.1
