-- Laws of the code.
use mathlib.Core.Path.{◌≡◌, refl, sym, ap, ◌∙◌}
use mathlib.Core.Bool.{Bool, true, false}
use mathlib.Core.List.{List}
use Prim.Native.Nat.{ℕ}
use lib.Dec.{eqb}
use borrow.Author.Tests.{eq-eqb, ne_eqb}
use Rattle.std.specs.Prelude.{Option, is_some}
use Rattle.spec_base.proofs.base.Laws.{yes!, no! }
use Rattle.spec_map.specs.declared.segment.Segment.{Segment}
use Rattle.spec_map.specs.segment.Segment.{segments_of}
use Rattle.spec_caption.specs.declared.caption_fate.Met.{Met}
use Rattle.spec_caption.specs.caption_fate.Hit.{Found, miss, hit, find_hit, hit_of}
use Rattle.spec_ask.specs.declared.ask_rough.Judged.TheVariants.{Refused, SurelyKept, SurelyDropped, Unsure}
use Rattle.spec_ask.specs.ask_rough.Rough.{found, kept_at, judged, rough_number, rough_of}

by_found : (f : Found) → is_some (hit_of f) ≡ found f
by_found miss = refl
by_found (hit i x xs) = refl

pub is_kept : (m : List Segment) (a b : ℕ) (h : Option Met) (f : Bool) → h ≡ hit_of (find_hit m a b) → f ≡ is_some h → f ≡ kept_at m a b
unfolding kept_at
is_kept m a b h f e p = p ∙ ap (λ (x : Option Met). is_some x) e ∙ by_found (find_hit m a b)

pub refused : (m : List ℕ) (a₁ a₂ b₁ b₂ r : ℕ) → r ≡ rough_number m a₁ a₂ b₁ b₂ → (r ≡ 0 → ⊥) → Refused r ≡ rough_of m a₁ a₂ b₁ b₂
unfolding rough_of
refused m a₁ a₂ b₁ b₂ r e n = no! _ (ne_eqb (rough_number m a₁ a₂ b₁ b₂) 0 (λ z. n (e ∙ z))) (ap Refused e)

module _ (m : List ℕ) (a₁ a₂ b₁ b₂ r : ℕ) (e : r ≡ rough_number m a₁ a₂ b₁ b₂) (z : r ≡ 0) (s : Bool) (es : s ≡ kept_at (segments_of m) a₂ b₁) where
  zero_number : eqb (rough_number m a₁ a₂ b₁ b₂) 0 ≡ true
  zero_number = eq-eqb (rough_number m a₁ a₂ b₁ b₂) 0 (sym e ∙ z)

  pub sure_kept : s ≡ true → SurelyKept ≡ rough_of m a₁ a₂ b₁ b₂
  unfolding rough_of judged
  sure_kept h = yes! _ zero_number (yes! _ (sym es ∙ h) refl)

  module _ (h : s ≡ false) (l : Bool) (el : l ≡ kept_at (segments_of m) a₁ b₂) where
    pub not_sure : l ≡ true → Unsure ≡ rough_of m a₁ a₂ b₁ b₂
    unfolding rough_of judged
    not_sure k = yes! _ zero_number (no! _ (sym es ∙ h) (yes! _ (sym el ∙ k) refl))

    pub sure_dropped : l ≡ false → SurelyDropped ≡ rough_of m a₁ a₂ b₁ b₂
    unfolding rough_of judged
    sure_dropped k = yes! _ zero_number (no! _ (sym es ∙ h) (no! _ (sym el ∙ k) refl))
