-- Laws of the escapes of a string, as they are written.
use mathlib.Core.Path.{◌≡◌, sym, ap, subst, ◌∙◌}
use mathlib.Core.List.{List, [], ◌∷◌, ◌++◌, append_assoc, append-nil}
use Prim.Native.Nat.{ℕ, ◌+◌, ◌≤◌, ◌<◌}
use native.Mathlib.Omega.{arith}
use native.Mathlib.Numerals.{add-one}
use lib.ListN.{length, take, get_or}
use lib.Seq.{take-suc, take_all}
use Rattle.spec_base.proofs.base.PutLaws.{put_at_nil}
use Rattle.spec_json.specs.json.Quote.{escaped, escaped_all, quoted}
use Rattle.map_json_write.specs.Written.{Written}
use Rattle.map_json_write.proofs.WrittenLaws.{written_then}

-- one byte written
pub escaped_written : (at r b : ℕ) (v l l' : List ℕ) → v ≡ escaped b → Written at v l r l' → Written at (escaped b) l r l'
escaped_written at r b v l l' e w = subst (λ (y : List ℕ). Written at y l r l') e w

pub escaped_as : (at r b k : ℕ) (v l l' : List ℕ) → b ≡ k → v ≡ escaped k → Written at v l r l' → Written at (escaped b) l r l'
escaped_as at r b k v l l' h e w = escaped_written at r b v l l' (e ∙ ap escaped (sym h)) w

-- the bytes of a string, one behind the other
all_snoc : (s : List ℕ) (b : ℕ) → escaped_all (s ++ b ∷ []) ≡ escaped_all s ++ escaped b
unfolding escaped_all
all_snoc [] b = append-nil (escaped b)
all_snoc (x ∷ s) b = ap (λ (y : List ℕ). escaped x ++ y) (all_snoc s b) ∙ sym (append_assoc (escaped x) (escaped_all s) (escaped b))

pub all_start : (at : ℕ) (s l : List ℕ) → Written at (escaped_all (take 0 s)) l at l
unfolding escaped_all
all_start at s l = record { place = omega arith; bytes = λ h. sym (put_at_nil at l) }

pub all_again : (at p r i : ℕ) (s l l₁ l₂ : List ℕ) → i < length s → Written at (escaped_all (take i s)) l p l₁ → Written p (escaped (get_or s i 0)) l₁ r l₂ → Written at (escaped_all (take (i + 1) s)) l r l₂
all_again at p r i s l l₁ l₂ h x y =
    let e : escaped_all (take i s) ++ escaped (get_or s i 0) ≡ escaped_all (take (i + 1) s) = sym (all_snoc (take i s) (get_or s i 0)) ∙ ap escaped_all (sym (rw add-one (take-suc s i 0 h))) in
    subst (λ (v : List ℕ). Written at v l r l₂) e (written_then at p r (escaped_all (take i s)) (escaped (get_or s i 0)) l l₁ l₂ x y)

pub all_end : (at p i : ℕ) (s l l₁ : List ℕ) → length s ≤ i → Written at (escaped_all (take i s)) l p l₁ → Written at (escaped_all s) l p l₁
all_end at p i s l l₁ h x = subst (λ (v : List ℕ). Written at (escaped_all v) l p l₁) (take_all i s h) x

pub quoted_written : (at p q r : ℕ) (s l l₁ l₂ l₃ : List ℕ) → Written at (0x22 ∷ []) l p l₁ → Written p (escaped_all s) l₁ q l₂ → Written q (0x22 ∷ []) l₂ r l₃ → Written at (quoted s) l r l₃
unfolding quoted
quoted_written at p q r s l l₁ l₂ l₃ x y z =
    written_then at p r (0x22 ∷ []) (escaped_all s ++ 0x22 ∷ []) l l₁ l₃ x (written_then p q r (escaped_all s) (0x22 ∷ []) l₁ l₂ l₃ y z)
