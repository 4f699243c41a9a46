-- Laws of the tag search: at each position all the tags.
use mathlib.Core.Path.{◌≡◌, refl, sym, ap, ◌∙◌}
use mathlib.Core.Bool.{Bool, true, false, cond, ◌||◌, true≢false}
use mathlib.Core.List.{List, [], ◌∷◌}
use Prim.Native.Nat.{ℕ, suc, ◌+◌, ◌<◌}
use native.Mathlib.Omega.{arith}
use lib.ListN.{length, drop, get_or}
use Rattle.std.specs.List.{list_any}
use Rattle.spec_text.specs.pattern.Find.{starts}
use Rattle.spec_ass.specs.ass_write.Tags.{tags, tagged}
use Rattle.spec_ass.proofs.ass_write.TagLaws.{starts_any, tag_found, tag_again}

any_same : (ts : List (List ℕ)) (u : List ℕ) → list_any (λ t. starts t u) ts ≡ starts_any ts u
any_same [] u = refl
any_same (t ∷ ts) u = go (starts t u) (any_same ts u)
  where
    go : (b : Bool) → list_any (λ x. starts x u) ts ≡ starts_any ts u → (b || list_any (λ x. starts x u) ts) ≡ cond b true (starts_any ts u)
    go true h = refl
    go false h = h

-- the tag that stands there
any_one : (ts : List (List ℕ)) (u : List ℕ) → starts_any ts u ≡ true → (k : ℕ) × (k < length ts) × (starts (get_or ts k []) u ≡ true)
any_one [] u e = absurd (true≢false (sym e))
any_one (t ∷ ts) u e = go (starts t u) refl (any_one ts u) e
  where
    go : (b : Bool) → starts t u ≡ b → (starts_any ts u ≡ true → (k : ℕ) × (k < length ts) × (starts (get_or ts k []) u ≡ true)) → cond b true (starts_any ts u) ≡ true → (k : ℕ) × (k < length (t ∷ ts)) × (starts (get_or (t ∷ ts) k []) u ≡ true)
    go true q h p = (0, omega arith, q)
    go false q h p = let r = h p in (suc r.0, omega arith, r.2)

module _ (s u : List ℕ) (i : ℕ) (f : Bool) (inv : tagged (drop i s) ≡ tagged s) (h : i < length s) (eu : u ≡ drop i s) (ef : f ≡ list_any (λ t. starts t u) tags) where
  there : starts_any tags u ≡ f
  there = sym (ef ∙ any_same tags u)

  pub search_found : f ≡ true → true ≡ tagged s
  search_found p = let r = any_one tags u (there ∙ p) in tag_found s i inv h r.0 u true r.1 eu (sym r.2) refl

  pub search_again : f ≡ false → tagged (drop (i + 1) s) ≡ tagged s
  search_again p = tag_again s i inv h 5 (sym (ap (starts_any tags) (sym eu) ∙ there ∙ p)) (omega arith)
