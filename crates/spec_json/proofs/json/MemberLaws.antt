-- Laws of the items of a row and of the members of an object, as the code walks them.
use mathlib.Core.Path.{◌≡◌, refl, sym, ap, ◌∙◌}
use mathlib.Core.Bool.{Bool, true, false, cond}
use mathlib.Core.List.{List, [], ◌∷◌}
use Prim.Native.Nat.{ℕ, zero, suc, ◌+◌, ◌-◌, ◌≤◌, ◌<◌}
use native.Mathlib.Omega.{arith}
use borrow.Author.Tests.{eq-eqb, ne_eqb}
use lib.Dec.{eqb}
use lib.ListN.{length, take, drop, get_or, length-drop}
use lib.Seq.{drop-drop}
use Rattle.spec_base.specs.base.Width.{by_width}
use Rattle.spec_base.proofs.base.Laws.{yes!, no! }
use Rattle.spec_json.specs.json.Space.{spaces}
use Rattle.spec_json.specs.json.Value.{row_items, inside_items, value_width}
use Rattle.spec_json.specs.json.Walk.{close_of, item_width, items_of, row_in, next_row}
use Rattle.spec_json.specs.json.Member.{bared_all, elements_of}
use Rattle.spec_json.proofs.json.ItemLaws.{item_none}

-- ---- the items of a row
module _ (item : List ℕ → ℕ) (close : ℕ) where
  shut : (n : ℕ) (s : List ℕ) → item s ≡ 0 → row_items item close n s ≡ []
  unfolding row_items
  shut zero s e = refl
  shut (suc n) s e = ap (λ (j : ℕ). by_width j [] (λ k. take (suc k) s ∷ elim (eqb (get_or s (suc k) 0) 0x2C) [ true ↦ row_items item close n (drop (suc (suc k)) s) | false ↦ [] ])) e

  pub items_open : (n : ℕ) (s : List ℕ) (k : ℕ) → item s ≡ suc k
      → row_items item close (suc n) s ≡ take (suc k) s ∷ elim (eqb (get_or s (suc k) 0) 0x2C) [ true ↦ row_items item close n (drop (suc (suc k)) s) | false ↦ [] ]
  unfolding row_items
  items_open n s k e = ap (λ (j : ℕ). by_width j [] (λ k. take (suc k) s ∷ elim (eqb (get_or s (suc k) 0) 0x2C) [ true ↦ row_items item close n (drop (suc (suc k)) s) | false ↦ [] ])) e

  module _ (none : item [] ≡ 0) where
    pub items_fuel : (n m : ℕ) (s : List ℕ) → length s ≤ n → length s ≤ m → row_items item close n s ≡ row_items item close m s
    items_fuel zero m [] h l = shut zero [] none ∙ sym (shut m [] none)
    items_fuel zero m (b ∷ s) h l = absurd (omega arith)
    items_fuel (suc n) zero [] h l = shut (suc n) [] none ∙ sym (shut zero [] none)
    items_fuel (suc n) zero (b ∷ s) h l = absurd (omega arith)
    items_fuel (suc n) (suc m) s h l = go (item s) refl (λ t a b. items_fuel n m t a b)
      where
        go : (k : ℕ) → item s ≡ k → ((t : List ℕ) → length t ≤ n → length t ≤ m → row_items item close n t ≡ row_items item close m t) → row_items item close (suc n) s ≡ row_items item close (suc m) s
        go zero e ih = shut (suc n) s e ∙ sym (shut (suc m) s e)
        go (suc k) e ih =
            let q : length (drop (suc (suc k)) s) ≡ length s - suc (suc k) = length-drop (suc (suc k)) s in
            items_open n s k e
            ∙ ap (λ (x : List (List ℕ)). take (suc k) s ∷ elim (eqb (get_or s (suc k) 0) 0x2C) [ true ↦ x | false ↦ [] ]) (ih (drop (suc (suc k)) s) (omega arith) (omega arith))
            ∙ sym (items_open m s k e)

    long : (t : List ℕ) (k : ℕ) → item t ≡ suc k → length t ≡ suc (length t - 1)
    long [] k e = absurd (omega (arith, none))
    long (b ∷ t) k e = omega arith

    next : (t : List ℕ) (k : ℕ) → elim (eqb (get_or t (suc k) 0) 0x2C) [ true ↦ row_items item close (length t - 1) (drop (suc (suc k)) t) | false ↦ [] ] ≡ row_items item close (length (next_row (suc k) t)) (next_row (suc k) t)
    unfolding next_row
    next t k = go (eqb (get_or t (suc k) 0) 0x2C)
      where
        go : (x : Bool) → ◌≡◌ {A = List (List ℕ)} (elim x [ true ↦ row_items item close (length t - 1) (drop (suc (suc k)) t) | false ↦ [] ]) (row_items item close (length (cond x (drop (suc (suc k)) t) [])) (cond x (drop (suc (suc k)) t) []))
        go true = items_fuel (length t - 1) (length (drop (suc (suc k)) t)) (drop (suc (suc k)) t) (omega (arith, length-drop (suc (suc k)) t)) (omega arith)
        go false = sym (shut 0 [] none)

    step : (t : List ℕ) (k : ℕ) → k ≡ item t → (k ≡ 0 → ⊥) → row_items item close (length t) t ≡ take k t ∷ row_items item close (length (next_row k t)) (next_row k t)
    step t zero e z = absurd (z refl)
    step t (suc k) e z =
        ap (λ (n : ℕ). row_items item close n t) (long t k (sym e)) ∙ items_open (length t - 1) t k (sym e)
        ∙ ap (λ (x : List (List ℕ)). take (suc k) t ∷ x) (next t k)

pub items_none : (d b k : ℕ) (t : List ℕ) → k ≡ item_width b (value_width d) t → k ≡ 0 → items_of d b t ≡ []
items_none d b k t e z = shut (item_width b (value_width d)) (close_of b) (length t) t (sym e ∙ z)

pub items_end : (d b : ℕ) (t : List ℕ) → length t ≤ 0 → items_of d b t ≡ []
items_end d b [] h = shut (item_width b (value_width d)) (close_of b) 0 [] (item_none b d)
items_end d b (x ∷ t) h = absurd (omega arith)

pub items_step : (d b k : ℕ) (t u i : List ℕ) → k ≡ item_width b (value_width d) t → (k ≡ 0 → ⊥) → i ≡ take k t → u ≡ next_row k t → items_of d b t ≡ i ∷ items_of d b u
items_step d b k t u i e z ei eu =
    step (item_width b (value_width d)) (close_of b) (item_none b d) t k e z
    ∙ ap (λ (x : List ℕ). x ∷ items_of d b (next_row k t)) (sym ei) ∙ ap (λ (x : List ℕ). i ∷ items_of d b x) (sym eu)

-- what is left of a row is shorter
pub next_less : (k : ℕ) (t u : List ℕ) → u ≡ next_row k t → 0 < length t → length u < length t
unfolding next_row
next_less k t u e h = go (eqb (get_or t k 0) 0x2C) e
  where
    go : (x : Bool) → u ≡ cond x (drop (suc k) t) [] → length u < length t
    go true q = let z : length u ≡ length t - suc k = ap length q ∙ length-drop (suc k) t in omega arith
    go false q = let z : length u ≡ 0 = ap length q in omega arith

pub next_comma : (s t u : List ℕ) (k b : ℕ) → b ≡ get_or s k 0 → b ≡ 0x2C → t ≡ drop k s → u ≡ drop 1 t → u ≡ next_row k s
unfolding next_row
next_comma s t u k b e h d f = let n : k + 1 ≡ suc k = omega arith in yes! _ (eq-eqb _ _ (sym e ∙ h)) (f ∙ ap (drop 1) d ∙ drop-drop 1 k s ∙ ap (λ (j : ℕ). drop j s) n)

pub next_none : (s u : List ℕ) (k b : ℕ) → b ≡ get_or s k 0 → (b ≡ 0x2C → ⊥) → u ≡ take 0 s → u ≡ next_row k s
unfolding next_row
next_none s u k b e h f = no! _ (ne_eqb _ _ (λ q. h (e ∙ q))) f

-- the row of an array or an object
pub row_empty : (o n b c : ℕ) (s t u : List ℕ) → t ≡ drop 1 s → n ≡ spaces t → b ≡ get_or t n 0 → c ≡ close_of o → b ≡ c → u ≡ take 0 t → u ≡ row_in o s
unfolding row_in
row_empty o n b c s t u d en eb ec h eu = yes! _ (eq-eqb _ _ (same ∙ h ∙ ec)) eu
  where
    same : get_or (drop 1 s) (spaces (drop 1 s)) 0 ≡ b
    same = ap (λ (x : List ℕ). get_or x (spaces x) 0) (sym d) ∙ ap (λ (k : ℕ). get_or t k 0) (sym en) ∙ sym eb

pub row_full : (o n b c : ℕ) (s t : List ℕ) → t ≡ drop 1 s → n ≡ spaces t → b ≡ get_or t n 0 → c ≡ close_of o → (b ≡ c → ⊥) → t ≡ row_in o s
unfolding row_in
row_full o n b c s t d en eb ec h = no! _ (ne_eqb _ _ (λ q. h (sym same ∙ q ∙ sym ec))) d
  where
    same : get_or (drop 1 s) (spaces (drop 1 s)) 0 ≡ b
    same = ap (λ (x : List ℕ). get_or x (spaces x) 0) (sym d) ∙ ap (λ (k : ℕ). get_or t k 0) (sym en) ∙ sym eb

inside_by : (d b : ℕ) (s : List ℕ) → inside_items (item_width b (value_width d)) (close_of b) (drop 1 s) ≡ items_of d b (row_in b s)
unfolding row_in
inside_by d b s = go (eqb (get_or (drop 1 s) (spaces (drop 1 s)) 0) (close_of b))
  where
    go : (x : Bool) → ◌≡◌ {A = List (List ℕ)} (elim x [ true ↦ [] | false ↦ items_of d b (drop 1 s) ]) (items_of d b (cond x [] (drop 1 s)))
    go true = sym (items_end d b [] (omega arith))
    go false = refl

pub elements_are : (d : ℕ) (s : List ℕ) → elements_of d s ≡ bared_all d (items_of d 0x5B (row_in 0x5B s))
unfolding elements_of item_width close_of
elements_are d s = ap (bared_all d) (inside_by d 0x5B s)

-- the row of an array or an object is no longer than it
pub row_short : (b : ℕ) (s t : List ℕ) → t ≡ row_in b s → 0 + length t ≤ length s
unfolding row_in
row_short b s t e = go (eqb (get_or (drop 1 s) (spaces (drop 1 s)) 0) (close_of b)) e
  where
    go : (x : Bool) → t ≡ cond x [] (drop 1 s) → 0 + length t ≤ length s
    go true q = let z : length t ≡ 0 = ap length q in omega arith
    go false q = let z : length t ≡ length s - 1 = ap length q ∙ length-drop 1 s in omega arith
