-- Laws of one item of a row and of a value, as the code walks them.
use mathlib.Core.Path.{◌≡◌, refl, sym, ap, subst, ◌∙◌}
use mathlib.Core.Bool.{Bool, true, false, not, ◌||◌, cond, true≢false}
use mathlib.Core.List.{List, [], ◌∷◌}
use Prim.Native.Nat.{ℕ, zero, suc, ◌+◌, ◌-◌, ◌^◌, ◌≤◌, ◌<◌}
use native.Mathlib.Omega.{arith}
use borrow.Author.Tests.{eq-eqb, ne_eqb, eqb-true, eqb-false, not-true, not-false}
use lib.Dec.{eqb}
use lib.ListN.{length, drop, get_or, length-drop, drop_of_length-le}
use lib.Seq.{drop-drop, drop-length}
use Rattle.spec_base.specs.base.Width.{by_width}
use Rattle.spec_base.proofs.base.Laws.{yes!, no! }
use Rattle.spec_json.specs.json.Space.{spaces, more, joined, padded}
use Rattle.spec_json.specs.json.Value.{scalar_width, key_width, member_width, row_width, inside_width, value_width}
use Rattle.spec_json.specs.json.Walk.{is_open, close_of, lead_width, item_width, row_of}
use Rattle.spec_json.specs.declared.json.Item.{Item}
use Rattle.spec_json.specs.json.Item.{ItemOf}
use Rattle.spec_json.proofs.json.SpaceLaws.{spaces_le}
use Rattle.spec_json.proofs.json.StringLaws.{in_text}
use Rattle.spec_json.proofs.json.CharsLaws.{joined_twice}
use Rattle.spec_json.proofs.json.NumberLaws.{more_some, cut_le}
use Rattle.spec_json.proofs.json.ValueLaws.{scalar_le, key_le, padded_le, member_le, row_le, row_none, row_closed, row_other, row_more}

-- ---- what stands before the value
pub lead_space : (b n : ℕ) (s : List ℕ) → (b ≡ 0x7B → ⊥) → n ≡ spaces s → n ≡ lead_width b s
unfolding lead_width
lead_space b n s h e = no! _ (ne_eqb b 0x7B h) e

pub lead_all : (b k : ℕ) (s : List ℕ) → b ≡ 0x7B → k ≡ key_width s → k ≡ 0 → length s ≡ lead_width b s
unfolding lead_width
lead_all b k s h e z = yes! _ (eq-eqb b 0x7B h) (ap (λ (j : ℕ). by_width j (length s) (λ k. suc k + spaces (drop (suc k) s))) (sym z ∙ e))

pub lead_key : (b k x : ℕ) (s t : List ℕ) → b ≡ 0x7B → k ≡ key_width s → (k ≡ 0 → ⊥) → t ≡ drop k s → x ≡ spaces t → k + x ≡ lead_width b s
unfolding lead_width
lead_key b zero x s t h e z d ex = absurd (z refl)
lead_key b (suc k) x s t h e z d ex =
    yes! _ (eq-eqb b 0x7B h) (ap (λ (j : ℕ). suc k + j) (ex ∙ ap spaces d) ∙ ap (λ (j : ℕ). by_width j (length s) (λ k. suc k + spaces (drop (suc k) s))) e)

pub lead_fits : (k x : ℕ) (s t : List ℕ) → length s < 2 ^ 64 → k ≡ key_width s → t ≡ drop k s → x ≡ spaces t → k + x < 2 ^ 64
lead_fits k x s t l e d ex = let a = key_le s in let b = cut_le spaces spaces_le s t k d in omega arith

lead_le : (b : ℕ) (s : List ℕ) → lead_width b s ≤ length s
unfolding lead_width
lead_le b s = go (eqb b 0x7B) (key_width s) (key_le s)
  where
    go : (t : Bool) (k : ℕ) → k ≤ length s → cond t (by_width k (length s) (λ k. suc k + spaces (drop (suc k) s))) (spaces s) ≤ length s
    go true zero h = omega arith
    go true (suc k) h = let b = cut_le spaces spaces_le s (drop (suc k) s) (suc k) refl in omega arith
    go false k h = spaces_le s

-- ---- an item
module _ (value : List ℕ → ℕ) (none : value [] ≡ 0) where
  abbrev item_by : (p : ℕ) → List ℕ → ℕ
  item_by p s = by_width (value (drop p s)) 0 (λ k. p + suc k + spaces (drop (p + suc k) s))

  item_array : (b : ℕ) (s : List ℕ) → (b ≡ 0x7B → ⊥) → item_width b value s ≡ item_by (lead_width b s) s
  unfolding item_width padded lead_width
  item_array b s h = rw (ne_eqb b 0x7B h) refl

  none_by : (s : List ℕ) → item_by (length s) s ≡ 0
  none_by s = ap (λ (j : ℕ). by_width j 0 (λ k. length s + suc k + spaces (drop (length s + suc k) s))) (ap value (drop-length s) ∙ none)

  key_by : (s : List ℕ) (k : ℕ) → joined k (padded value (drop k s)) ≡ item_by (k + spaces (drop k s)) s
  unfolding padded
  key_by s k = go (value (drop (spaces u) u)) refl
    where
      u : List ℕ
      u = drop k s

      same : (j : ℕ) → drop j u ≡ drop (k + j) s
      same j = drop-drop j k s

      add : (a b c : ℕ) → joined a (b + suc c) ≡ a + (b + suc c)
      add a b c = by (b + suc c) refl
        where
          by : (y : ℕ) → b + suc c ≡ y → joined a y ≡ a + y
          by zero e = absurd (omega arith)
          by (suc y) e = refl

      go : (w : ℕ) → value (drop (spaces u) u) ≡ w → joined k (by_width (value (drop (spaces u) u)) 0 (λ j. spaces u + suc j + spaces (drop (spaces u + suc j) u))) ≡ item_by (k + spaces u) s
      go zero e =
          ap (λ (j : ℕ). joined k (by_width j 0 (λ j. spaces u + suc j + spaces (drop (spaces u + suc j) u)))) e
          ∙ ap (λ (j : ℕ). by_width j 0 (λ j. k + spaces u + suc j + spaces (drop (k + spaces u + suc j) s))) (sym (sym (ap value (same (spaces u))) ∙ e))
      go (suc w) e =
          let v : value (drop (k + spaces u) s) ≡ suc w = sym (ap value (same (spaces u))) ∙ e in
          let n : k + (spaces u + suc w) ≡ k + spaces u + suc w = omega arith in
          let q : spaces (drop (spaces u + suc w) u) ≡ spaces (drop (k + spaces u + suc w) s) = ap spaces (same (spaces u + suc w)) ∙ ap (λ (j : ℕ). spaces (drop j s)) n in
          let r : k + (spaces u + suc w + spaces (drop (spaces u + suc w) u)) ≡ k + spaces u + suc w + spaces (drop (k + spaces u + suc w) s) = omega arith in
          ap (λ (j : ℕ). joined k (by_width j 0 (λ j. spaces u + suc j + spaces (drop (spaces u + suc j) u)))) e
          ∙ shift (spaces u) w (spaces (drop (spaces u + suc w) u))
          ∙ r
          ∙ ap (λ (j : ℕ). by_width j 0 (λ j. k + spaces u + suc j + spaces (drop (k + spaces u + suc j) s))) (sym v)
        where
          shift : (a w x : ℕ) → joined k (a + suc w + x) ≡ k + (a + suc w + x)
          shift a w x = by (a + suc w + x) refl
            where
              by : (y : ℕ) → a + suc w + x ≡ y → joined k y ≡ k + y
              by zero e = absurd (omega arith)
              by (suc y) e = refl

  item_object : (b : ℕ) (s : List ℕ) → b ≡ 0x7B → item_width b value s ≡ item_by (lead_width b s) s
  unfolding item_width member_width lead_width
  item_object b s h = rw (eq-eqb b 0x7B h) (go (key_width s))
    where
      go : (k : ℕ) → by_width k 0 (λ k. joined (suc k) (padded value (drop (suc k) s))) ≡ item_by (by_width k (length s) (λ k. suc k + spaces (drop (suc k) s))) s
      go zero = sym (none_by s)
      go (suc k) = key_by s (suc k)

  item_is : (b : ℕ) (s : List ℕ) → item_width b value s ≡ item_by (lead_width b s) s
  item_is b s = go (eqb b 0x7B) refl
    where
      go : (t : Bool) → eqb b 0x7B ≡ t → item_width b value s ≡ item_by (lead_width b s) s
      go true e = item_object b s (eqb-true b 0x7B e)
      go false e = item_array b s (eqb-false b 0x7B e)

  item_at : (b p : ℕ) (s : List ℕ) → p ≡ lead_width b s → item_width b value s ≡ item_by p s
  item_at b p s e = item_is b s ∙ ap (λ (j : ℕ). item_by j s) (sym e)

  by_none : (b p w : ℕ) (s t : List ℕ) → p ≡ lead_width b s → t ≡ drop p s → w ≡ value t → w ≡ 0 → 0 ≡ item_width b value s
  by_none b p w s t e d v z =
      sym (item_at b p s e ∙ ap (λ (j : ℕ). by_width j 0 (λ k. p + suc k + spaces (drop (p + suc k) s))) (ap value (sym d) ∙ sym v ∙ z))

  by_some : (b p w x : ℕ) (s t u : List ℕ) → p ≡ lead_width b s → t ≡ drop p s → w ≡ value t → (w ≡ 0 → ⊥) → u ≡ drop (p + w) s → x ≡ spaces u → p + w + x ≡ item_width b value s
  by_some b p zero x s t u e d v z du ex = absurd (z refl)
  by_some b p (suc w) x s t u e d v z du ex =
      ap (λ (j : ℕ). p + suc w + j) (ex ∙ ap spaces du)
      ∙ sym (item_at b p s e ∙ ap (λ (j : ℕ). by_width j 0 (λ k. p + suc k + spaces (drop (p + suc k) s))) (ap value (sym d) ∙ sym v))

-- ---- values are within the text
inside_le : (item : List ℕ → ℕ) (close : ℕ) → (close ≡ 0 → ⊥) → (s : List ℕ) → inside_width item close s ≤ length s
inside_le item close c s = go (eqb (get_or s (spaces s) 0) close) refl
  where
    go : (t : Bool) → eqb (get_or s (spaces s) 0) close ≡ t → elim t [ true ↦ suc (spaces s) | false ↦ row_width item close (length s) s ] ≤ length s
    go true e = let z = in_text s (spaces s) (λ q. c (sym (eqb-true _ _ e) ∙ q)) in omega arith
    go false e = row_le item close c (length s) s

more_le : (n m : ℕ) → n ≤ m → more n ≤ suc m
more_le zero m h = omega arith
more_le (suc n) m h = omega arith

pub value_le : (d : ℕ) (s : List ℕ) → value_width d s ≤ length s
unfolding value_width
value_le zero s = scalar_le s
value_le (suc d) [] = scalar_le []
value_le (suc d) (b ∷ s) = go (eqb b 0x5B) (eqb b 0x7B)
  where
    go : (x y : Bool) → elim x [
      | true ↦ more (inside_width (padded (λ t. value_width d t)) 0x5D s)
      | false ↦ elim y [ true ↦ more (inside_width (member_width (λ t. value_width d t)) 0x7D s) | false ↦ scalar_width (b ∷ s) ]
    ] ≤ suc (length s)
    go true y = more_le _ _ (inside_le (padded (λ t. value_width d t)) 0x5D (λ e. omega arith) s)
    go false true = more_le _ _ (inside_le (member_width (λ t. value_width d t)) 0x7D (λ e. omega arith) s)
    go false false = scalar_le (b ∷ s)

pub value_none : (d : ℕ) → value_width d [] ≡ 0
value_none d = let z = value_le d [] in omega arith

pub item_le : (b d : ℕ) (s : List ℕ) → item_width b (value_width d) s ≤ length s
unfolding item_width
item_le b d s = go (eqb b 0x7B)
  where
    go : (t : Bool) → cond t (member_width (value_width d) s) (padded (value_width d) s) ≤ length s
    go true = member_le (value_width d) (value_le d) s
    go false = padded_le (value_width d) (value_le d) s

pub item_none : (b d : ℕ) → item_width b (value_width d) [] ≡ 0
item_none b d = let z = item_le b d [] in omega arith

-- ---- the answers of `item_width`
module _ (d b p w : ℕ) (s t : List ℕ) (e : p ≡ lead_width b s) (dt : t ≡ drop p s) (v : w ≡ value_width d t) where
  pub item_no : w ≡ 0 → 0 ≡ item_width b (value_width d) s
  item_no z = by_none (value_width d) (value_none d) b p w s t e dt v z

  part : p + w ≤ length s
  part = let a = lead_le b s in let c = cut_le (value_width d) (value_le d) s t p dt in omega arith

  pub item_fits : length s < 2 ^ 64 → p + w < 2 ^ 64
  item_fits l = let a = part in omega arith

  pub item_some : (x : ℕ) (u : List ℕ) → (w ≡ 0 → ⊥) → u ≡ drop (p + w) s → x ≡ spaces u → p + w + x ≡ item_width b (value_width d) s
  item_some x u z du ex = by_some (value_width d) (value_none d) b p w x s t u e dt v z du ex

  pub parts_none : w ≡ 0 → ItemOf d b s (record { lead = p; width = w; whole = 0 })
  parts_none z = record { lead_is = e; width_is = v ∙ ap (value_width d) dt; whole_is = item_no z }

  pub parts_some : (x : ℕ) (u : List ℕ) → (w ≡ 0 → ⊥) → u ≡ drop (p + w) s → x ≡ spaces u → ItemOf d b s (record { lead = p; width = w; whole = p + w + x })
  parts_some x u z du ex = record { lead_is = e; width_is = v ∙ ap (value_width d) dt; whole_is = item_some x u z du ex }

  pub item_fits_2 : (x : ℕ) (u : List ℕ) → length s < 2 ^ 64 → u ≡ drop (p + w) s → x ≡ spaces u → p + w + x < 2 ^ 64
  item_fits_2 x u l du ex = let a = part in let c = cut_le spaces spaces_le s u (p + w) du in omega arith

pub parts_in : (d b : ℕ) (s : List ℕ) (p : Item) → ItemOf d b s p → p.lead + p.width ≤ length s
parts_in d b s p P = let a = lead_le b s in let c = cut_le (value_width d) (value_le d) s (drop p.lead s) p.lead refl in omega (arith, P.lead_is, P.width_is)

-- ---- the answers of `value_width`
pub value_flat : (d n : ℕ) (s : List ℕ) → d ≡ 0 → n ≡ scalar_width s → n ≡ value_width d s
unfolding value_width
value_flat zero n s h e = e
value_flat (suc d) n s h e = absurd (omega arith)

flat_by : (d b n : ℕ) (s : List ℕ) → b ≡ get_or s 0 0 → is_open b ≡ false → n ≡ scalar_width s → n ≡ value_width (suc d) s
unfolding value_width is_open
flat_by d b n s e h p = go (eqb (get_or s 0 0) 0x5B) (eqb (get_or s 0 0) 0x7B) (ap (λ (x : ℕ). eqb x 0x5B || eqb x 0x7B) (sym e) ∙ h)
  where
    go : (x y : Bool) → (x || y) ≡ false
        → n ≡ elim x [
          | true ↦ more (inside_width (padded (λ t. value_width d t)) 0x5D (drop 1 s))
          | false ↦ elim y [ true ↦ more (inside_width (member_width (λ t. value_width d t)) 0x7D (drop 1 s)) | false ↦ scalar_width s ]
        ]
    go true y h = absurd (true≢false h)
    go false true h = absurd (true≢false h)
    go false false h = p

pub value_scalar : (d b n : ℕ) (f : Bool) (s : List ℕ) → (d ≡ 0 → ⊥) → b ≡ get_or s 0 0 → f ≡ is_open b → not f ≡ true → n ≡ scalar_width s → n ≡ value_width d s
value_scalar zero b n f s z e g h p = absurd (z refl)
value_scalar (suc d) b n f s z e g h p = flat_by d b n s e (sym g ∙ not-true f h) p

open_array : (d : ℕ) (s : List ℕ) → get_or s 0 0 ≡ 0x5B → value_width (suc d) s ≡ more (inside_width (item_width 0x5B (value_width d)) 0x5D (drop 1 s))
unfolding value_width item_width
open_array d s e = go (eqb (get_or s 0 0) 0x5B) (eq-eqb _ _ e)
  where
    go : (x : Bool) → x ≡ true
        → ◌≡◌ {A = ℕ} (elim x [
          | true ↦ more (inside_width (padded (λ t. value_width d t)) 0x5D (drop 1 s))
          | false ↦ elim (eqb (get_or s 0 0) 0x7B) [ true ↦ more (inside_width (member_width (λ t. value_width d t)) 0x7D (drop 1 s)) | false ↦ scalar_width s ]
        ]) (more (inside_width (padded (λ t. value_width d t)) 0x5D (drop 1 s)))
    go true h = refl
    go false h = absurd (true≢false (sym h))

open_object : (d : ℕ) (s : List ℕ) → get_or s 0 0 ≡ 0x7B → value_width (suc d) s ≡ more (inside_width (item_width 0x7B (value_width d)) 0x7D (drop 1 s))
unfolding value_width item_width
open_object d s e = go (eqb (get_or s 0 0) 0x5B) (eqb (get_or s 0 0) 0x7B) (ne_eqb (get_or s 0 0) 0x5B (λ q. omega arith)) (eq-eqb _ _ e)
  where
    go : (x y : Bool) → x ≡ false → y ≡ true
        → ◌≡◌ {A = ℕ} (elim x [
          | true ↦ more (inside_width (padded (λ t. value_width d t)) 0x5D (drop 1 s))
          | false ↦ elim y [ true ↦ more (inside_width (member_width (λ t. value_width d t)) 0x7D (drop 1 s)) | false ↦ scalar_width s ]
        ]) (more (inside_width (member_width (λ t. value_width d t)) 0x7D (drop 1 s)))
    go true y h k = absurd (true≢false h)
    go false true h k = refl
    go false false h k = absurd (true≢false (sym k))

-- both by the byte that opens
abbrev Opened : (d b : ℕ) → List ℕ → Type 0
Opened d b s = value_width (suc d) s ≡ more (inside_width (item_width b (value_width d)) (close_of b) (drop 1 s))

opened_at : (d : ℕ) (s : List ℕ) → (x y : Bool) → eqb (get_or s 0 0) 0x5B ≡ x → eqb (get_or s 0 0) 0x7B ≡ y → (x || y) ≡ true → Opened d (get_or s 0 0) s
unfolding close_of
opened_at d s true y p q h = let e = eqb-true (get_or s 0 0) 0x5B p in subst (λ (b : ℕ). Opened d b s) (sym e) (open_array d s e)
opened_at d s false true p q h = let e = eqb-true (get_or s 0 0) 0x7B q in subst (λ (b : ℕ). Opened d b s) (sym e) (open_object d s e)
opened_at d s false false p q h = absurd (true≢false (sym h))

opened : (d b : ℕ) (s : List ℕ) → b ≡ get_or s 0 0 → is_open b ≡ true → Opened d b s
unfolding is_open
opened d b s e h = subst (λ (c : ℕ). Opened d c s) (sym e) (opened_at d s (eqb (get_or s 0 0) 0x5B) (eqb (get_or s 0 0) 0x7B) refl refl (ap (λ (x : ℕ). eqb x 0x5B || eqb x 0x7B) (sym e) ∙ h))

close_some : (b : ℕ) → close_of b ≡ 0 → ⊥
unfolding close_of
close_some b = go (eqb b 0x5B)
  where
    go : (t : Bool) → ◌≡◌ {A = ℕ} (cond t 0x5D 0x7D) 0 → ⊥
    go true e = omega arith
    go false e = omega arith

inside_empty : (d b : ℕ) (t : List ℕ) → get_or t (spaces t) 0 ≡ close_of b → inside_width (item_width b (value_width d)) (close_of b) t ≡ suc (spaces t)
inside_empty d b t e = go (eqb (get_or t (spaces t) 0) (close_of b)) (eq-eqb _ _ e)
  where
    go : (x : Bool) → x ≡ true → ◌≡◌ {A = ℕ} (elim x [ true ↦ suc (spaces t) | false ↦ row_of d b t ]) (suc (spaces t))
    go true h = refl
    go false h = absurd (true≢false (sym h))

inside_row : (d b : ℕ) (t : List ℕ) → (get_or t (spaces t) 0 ≡ close_of b → ⊥) → inside_width (item_width b (value_width d)) (close_of b) t ≡ row_of d b t
inside_row d b t e = go (eqb (get_or t (spaces t) 0) (close_of b)) (ne_eqb _ _ e)
  where
    go : (x : Bool) → x ≡ false → ◌≡◌ {A = ℕ} (elim x [ true ↦ suc (spaces t) | false ↦ row_of d b t ]) (row_of d b t)
    go true h = absurd (true≢false h)
    go false h = refl

module _ (d b n c x : ℕ) (f : Bool) (s t : List ℕ) (z : d ≡ 0 → ⊥) (e : b ≡ get_or s 0 0) (g : f ≡ is_open b) (h : not f ≡ false) (dt : t ≡ drop 1 s) (en : n ≡ spaces t) (ec : c ≡ close_of b) (ex : x ≡ get_or t n 0) where
  pred : d ≡ suc (d - 1)
  pred = omega arith

  value_is : value_width d s ≡ more (inside_width (item_width b (value_width (d - 1))) (close_of b) t)
  value_is =
      ap (λ (k : ℕ). value_width k s) pred ∙ opened (d - 1) b s e (sym g ∙ not-false f h)
      ∙ ap (λ (y : List ℕ). more (inside_width (item_width b (value_width (d - 1))) (close_of b) y)) (sym dt)

  next : get_or t (spaces t) 0 ≡ x
  next = ap (λ (k : ℕ). get_or t k 0) (sym en) ∙ sym ex

  pub open_empty : x ≡ c → n + 2 ≡ value_width d s
  open_empty q =
      let w : n + 2 ≡ suc (suc n) = omega arith in
      w ∙ sym (value_is ∙ ap more (inside_empty (d - 1) b t (next ∙ q ∙ ec) ∙ ap suc (sym en)))

  value_row : (x ≡ c → ⊥) → value_width d s ≡ more (row_of (d - 1) b t)
  value_row q = value_is ∙ ap more (inside_row (d - 1) b t (λ r. q (sym next ∙ r ∙ sym ec)))

  pub open_bad : (w : ℕ) → (x ≡ c → ⊥) → w ≡ row_of (d - 1) b t → w ≡ 0 → 0 ≡ value_width d s
  open_bad w q r y = sym (value_row q ∙ ap more (sym r ∙ y))

  pub open_some : (w : ℕ) → (x ≡ c → ⊥) → w ≡ row_of (d - 1) b t → (w ≡ 0 → ⊥) → w + 1 ≡ value_width d s
  open_some w q r y = more_some w y ∙ sym (value_row q ∙ ap more (sym r))

pub open_fits : (b n c x : ℕ) (s t : List ℕ) → length s < 2 ^ 64 → t ≡ drop 1 s → c ≡ close_of b → x ≡ get_or t n 0 → x ≡ c → n + 2 < 2 ^ 64
open_fits b n c x s t l dt ec ex q =
    let a = in_text t n (λ r. close_some b (sym ec ∙ sym q ∙ ex ∙ r)) in
    let y : length t ≡ length s - 1 = ap length dt ∙ length-drop 1 s in
    omega arith

pub open_fits_2 : (d b w : ℕ) (s t : List ℕ) → length s < 2 ^ 64 → t ≡ drop 1 s → w ≡ row_of d b t → w + 1 < 2 ^ 64
open_fits_2 d b w s t l dt r =
    let a = row_le (item_width b (value_width d)) (close_of b) (close_some b) (length t) t in
    let y : length t ≡ length s - 1 = ap length dt ∙ length-drop 1 s in
    omega arith

-- ---- the answers of `row_width`
module _ (d b at k : ℕ) (s t : List ℕ) (inv : row_of d b s ≡ joined at (row_of d b (drop at s))) (dt : t ≡ drop at s) (ek : k ≡ item_width b (value_width d) t) where
  here : row_of d b s ≡ joined at (row_of d b t)
  here = inv ∙ ap (λ (x : List ℕ). joined at (row_of d b x)) (sym dt)

  pub row_bad : k ≡ 0 → 0 ≡ row_of d b s
  row_bad z = sym (here ∙ ap (joined at) (row_none (item_width b (value_width d)) (close_of b) (item_none b d) t k ek z))

  pub row_end : (c x : ℕ) → (k ≡ 0 → ⊥) → c ≡ close_of b → x ≡ get_or t k 0 → x ≡ c → at + k + 1 ≡ row_of d b s
  row_end c x z ec ex q =
      let w : at + k + 1 ≡ at + suc k = omega arith in
      w ∙ sym (here ∙ ap (joined at) (row_closed (item_width b (value_width d)) (close_of b) (item_none b d) t k x ek z ex (q ∙ ec)))

  pub row_stop : (c x : ℕ) → (k ≡ 0 → ⊥) → c ≡ close_of b → x ≡ get_or t k 0 → (x ≡ c → ⊥) → (x ≡ 0x2C → ⊥) → 0 ≡ row_of d b s
  row_stop c x z ec ex q r = sym (here ∙ ap (joined at) (row_other (item_width b (value_width d)) (close_of b) (item_none b d) t k x ek z ex (λ y. q (y ∙ sym ec)) r))

  pub row_again : (c x : ℕ) → (k ≡ 0 → ⊥) → c ≡ close_of b → x ≡ get_or t k 0 → (x ≡ c → ⊥) → x ≡ 0x2C → row_of d b s ≡ joined (at + k + 1) (row_of d b (drop (at + k + 1) s))
  row_again c x z ec ex q r =
      let w : at + suc k ≡ at + k + 1 = omega arith in
      here
      ∙ ap (joined at) (row_more (item_width b (value_width d)) (close_of b) (item_none b d) t k x ek z ex (λ y. q (y ∙ sym ec)) r)
      ∙ joined_twice at (suc k) (row_of d b (drop (suc k) t))
      ∙ ap (λ (y : List ℕ). joined (at + suc k) (row_of d b y)) (ap (drop (suc k)) dt ∙ drop-drop (suc k) at s)
      ∙ ap (λ (j : ℕ). joined j (row_of d b (drop j s))) w

  inside : (x : ℕ) → at < length s → x ≡ get_or t k 0 → (x ≡ 0 → ⊥) → at + k < length s
  inside x l ex h = let a = in_text t k (λ r. h (ex ∙ r)) in let y : length t ≡ length s - at = ap length dt ∙ length-drop at s in omega arith

  pub row_in : (x : ℕ) → at < length s → x ≡ get_or t k 0 → x ≡ 0x2C → at + k + 1 ≤ length s
  row_in x l ex r = let a = inside x l ex (λ q. omega arith) in omega arith

  pub row_fits_1 : length s < 2 ^ 64 → at < length s → at + k < 2 ^ 64
  row_fits_1 l h = let a = item_le b d t in let y : length t ≡ length s - at = ap length dt ∙ length-drop at s in omega arith

  pub row_fits_2 : (x : ℕ) → length s < 2 ^ 64 → at < length s → x ≡ get_or t k 0 → x ≡ 0x2C → at + k + 1 < 2 ^ 64
  row_fits_2 x l m ex r = let a = row_in x m ex r in omega arith

  pub row_fits_3 : (c x : ℕ) → length s < 2 ^ 64 → at < length s → c ≡ close_of b → x ≡ get_or t k 0 → x ≡ c → at + k + 1 < 2 ^ 64
  row_fits_3 c x l m ec ex q = let a = inside x m ex (λ r. close_some b (sym ec ∙ sym q ∙ r)) in omega arith

pub row_over : (d b at : ℕ) (s : List ℕ) → row_of d b s ≡ joined at (row_of d b (drop at s)) → length s ≤ at → 0 ≡ row_of d b s
row_over d b at s inv h =
    sym (inv ∙ ap (λ (x : List ℕ). joined at (row_of d b x)) (drop_of_length-le s h) ∙ ap (joined at) (row_none (item_width b (value_width d)) (close_of b) (item_none b d) [] (item_width b (value_width d) []) refl (item_none b d)))
