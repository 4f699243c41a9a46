-- A value of any depth is as wide in the front of a text that holds it, and holds the same items.
use Prim.Native.Nat.{ℕ, zero, suc, ◌+◌, ◌-◌, ◌≤◌, ◌<◌}
use mathlib.Core.Path.{◌≡◌, refl, sym, ap, ◌∙◌}
use mathlib.Core.Bool.{Bool, true, false, cond}
use mathlib.Core.List.{List, [], ◌∷◌}
use native.Mathlib.Omega.{arith}
use borrow.Author.Tests.{eq-eqb, ne_eqb, eqb-true}
use lib.Dec.{eqb}
use lib.ListN.{length, get_or, take, drop}
use lib.Seq.{take-take, get_or-take, get_or-drop, drop-drop}
use Rattle.spec_base.specs.base.Width.{by_width}
use Rattle.spec_json.specs.json.Space.{spaces, more, joined, padded}
use Rattle.spec_json.specs.json.Str.{chars_width, string_width, string_bytes}
use Rattle.spec_json.specs.json.Value.{scalar_width, colon_at, key_width, member_width, row_width, row_items, inside_width, inside_items, value_width}
use Rattle.spec_json.specs.declared.json.Item.{Item}
use Rattle.spec_json.specs.json.Walk.{close_of, lead_width, item_width, items_of, row_of}
use Rattle.spec_json.specs.json.Item.{ItemOf}
use Rattle.spec_json.specs.json.Member.{Member, bare, name_of, value_of, member_of, member_all, members_of}
use Rattle.spec_json.proofs.json.ValueLaws.{padded_le, member_le, row_open, row_shut, row_fuel}
use Rattle.spec_json.proofs.json.ItemLaws.{value_le}
use Rattle.spec_json.proofs.json.MemberLaws.{items_open, items_fuel}
use Rattle.spec_json.proofs.json.ValueBack.{padded_with, key_with}
use Rattle.spec_json.proofs.json.FrontLaws.{Front, drop_front, keeps_at, front_at, spaces_keep}
use Rattle.spec_json.proofs.json.FrontStrings.{string_front, string_bytes_front, scalar_front}

-- ---- white space around an item
padded_zero : (item : List ℕ → ℕ) (s : List ℕ) → item (drop (spaces s) s) ≡ 0 → padded item s ≡ 0
unfolding padded
padded_zero item s f = ap (λ (y : ℕ). by_width y 0 (λ k. spaces s + suc k + spaces (drop (spaces s + suc k) s))) f

-- the item of a padded one: its width, and that it is within
pub record Within (item : List ℕ → ℕ) (s : List ℕ) (k : ℕ) : Type 0 where
  pub less : ℕ
  pub is : item (drop (spaces s) s) ≡ suc less
  pub whole : suc k ≡ spaces s + suc less + spaces (drop (spaces s + suc less) s)

pub within : (item : List ℕ → ℕ) (s : List ℕ) (k : ℕ) → padded item s ≡ suc k → Within item s k
within item s k e = go (item (drop (spaces s) s)) refl
  where
    go : (w : ℕ) → item (drop (spaces s) s) ≡ w → Within item s k
    go zero q = absurd (omega (arith, padded_zero item s q))
    go (suc w) q = record { less = w; is = q; whole = sym e ∙ padded_with item s (spaces s) w refl q }

pub padded_front : (item : List ℕ → ℕ) → Front item → Front (padded item)
padded_front item front s n k e h =
    let W = within item s k e in
    let w = W.less in
    let l : suc k ≡ spaces s + suc w + spaces (drop (spaces s + suc w) s) = W.whole in
    let a : spaces (take n s) ≡ spaces s = spaces_keep s n (omega arith) in
    let b : item (drop (spaces s) (take n s)) ≡ suc w = front_at item front s n (spaces s) w W.is (omega arith) in
    let c : spaces (drop (spaces s + suc w) (take n s)) ≡ spaces (drop (spaces s + suc w) s) = keeps_at spaces spaces_keep s n (spaces s + suc w) (omega arith) in
    padded_with item (take n s) (spaces s) w a b ∙ ap (λ (x : ℕ). spaces s + suc w + x) c ∙ sym l

-- ---- keys
key_zero : (s : List ℕ) → string_width (drop (spaces s) s) ≡ 0 → key_width s ≡ 0
unfolding key_width
key_zero s f = ap (λ (y : ℕ). by_width y 0 (λ k. colon_at s (spaces s + suc k + spaces (drop (spaces s + suc k) s)))) f

-- the name of a key: its width, and that it is within
pub record Named (s : List ℕ) (k : ℕ) : Type 0 where
  pub less : ℕ
  pub is : string_width (drop (spaces s) s) ≡ suc less
  pub colon : get_or s k 0 ≡ 0x3A
  pub whole : k ≡ spaces s + suc less + spaces (drop (spaces s + suc less) s)

colon_is : (s : List ℕ) (m k : ℕ) → colon_at s m ≡ suc k → (get_or s k 0 ≡ 0x3A) × (k ≡ m)
colon_is s m k e = go (eqb (get_or s m 0) 0x3A) refl e
  where
    go : (t : Bool) → eqb (get_or s m 0) 0x3A ≡ t → cond t (suc m) 0 ≡ suc k → (get_or s k 0 ≡ 0x3A) × (k ≡ m)
    go true q e = let z : k ≡ m = omega arith in (ap (λ (j : ℕ). get_or s j 0) z ∙ eqb-true _ _ q, z)
    go false q e = absurd (omega arith)

pub named : (s : List ℕ) (k : ℕ) → key_width s ≡ suc k → Named s k
named s k e = go (string_width (drop (spaces s) s)) refl
  where
    go : (w : ℕ) → string_width (drop (spaces s) s) ≡ w → Named s k
    go zero q = absurd (omega (arith, key_zero s q))
    go (suc w) q =
        let c = colon_is s (spaces s + suc w + spaces (drop (spaces s + suc w) s)) k (sym (key_with s (spaces s) w refl q) ∙ e) in
        record { less = w; is = q; colon = c.0; whole = c.1 }

pub key_front : Front key_width
key_front s n k e h =
    let N = named s k e in
    let w = N.less in
    let m = spaces s + suc w + spaces (drop (spaces s + suc w) s) in
    let l : k ≡ spaces s + suc w + spaces (drop (spaces s + suc w) s) = N.whole in
    let a : spaces (take n s) ≡ spaces s = spaces_keep s n (omega arith) in
    let b : string_width (drop (spaces s) (take n s)) ≡ suc w = front_at string_width string_front s n (spaces s) w N.is (omega arith) in
    let c : spaces (drop (spaces s + suc w) (take n s)) ≡ spaces (drop (spaces s + suc w) s) = keeps_at spaces spaces_keep s n (spaces s + suc w) (omega arith) in
    let g : get_or (take n s) k 0 ≡ 0x3A = get_or-take n s k 0 (omega arith) ∙ N.colon in
    key_with (take n s) (spaces s) w a b ∙ ap (λ (x : ℕ). colon_at (take n s) (spaces s + suc w + x)) c ∙ ap (colon_at (take n s)) (sym l)
    ∙ ap (λ (t : Bool). cond t (suc k) 0) (eq-eqb _ _ g)

-- ---- members
member_at : (value : List ℕ → ℕ) (s : List ℕ) (c : ℕ) → key_width s ≡ suc c → member_width value s ≡ joined (suc c) (padded value (drop (suc c) s))
unfolding member_width
member_at value s c e = ap (λ (j : ℕ). by_width j 0 (λ k. joined (suc k) (padded value (drop (suc k) s)))) e

member_zero : (value : List ℕ → ℕ) (s : List ℕ) → key_width s ≡ 0 → member_width value s ≡ 0
unfolding member_width
member_zero value s e = ap (λ (j : ℕ). by_width j 0 (λ k. joined (suc k) (padded value (drop (suc k) s)))) e

-- the key of a member and the value behind it
pub record Keyed (value : List ℕ → ℕ) (s : List ℕ) (k : ℕ) : Type 0 where
  pub key : ℕ
  pub rest : ℕ
  pub key_is : key_width s ≡ suc key
  pub rest_is : padded value (drop (suc key) s) ≡ suc rest
  pub whole : suc k ≡ suc key + suc rest

pub keyed : (value : List ℕ → ℕ) (s : List ℕ) (k : ℕ) → member_width value s ≡ suc k → Keyed value s k
keyed value s k e = go (key_width s) refl
  where
    go : (c : ℕ) → key_width s ≡ c → Keyed value s k
    go zero q = absurd (omega (arith, member_zero value s q))
    go (suc c) q = by (padded value (drop (suc c) s)) refl
      where
        by : (x : ℕ) → padded value (drop (suc c) s) ≡ x → Keyed value s k
        by zero r = let z : member_width value s ≡ 0 = member_at value s c q ∙ ap (joined (suc c)) r in absurd (omega arith)
        by (suc x) r =
            let z : member_width value s ≡ suc c + suc x = member_at value s c q ∙ ap (joined (suc c)) r in
            record { key = c; rest = x; key_is = q; rest_is = r; whole = sym e ∙ z }

pub member_front : (value : List ℕ → ℕ) → Front value → Front (member_width value)
member_front value front s n k e h =
    let K = keyed value s k e in
    let c = K.key in
    let x = K.rest in
    let l : suc k ≡ suc c + suc x = K.whole in
    let a : key_width (take n s) ≡ suc c = key_front s n c K.key_is (omega arith) in
    let b : padded value (drop (suc c) (take n s)) ≡ suc x = front_at (padded value) (padded_front value front) s n (suc c) x K.rest_is (omega arith) in
    member_at value (take n s) c a ∙ ap (joined (suc c)) b ∙ sym l

-- white space before an item is part of it
abbrev Leads : (List ℕ → ℕ) → Type 0
Leads item = (s : List ℕ) (k : ℕ) → item s ≡ suc k → spaces s ≤ k

padded_leads : (item : List ℕ → ℕ) → Leads (padded item)
padded_leads item s k e = let W = within item s k e in let l = W.whole in omega arith

member_leads : (value : List ℕ → ℕ) → Leads (member_width value)
member_leads value s k e =
    let K = keyed value s k e in
    let N = named s K.key K.key_is in
    let l = K.whole in
    let m = N.whole in
    omega arith

take_short : (n : ℕ) (s : List ℕ) → length (take n s) ≤ length s
take_short zero s = omega arith
take_short (suc n) [] = omega arith
take_short (suc n) (b ∷ s) = let z = take_short n s in omega arith

-- ---- rows
module _ (item : List ℕ → ℕ) (close : ℕ) (comma : close ≡ 0x2C → ⊥) (front : Front item) (leads : Leads item) where
  abbrev Closed : (x y : Bool) (k r : ℕ) → ℕ
  Closed x y k r = elim x [ true ↦ suc (suc k) | false ↦ elim y [ true ↦ joined (suc (suc k)) r | false ↦ 0 ] ]

  row_front : (f : ℕ) → Front (row_width item close f)
  unfolding row_width
  row_front zero s n k e h = absurd (omega arith)
  row_front (suc f) s n k e h = go (item s) refl (row_front f)
    where
      go : (j : ℕ) → item s ≡ j → Front (row_width item close f) → row_width item close (suc f) (take n s) ≡ suc k
      go zero q ih = absurd (omega (arith, row_shut item close (suc f) s q))
      go (suc j) q ih = by (eqb (get_or s (suc j) 0) close) (eqb (get_or s (suc j) 0) 0x2C) refl refl (sym (row_open item close f s j q) ∙ e)
        where
          at : suc (suc j) ≤ n → (x y : Bool) → eqb (get_or s (suc j) 0) close ≡ x → eqb (get_or s (suc j) 0) 0x2C ≡ y → row_width item close (suc f) (take n s) ≡ Closed x y j (row_width item close f (drop (suc (suc j)) (take n s)))
          at l x y p r =
              row_open item close f (take n s) j (front s n j q (omega arith))
              ∙ ap (λ (b : ℕ). Closed (eqb b close) (eqb b 0x2C) j (row_width item close f (drop (suc (suc j)) (take n s)))) (get_or-take n s (suc j) 0 (omega arith))
              ∙ ap (λ (t : Bool). Closed t (eqb (get_or s (suc j) 0) 0x2C) j (row_width item close f (drop (suc (suc j)) (take n s)))) p
              ∙ ap (λ (t : Bool). Closed x t j (row_width item close f (drop (suc (suc j)) (take n s)))) r

          by : (x y : Bool) → eqb (get_or s (suc j) 0) close ≡ x → eqb (get_or s (suc j) 0) 0x2C ≡ y → Closed x y j (row_width item close f (drop (suc (suc j)) s)) ≡ suc k → row_width item close (suc f) (take n s) ≡ suc k
          by true y p r w = at (omega arith) true y p r ∙ w
          by false true p r w = more_row (row_width item close f (drop (suc (suc j)) s)) refl w
            where
              more_row : (u : ℕ) → row_width item close f (drop (suc (suc j)) s) ≡ u → joined (suc (suc j)) u ≡ suc k → row_width item close (suc f) (take n s) ≡ suc k
              more_row zero z w = absurd (omega arith)
              more_row (suc u) z w = at (omega arith) false true p r ∙ ap (joined (suc (suc j))) (front_at (row_width item close f) ih s n (suc (suc j)) u z (omega arith)) ∙ w
          by false false p r w = absurd (omega arith)

  items_front : (f : ℕ) (s : List ℕ) (n k : ℕ) → row_width item close f s ≡ suc k → suc k ≤ n → row_items item close f (take n s) ≡ row_items item close f s
  unfolding row_width
  items_front zero s n k e h = absurd (omega arith)
  items_front (suc f) s n k e h = go (item s) refl (items_front f)
    where
      go : (j : ℕ) → item s ≡ j → ((s : List ℕ) (n k : ℕ) → row_width item close f s ≡ suc k → suc k ≤ n → row_items item close f (take n s) ≡ row_items item close f s)
          → row_items item close (suc f) (take n s) ≡ row_items item close (suc f) s
      go zero q ih = absurd (omega (arith, row_shut item close (suc f) s q))
      go (suc j) q ih = by (eqb (get_or s (suc j) 0) close) (eqb (get_or s (suc j) 0) 0x2C) refl refl (sym (row_open item close f s j q) ∙ e)
        where
          Next : Bool → List ℕ → List (List ℕ)
          Next y s = elim y [ true ↦ row_items item close f (drop (suc (suc j)) s) | false ↦ [] ]

          at : suc (suc j) ≤ n → (y : Bool) → eqb (get_or s (suc j) 0) 0x2C ≡ y → Next y (take n s) ≡ Next y s → row_items item close (suc f) (take n s) ≡ row_items item close (suc f) s
          at l y r w =
              items_open item close f (take n s) j (front s n j q (omega arith))
              ∙ ap (λ (v : List ℕ). v ∷ Next (eqb (get_or (take n s) (suc j) 0) 0x2C) (take n s)) (take-take (suc j) n s (omega arith))
              ∙ ap (λ (b : ℕ). take (suc j) s ∷ Next (eqb b 0x2C) (take n s)) (get_or-take n s (suc j) 0 (omega arith))
              ∙ ap (λ (t : Bool). take (suc j) s ∷ Next t (take n s)) r ∙ ap (λ (v : List (List ℕ)). take (suc j) s ∷ v) w
              ∙ ap (λ (t : Bool). take (suc j) s ∷ Next t s) (sym r) ∙ sym (items_open item close f s j q)

          by : (x y : Bool) → eqb (get_or s (suc j) 0) close ≡ x → eqb (get_or s (suc j) 0) 0x2C ≡ y → Closed x y j (row_width item close f (drop (suc (suc j)) s)) ≡ suc k
              → row_items item close (suc f) (take n s) ≡ row_items item close (suc f) s
          by x false p r w = at (far x w) false r refl
            where
              far : (x : Bool) → Closed x false j (row_width item close f (drop (suc (suc j)) s)) ≡ suc k → suc (suc j) ≤ n
              far true w = omega arith
              far false w = absurd (omega arith)
          by true true p r w = absurd (comma (sym (eqb-true _ _ p) ∙ eqb-true _ _ r))
          by false true p r w = more_row (row_width item close f (drop (suc (suc j)) s)) refl w
            where
              more_row : (u : ℕ) → row_width item close f (drop (suc (suc j)) s) ≡ u → joined (suc (suc j)) u ≡ suc k → row_items item close (suc f) (take n s) ≡ row_items item close (suc f) s
              more_row zero z w = absurd (omega arith)
              more_row (suc u) z w =
                  at (omega arith) true r
                  (ap (row_items item close f) (drop_front (suc (suc j)) n s) ∙ ih (drop (suc (suc j)) s) (n - suc (suc j)) u z (omega arith))

  -- white space before a row is within it
  row_leads : (f : ℕ) (s : List ℕ) (k : ℕ) → row_width item close f s ≡ suc k → spaces s ≤ k
  unfolding row_width
  row_leads zero s k e = absurd (omega arith)
  row_leads (suc f) s k e = go (item s) refl
    where
      go : (j : ℕ) → item s ≡ j → spaces s ≤ k
      go zero q = absurd (omega (arith, row_shut item close (suc f) s q))
      go (suc j) q = by (eqb (get_or s (suc j) 0) close) (eqb (get_or s (suc j) 0) 0x2C) (row_width item close f (drop (suc (suc j)) s)) (sym (row_open item close f s j q) ∙ e)
        where
          by : (x y : Bool) (u : ℕ) → Closed x y j u ≡ suc k → spaces s ≤ k
          by true y u w = let z = leads s j q in omega arith
          by false true zero w = absurd (omega arith)
          by false true (suc u) w = let z = leads s j q in omega arith
          by false false u w = absurd (omega arith)

  module _ (none : item [] ≡ 0) where
    abbrev Inside : Bool → List ℕ → ℕ
    Inside t s = elim t [ true ↦ suc (spaces s) | false ↦ row_width item close (length s) s ]

    -- the byte behind the white space
    next_front : (s : List ℕ) (n : ℕ) → spaces s < n → eqb (get_or (take n s) (spaces (take n s)) 0) close ≡ eqb (get_or s (spaces s) 0) close
    next_front s n h = ap (λ (j : ℕ). eqb (get_or (take n s) j 0) close) (spaces_keep s n (omega arith)) ∙ ap (λ (b : ℕ). eqb b close) (get_or-take n s (spaces s) 0 h)

    pub inside_front : Front (inside_width item close)
    inside_front s n k e h = go (eqb (get_or s (spaces s) 0) close) refl e
      where
        go : (t : Bool) → eqb (get_or s (spaces s) 0) close ≡ t → Inside t s ≡ suc k → inside_width item close (take n s) ≡ suc k
        go true p w =
            ap (λ (t : Bool). Inside t (take n s)) (next_front s n (omega arith) ∙ p) ∙ ap suc (spaces_keep s n (omega arith)) ∙ w
        go false p w =
            let l = row_leads (length s) s k w in
            ap (λ (t : Bool). Inside t (take n s)) (next_front s n (omega arith) ∙ p)
            ∙ row_fuel item close none (length (take n s)) (length s) (take n s) (omega arith) (take_short n s) ∙ row_front (length s) s n k w h

    abbrev Items : Bool → List ℕ → List (List ℕ)
    Items t s = elim t [ true ↦ [] | false ↦ row_items item close (length s) s ]

    pub inside_items_lem : (s : List ℕ) (n k : ℕ) → inside_width item close s ≡ suc k → suc k ≤ n → inside_items item close (take n s) ≡ inside_items item close s
    inside_items_lem s n k e h = go (eqb (get_or s (spaces s) 0) close) refl e
      where
        go : (t : Bool) → eqb (get_or s (spaces s) 0) close ≡ t → Inside t s ≡ suc k → inside_items item close (take n s) ≡ inside_items item close s
        go true p w = ap (λ (t : Bool). Items t (take n s)) (next_front s n (omega arith) ∙ p) ∙ ap (λ (t : Bool). Items t s) (sym p)
        go false p w =
            let l = row_leads (length s) s k w in
            ap (λ (t : Bool). Items t (take n s)) (next_front s n (omega arith) ∙ p)
            ∙ items_fuel item close none (length (take n s)) (length s) (take n s) (omega arith) (take_short n s) ∙ items_front (length s) s n k w h
            ∙ ap (λ (t : Bool). Items t s) (sym p)

-- ---- values
more_front : (f : List ℕ → ℕ) → Front f → (s : List ℕ) (n k : ℕ) → more (f (drop 1 s)) ≡ suc k → suc k ≤ n → more (f (drop 1 (take n s))) ≡ suc k
more_front f front s n k e h = go (f (drop 1 s)) refl e
  where
    go : (x : ℕ) → f (drop 1 s) ≡ x → more x ≡ suc k → more (f (drop 1 (take n s))) ≡ suc k
    go zero q w = absurd (omega arith)
    go (suc x) q w = ap more (front_at f front s n 1 x q (omega arith)) ∙ w

-- an array's row and an object's
module _ (value : List ℕ → ℕ) (front : Front value) (le : (s : List ℕ) → value s ≤ length s) where
  array_front : Front (inside_width (padded value) 0x5D)
  array_front =
      inside_front (padded value) 0x5D (λ e. absurd (omega arith)) (padded_front value front) (padded_leads value) (let z = padded_le value le [] in omega arith)

  object_front : Front (inside_width (member_width value) 0x7D)
  object_front =
      inside_front (member_width value) 0x7D (λ e. absurd (omega arith)) (member_front value front) (member_leads value) (let z = member_le value le [] in omega arith)

  object_items : (s : List ℕ) (n k : ℕ) → inside_width (member_width value) 0x7D s ≡ suc k → suc k ≤ n → inside_items (member_width value) 0x7D (take n s) ≡ inside_items (member_width value) 0x7D s
  object_items =
      inside_items_lem (member_width value) 0x7D (λ e. absurd (omega arith)) (member_front value front) (member_leads value) (let z = member_le value le [] in omega arith)

abbrev ValueBy : (d : ℕ) (x y : Bool) → List ℕ → ℕ
ValueBy d x y s =
    elim x [
      | true ↦ more (inside_width (padded (λ t. value_width d t)) 0x5D (drop 1 s))
      | false ↦ elim y [ true ↦ more (inside_width (member_width (λ t. value_width d t)) 0x7D (drop 1 s)) | false ↦ scalar_width s ]
    ]

value_by : (d : ℕ) (s : List ℕ) (b : ℕ) → get_or s 0 0 ≡ b → value_width (suc d) s ≡ ValueBy d (eqb b 0x5B) (eqb b 0x7B) s
unfolding value_width
value_by d s b e = ap (λ (x : ℕ). ValueBy d (eqb x 0x5B) (eqb x 0x7B) s) e

pub value_front : (d : ℕ) → Front (value_width d)
unfolding value_width
value_front zero s n k e h = scalar_front s n k e h
value_front (suc d) s n k e h = go (eqb (get_or s 0 0) 0x5B) (eqb (get_or s 0 0) 0x7B) refl refl (sym (value_by d s (get_or s 0 0) refl) ∙ e) (value_front d)
  where
    go : (x y : Bool) → eqb (get_or s 0 0) 0x5B ≡ x → eqb (get_or s 0 0) 0x7B ≡ y → ValueBy d x y s ≡ suc k → Front (value_width d) → value_width (suc d) (take n s) ≡ suc k
    go x y p q w front =
        value_by d (take n s) (get_or s 0 0) (get_or-take n s 0 0 (omega arith)) ∙ ap (λ (t : Bool). ValueBy d t (eqb (get_or s 0 0) 0x7B) (take n s)) p ∙ ap (λ (t : Bool). ValueBy d x t (take n s)) q ∙ by x y w
      where
        by : (x y : Bool) → ValueBy d x y s ≡ suc k → ValueBy d x y (take n s) ≡ suc k
        by true y w = more_front (inside_width (padded (λ t. value_width d t)) 0x5D) (array_front (value_width d) front (value_le d)) s n k w h
        by false true w = more_front (inside_width (member_width (λ t. value_width d t)) 0x7D) (object_front (value_width d) front (value_le d)) s n k w h
        by false false w = scalar_front s n k w h

-- the members of an object
pub members_front : (d : ℕ) (s : List ℕ) (n k : ℕ) → get_or s 0 0 ≡ 0x7B → value_width (suc d) s ≡ suc k → suc k ≤ n → members_of d (take n s) ≡ members_of d s
unfolding members_of
members_front d s n k b e h = go (inside_width (member_width (λ t. value_width d t)) 0x7D (drop 1 s)) refl (sym (value_by d s 0x7B b) ∙ e)
  where
    go : (x : ℕ) → inside_width (member_width (λ t. value_width d t)) 0x7D (drop 1 s) ≡ x → more x ≡ suc k → member_all d (inside_items (member_width (value_width d)) 0x7D (drop 1 (take n s))) ≡ member_all d (inside_items (member_width (value_width d)) 0x7D (drop 1 s))
    go zero q w = absurd (omega arith)
    go (suc x) q w =
        ap (λ (t : List ℕ). member_all d (inside_items (member_width (value_width d)) 0x7D t)) (drop_front 1 n s)
        ∙ ap (member_all d) (object_items (value_width d) (value_front d) (value_le d) (drop 1 s) (n - 1) x q (omega arith))

-- ---- what an item says
pub bare_front : (d : ℕ) (s : List ℕ) (n k : ℕ) → padded (value_width d) s ≡ suc k → suc k ≤ n → bare d (take n s) ≡ bare d s
unfolding bare
bare_front d s n k e h =
    let W = within (value_width d) s k e in
    let w = W.less in
    let l : suc k ≡ spaces s + suc w + spaces (drop (spaces s + suc w) s) = W.whole in
    let a : spaces (take n s) ≡ spaces s = spaces_keep s n (omega arith) in
    let b : value_width d (take (n - spaces s) (drop (spaces s) s)) ≡ suc w = value_front d (drop (spaces s) s) (n - spaces s) w W.is (omega arith) in
    ap (λ (x : ℕ). take (value_width d (drop x (take n s))) (drop x (take n s))) a
    ∙ ap (λ (x : List ℕ). take (value_width d x) x) (drop_front (spaces s) n s)
    ∙ ap (λ (x : ℕ). take x (take (n - spaces s) (drop (spaces s) s))) b
    ∙ take-take (suc w) (n - spaces s) (drop (spaces s) s) (omega arith)
    ∙ ap (λ (x : ℕ). take x (drop (spaces s) s)) (sym W.is)

pub name_front : (d : ℕ) (s : List ℕ) (k : ℕ) → member_width (value_width d) s ≡ suc k → name_of (take (suc k) s) ≡ string_bytes (drop (spaces s) s)
name_front d s k e =
    let K = keyed (value_width d) s k e in
    let N = named s K.key K.key_is in
    let l = K.whole in
    let m = N.whole in
    let a : spaces (take (suc k) s) ≡ spaces s = spaces_keep s (suc k) (omega arith) in
    ap (λ (x : ℕ). string_bytes (drop x (take (suc k) s))) a ∙ ap string_bytes (drop_front (spaces s) (suc k) s)
    ∙ string_bytes_front (drop (spaces s) s) (suc k - spaces s) N.less N.is (omega arith)

pub value_of_front : (d : ℕ) (s : List ℕ) (k c : ℕ) → member_width (value_width d) s ≡ suc k → key_width s ≡ suc c → value_of d (take (suc k) s) ≡ bare d (drop (suc c) s)
value_of_front d s k c e q =
    let K = keyed (value_width d) s k e in
    let l : suc k ≡ suc K.key + suc K.rest = K.whole in
    let z : K.key ≡ c = omega (arith, K.key_is, q) in
    let r : padded (value_width d) (drop (suc c) s) ≡ suc K.rest = ap (λ (x : ℕ). padded (value_width d) (drop (suc x) s)) (sym z) ∙ K.rest_is in
    let a : key_width (take (suc k) s) ≡ suc c = key_front s (suc k) c q (omega arith) in
    ap (λ (x : ℕ). bare d (drop x (take (suc k) s))) a ∙ ap (bare d) (drop_front (suc c) (suc k) s)
    ∙ bare_front d (drop (suc c) s) (suc k - suc c) K.rest r (omega arith)

-- the member that an item of an object is
lead_key : (s : List ℕ) (c : ℕ) → key_width s ≡ suc c → lead_width 0x7B s ≡ suc c + spaces (drop (suc c) s)
unfolding lead_width
lead_key s c e = ap (λ (j : ℕ). by_width j (length s) (λ k. suc k + spaces (drop (suc k) s))) e

bare_behind : (d c : ℕ) (s : List ℕ) → bare d (drop c s) ≡ take (value_width d (drop (c + spaces (drop c s)) s)) (drop (c + spaces (drop c s)) s)
unfolding bare
bare_behind d c s = ap (λ (x : List ℕ). take (value_width d x) x) (drop-drop (spaces (drop c s)) c s)

pub parts_member : (d : ℕ) (s : List ℕ) (p : Item) → ItemOf d 0x7B s p → (p.whole ≡ 0 → ⊥) → member_of d (take p.whole s) ≡ record { name = string_bytes (drop (spaces s) s); value = take p.width (drop p.lead s) }
unfolding item_width
parts_member d s p P z = go p.whole refl
  where
    go : (j : ℕ) → p.whole ≡ j → member_of d (take p.whole s) ≡ record { name = string_bytes (drop (spaces s) s); value = take p.width (drop p.lead s) }
    go zero q = absurd (z q)
    go (suc k) q =
        let e : member_width (value_width d) s ≡ suc k = sym P.whole_is ∙ q in
        let K = keyed (value_width d) s k e in
        let c = K.key in
        let l : p.lead ≡ suc c + spaces (drop (suc c) s) = P.lead_is ∙ lead_key s c K.key_is in
        let a : name_of (take p.whole s) ≡ string_bytes (drop (spaces s) s) = ap (λ (j : ℕ). name_of (take j s)) q ∙ name_front d s k e in
        let b : value_of d (take p.whole s) ≡ take p.width (drop p.lead s) =
        ap (λ (j : ℕ). value_of d (take j s)) q ∙ value_of_front d s k c e K.key_is ∙ bare_behind d (suc c) s
        ∙ ap (λ (j : ℕ). take (value_width d (drop j s)) (drop j s)) (sym l) ∙ ap (λ (j : ℕ). take j (drop p.lead s)) (sym P.width_is) in
        λ i. record { name = a i; value = b i }

-- ---- an object with a member, by its row
string_opens : (s : List ℕ) (k : ℕ) → string_width s ≡ suc k → get_or s 0 0 ≡ 0x22
unfolding string_width
string_opens s k e = go (eqb (get_or s 0 0) 0x22) refl e
  where
    go : (t : Bool) → eqb (get_or s 0 0) 0x22 ≡ t → cond t (more (chars_width (drop 1 s) 0)) 0 ≡ suc k → get_or s 0 0 ≡ 0x22
    go true q e = eqb-true _ _ q
    go false q e = absurd (omega arith)

row_quote : (d : ℕ) (t : List ℕ) (r : ℕ) → row_of d 0x7B t ≡ suc r → get_or t (spaces t) 0 ≡ 0x22
unfolding item_width
row_quote d t r e = go (member_width (value_width d) t) refl
  where
    go : (j : ℕ) → member_width (value_width d) t ≡ j → get_or t (spaces t) 0 ≡ 0x22
    go zero q = absurd (omega (arith, row_shut (member_width (value_width d)) (close_of 0x7B) (length t) t q))
    go (suc j) q =
        let K = keyed (value_width d) t j q in
        let N = named t K.key K.key_is in
        let n : spaces t ≡ spaces t + 0 = omega arith in
        ap (λ (x : ℕ). get_or t x 0) n ∙ sym (get_or-drop (spaces t) t 0 0) ∙ string_opens (drop (spaces t) t) N.less N.is

module _ (d : ℕ) (s : List ℕ) (b : get_or s 0 0 ≡ 0x7B) where
  abbrev ObjectBy : Bool → ℕ
  ObjectBy t = more (elim t [ true ↦ suc (spaces (drop 1 s)) | false ↦ row_of d 0x7B (drop 1 s) ])

  abbrev MembersBy : Bool → List Member
  MembersBy t = member_all d (elim t [ true ↦ [] | false ↦ items_of d 0x7B (drop 1 s) ])

  object_by : value_width (suc d) s ≡ ObjectBy (eqb (get_or (drop 1 s) (spaces (drop 1 s)) 0) 0x7D)
  unfolding item_width close_of
  object_by = value_by d s 0x7B b

  members_by : members_of d s ≡ MembersBy (eqb (get_or (drop 1 s) (spaces (drop 1 s)) 0) 0x7D)
  unfolding members_of item_width close_of
  members_by = refl

  module _ (r : ℕ) (e : row_of d 0x7B (drop 1 s) ≡ suc r) where
    open_row : eqb (get_or (drop 1 s) (spaces (drop 1 s)) 0) 0x7D ≡ false
    open_row = ne_eqb (get_or (drop 1 s) (spaces (drop 1 s)) 0) 0x7D (λ (q : get_or (drop 1 s) (spaces (drop 1 s)) 0 ≡ 0x7D). let z = row_quote d (drop 1 s) r e in omega arith)

    pub row_object : value_width (suc d) s ≡ suc (suc r)
    row_object = object_by ∙ ap ObjectBy open_row ∙ ap more e

    pub row_members : members_of d s ≡ member_all d (items_of d 0x7B (drop 1 s))
    row_members = members_by ∙ ap MembersBy open_row

  -- without a row it is empty
  pub no_row : (k : ℕ) → row_of d 0x7B (drop 1 s) ≡ 0 → value_width (suc d) s ≡ suc k → members_of d s ≡ []
  no_row k e h = go (eqb (get_or (drop 1 s) (spaces (drop 1 s)) 0) 0x7D) members_by (sym object_by ∙ h)
    where
      go : (t : Bool) → members_of d s ≡ MembersBy t → ObjectBy t ≡ suc k → members_of d s ≡ []
      go true m w = m
      go false m w = let z : more (row_of d 0x7B (drop 1 s)) ≡ 0 = ap more e in absurd (omega arith)
