-- Laws of columns: what one turn over the names of a `Format:` line sees.
use mathlib.Core.Path.{◌≡◌, refl, sym, ap, subst, ◌∙◌}
use mathlib.Core.Bool.{Bool, true, false, cond}
use mathlib.Core.List.{List, [], ◌∷◌, map}
use Prim.Native.Nat.{ℕ, zero, suc, ◌+◌, ◌≤◌, ◌<◌}
use native.Mathlib.Omega.{arith}
use borrow.Author.Tests.{eq-eqb, ne_eqb, eqb-true}
use lib.Dec.{eqb}
use lib.ListN.{length, take, drop, get_or, length-drop}
use lib.Seq.{take_all}
use Rattle.spec_text.specs.whitespace.White.{trim}
use Rattle.spec_text.specs.pattern.Find.{equals, first}
use Rattle.spec_text.specs.pattern.Piece.{pieces, comma}
use Rattle.spec_text.proofs.pattern.Laws.{equals_true}
use Rattle.spec_text.proofs.pattern.PieceLaws.{pieces_none, pieces_some}
use Rattle.spec_ass.specs.declared.ass_columns.Columns.{Columns}
use Rattle.spec_ass.specs.ass_columns.Columns.{start_name, end_name, names_in, further, place_in, columns_in}

-- ---- the first place that was met
pub place_kept : (e p : ℕ) (m : Bool) → (e ≡ 0 → ⊥) → e ≡ cond (eqb e 0) (cond m p 0) e
place_kept e p m h = rw (ne_eqb e 0 h)

pub place_here : (e p : ℕ) (m : Bool) → e ≡ 0 → m ≡ true → p ≡ cond (eqb e 0) (cond m p 0) e
place_here e p m h t = rw (eq-eqb e 0 h, t)

pub column_none : (e p : ℕ) (m : Bool) → e ≡ 0 → m ≡ false → 0 ≡ cond (eqb e 0) (cond m p 0) e
column_none e p m h t = rw (eq-eqb e 0 h, t)

-- ---- names
module _ (t p n : List ℕ) (i : ℕ) (ei : i ≡ first comma t) (ep : p ≡ take i t) (en : n ≡ trim p) where
  names_last : length t ≤ i → names_in t ≡ n ∷ []
  unfolding names_in
  names_last h =
      let q : p ≡ t = ep ∙ take_all i t h in
      ap (map trim) (pieces_none comma t (subst (λ (j : ℕ). length t ≤ j) ei h)) ∙ ap (λ (x : List ℕ). trim x ∷ []) (sym q) ∙ ap (λ (x : List ℕ). x ∷ []) (sym en)

  names_more : i < length t → names_in t ≡ n ∷ names_in (drop (i + 1) t)
  unfolding names_in
  names_more h =
      ap (map trim) (pieces_some comma t (omega arith) (subst (λ (j : ℕ). j < length t) ei h))
      ∙ ap (λ (j : ℕ). trim (take j t) ∷ map trim (pieces comma (drop (j + 1) t))) (sym ei)
      ∙ ap (λ (x : List ℕ). x ∷ map trim (pieces comma (drop (i + 1) t))) (ap trim (sym ep) ∙ sym en)

-- a place in the names that are left, counted from k; an earlier place stays
abbrev beyond : (k p : ℕ) → ℕ
beyond k zero = 0
beyond k (suc p) = k + suc p

abbrev onward : (e k p : ℕ) → ℕ
onward e k p = cond (eqb e 0) (beyond k p) e

beyond_further : (k q : ℕ) → beyond (k + 1) q ≡ beyond k (further q)
beyond_further k zero = refl
beyond_further k (suc q) = omega arith

onward_same : (e k : ℕ) → onward e k 0 ≡ e
onward_same e k = go (eqb e 0) refl
  where
    go : (t : Bool) → eqb e 0 ≡ t → cond t 0 e ≡ e
    go true q = sym (eqb-true e 0 q)
    go false q = refl

-- the name c, and then the names cs
onward_more : (name c : List ℕ) (cs : List (List ℕ)) (e e' k : ℕ) (m : Bool) → m ≡ equals name c → e' ≡ cond (eqb e 0) (cond m (k + 1) 0) e
    → onward e' (k + 1) (place_in name cs) ≡ onward e k (place_in name (c ∷ cs))
unfolding place_in
onward_more name c cs e e' k m em ee = go (eqb e 0) refl m em ee
  where
    go : (z : Bool) → eqb e 0 ≡ z → (m : Bool) → m ≡ equals name c → e' ≡ cond z (cond m (k + 1) 0) e
        → onward e' (k + 1) (place_in name cs) ≡ cond z (beyond k (cond (equals name c) 1 (further (place_in name cs)))) e
    go false q m em ee = rw (ee, q)
    go true q true em ee = rw (ee, ← em, ne_eqb (k + 1) 0 (λ z. omega arith))
    go true q false em ee = rw (ee, ← em) (beyond_further k (place_in name cs))

-- what is left of the line, with what was found, is the whole answer
pub record Left (s t : List ℕ) (k trims start stop : ℕ) : Type 0 where
  pub room : k + length t ≤ length s
  pub count : k + length (names_in t) ≡ length (names_in s)
  pub trimmed : trims + length (names_in t) ≡ length (names_in s)
  pub starts : onward start k (place_in start_name (names_in t)) ≡ place_in start_name (names_in s)
  pub stops : onward stop k (place_in end_name (names_in t)) ≡ place_in end_name (names_in s)

pub left_all : (s : List ℕ) → Left s s 0 0 0 0
left_all s = record { room = omega arith; count = omega arith; trimmed = omega arith; starts = all (place_in start_name (names_in s)); stops = all (place_in end_name (names_in s)) }
  where
    all : (p : ℕ) → onward 0 0 p ≡ p
    all zero = refl
    all (suc p) = omega arith

module _ (s t p n : List ℕ) (i k trims start stop start' stop' : ℕ) (a b : Bool) (inv : Left s t k trims start stop) (ei : i ≡ first comma t) (ep : p ≡ take i t) (en : n ≡ trim p)
    (ea : a ≡ equals start_name n) (eb : b ≡ equals end_name n) (es : start' ≡ cond (eqb start 0) (cond a (k + 1) 0) start) (ee : stop' ≡ cond (eqb stop 0) (cond b (k + 1) 0) stop) where
  pub left_trims : length t ≤ i → trims + 1 ≡ length (names_in s)
  left_trims h = omega (arith, inv.trimmed, ap length (names_last t p n i ei ep en h))

  pub left_done : length t ≤ i → ◌≡◌ {A = Columns} (record { events = true; columns = k + 1; start = start'; «end» = stop' }) (columns_in s)
  unfolding columns_in place_in
  left_done h =
      let q = names_last t p n i ei ep en h in
      let c : k + 1 ≡ length (names_in s) = omega (arith, inv.count, ap length q) in
      let x : start' ≡ place_in start_name (names_in s) =
      sym (onward_same start' (k + 1)) ∙ onward_more start_name n [] start start' k a ea es ∙ ap (λ (l : List (List ℕ)). onward start k (place_in start_name l)) (sym q) ∙ inv.starts in
      let y : stop' ≡ place_in end_name (names_in s) =
      sym (onward_same stop' (k + 1)) ∙ onward_more end_name n [] stop stop' k b eb ee ∙ ap (λ (l : List (List ℕ)). onward stop k (place_in end_name l)) (sym q) ∙ inv.stops in
      λ j. record { events = true; columns = c j; start = x j; «end» = y j }

  pub left_again : (u : List ℕ) → i < length t → u ≡ drop (i + 1) t → Left s u (k + 1) (trims + 1) start' stop'
  left_again u h eu =
      let q : names_in t ≡ n ∷ names_in u = names_more t p n i ei ep en h ∙ ap (λ (x : List ℕ). n ∷ names_in x) (sym eu) in
      record {
        room = omega (arith, inv.room, ap length eu, length-drop (i + 1) t);
        count = omega (arith, inv.count, ap length q);
        trimmed = omega (arith, inv.trimmed, ap length q);
        starts = onward_more start_name n (names_in u) start start' k a ea es ∙ ap (λ (l : List (List ℕ)). onward start k (place_in start_name l)) (sym q) ∙ inv.starts;
        stops = onward_more end_name n (names_in u) stop stop' k b eb ee ∙ ap (λ (l : List (List ℕ)). onward stop k (place_in end_name l)) (sym q) ∙ inv.stops;
      }

-- ---- Start and End are not one column: where their places are the same, both are unknown
abbrev pub Apart : Columns → Type 0
Apart c = c.start ≡ c.«end» → c.start ≡ 0

further_same : (x y : ℕ) → further x ≡ further y → x ≡ y
further_same zero zero e = refl
further_same zero (suc y) e = absurd (omega arith)
further_same (suc x) zero e = absurd (omega arith)
further_same (suc x) (suc y) e = omega arith

further_one : (x : ℕ) → further x ≡ 1 → ⊥
further_one zero e = omega arith
further_one (suc x) e = omega arith

places_apart : (a b : List ℕ) → (a ≡ b → ⊥) → (cs : List (List ℕ)) → place_in a cs ≡ place_in b cs → place_in a cs ≡ 0
unfolding place_in
places_apart a b n [] e = refl
places_apart a b n (c ∷ cs) e = go (equals a c) refl (equals b c) refl e (places_apart a b n cs)
  where
    go : (x : Bool) → equals a c ≡ x → (y : Bool) → equals b c ≡ y → cond x 1 (further (place_in a cs)) ≡ cond y 1 (further (place_in b cs))
        → (place_in a cs ≡ place_in b cs → place_in a cs ≡ 0) → cond x 1 (further (place_in a cs)) ≡ 0
    go true p true q e ih = absurd (n (equals_true a c p ∙ sym (equals_true b c q)))
    go true p false q e ih = absurd (further_one (place_in b cs) (sym e))
    go false p true q e ih = absurd (further_one (place_in a cs) e)
    go false p false q e ih = ap further (ih (further_same (place_in a cs) (place_in b cs) e))

-- a `Format:` line sets such columns
pub format_apart : (s : List ℕ) → Apart (columns_in s)
unfolding columns_in
format_apart s = places_apart start_name end_name (λ e. let z : 83 ≡ 69 = ap (λ (l : List ℕ). get_or l 0 0) e in omega arith) (names_in s)
