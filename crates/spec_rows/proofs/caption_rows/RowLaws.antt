-- Laws of rows: a row written, and where a walk stands.
use mathlib.Core.Path.{◌≡◌, refl, sym, ap, ap₂, subst, ◌∙◌}
use mathlib.Core.Bool.{Bool, true, false, cond}
use mathlib.Core.List.{List, [], ◌∷◌, ◌++◌, append_assoc, append-nil}
use Prim.Native.Nat.{ℕ, zero, suc, ◌+◌, ◌*◌, ◌-◌, ◌≤◌, ◌<◌}
use native.Mathlib.Omega.{arith}
use lib.Dec.{leb}
use lib.ListN.{length, length-append}
use Rattle.spec_base.specs.base.Put.{put, put_at, placed_at, place_after}
use Rattle.spec_base.proofs.base.PutLaws.{put_nil, put_at_nil, at_yes, at_no, after_yes, after_no, numbers_stored, then_placed, placed_length_lem}
use Rattle.spec_rows.specs.declared.caption_rows.Said.{Said}
use Rattle.spec_rows.specs.declared.caption_rows.Walked.{Walked}
use Rattle.spec_rows.specs.caption_rows.Walk.{Walk, stopped, six_said, rows_said, onward, ◌then◌, WalkedBy}

-- ---- six numbers
pub six_past : (l : List ℕ) (at : ℕ) (s : Said) → length l < at → (at ≡ place_after at (six_said s) l) × (l ≡ placed_at at (six_said s) l)
six_past l at s h = (sym (after_no at (six_said s) l (omega arith)), sym (at_no at (six_said s) l (omega arith)))

pub six_short : (l : List ℕ) (at : ℕ) (s : Said) → at ≤ length l → length l - at < 6 → (at ≡ place_after at (six_said s) l) × (l ≡ placed_at at (six_said s) l)
six_short l at s h k = (sym (after_no at (six_said s) l (omega arith)), sym (at_no at (six_said s) l (omega arith)))

pub six_stored : (l l₁ l₂ l₃ : List ℕ) (at : ℕ) (s : Said) → at ≤ length l → 6 ≤ length l - at
    → l₁ ≡ placed_at at (s.line ∷ s.warned ∷ []) l → l₂ ≡ placed_at (at + 2) (s.start ∷ s.stop ∷ []) l₁ → l₃ ≡ placed_at (at + 4) (s.at ∷ s.size ∷ []) l₂
    → (at + 6 ≡ place_after at (six_said s) l) × (l₃ ≡ placed_at at (six_said s) l)
six_stored l l₁ l₂ l₃ at s h k e₁ e₂ e₃ =
    let f : at + 6 ≤ length l = omega arith in
    (sym (after_yes at (six_said s) l f), numbers_stored l l₁ l₂ l₃ at s.line s.warned s.start s.stop s.at s.size f e₁ e₂ e₃ ∙ sym (at_yes at (six_said s) l f))

pub six_place : (l : List ℕ) (at : ℕ) (s : Said) → at ≤ length l → 6 ≤ length l - at → at + 6 ≡ place_after at (six_said s) l
six_place l at s h k = sym (after_yes at (six_said s) l (omega arith))

pub six_rows : (l l₁ l₂ l₃ : List ℕ) (at : ℕ) (s : Said) → at ≤ length l → 6 ≤ length l - at
    → l₁ ≡ placed_at at (s.line ∷ s.warned ∷ []) l → l₂ ≡ placed_at (at + 2) (s.start ∷ s.stop ∷ []) l₁ → l₃ ≡ placed_at (at + 4) (s.at ∷ s.size ∷ []) l₂
    → l₃ ≡ placed_at at (six_said s) l
six_rows l l₁ l₂ l₃ at s h k e₁ e₂ e₃ = (six_stored l l₁ l₂ l₃ at s h k e₁ e₂ e₃).1

pub past_place : (l : List ℕ) (at : ℕ) (s : Said) → length l < at → at ≡ place_after at (six_said s) l
past_place l at s h = (six_past l at s h).0

pub past_rows : (l : List ℕ) (at : ℕ) (s : Said) → length l < at → l ≡ placed_at at (six_said s) l
past_rows l at s h = (six_past l at s h).1

pub short_place : (l : List ℕ) (at : ℕ) (s : Said) → at ≤ length l → length l - at < 6 → at ≡ place_after at (six_said s) l
short_place l at s h k = (six_short l at s h k).0

pub short_rows : (l : List ℕ) (at : ℕ) (s : Said) → at ≤ length l → length l - at < 6 → l ≡ placed_at at (six_said s) l
short_rows l at s h k = (six_short l at s h k).1

-- ---- a row, if any
pub row_some : (l l' : List ℕ) (at r : ℕ) (s : Said) → s.caption ≡ true → (r ≡ place_after at (six_said s) l) × (l' ≡ placed_at at (six_said s) l)
    → (r ≡ place_after at (rows_said s) l) × (l' ≡ placed_at at (rows_said s) l)
row_some l l' at r s h e =
    let q : six_said s ≡ rows_said s = ap (λ (t : Bool). cond t (six_said s) []) (sym h) in
    (e.0 ∙ ap (λ (v : List ℕ). place_after at v l) q, e.1 ∙ ap (λ (v : List ℕ). placed_at at v l) q)

pub some_place : (l : List ℕ) (at r : ℕ) (s : Said) → s.caption ≡ true → r ≡ place_after at (six_said s) l → r ≡ place_after at (rows_said s) l
some_place l at r s h e = (row_some l (placed_at at (six_said s) l) at r s h (e, refl)).0

pub some_rows : (l l' : List ℕ) (at : ℕ) (s : Said) → s.caption ≡ true → l' ≡ placed_at at (six_said s) l → l' ≡ placed_at at (rows_said s) l
some_rows l l' at s h e = (row_some l l' at (place_after at (six_said s) l) s h (refl, e)).1

none_after : (l : List ℕ) (at : ℕ) → at ≡ place_after at [] l
unfolding place_after
none_after l at = go (leb (at + 0) (length l))
  where
    go : (t : Bool) → at ≡ cond t (at + 0) at
    go true = omega arith
    go false = refl

none_placed : (l : List ℕ) (at : ℕ) → l ≡ placed_at at [] l
unfolding placed_at
none_placed l at = go (leb (at + 0) (length l))
  where
    go : (t : Bool) → l ≡ cond t (put_at at [] l) l
    go true = sym (put_at_nil at l)
    go false = refl

pub row_none : (l : List ℕ) (at : ℕ) (s : Said) → s.caption ≡ false → (at ≡ place_after at (rows_said s) l) × (l ≡ placed_at at (rows_said s) l)
row_none l at s h =
    let q : [] ≡ rows_said s = ap (λ (t : Bool). cond t (six_said s) []) (sym h) in
    (none_after l at ∙ ap (λ (v : List ℕ). place_after at v l) q, none_placed l at ∙ ap (λ (v : List ℕ). placed_at at v l) q)

pub none_place : (l : List ℕ) (at : ℕ) (s : Said) → s.caption ≡ false → at ≡ place_after at (rows_said s) l
none_place l at s h = (row_none l at s h).0

pub none_rows : (l : List ℕ) (at : ℕ) (s : Said) → s.caption ≡ false → l ≡ placed_at at (rows_said s) l
none_rows l at s h = (row_none l at s h).1

pub counted_yes : (k : ℕ) (b : Bool) → b ≡ true → k + 1 ≡ k + cond b 1 0
counted_yes k b e = ap (λ (t : Bool). k + cond t 1 0) (sym e)

pub counted_no : (k : ℕ) (b : Bool) → b ≡ false → k ≡ k + cond b 1 0
counted_no k b e = let z : k ≡ k + 0 = omega arith in z ∙ ap (λ (t : Bool). k + cond t 1 0) (sym e)

-- ---- where a walk stands: the rows of k captions are done, and of the walk w the part `rest` is left. Where they fit, they stand in the lent places
pub record Going (w rest : Walk) (k p : ℕ) (l₀ l : List ℕ) : Type 0 where
  pub done : List ℕ
  pub fault : w.fault ≡ rest.fault
  pub line : w.line ≡ rest.line
  pub split : w.rows ≡ done ++ rest.rows
  pub many : length done ≡ 6 * k
  pub same : length l ≡ length l₀
  pub stands : 6 * k ≤ length l₀ → (p ≡ 6 * k) × (l ≡ put done l₀)

pub going_start : (w : Walk) (l : List ℕ) → Going w w 0 0 l l
going_start w l = record { done = []; fault = refl; line = refl; split = refl; many = refl; same = refl; stands = λ h. (refl, sym (put_nil l)) }

pub going_same : (w a b : Walk) (k p : ℕ) (l₀ l : List ℕ) → a ≡ b → Going w a k p l₀ l → Going w b k p l₀ l
going_same w a b k p l₀ l e g = subst (λ (x : Walk). Going w x k p l₀ l) e g

pub row_long : (s : Said) → length (rows_said s) ≡ 6 * cond s.caption 1 0
row_long s = go s.caption
  where
    go : (t : Bool) → length (cond t (six_said s) []) ≡ 6 * cond t 1 0
    go true = refl
    go false = refl

pub going_step : (w rest : Walk) (k k' p p' : ℕ) (l₀ l l' : List ℕ) (s : Said) → Going w (s then rest) k p l₀ l → s.number ≡ 0
    → p' ≡ place_after p (rows_said s) l → l' ≡ placed_at p (rows_said s) l → k' ≡ k + cond s.caption 1 0 → Going w rest k' p' l₀ l'
going_step w rest k k' p p' l₀ l l' s g z ep el ek =
    let o : (s then rest) ≡ record { fault = rest.fault; line = rest.line; rows = rows_said s ++ rest.rows } = ap (λ (m : ℕ). onward m s rest) z in
    let m : length (g.done ++ rows_said s) ≡ 6 * k' =
    length-append g.done (rows_said s) ∙ ap₂ (λ (a b : ℕ). a + b) g.many (row_long s) ∙ (let q : 6 * k + 6 * cond s.caption 1 0 ≡ 6 * (k + cond s.caption 1 0) = omega arith in q) ∙ ap (λ (i : ℕ). 6 * i) (sym ek) in
    record {
      done = g.done ++ rows_said s;
      fault = g.fault ∙ ap (λ (x : Walk). x.fault) o;
      line = g.line ∙ ap (λ (x : Walk). x.line) o;
      split = g.split ∙ ap (λ (x : Walk). g.done ++ x.rows) o ∙ sym (append_assoc g.done (rows_said s) rest.rows);
      many = m;
      same = ap length el ∙ placed_length_lem p (rows_said s) l ∙ g.same;
      stands = λ h.
          let less : 6 * k ≤ length l₀ = omega (arith, ek) in
          let at = g.stands less in
          let room : length (g.done ++ rows_said s) ≤ length l₀ = omega (arith, m) in
          let r = then_placed p p' g.done (rows_said s) l₀ l l' at.1 (at.0 ∙ sym g.many) room ep el in
          (r.1 ∙ m, r.0);
    }

pub going_stop : (w rest : Walk) (k p : ℕ) (l₀ l : List ℕ) (s : Said) (r : Walked) → Going w (s then rest) k p l₀ l → (s.number ≡ 0 → ⊥)
    → r ≡ record { number = s.number; line = s.line; captions = k } → WalkedBy w r l₀ l
going_stop w rest k p l₀ l s r g z er = go s.number refl
  where
    go : (m : ℕ) → s.number ≡ m → WalkedBy w r l₀ l
    go zero e = absurd (z e)
    go (suc m) e =
        let o : (s then rest) ≡ stopped (suc m) s.line = ap (λ (j : ℕ). onward j s rest) e in
        let rows : w.rows ≡ g.done = g.split ∙ ap (λ (x : Walk). g.done ++ x.rows) o ∙ append-nil g.done in
        record {
          number = ap (λ (x : Walked). x.number) er ∙ e ∙ sym (g.fault ∙ ap (λ (x : Walk). x.fault) o);
          line = ap (λ (x : Walked). x.line) er ∙ sym (g.line ∙ ap (λ (x : Walk). x.line) o);
          captions = ap (λ (x : Walked). 6 * x.captions) er ∙ sym (ap length rows ∙ g.many);
          written = λ h.
              let q : length w.rows ≡ 6 * k = ap length rows ∙ g.many in
              (g.stands (omega arith)).1 ∙ ap (λ (v : List ℕ). put v l₀) (sym rows);
        }

pub going_end : (w : Walk) (k p : ℕ) (l₀ l : List ℕ) (r : Walked) → Going w (stopped 0 0) k p l₀ l → r ≡ record { number = 0; line = 0; captions = k } → WalkedBy w r l₀ l
going_end w k p l₀ l r g er =
    let rows : w.rows ≡ g.done = g.split ∙ append-nil g.done in
    record {
      number = ap (λ (x : Walked). x.number) er ∙ sym g.fault;
      line = ap (λ (x : Walked). x.line) er ∙ sym g.line;
      captions = ap (λ (x : Walked). 6 * x.captions) er ∙ sym (ap length rows ∙ g.many);
      written = λ h.
          let q : length w.rows ≡ 6 * k = ap length rows ∙ g.many in
          (g.stands (omega arith)).1 ∙ ap (λ (v : List ℕ). put v l₀) (sym rows);
    }
