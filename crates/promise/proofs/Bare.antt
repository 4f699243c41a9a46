-- The reading of a text as one of its lines without a BOM, for any machine.
use mathlib.Core.Path.{◌≡◌, refl, sym, ap, ◌∙◌}
use mathlib.Core.Bool.{Bool, true, false, cond, ◌&&◌, true≢false}
use mathlib.Core.List.{List, [], ◌∷◌, ◌++◌, append-nil, append_assoc}
use Prim.Native.Nat.{ℕ, suc, ◌+◌}
use native.Mathlib.Omega.{arith}
use lib.Dec.{eqb, leb}
use lib.ListN.{length, drop}
use borrow.Author.Tests.{ne_eqb}
use Rattle.spec_base.specs.base.Limits.{most_line}
use Rattle.spec_base.specs.base.Refusal.{fault_unless}
use Rattle.spec_text.specs.pattern.Find.{starts, equals}
use Rattle.spec_text.specs.text.Line.{concat}
use Rattle.spec_caption.specs.caption_fate.Bom.{bom, bom_written}
use Rattle.spec_machine.specs.session_counts.Cut.{Cut, before, push, cut, is_lf, closed_lines, unfinished}
use Rattle.spec_machine.specs.session_counts.Machine.{Machine, Says, faulty, says, has_bom, with_bom, take_line, Rest, bom_alone, last_line, rest_for, rest_of}
use Rattle.spec_machine.specs.session_counts.Reader.{Reading, fails, ◌⊕◌, read_line, read_close, read_last, read_rest, read_lines, read_text}
use Rattle.spec_machine.proofs.session_counts.CutLaws.{cut_joined, rest_lines, lines_of_cut}
use Rattle.spec_machine.proofs.session_counts.OpenLines.{bom_behind_lem}
use Rattle.promise.specs.Plain.{lines_read}

-- the rest is a line after a finish
abbrev pub end_lines_lem : Bool → List ℕ → List (List ℕ)
end_lines_lem true r = rest_lines r
end_lines_lem false r = []

pub lines_read_lem : (f : Bool) (t : List ℕ) → lines_read f t ≡ closed_lines t ++ end_lines_lem f (unfinished t)
lines_read_lem true t = lines_of_cut t
lines_read_lem false t = sym (append-nil (closed_lines t))

abbrev pub passed : {σ : Type 0} → Says σ → Bool
passed (faulty f) = false
passed (says s ps) = true

module _ {σ : Type 0} (M : Machine σ) where
  -- behind the last line: the close, or the rest tested for 19
  abbrev pub end_of : (finished : Bool) → (x : ℕ) → (rest : List ℕ) → σ → ℕ → Reading
  end_of true x r s n = read_close M (M.close s n)
  end_of false x r s n = fails (fault_unless (leb (x + length r) most_line) 19)

  abbrev pub read_all : (finished : Bool) → (x : ℕ) → List (List ℕ) → (rest : List ℕ) → σ → ℕ → Reading
  read_all f x [] r s n = end_of f x r s n
  read_all f x (l ∷ ls) r s n = read_line M (leb (x + length l) most_line) (M.step s n l) (λ t. read_all f 0 ls r t (suc n))

  pub read_same : (b : Bool) (x : Says σ) (f g : σ → Reading) → ((t : σ) → f t ≡ g t) → read_line M b x f ≡ read_line M b x g
  read_same false x f g h = refl
  read_same true (faulty k) f g h = refl
  read_same true (says s ps) f g h = ap (λ (r : Reading). ps ⊕ r) (h s)

  short_zero : (l : List ℕ) → leb (length l) most_line ≡ leb (0 + length l) most_line
  short_zero l = let e : length l ≡ 0 + length l = omega arith in ap (λ (k : ℕ). leb k most_line) e

  fails_long : (b : Bool) → read_rest M b false ≡ (λ s n r. fails (fault_unless b 19))
  unfolding fault_unless
  fails_long true = refl
  fails_long false = refl

  -- ---- behind the first line there is no BOM
  take_later : (s : σ) (n : ℕ) (l : List ℕ) → take_line M s (suc n) l ≡ M.step s (suc n) l
  take_later s n l = rw (ne_eqb (suc n) 0 (λ z. omega arith))

  last_later : (b : Bool) (s : σ) (n y : ℕ) (r : List ℕ)
      → read_rest M b true s (suc n) (y ∷ r) ≡ read_line M b (M.step s (suc n) (y ∷ r)) (λ t. read_close M (M.close t (suc (suc n))))
  last_later false s n y r = refl
  last_later true s n y r =
      ap (λ (b : Bool). read_last M (rest_for (b && equals bom (y ∷ r)) (y ∷ r)) s (suc n) (y ∷ r)) (ne_eqb (suc n) 0 (λ z. omega arith))
      ∙ ap (λ (x : Says σ). read_line M true x (λ t. read_close M (M.close t (suc (suc n))))) (take_later s n (y ∷ r))

  rest_later : (f : Bool) (r : List ℕ) (s : σ) (n : ℕ) → read_rest M (leb (length r) most_line) f s (suc n) r ≡ read_all f 0 (end_lines_lem f r) r s (suc n)
  rest_later false r s n =
      ap (λ (g : σ → ℕ → List ℕ → Reading). g s (suc n) r) (fails_long (leb (length r) most_line))
      ∙ ap (λ (b : Bool). fails (fault_unless b 19)) (short_zero r)
  rest_later true [] s n = refl
  rest_later true (y ∷ r) s n =
      last_later (leb (length (y ∷ r)) most_line) s n y r
      ∙ ap (λ (b : Bool). read_line M b (M.step s (suc n) (y ∷ r)) (λ t. read_close M (M.close t (suc (suc n))))) (short_zero (y ∷ r))

  later : (f : Bool) (ls : List (List ℕ)) (r : List ℕ) (s : σ) (n : ℕ) → read_lines M f ls r s (suc n) ≡ read_all f 0 (ls ++ end_lines_lem f r) r s (suc n)
  later f [] r s n = rest_later f r s n
  later f (l ∷ ls) r s n =
      ap (λ (x : Says σ). read_line M (leb (length l) most_line) x (λ t. read_lines M f ls r t (suc (suc n)))) (take_later s n l)
      ∙ ap (λ (b : Bool). read_line M b (M.step s (suc n) l) (λ t. read_lines M f ls r t (suc (suc n)))) (short_zero l)
      ∙ read_same (leb (0 + length l) most_line) (M.step s (suc n) l) (λ t. read_lines M f ls r t (suc (suc n)))
      (λ t. read_all f 0 (ls ++ end_lines_lem f r) r t (suc (suc n))) (λ t. later f ls r t (suc n))

  -- ---- a text without a BOM
  take_first : (s : σ) (l : List ℕ) → has_bom l ≡ false → take_line M s 0 l ≡ M.step s 0 l
  take_first s l e = rw e

  last_first : (b : Bool) (s : σ) (y : ℕ) (r : List ℕ) → has_bom (y ∷ r) ≡ false → equals bom (y ∷ r) ≡ false
      → read_rest M b true s 0 (y ∷ r) ≡ read_line M b (M.step s 0 (y ∷ r)) (λ t. read_close M (M.close t 1))
  last_first false s y r e g = refl
  last_first true s y r e g =
      ap (λ (b : Bool). read_last M (rest_for b (y ∷ r)) s 0 (y ∷ r)) g
      ∙ ap (λ (x : Says σ). read_line M true x (λ t. read_close M (M.close t 1))) (take_first s (y ∷ r) e)

  rest_first : (f : Bool) (r : List ℕ) (s : σ) → has_bom r ≡ false → equals bom r ≡ false
      → read_rest M (leb (length r) most_line) f s 0 r ≡ read_all f 0 (end_lines_lem f r) r s 0
  rest_first false r s e g =
      ap (λ (g : σ → ℕ → List ℕ → Reading). g s 0 r) (fails_long (leb (length r) most_line))
      ∙ ap (λ (b : Bool). fails (fault_unless b 19)) (short_zero r)
  rest_first true [] s e g = refl
  rest_first true (y ∷ r) s e g =
      last_first (leb (length (y ∷ r)) most_line) s y r e g
      ∙ ap (λ (b : Bool). read_line M b (M.step s 0 (y ∷ r)) (λ t. read_close M (M.close t 1))) (short_zero (y ∷ r))

  first_lines_lem : (f : Bool) (ls : List (List ℕ)) (r : List ℕ) (s : σ) → has_bom (concat ls ++ r) ≡ false
      → ((l : List ℕ) (t : List ℕ) → has_bom (l ++ t) ≡ false → has_bom l ≡ false) → (has_bom r ≡ false → equals bom r ≡ false)
      → read_lines M f ls r s 0 ≡ read_all f 0 (ls ++ end_lines_lem f r) r s 0
  first_lines_lem f [] r s e p q = rest_first f r s e (q e)
  first_lines_lem f (l ∷ ls) r s e p q =
      ap (λ (x : Says σ). read_line M (leb (length l) most_line) x (λ t. read_lines M f ls r t 1))
      (take_first s l (p l (concat ls ++ r) (ap has_bom (sym (append_assoc l (concat ls) r)) ∙ e)))
      ∙ ap (λ (b : Bool). read_line M b (M.step s 0 l) (λ t. read_lines M f ls r t 1)) (short_zero l)
      ∙ read_same (leb (0 + length l) most_line) (M.step s 0 l) (λ t. read_lines M f ls r t 1)
      (λ t. read_all f 0 (ls ++ end_lines_lem f r) r t 1) (λ t. later f ls r t 0)

-- a BOM at the head of a part is one at the head of the whole
bom_longer : (l t : List ℕ) → has_bom l ≡ true → has_bom (l ++ t) ≡ true
unfolding has_bom starts
bom_longer l t e = ap (λ (x : List ℕ). starts bom (x ++ t)) (bom_behind_lem l e)

pub no_bom_part : (l t : List ℕ) → has_bom (l ++ t) ≡ false → has_bom l ≡ false
no_bom_part l t e = go (has_bom l) refl
  where
    go : (b : Bool) → has_bom l ≡ b → b ≡ false
    go true p = absurd (true≢false (sym (bom_longer l t p) ∙ e))
    go false p = refl

pub equal_starts : (p s : List ℕ) → equals p s ≡ true → starts p s ≡ true
unfolding equals starts
equal_starts [] s e = refl
equal_starts (a ∷ p) [] e = e
equal_starts (a ∷ p) (b ∷ s) e = go (eqb a b) e (λ q. equal_starts p s q)
  where
    go : (t : Bool) → cond t (equals p s) false ≡ true → (equals p s ≡ true → starts p s ≡ true) → cond t (starts p s) false ≡ true
    go true q ih = ih q
    go false q ih = q

no_bom_alone : (r : List ℕ) → has_bom r ≡ false → equals bom r ≡ false
unfolding has_bom
no_bom_alone r e = go (equals bom r) refl
  where
    go : (b : Bool) → equals bom r ≡ b → b ≡ false
    go true p = absurd (true≢false (sym (equal_starts bom r p) ∙ e))
    go false p = refl

pub unmarked_text : {σ : Type 0} (M : Machine σ) (f : Bool) (text : List ℕ) → has_bom text ≡ false
    → read_text M f text ≡ read_all M f 0 (lines_read f text) (unfinished text) M.start 0
unmarked_text M f text e =
    first_lines_lem M f (closed_lines text) (unfinished text) M.start (ap has_bom (cut_joined text) ∙ e) no_bom_part (no_bom_alone (unfinished text))
    ∙ ap (λ (ls : List (List ℕ)). read_all M f 0 ls (unfinished text) M.start 0) (sym (lines_read_lem f text))

-- ---- a text with a BOM
module _ {σ : Type 0} (M : Machine σ) where
  -- the first line passes, or at finish the close where there is none
  abbrev pub opens : (finished : Bool) → (x : ℕ) → List (List ℕ) → Bool
  opens f x [] = f && passed (M.close M.start 0)
  opens f x (l ∷ ls) = leb (x + length l) most_line && passed (M.step M.start 0 l)

  close_marked : (x : Says σ) → read_close M (with_bom x) ≡ bom_written (passed x) ⊕ read_close M x
  close_marked (faulty f) = refl
  close_marked (says s ps) = refl

  line_marked : (b : Bool) (x : Says σ) (after : σ → Reading) → read_line M b (with_bom x) after ≡ bom_written (b && passed x) ⊕ read_line M b x after
  line_marked false x after = refl
  line_marked true (faulty f) after = refl
  line_marked true (says s ps) after = refl

  long_three : (r : List ℕ) → leb (length (bom ++ r)) most_line ≡ leb (3 + length r) most_line
  long_three r = let e : length (bom ++ r) ≡ 3 + length r = omega arith in ap (λ (k : ℕ). leb k most_line) e

  take_marked : (s : σ) (l : List ℕ) → take_line M s 0 (bom ++ l) ≡ with_bom (M.step s 0 l)
  unfolding has_bom starts
  take_marked s l = refl

  rest_of_marked : (y : ℕ) (r : List ℕ) → rest_of 0 (bom ++ (y ∷ r)) ≡ last_line
  unfolding equals
  rest_of_marked y r = refl

  rest_of_bom : rest_of 0 (bom ++ []) ≡ bom_alone
  unfolding equals
  rest_of_bom = refl

  last_marked : (b : Bool) (s : σ) (y : ℕ) (r : List ℕ)
      → read_rest M b true s 0 (bom ++ (y ∷ r)) ≡ read_line M b (with_bom (M.step s 0 (y ∷ r))) (λ t. read_close M (M.close t 1))
  last_marked false s y r = refl
  last_marked true s y r =
      ap (λ (x : Rest). read_last M x s 0 (bom ++ (y ∷ r))) (rest_of_marked y r)
      ∙ ap (λ (x : Says σ). read_line M true x (λ t. read_close M (M.close t 1))) (take_marked s (y ∷ r))

  rest_marked : (f : Bool) (r : List ℕ)
      → read_rest M (leb (length (bom ++ r)) most_line) f M.start 0 (bom ++ r)
      ≡ bom_written (opens f 3 (end_lines_lem f r)) ⊕ read_all M f 3 (end_lines_lem f r) r M.start 0
  rest_marked false r =
      ap (λ (g : σ → ℕ → List ℕ → Reading). g M.start 0 (bom ++ r)) (fails_long M (leb (length (bom ++ r)) most_line))
      ∙ ap (λ (b : Bool). fails (fault_unless b 19)) (long_three r)
  rest_marked true [] =
      ap (λ (x : Rest). read_last M x M.start 0 bom) rest_of_bom
      ∙ close_marked (M.close M.start 0)
  rest_marked true (y ∷ r) =
      last_marked (leb (length (bom ++ (y ∷ r))) most_line) M.start y r
      ∙ ap (λ (b : Bool). read_line M b (with_bom (M.step M.start 0 (y ∷ r))) (λ t. read_close M (M.close t 1))) (long_three (y ∷ r))
      ∙ line_marked (leb (3 + length (y ∷ r)) most_line) (M.step M.start 0 (y ∷ r)) (λ t. read_close M (M.close t 1))

  lines_marked : (f : Bool) (ls : List (List ℕ)) (r : List ℕ)
      → read_lines M f (before bom ls r).pieces (before bom ls r).rest M.start 0
      ≡ bom_written (opens f 3 (ls ++ end_lines_lem f r)) ⊕ read_all M f 3 (ls ++ end_lines_lem f r) r M.start 0
  lines_marked f [] r = rest_marked f r
  lines_marked f (l ∷ ls) r =
      ap (λ (x : Says σ). read_line M (leb (length (bom ++ l)) most_line) x (λ t. read_lines M f ls r t 1)) (take_marked M.start l)
      ∙ ap (λ (b : Bool). read_line M b (with_bom (M.step M.start 0 l)) (λ t. read_lines M f ls r t 1)) (long_three l)
      ∙ line_marked (leb (3 + length l) most_line) (M.step M.start 0 l) (λ t. read_lines M f ls r t 1)
      ∙ ap (λ (x : Reading). bom_written (opens f 3 (l ∷ (ls ++ end_lines_lem f r))) ⊕ x)
      (read_same M (leb (3 + length l) most_line) (M.step M.start 0 l) (λ t. read_lines M f ls r t 1)
      (λ t. read_all M f 0 (ls ++ end_lines_lem f r) r t 1) (λ t. later M f ls r t 0))

  cut_marked : (t : List ℕ) → cut is_lf (bom ++ t) ≡ before bom (closed_lines t) (unfinished t)
  cut_marked t = go (closed_lines t) (unfinished t)
    where
      go : (ls : List (List ℕ)) (r : List ℕ) → push false 239 (push false 187 (push false 191 (record { pieces = ls; rest = r }))) ≡ before bom ls r
      go [] r = refl
      go (l ∷ ls) r = refl

  marked_behind : (f : Bool) (t : List ℕ)
      → read_text M f (bom ++ t) ≡ bom_written (opens f 3 (lines_read f t)) ⊕ read_all M f 3 (lines_read f t) (unfinished t) M.start 0
  marked_behind f t =
      ap (λ (c : Cut ℕ). read_lines M f c.pieces c.rest M.start 0) (cut_marked t)
      ∙ lines_marked f (closed_lines t) (unfinished t)
      ∙ ap (λ (ls : List (List ℕ)). bom_written (opens f 3 ls) ⊕ read_all M f 3 ls (unfinished t) M.start 0) (sym (lines_read_lem f t))

  pub marked_text : (f : Bool) (text : List ℕ) → has_bom text ≡ true
      → read_text M f text
      ≡ bom_written (opens f 3 (lines_read f (drop 3 text))) ⊕ read_all M f 3 (lines_read f (drop 3 text)) (unfinished (drop 3 text)) M.start 0
  marked_text f text e = ap (read_text M f) (bom_behind_lem text e) ∙ marked_behind f (drop 3 text)
