-- The byte machine gives what the line reader reads: for every text, with and without a finish.
use mathlib.Core.Path.{◌≡◌, refl, sym, ap, ◌∙◌}
use mathlib.Core.Bool.{Bool, true, false}
use mathlib.Core.List.{List, [], ◌∷◌, ◌++◌, append-nil, append_assoc}
use Prim.Native.Nat.{ℕ, suc}
use native.Mathlib.Omega.{arith}
use lib.Dec.{leb, eqb}
use lib.ListN.{length, length-append}
use borrow.Author.Tests.{leb-false, lt-leb}
use Rattle.spec_base.specs.base.Limits.{most_line}
use Rattle.spec_caption.specs.caption_fate.Says.{Part, fault_number}
use Rattle.spec_machine.specs.session_counts.Cut.{Cut, before, push, cut, is_lf}
use Rattle.spec_machine.specs.session_counts.Machine.{Machine, Says, faulty, says, with_bom, take_line, Rest, nothing, bom_alone, last_line, rest_of, Run, going, stopped}
use Rattle.spec_machine.specs.session_counts.Machine.{line_end, byte, run, closed, last_end, at_end, finish_run}
use Rattle.spec_machine.specs.session_counts.Reader.{Reading, reading, fails, ◌⊕◌, read_line, read_close, read_last, read_rest, read_lines, read_text}

-- what a run has read
abbrev pub ran_to : {σ : Type 0} → Run σ → Reading
ran_to (going s n h ps) = reading 0 ps
ran_to (stopped k ps) = reading k ps

-- laws of ⊕
⊕_fails : (ps : List Part) (k : ℕ) → reading k ps ≡ ps ⊕ fails k
⊕_fails ps k = ap (reading k) (sym (append-nil ps))

⊕_assoc : (xs ys : List Part) (r : Reading) → (xs ++ ys) ⊕ r ≡ xs ⊕ (ys ⊕ r)
⊕_assoc xs ys r = ap (reading r.fault) (append_assoc xs ys r.parts)

-- laws of a cut
abbrev cut_of : {A : Type 0} → List (List A) → List A → Cut A
cut_of ls r = record { pieces = ls; rest = r }

module _ {A : Type 0} where
  before_nil : (ls : List (List A)) (r : List A) → before [] ls r ≡ cut_of ls r
  before_nil [] r = refl
  before_nil (l ∷ ls) r = refl

  before_before : (h : List A) (a : A) (ls : List (List A)) (r : List A)
      → before h (before (a ∷ []) ls r).pieces (before (a ∷ []) ls r).rest ≡ before (h ++ (a ∷ [])) ls r
  before_before h a [] r = ap (cut_of []) (sym (append_assoc h (a ∷ []) r))
  before_before h a (l ∷ ls) r = ap (λ (x : List A). cut_of (x ∷ ls) r) (sym (append_assoc h (a ∷ []) l))

module _ {σ : Type 0} (M : Machine σ) where
  pub run_stopped : (k : ℕ) (ps : List Part) (t : List ℕ) → run M (stopped k ps) t ≡ stopped k ps
  run_stopped k ps [] = refl
  run_stopped k ps (b ∷ t) = run_stopped k ps t

  -- finish
  closes : (ps : List Part) (x : Says σ) → ran_to (closed M ps x) ≡ ps ⊕ read_close M x
  closes ps (faulty f) = ⊕_fails ps (fault_number f)
  closes ps (says t new) = refl

  lasts : (n : ℕ) (ps : List Part) (x : Says σ)
      → ran_to (last_end M n ps x) ≡ ps ⊕ read_line M true x (λ t. read_close M (M.close t (suc n)))
  lasts n ps (faulty f) = ⊕_fails ps (fault_number f)
  lasts n ps (says t new) = closes (ps ++ new) (M.close t (suc n)) ∙ ⊕_assoc ps new (read_close M (M.close t (suc n)))

  ends : (x : Rest) (s : σ) (n : ℕ) (h : List ℕ) (ps : List Part) → ran_to (at_end M x s n h ps) ≡ ps ⊕ read_last M x s n h
  ends nothing s n h ps = closes ps (M.close s n)
  ends bom_alone s n h ps = closes ps (with_bom (M.close s n))
  ends last_line s n h ps = lasts n ps (take_line M s n h)

  -- finished or not
  abbrev pub end_run : Bool → Run σ → Run σ
  end_run true r = finish_run M r
  end_run false r = r

  abbrev read_cut : Bool → Cut ℕ → σ → ℕ → Reading
  read_cut f c s n = read_lines M f c.pieces c.rest s n

  end_stopped : (f : Bool) (k : ℕ) (ps : List Part) (t : List ℕ) → ran_to (end_run f (run M (stopped k ps) t)) ≡ ps ⊕ fails k
  end_stopped true k ps t = rw (run_stopped k ps t) (⊕_fails ps k)
  end_stopped false k ps t = rw (run_stopped k ps t) (⊕_fails ps k)

  at_rest : (f : Bool) (s : σ) (n : ℕ) (h : List ℕ) (ps : List Part) → ran_to (end_run f (going s n h ps)) ≡ ps ⊕ read_rest M true f s n h
  at_rest true s n h ps = ends (rest_of n h) s n h ps
  at_rest false s n h ps = ⊕_fails ps 0

  -- a line that is too long already is the fault 19, however it goes on
  longer : (x y : List ℕ) → leb (length x) most_line ≡ false → leb (length (x ++ y)) most_line ≡ false
  longer x y e = lt-leb (length (x ++ y)) most_line (rw (length-append x y) (omega (arith, leb-false (length x) most_line e)))

  too_long_lem : (f : Bool) (x : List ℕ) (ls : List (List ℕ)) (r : List ℕ) (s : σ) (n : ℕ) → leb (length x) most_line ≡ false
      → read_cut f (before x ls r) s n ≡ fails 19
  too_long_lem f x [] r s n e = rw (longer x r e)
  too_long_lem f x (l ∷ ls) r s n e = rw (longer x l e)

  -- what is to be shown of a text t, from any state on
  abbrev Agrees : List ℕ → Type 0
  Agrees t =
      (f : Bool) (s : σ) (n : ℕ) (h : List ℕ) (ps : List Part) → leb (length h) most_line ≡ true
      → ran_to (end_run f (run M (going s n h ps) t)) ≡ ps ⊕ read_cut f (before h (cut is_lf t).pieces (cut is_lf t).rest) s n

  line_end_lem : (t : List ℕ) → Agrees t → (f : Bool) (n : ℕ) (ps : List Part) (x : Says σ)
      → ran_to (end_run f (run M (line_end M n ps x) t)) ≡ ps ⊕ read_line M true x (λ u. read_cut f (cut is_lf t) u (suc n))
  line_end_lem t ih f n ps (faulty x) = end_stopped f (fault_number x) ps t
  line_end_lem t ih f n ps (says u new) =
      ih f u (suc n) [] (ps ++ new) refl
      ∙ ap (λ (c : Cut ℕ). (ps ++ new) ⊕ read_cut f c u (suc n)) (before_nil (cut is_lf t).pieces (cut is_lf t).rest)
      ∙ ⊕_assoc ps new (read_cut f (cut is_lf t) u (suc n))

  one_byte : (b : ℕ) (t : List ℕ) → Agrees t → (ok lf : Bool) (f : Bool) (s : σ) (n : ℕ) (h : List ℕ) (ps : List Part)
      → leb (length (h ++ (b ∷ []))) most_line ≡ ok
      → ran_to (end_run f (run M (byte M ok lf s n (h ++ (b ∷ [])) ps) t))
      ≡ ps ⊕ read_cut f (before h (push lf b (cut is_lf t)).pieces (push lf b (cut is_lf t)).rest) s n
  one_byte b t ih false true f s n h ps e = rw e (end_stopped f 19 ps t)
  one_byte b t ih false false f s n h ps e =
      end_stopped f 19 ps t
      ∙ ap (λ (r : Reading). ps ⊕ r) (sym (too_long_lem f (h ++ (b ∷ [])) (cut is_lf t).pieces (cut is_lf t).rest s n e))
      ∙ ap (λ (c : Cut ℕ). ps ⊕ read_cut f c s n) (sym (before_before h b (cut is_lf t).pieces (cut is_lf t).rest))
  one_byte b t ih true true f s n h ps e = rw e (line_end_lem t ih f n ps (take_line M s n (h ++ (b ∷ []))))
  one_byte b t ih true false f s n h ps e =
      ih f s n (h ++ (b ∷ [])) ps e
      ∙ ap (λ (c : Cut ℕ). ps ⊕ read_cut f c s n) (sym (before_before h b (cut is_lf t).pieces (cut is_lf t).rest))

  bytes : (t : List ℕ) → Agrees t
  bytes [] f s n h ps e = rw (append-nil h, e) (at_rest f s n h ps)
  bytes (b ∷ t) f s n h ps e = one_byte b t (bytes t) (leb (length (h ++ (b ∷ []))) most_line) (eqb b 10) f s n h ps refl

  abbrev pub begin : Run σ
  begin = going M.start 0 [] []

  -- from the start the machine gives the line reader's reading
  pub bytes_reading : (f : Bool) (t : List ℕ) → ran_to (end_run f (run M begin t)) ≡ read_text M f t
  bytes_reading f t =
      bytes t f M.start 0 [] [] refl
      ∙ ap (λ (c : Cut ℕ). read_cut f c M.start 0) (before_nil (cut is_lf t).pieces (cut is_lf t).rest)
