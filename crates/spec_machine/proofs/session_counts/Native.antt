-- No session that calls have led to is taken for a foreign one.
use mathlib.Core.Path.{◌≡◌, refl, subst}
use mathlib.Core.Bool.{Bool, true, false, ◌&&◌}
use mathlib.Core.List.{List, [], ◌∷◌, ◌++◌}
use Prim.Native.Nat.{ℕ, suc, ◌+◌, ◌≤◌, ◌<◌}
use native.Mathlib.Omega.{arith}
use lib.Dec.{leb, eqb}
use lib.ListN.{length, drop, length-append, length-drop}
use borrow.Author.Tests.{leb-true, le-ltb}
use Rattle.spec_base.specs.base.Limits.{most_line, most_taken}
use Rattle.spec_base.proofs.base.Laws.{and_right}
use Rattle.spec_text.specs.text.Line.{has_lf, line_count}
use Rattle.spec_text.specs.pattern.Find.{equals}
use Rattle.spec_caption.specs.declared.caption_fate.Config.{Config}
use Rattle.spec_caption.specs.caption_fate.Says.{Part, captions_in}
use Rattle.spec_machine.specs.declared.session_counts.Counts.{Counts}
use Rattle.spec_machine.specs.session_counts.Counts.{total}
use Rattle.spec_machine.specs.session_counts.Machine.{Machine, Says, faulty, says, bom, has_bom, take_line, with_bom, line_with, rest_for, Run, going, stopped}
use Rattle.spec_machine.specs.session_counts.Machine.{line_end, byte, byte_step, run, closed, last_end, at_end, finish_run}
use Rattle.spec_machine.specs.session_counts.Cut.{closed_lines}
use Rattle.spec_machine.specs.session_counts.Session.{Kit, config_bad, outcome_bad, foreign}
use Rattle.spec_machine.proofs.session_counts.Emits.{parts_append, parts_none, parts_stay}
use Rattle.spec_machine.proofs.session_counts.CutLaws.{has_none}
use Rattle.spec_machine.proofs.session_counts.OpenLines.{has_lf_append, ends_lf, bom_ends}
use Rattle.spec_machine.proofs.session_counts.Bytes.{begin}
use Rattle.spec_machine.proofs.session_counts.Laws.{StepOk, CloseOk, Lawful}

-- k: captions that may be open beside the lines ended. From the start it is 0; in a session that came from elsewhere it is at most what is pending
module _ {σ κ : Type 0} (K : Kit σ κ) (kind : ℕ) (L : Lawful K kind) (k : ℕ) where
  abbrev M : Machine σ
  M = K.machine kind

  -- a run that has taken t bytes
  pub record GoingOk (t : ℕ) (s : σ) (n : ℕ) (h : List ℕ) (ps : List Part) : Type 0 where
    pub fit : L.Fit s
    pub short : length h ≤ most_line
    pub open_line : has_lf h ≡ false
    pub bytes : n + length h ≤ t
    pub room : L.size s + length h ≤ t
    pub few : captions_in ps + L.pending s ≤ k + n

  abbrev pub Ok : ℕ → Run σ → Type 0
  Ok t (going s n h ps) = GoingOk t s n h ps
  Ok t (stopped x ps) = captions_in ps ≤ k + t

  abbrev LineOk : σ → List ℕ → Says σ → Type 0
  LineOk s l x = StepOk L.Fit L.pending L.size s l x

  bom_ok : (s : σ) (l : List ℕ) (x : Says σ) → has_bom l ≡ true → LineOk s (drop 3 l) x → LineOk s l (with_bom x)
  bom_ok s l (faulty f) q o = tt
  bom_ok s l (says t ps) q o =
      record {
        fit = λ e. o.fit (bom_ends l q e);
        few = rw (parts_stay bom ps) o.few;
        small = omega (arith, o.small, length-drop 3 l);
      }

  with_ok : (b : Bool) (s : σ) (n : ℕ) (l : List ℕ) → (eqb n 0 && has_bom l) ≡ b → L.Fit s → length l ≤ most_line → LineOk s l (line_with M b s n l)
  with_ok true s n l q f h =
      bom_ok s l (M.step s n (drop 3 l)) (and_right (eqb n 0) (has_bom l) q) (L.step_ok s n (drop 3 l) f (omega (arith, length-drop 3 l)))
  with_ok false s n l q f h = L.step_ok s n l f h

  pub line_ok : (s : σ) (n : ℕ) (l : List ℕ) → L.Fit s → length l ≤ most_line → LineOk s l (take_line M s n l)
  line_ok s n l f h = with_ok (eqb n 0 && has_bom l) s n l refl f h

  end_ok : (t : ℕ) (s : σ) (n : ℕ) (h : List ℕ) (b : ℕ) (ps : List Part) (x : Says σ) → GoingOk t s n h ps → eqb b 10 ≡ true
      → LineOk s (h ++ (b ∷ [])) x → Ok (suc t) (line_end M n ps x)
  end_ok t s n h b ps (faulty f) g q o = omega (arith, g.few, g.bytes)
  end_ok t s n h b ps (says u new) g q o =
      record {
        fit = o.fit (ends_lf h b g.open_line q);
        short = omega arith;
        open_line = has_none;
        bytes = omega (arith, g.bytes);
        room = omega (arith, o.small, g.room, length-append h (b ∷ []));
        few = omega (arith, parts_append ps new, o.few, g.few);
      }

  byte_ok : (t : ℕ) (ok lf : Bool) (s : σ) (n : ℕ) (h : List ℕ) (b : ℕ) (ps : List Part) → GoingOk t s n h ps
      → leb (length (h ++ (b ∷ []))) most_line ≡ ok → eqb b 10 ≡ lf → Ok (suc t) (byte M ok lf s n (h ++ (b ∷ [])) ps)
  byte_ok t false lf s n h b ps g e f = omega (arith, g.few, g.bytes)
  byte_ok t true true s n h b ps g e f =
      end_ok t s n h b ps (take_line M s n (h ++ (b ∷ []))) g f
      (line_ok s n (h ++ (b ∷ [])) g.fit (leb-true (length (h ++ (b ∷ []))) most_line e))
  byte_ok t true false s n h b ps g e f =
      record {
        fit = g.fit;
        short = leb-true (length (h ++ (b ∷ []))) most_line e;
        open_line = has_lf_append h b g.open_line f;
        bytes = omega (arith, g.bytes, length-append h (b ∷ []));
        room = omega (arith, g.room, length-append h (b ∷ []));
        few = g.few;
      }

  pub step_ok : (t : ℕ) (r : Run σ) (b : ℕ) → Ok t r → Ok (suc t) (byte_step M r b)
  step_ok t (going s n h ps) b g = byte_ok t (leb (length (h ++ (b ∷ []))) most_line) (eqb b 10) s n h b ps g refl refl
  step_ok t (stopped x ps) b g = omega (arith, g)

  pub run_ok : (t : ℕ) (r : Run σ) (xs : List ℕ) → Ok t r → Ok (length xs + t) (run M r xs)
  run_ok t r [] o = subst (λ (i : ℕ). Ok i r) (omega arith) o
  run_ok t r (b ∷ xs) o =
      subst (λ (i : ℕ). Ok i (run M (byte_step M r b) xs)) (omega arith) (run_ok (suc t) (byte_step M r b) xs (step_ok t r b o))

  pub text_ok : (text : List ℕ) → Ok (length text) (run M (begin M) text)
  text_ok text =
      subst (λ (i : ℕ). Ok i (run M (begin M) text)) (omega arith)
      (run_ok 0 (begin M) text
      (record {
        fit = L.start_fit;
        short = omega arith;
        open_line = has_none;
        bytes = omega arith;
        room = omega (arith, L.start_size);
        few = omega (arith, L.start_pending, parts_none);
      }))

  -- finish
  close_ok : (t : ℕ) (s : σ) (n : ℕ) (ps : List Part) (x : Says σ) → n ≤ t → captions_in ps + L.pending s ≤ k + n
      → CloseOk L.Fit L.pending L.size s x → Ok t (closed M ps x)
  close_ok t s n ps (faulty f) b few o = omega arith
  close_ok t s n ps (says u new) b few o = omega (arith, o, parts_append ps new)

  bom_close : (s : σ) (x : Says σ) → CloseOk L.Fit L.pending L.size s x → CloseOk L.Fit L.pending L.size s (with_bom x)
  bom_close s (faulty f) o = tt
  bom_close s (says u new) o = rw (parts_stay bom new) o

  last_ok : (t : ℕ) (s : σ) (n : ℕ) (h : List ℕ) (ps : List Part) (x : Says σ) → GoingOk t s n h ps → 0 < length h
      → LineOk s h x → Ok t (last_end M n ps x)
  last_ok t s n h ps (faulty f) g p o = omega (arith, g.few, g.bytes)
  last_ok t s n h ps (says u new) g p o =
      close_ok t u (suc n) (ps ++ new) (M.close u (suc n)) (omega (arith, g.bytes))
      (omega (arith, parts_append ps new, o.few, g.few)) (L.close_ok u (suc n))

  at_end_ok : (t : ℕ) (b : Bool) (s : σ) (n : ℕ) (h : List ℕ) (ps : List Part) → GoingOk t s n h ps → Ok t (at_end M (rest_for b h) s n h ps)
  at_end_ok t b s n [] ps g = close_ok t s n ps (M.close s n) (omega (arith, g.bytes)) g.few (L.close_ok s n)
  at_end_ok t true s n (x ∷ h) ps g =
      close_ok t s n ps (with_bom (M.close s n)) (omega (arith, g.bytes)) g.few (bom_close s (M.close s n) (L.close_ok s n))
  at_end_ok t false s n (x ∷ h) ps g =
      last_ok t s n (x ∷ h) ps (take_line M s n (x ∷ h)) g (omega arith) (line_ok s n (x ∷ h) g.fit g.short)

  pub finish_ok : (t : ℕ) (s : σ) (n : ℕ) (h : List ℕ) (ps : List Part) → GoingOk t s n h ps → Ok t (finish_run M (going s n h ps))
  finish_ok t s n h ps g = at_end_ok t (eqb n 0 && equals bom h) s n h ps g

-- 17 is not answered
pub not_foreign : {σ κ : Type 0} (K : Kit σ κ) (c : Config) (t n : ℕ) (held : List ℕ) (known : κ) (x : Counts) (k : ℕ) (e : Bool)
    → config_bad c ≡ false → t ≤ most_taken → n ≤ t → total x ≤ t → length held ≤ t → K.strange c.kind known held ≡ false → outcome_bad e k ≡ false → line_count (closed_lines held) ≤ n
    → foreign K (record { config = c; taken = t; lines = n; held = held; known = known; counts = x; outcome = k; ended = e }) ≡ false
not_foreign K c t n held known x k e ok h1 h2 h3 h4 h5 h6 h7 =
    rw (
      ok,
      le-ltb most_taken t h1,
      le-ltb t x.shifted (omega arith),
      le-ltb t x.clipped (omega arith),
      le-ltb t x.dropped (omega arith),
      le-ltb t x.passed (omega arith),
      le-ltb t n h2,
      le-ltb t (length held) h4,
      h5,
      h6,
      le-ltb n (line_count (closed_lines held)) h7,
    )
