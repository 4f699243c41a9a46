-- What a call writes fits: output and warnings are bounded by the bytes held and fed.
use mathlib.Core.Path.{◌≡◌, refl, ap, subst, ◌∙◌}
use mathlib.Core.Bool.{Bool, true, false, ◌&&◌}
use mathlib.Core.List.{List, [], ◌∷◌, ◌++◌}
use Prim.Native.Nat.{ℕ, suc, ◌+◌, ◌*◌, ◌≤◌}
use native.Mathlib.Omega.{arith}
use lib.Dec.{leb, eqb}
use lib.ListN.{length, drop, length-append, length-drop}
use borrow.Author.Tests.{leb-true}
use Rattle.spec_base.specs.base.Limits.{most_line}
use Rattle.spec_base.proofs.base.Laws.{and_right}
use Rattle.spec_text.specs.pattern.Find.{equals}
use Rattle.spec_text.specs.text.Line.{has_lf}
use Rattle.spec_map.specs.declared.segment.Segment.{Segment}
use Rattle.spec_caption.specs.declared.caption_fate.Config.{Config}
use Rattle.spec_caption.specs.caption_fate.Says.{Part, stays}
use Rattle.spec_caption.specs.caption_fate.Emit.{Emit, emit_by, emit_of, emits_of, output_of, warnings_of}
use Rattle.spec_machine.specs.session_counts.Machine.{Machine, Says, faulty, says, bom, has_bom, take_line, with_bom, line_with, rest_for, Run, going, stopped}
use Rattle.spec_machine.specs.session_counts.Machine.{line_end, byte, byte_step, run, closed, last_end, at_end, finish_run}
use Rattle.spec_machine.proofs.session_counts.Emits.{emits_append, output_append, warnings_append}
use Rattle.spec_machine.specs.session_counts.Session.{Kit}
use Rattle.spec_machine.proofs.session_counts.OpenLines.{bom_length_lem, bom_open, equals_length}
use Rattle.spec_machine.proofs.session_counts.Laws.{Lawful}
use Rattle.spec_machine.proofs.session_counts.Native.{Ok, step_ok}
use Rattle.spec_machine.proofs.session_counts.Keeps.{Kept}

-- bytes written, and warnings given, for parts through a map
module _ (c : Config) (m : List Segment) where
  unfoldable pub out_len : List Part → ℕ
  out_len ps = length (output_of (emits_of c m ps))

  unfoldable pub warn_len : List Part → ℕ
  warn_len ps = length (warnings_of (emits_of c m ps))

  pub out_append : (xs ys : List Part) → out_len (xs ++ ys) ≡ out_len xs + out_len ys
  unfolding out_len
  out_append xs ys =
      ap (λ (es : List Emit). length (output_of es)) (emits_append c m xs ys)
      ∙ ap length (output_append (emits_of c m xs) (emits_of c m ys)) ∙ length-append (output_of (emits_of c m xs)) (output_of (emits_of c m ys))

  pub warn_append : (xs ys : List Part) → warn_len (xs ++ ys) ≡ warn_len xs + warn_len ys
  unfolding warn_len
  warn_append xs ys =
      ap (λ (es : List Emit). length (warnings_of es)) (emits_append c m xs ys)
      ∙ ap length (warnings_append (emits_of c m xs) (emits_of c m ys)) ∙ length-append (warnings_of (emits_of c m xs)) (warnings_of (emits_of c m ys))

  pub out_none : out_len [] ≡ 0
  unfolding out_len emits_of output_of
  out_none = refl

  pub warn_none : warn_len [] ≡ 0
  unfolding warn_len emits_of warnings_of
  warn_none = refl

  pub out_cons : (p : Part) (ps : List Part) → out_len (p ∷ ps) ≡ length (emit_of c m p).out + out_len ps
  unfolding out_len emits_of output_of
  out_cons p ps = length-append (emit_of c m p).out (output_of (emits_of c m ps))

  pub warn_cons : (p : Part) (ps : List Part) → warn_len (p ∷ ps) ≡ length (emit_of c m p).warnings + warn_len ps
  unfolding warn_len emits_of warnings_of
  warn_cons p ps = length-append (emit_of c m p).warnings (warnings_of (emits_of c m ps))

  pub out_stay : (l : List ℕ) (ps : List Part) → out_len (stays l ∷ ps) ≡ length l + out_len ps
  unfolding out_len emits_of emit_by output_of
  out_stay l ps = length-append l (output_of (emits_of c m ps))

  pub warn_stay : (l : List ℕ) (ps : List Part) → warn_len (stays l ∷ ps) ≡ warn_len ps
  unfolding warn_len emits_of emit_by warnings_of
  warn_stay l ps = refl

-- a factor φ: what a line writes, and what is held after it, is at most φ times what came in; a warning takes 7 bytes of it
module _ {σ : Type 0} (c : Config) (m : List Segment) (size : σ → ℕ) (φ : ℕ) where
  pub record RoomFacts (s : σ) (l : List ℕ) (t : σ) (ps : List Part) : Type 0 where
    pub out : out_len c m ps + φ * size t ≤ φ * (size s + length l)
    pub warn : 7 * warn_len c m ps + size t ≤ size s + length l

  abbrev pub RoomOf : σ → List ℕ → Says σ → Type 0
  RoomOf s l (faulty f) = Unit {0}
  RoomOf s l (says t ps) = RoomFacts s l t ps

  -- b: the bytes that were held and fed
  pub record GoingRoom (b : ℕ) (s : σ) (h : List ℕ) (ps : List Part) : Type 0 where
    pub out : out_len c m ps + φ * (size s + length h) ≤ φ * b
    pub warn : 7 * warn_len c m ps + (size s + length h) ≤ b

  pub record StoppedRoom (b : ℕ) (ps : List Part) : Type 0 where
    pub out : out_len c m ps ≤ φ * b
    pub warn : 7 * warn_len c m ps ≤ b

  abbrev pub Room : ℕ → Run σ → Type 0
  Room b (going s n h ps) = GoingRoom b s h ps
  Room b (stopped k ps) = StoppedRoom b ps

-- what the kinds must show: a line from a state that fits; a finish, also after a last line without LF
pub record Roomy {σ κ : Type 0} (K : Kit σ κ) (kind : ℕ) (L : Lawful K kind) (c : Config) (m : List Segment) (φ : ℕ) : Type 1 where
  pub positive : 1 ≤ φ
  pub Last : σ → Type 0
  pub fit_last : (s : σ) → L.Fit s → Last s
  pub steps : (s : σ) (n : ℕ) (l : List ℕ) → L.Fit s → length l ≤ most_line → RoomOf c m L.size φ s l ((K.machine kind).step s n l)
  pub lasts : (s : σ) (n : ℕ) (l : List ℕ) → L.Fit s → length l ≤ most_line → has_lf l ≡ false → Kept Last ((K.machine kind).step s n l)
  pub closes : (s : σ) (n : ℕ) → Last s → RoomOf c m L.size φ s [] ((K.machine kind).close s n)

module _ {σ κ : Type 0} (K : Kit σ κ) (kind : ℕ) (L : Lawful K kind) (c : Config) (m : List Segment) (φ : ℕ) (R : Roomy K kind L c m φ) where
  abbrev M : Machine σ
  M = K.machine kind

  abbrev Of : σ → List ℕ → Says σ → Type 0
  Of s l x = RoomOf c m L.size φ s l x

  abbrev Going : ℕ → σ → List ℕ → List Part → Type 0
  Going b s h ps = GoingRoom c m L.size φ b s h ps

  abbrev Has : ℕ → Run σ → Type 0
  Has b r = Room c m L.size φ b r

  stop : (b : ℕ) (s : σ) (h : List ℕ) (ps : List Part) → Going b s h ps → StoppedRoom c m L.size φ b ps
  stop b s h ps g = record { out = omega (arith, g.out); warn = omega (arith, g.warn) }

  more : (b : ℕ) (ps : List Part) → StoppedRoom c m L.size φ b ps → StoppedRoom c m L.size φ (suc b) ps
  more b ps g = record { out = omega (arith, g.out); warn = omega (arith, g.warn) }

  -- a line behind a BOM
  bom_room : (s : σ) (l : List ℕ) (x : Says σ) → length l ≡ 3 + length (drop 3 l) → Of s (drop 3 l) x → Of s l (with_bom x)
  bom_room s l (faulty f) q o = tt
  bom_room s l (says t ps) q o =
      let pos = R.positive in
      record {
        out = rw (q, out_stay c m bom ps) (omega (arith, o.out));
        warn = rw (q, warn_stay c m bom ps) (omega (arith, o.warn));
      }

  with_room : (b : Bool) (s : σ) (n : ℕ) (l : List ℕ) → (eqb n 0 && has_bom l) ≡ b → L.Fit s → length l ≤ most_line → Of s l (line_with M b s n l)
  with_room true s n l q f h =
      bom_room s l (M.step s n (drop 3 l)) (bom_length_lem l (and_right (eqb n 0) (has_bom l) q)) (R.steps s n (drop 3 l) f (omega (arith, length-drop 3 l)))
  with_room false s n l q f h = R.steps s n l f h

  pub line_room : (s : σ) (n : ℕ) (l : List ℕ) → L.Fit s → length l ≤ most_line → Of s l (take_line M s n l)
  line_room s n l f h = with_room (eqb n 0 && has_bom l) s n l refl f h

  bom_last : (x : Says σ) → Kept R.Last x → Kept R.Last (with_bom x)
  bom_last (faulty f) o = tt
  bom_last (says t ps) o = o

  with_last : (b : Bool) (s : σ) (n : ℕ) (l : List ℕ) → (eqb n 0 && has_bom l) ≡ b → L.Fit s → length l ≤ most_line → has_lf l ≡ false → Kept R.Last (line_with M b s n l)
  with_last true s n l q f h e =
      bom_last (M.step s n (drop 3 l)) (R.lasts s n (drop 3 l) f (omega (arith, length-drop 3 l)) (bom_open l (and_right (eqb n 0) (has_bom l) q) e))
  with_last false s n l q f h e = R.lasts s n l f h e

  end_room : (b : ℕ) (s : σ) (n : ℕ) (h : List ℕ) (y : ℕ) (ps : List Part) (x : Says σ) → Going b s h ps → Of s (h ++ (y ∷ [])) x → Has (suc b) (line_end M n ps x)
  end_room b s n h y ps (faulty f) g o = more b ps (stop b s h ps g)
  end_room b s n h y ps (says t new) g o =
      let p = rw (length-append h (y ∷ [])) at o.out in
      let q = rw (length-append h (y ∷ [])) at o.warn in
      record {
        out = rw (out_append c m ps new) (omega (arith, g.out));
        warn = rw (warn_append c m ps new) (omega (arith, g.warn));
      }

  byte_room : (b : ℕ) (ok lf : Bool) (s : σ) (n : ℕ) (h : List ℕ) (y : ℕ) (ps : List Part) → leb (length (h ++ (y ∷ []))) most_line ≡ ok → L.Fit s → Going b s h ps
      → Has (suc b) (byte M ok lf s n (h ++ (y ∷ [])) ps)
  byte_room b false lf s n h y ps e f g = more b ps (stop b s h ps g)
  byte_room b true true s n h y ps e f g =
      end_room b s n h y ps (take_line M s n (h ++ (y ∷ []))) g (line_room s n (h ++ (y ∷ [])) f (leb-true (length (h ++ (y ∷ []))) most_line e))
  byte_room b true false s n h y ps e f g =
      record {
        out = rw (length-append h (y ∷ [])) (omega (arith, g.out));
        warn = rw (length-append h (y ∷ [])) (omega (arith, g.warn));
      }

  module _ (k : ℕ) where
    pub step_room : (t b : ℕ) (r : Run σ) (y : ℕ) → Ok K kind L k t r → Has b r → Has (suc b) (byte_step M r y)
    step_room t b (going s n h ps) y o g = byte_room b (leb (length (h ++ (y ∷ []))) most_line) (eqb y 10) s n h y ps refl o.fit g
    step_room t b (stopped x ps) y o g = more b ps g

    pub run_room : (t b : ℕ) (r : Run σ) (xs : List ℕ) → Ok K kind L k t r → Has b r → Has (length xs + b) (run M r xs)
    run_room t b r [] o g = subst (λ (i : ℕ). Has i r) (omega arith) g
    run_room t b r (y ∷ xs) o g =
        subst (λ (i : ℕ). Has i (run M (byte_step M r y) xs)) (omega arith)
        (run_room (suc t) (suc b) (byte_step M r y) xs (step_ok K kind L k t r y o) (step_room t b r y o g))

  -- finish
  close_room : (b : ℕ) (s : σ) (h : List ℕ) (ps : List Part) (x : Says σ) → Going b s h ps → Of s h x → Has b (closed M ps x)
  close_room b s h ps (faulty f) g o = stop b s h ps g
  close_room b s h ps (says t new) g o =
      record {
        out = rw (out_append c m ps new) (omega (arith, g.out, o.out));
        warn = rw (warn_append c m ps new) (omega (arith, g.warn, o.warn));
      }

  last_room : (b : ℕ) (s : σ) (n : ℕ) (h : List ℕ) (ps : List Part) (x : Says σ) → Going b s h ps → Of s h x → Kept R.Last x → Has b (last_end M n ps x)
  last_room b s n h ps (faulty f) g o l = stop b s h ps g
  last_room b s n h ps (says t new) g o l =
      close_room b t [] (ps ++ new) (M.close t (suc n))
      (record {
        out = rw (out_append c m ps new) (omega (arith, g.out, o.out));
        warn = rw (warn_append c m ps new) (omega (arith, g.warn, o.warn));
      })
      (R.closes t (suc n) l)

  -- a BOM alone
  bom_alone : (s : σ) (h : List ℕ) → length h ≡ 3 → (x : Says σ) → Of s [] x → Of s h (with_bom x)
  bom_alone s h e (faulty f) o = tt
  bom_alone s h e (says t ps) o =
      let pos = R.positive in
      record {
        out = rw (e, out_stay c m bom ps) (omega (arith, o.out));
        warn = rw (e, warn_stay c m bom ps) (omega (arith, o.warn));
      }

  at_end_room : (b : ℕ) (z : Bool) (s : σ) (n : ℕ) (h : List ℕ) (ps : List Part) → (z ≡ true → length h ≡ 3) → L.Fit s → length h ≤ most_line → has_lf h ≡ false
      → Going b s h ps → Has b (at_end M (rest_for z h) s n h ps)
  at_end_room b z s n [] ps q f i e g = close_room b s [] ps (M.close s n) g (R.closes s n (R.fit_last s f))
  at_end_room b true s n (y ∷ h) ps q f i e g =
      close_room b s (y ∷ h) ps (with_bom (M.close s n)) g (bom_alone s (y ∷ h) (q refl) (M.close s n) (R.closes s n (R.fit_last s f)))
  at_end_room b false s n (y ∷ h) ps q f i e g =
      last_room b s n (y ∷ h) ps (take_line M s n (y ∷ h)) g (line_room s n (y ∷ h) f i) (with_last (eqb n 0 && has_bom (y ∷ h)) s n (y ∷ h) refl f i e)

  pub finish_room : (b : ℕ) (s : σ) (n : ℕ) (h : List ℕ) (ps : List Part) → L.Fit s → length h ≤ most_line → has_lf h ≡ false → Going b s h ps
      → Has b (finish_run M (going s n h ps))
  finish_room b s n h ps f i e g =
      at_end_room b (eqb n 0 && equals bom h) s n h ps (λ q. equals_length bom h (and_right (eqb n 0) (equals bom h) q)) f i e g
