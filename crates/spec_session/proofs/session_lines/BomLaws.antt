-- Laws of a line with the BOM that may begin it.
use mathlib.Core.Path.{◌≡◌, refl, sym, ap, subst, ◌∙◌}
use mathlib.Core.Bool.{Bool, true, false, cond, ◌&&◌}
use mathlib.Core.List.{List, [], ◌∷◌, ◌++◌}
use Prim.Native.Nat.{ℕ, ◌+◌, ◌-◌, ◌≤◌}
use native.Mathlib.Omega.{arith}
use lib.Dec.{eqb}
use lib.ListN.{length, take, drop, length-append}
use lib.Seq.{drop-drop, drop_at, length-take-le}
use borrow.Author.Tests.{eq-eqb, ne_eqb}
use Rattle.spec_base.specs.base.Put.{put, put_at, placed}
use Rattle.spec_base.proofs.base.PartLaws.{rest_all, rest_length}
use Rattle.spec_base.proofs.base.PutLaws.{put_nil, put_append, tail_back, put_at_nil, put_at_zero, placed_yes}
use Rattle.spec_text.specs.pattern.Find.{starts}
use Rattle.spec_map.specs.declared.segment.Segment.{Segment}
use Rattle.spec_caption.specs.declared.caption_fate.Config.{Config}
use Rattle.spec_caption.specs.caption_fate.Says.{stays, fault_number}
use Rattle.spec_caption.specs.caption_fate.Emit.{Emit, emit, none, output_of, warnings_of}
use Rattle.spec_ass.specs.declared.ass_columns.Columns.{Columns}
use Rattle.spec_machine.specs.declared.session_counts.Counts.{Counts}
use Rattle.spec_machine.specs.session_counts.Counts.{count_all}
use Rattle.spec_machine.specs.session_counts.Machine.{bom, has_bom, Says, faulty, says, with_bom, line_with, take_line}
use Rattle.spec_machine.proofs.session_counts.OpenLines.{bom_length_lem}
use Rattle.spec_machine.specs.kinds.Takes.{State, takes, machine_of}
use Rattle.spec_session.specs.declared.session_lines.Taken.{Taken}
use Rattle.spec_session.specs.session_lines.LinesThrough.{strange_in, emitted_in, line_refusal, is_open, taken_in, bom_size, EndTells, ended_by, LineTells}
use Rattle.spec_session.specs.session_lines.Told.{behind_line}
use Rattle.spec_session.proofs.session_lines.TellLaws.{told_within, fault_numbered, strange_stays, emits_stays}

-- ---- whether a line begins with one
pub bom_stands : (b : Bool) (l : List ℕ) → b ≡ starts (239 ∷ 187 ∷ 191 ∷ []) l → b ≡ has_bom l
unfolding has_bom
bom_stands b l e = e

pub bom_zero : (n : ℕ) (l : List ℕ) → (n ≡ 0 → ⊥) → 0 ≡ bom_size n l
unfolding bom_size
bom_zero n l h = rw (ne_eqb n 0 h)

pub bom_three : (n : ℕ) (l : List ℕ) (b : Bool) → n ≡ 0 → b ≡ has_bom l → b ≡ true → 3 ≡ bom_size n l
unfolding bom_size
bom_three n l b h e f = let g : has_bom l ≡ true = sym e ∙ f in rw (eq-eqb n 0 h, g)

pub bom_none : (n : ℕ) (l : List ℕ) (b : Bool) → n ≡ 0 → b ≡ has_bom l → b ≡ false → 0 ≡ bom_size n l
unfolding bom_size
bom_none n l b h e f = let g : has_bom l ≡ false = sym e ∙ f in rw (eq-eqb n 0 h, g)

pub bom_fits : (l : List ℕ) (b : Bool) → b ≡ has_bom l → b ≡ true → 3 ≤ length l
bom_fits l b e f = omega (arith, bom_length_lem l (sym e ∙ f))

-- ---- written in front of what stands behind it
front : (w l : List ℕ) → put w l ≡ w ++ drop (length w) l
unfolding put
front w l = refl

-- w written to the front, after v was written behind it
pub put_under : (w v l : List ℕ) → length w ≤ length l → put w (put_at (length w) v l) ≡ put (w ++ v) l
unfolding put_at
put_under w v l h =
    front w (take (length w) l ++ put v (drop (length w) l)) ∙
    ap (λ (x : List ℕ). w ++ x) (drop_at (take (length w) l) (put v (drop (length w) l)) (length w) (length-take-le (length w) l h))
    ∙ put_append w v l

front_long : (n : ℕ) (l v : List ℕ) → n ≤ length l → n ≤ length (take n l ++ v)
front_long n l v h = rw (length-append (take n l) v, length-take-le n l h) (omega arith)

-- a BOM written where the buffer's first three bytes stand yet
pub bom_placed : (l v : List ℕ) → 3 ≤ length l → placed bom (take 3 l ++ v) ≡ put bom (take 3 l ++ v)
bom_placed l v h = placed_yes bom (take 3 l ++ v) (front_long 3 l v h)

-- ---- a line behind one
module _ (c : Config) (m : List Segment) (k : Columns) (q : Counts) (r : Taken) (out y w w' : List ℕ) where
  abbrev tail : ℕ → List ℕ
  tail b = take (length out - b) (drop b out)

  abbrev back : ℕ → List ℕ
  back b = take b out ++ (y ++ drop (length out - b) (drop b out))

  -- a refusal leaves the output as it was
  refused_back : (n b : ℕ) → LineTells (line_refusal n k) q r (tail b) y w w' → LineTells (line_refusal n k) q r out (back b) w w'
  unfolding output_of
  refused_back n b d =
      record {
        said =
            record {
              number = d.said.number;
              counts = d.said.counts;
              written = d.said.written;
              warned = d.said.warned;
              text = tail_back b [] out y d.said.text ∙ put_at_nil b out ∙ sym (put_nil out);
              warnings = d.said.warnings;
            };
        columns = d.columns;
        skip = d.skip;
        added = d.added;
      }

  -- the line behind it was refused
  bom_fault : (b : ℕ) (x : Says State) → LineTells (taken_in c m k 0 x) q r (tail b) y w w' → (r.number ≡ 0 → ⊥)
      → LineTells (taken_in c m k 3 (with_bom x)) q r out (back b) w w'
  bom_fault b (faulty f) d z = refused_back (fault_number f) b d
  bom_fault b (says s ps) d z = rw (strange_stays c m bom ps) (go (strange_in c m ps) d)
    where
      go : (u : Bool) → LineTells (cond u (line_refusal 15 k) (record { said = record { number = 0; emitted = emitted_in c m ps }; columns = s.columns; skip = 0; added = is_open s.block })) q r (tail b) y w w'
          → LineTells (cond u (line_refusal 15 k) (record { said = record { number = 0; emitted = emitted_in c m (stays bom ∷ ps) }; columns = s.columns; skip = 3; added = is_open s.block })) q r out (back b) w w'
      go true d = refused_back 15 b d
      go false d = absurd (z d.said.number)

  -- and passed
  bom_put : (es : List Emit) → EndTells (record { number = 0; emitted = es }) q (ended_by r) (tail 3) y w w' → 3 ≤ length out
      → EndTells (record { number = 0; emitted = emit bom [] none ∷ es }) q (ended_by (behind_line r)) out (put bom (back 3)) w w'
  unfolding output_of warnings_of count_all
  bom_put es d h =
      record {
        number = refl;
        counts = d.counts;
        written = ap (λ (i : ℕ). 3 + i) d.written ∙ sym (length-append bom (output_of es));
        warned = d.warned;
        text = ap (put bom) (tail_back 3 (output_of es) out y d.text) ∙ put_under bom (output_of es) out h;
        warnings = d.warnings;
      }

  bom_passed : (x : Says State) → LineTells (taken_in c m k 0 x) q r (tail 3) y w w' → r.number ≡ 0 → 3 ≤ length out
      → LineTells (taken_in c m k 3 (with_bom x)) q (behind_line r) out (put bom (back 3)) w w'
  bom_passed (faulty f) d z h = absurd (fault_numbered f (sym d.said.number ∙ z))
  bom_passed (says s ps) d z h = rw (strange_stays c m bom ps) (go (strange_in c m ps) d)
    where
      go : (u : Bool) → LineTells (cond u (line_refusal 15 k) (record { said = record { number = 0; emitted = emitted_in c m ps }; columns = s.columns; skip = 0; added = is_open s.block })) q r (tail 3) y w w'
          → LineTells (cond u (line_refusal 15 k) (record { said = record { number = 0; emitted = emitted_in c m (stays bom ∷ ps) }; columns = s.columns; skip = 3; added = is_open s.block })) q (behind_line r) out (put bom (back 3)) w w'
      go true d = absurd (let x : ◌≡◌ {A = ℕ} 0 15 = sym z ∙ d.said.number in omega arith)
      go false d = record { said = rw (emits_stays c m bom ps) (bom_put (emitted_in c m ps) d.said h); columns = d.columns; skip = refl; added = d.added }

  -- no BOM
  no_bom : (x : Says State) → LineTells (taken_in c m k 0 x) q r (tail 0) y w w' → LineTells (taken_in c m k 0 x) q r out (back 0) w w'
  no_bom x d =
      let a = (taken_in c m k 0 x).said.emitted in
      record {
        said =
            record {
              number = d.said.number;
              counts = d.said.counts;
              written = d.said.written;
              warned = d.said.warned;
              text = tail_back 0 (output_of a) out y d.said.text ∙ put_at_zero (output_of a) out;
              warnings = d.said.warnings;
            };
        columns = d.columns;
        skip = d.skip;
        added = d.added;
      }

  -- any_line's answer, with a BOM of b bytes before the line
  module _ (s : State) (n : ℕ) (held : List ℕ) (at : ℕ) where
    abbrev pub Behind : ℕ → Type 0
    Behind b = LineTells (taken_in c m k 0 (takes c.kind s n (drop (at + b) held))) q r (tail b) y w w'

    abbrev pub TakenSo : Taken → List ℕ → Type 0
    TakenSo u z =
        LineTells (taken_in c m k (bom_size n (drop at held)) (take_line (machine_of c.kind) s n (drop at held))) q u out z w w'

    pub behind_room : (b : ℕ) → Behind b → length y ≡ length (tail b) → length w' ≡ length w → r.written ≤ length out - b
    behind_room b d i j = omega (arith, told_within _ q (ended_by r) (tail b) y w w' d.said i j, rest_length b out)

    behind_line_lem : (b : ℕ) → Behind b → LineTells (taken_in c m k 0 (takes c.kind s n (drop b (drop at held)))) q r (tail b) y w w'
    behind_line_lem b d = subst (λ (l : List ℕ). LineTells (taken_in c m k 0 (takes c.kind s n l)) q r (tail b) y w w') (sym (drop-drop b at held)) d

    size_is : (b : ℕ) → b ≡ bom_size n (take (length held - at) (drop at held)) → b ≡ bom_size n (drop at held)
    size_is b e = e ∙ ap (bom_size n) (rest_all at held)

    -- with the test's answer
    abbrev SoIf : Bool → Taken → List ℕ → Type 0
    SoIf t u z = LineTells (taken_in c m k (cond t 3 0) (line_with (machine_of c.kind) t s n (drop at held))) q u out z w w'

    pub take_fault : (b : ℕ) → b ≡ bom_size n (take (length held - at) (drop at held)) → Behind b → (r.number ≡ 0 → ⊥) → TakenSo r (back b)
    unfolding bom_size
    take_fault b e d z = go (eqb n 0 && has_bom (drop at held)) (size_is b e)
      where
        go : (t : Bool) → b ≡ cond t 3 0 → SoIf t r (back b)
        go true j =
            subst (λ (i : ℕ). SoIf true r (back i)) (sym j)
            (bom_fault 3 (takes c.kind s n (drop 3 (drop at held)))
            (subst (λ (i : ℕ). LineTells (taken_in c m k 0 (takes c.kind s n (drop i (drop at held)))) q r (tail i) y w w') j (behind_line_lem b d)) z)
        go false j =
            subst (λ (i : ℕ). SoIf false r (back i)) (sym j)
            (no_bom (takes c.kind s n (drop at held))
            (subst (λ (i : ℕ). LineTells (taken_in c m k 0 (takes c.kind s n (drop i (drop at held)))) q r (tail i) y w w') j (behind_line_lem b d)))

    pub take_plain : (b : ℕ) → b ≡ bom_size n (take (length held - at) (drop at held)) → Behind b → b ≡ 0 → TakenSo r (back b)
    unfolding bom_size
    take_plain b e d z = go (eqb n 0 && has_bom (drop at held)) (size_is b e)
      where
        go : (t : Bool) → b ≡ cond t 3 0 → SoIf t r (back b)
        go true j = absurd (let v : ◌≡◌ {A = ℕ} 3 0 = sym j ∙ z in omega arith)
        go false j =
            subst (λ (i : ℕ). SoIf false r (back i)) (sym j)
            (no_bom (takes c.kind s n (drop at held))
            (subst (λ (i : ℕ). LineTells (taken_in c m k 0 (takes c.kind s n (drop i (drop at held)))) q r (tail i) y w w') j (behind_line_lem b d)))

    pub take_behind : (b : ℕ) (u : Taken) (z : List ℕ) → b ≡ bom_size n (take (length held - at) (drop at held)) → Behind b → r.number ≡ 0 → (b ≡ 0 → ⊥)
        → b ≤ length out → z ≡ placed bom (back b) → u ≡ behind_line r → TakenSo u z
    unfolding bom_size
    take_behind b u z e d f i h p a = rw a (go (eqb n 0 && has_bom (drop at held)) (size_is b e))
      where
        go : (t : Bool) → b ≡ cond t 3 0 → SoIf t (behind_line r) z
        go true j =
            let g : 3 ≤ length out = subst (λ (i : ℕ). i ≤ length out) j h in
            subst (λ (v : List ℕ). SoIf true (behind_line r) v) (sym (p ∙ ap (λ (i : ℕ). placed bom (back i)) j ∙ bom_placed out (y ++ drop (length out - 3) (drop 3 out)) g))
            (bom_passed (takes c.kind s n (drop 3 (drop at held)))
            (subst (λ (i : ℕ). LineTells (taken_in c m k 0 (takes c.kind s n (drop i (drop at held)))) q r (tail i) y w w') j (behind_line_lem b d)) f g)
        go false j = absurd (i j)
