-- THE LINE OF A FAULT: `fault_line`.
use mathlib.Core.Path.{◌≡◌, refl, sym, ap, subst, ◌∙◌}
use mathlib.Core.Logic.{◌⊎◌, inl, inr}
use mathlib.Core.Bool.{Bool, true, false, cond}
use mathlib.Core.List.{List, [], ◌∷◌, ◌++◌}
use Prim.Native.Nat.{ℕ, zero, suc, ◌+◌, ◌≤◌, ◌<◌}
use native.Mathlib.Omega.{arith}
use lib.Dec.{eqb, leb}
use lib.ListN.{length, take, drop, take-append-drop}
use Rattle.spec_base.specs.base.Limits.{most_line}
use Rattle.spec_base.specs.base.Refusal.{◌or_else◌, fault_unless}
use Rattle.spec_text.specs.utf8.Utf8.{utf8}
use Rattle.spec_text.specs.pattern.Find.{starts}
use Rattle.spec_text.specs.text.Line.{lines_of, concat, line_count, text_of}
use Rattle.spec_text.proofs.text.LineLaws.{lines_joined}
use Rattle.spec_time.specs.caption_time.Kind.{kind_bad}
use Rattle.spec_time.proofs.caption_time.Limits.{by_kind}
use Rattle.spec_caption.specs.caption_fate.Bom.{bom, starts_bom, behind_bom}
use Rattle.spec_ass.specs.ass_columns.Columns.{no_columns}
use Rattle.spec_machine.specs.session_counts.Machine.{has_bom}
use Rattle.promise.specs.Plain.{bom_length, line_fault, headed, head_fault}
use Rattle.promise.proofs.Bare.{no_bom_part}
use Rattle.promise.proofs.LinesCut.{Cut, cut_tail, cut_before, cut_lines, text_cut, concat_append}
use Rattle.spec_rows.specs.caption_rows.Said.{at_fault, quiet}
use Rattle.spec_rows.specs.caption_rows.Walk.{Walk, stopped, ◌then◌, ass_walk, block_walk, head_turn, vtt_walk, walk_behind, walk_of}
use Rattle.spec_rows.proofs.caption_rows.AgreeText.{walk_plain}
use Rattle.spec_rows.specs.cueplaces.FaultLine.{first_lines, text_fault, LeastLines, OneBlock, FaultLine, FaultLineTold}
use Rattle.spec_rows.proofs.cueplaces.Stops.{Stop, on_fault, on_line, at_fault_lem, at_line, zero_suc}
use Rattle.spec_rows.proofs.cueplaces.AssStops.{ass_quiet, ass_stop, ass_short}
use Rattle.spec_rows.proofs.cueplaces.BlockStops.{Told, Opened, block_quiet, block_stop}

-- ---- a walk of the lines L, and of its first lines
module _ (F : List (List ℕ) → Walk) (L : List (List ℕ)) where
  pub record LeastAt (k n : ℕ) : Type 0 where
    pub some : 1 ≤ n
    pub same : (F (take n L)).fault ≡ k
    pub least : (m : ℕ) → 1 ≤ m → m < n → (F (take m L)).fault ≡ k → ⊥
    pub within : (n ≤ 1) ⊎ (n ≤ line_count L)

  pub record LongAt (kind : ℕ) : Type 0 where
    pub last : ℕ
    pub least : LeastAt 21 last
    pub block : OneBlock kind L (F L).line last

  pub record Lined (kind : ℕ) : Type 0 where
    pub none : (F L).fault ≡ 0 → (F L).line ≡ 0
    pub least : (k : ℕ) → (F L).fault ≡ suc k → (suc k ≡ 21 → ⊥) → LeastAt (suc k) (F L).line
    pub long : (F L).fault ≡ 21 → LongAt kind

  -- behind `past` lines
  at_stop : (k : ℕ) (P : ℕ → Type 0) (s : Stop F L k P) → LeastAt k (suc s.past)
  at_stop k P s =
      record {
        some = omega arith;
        same = s.same;
        least = λ m a b e. s.least m (omega arith) e;
        within = inr (omega (arith, s.within));
      }

  -- the line told is the one at which the walk stops, but for 21
  lined : (kind : ℕ) → ((F L).fault ≡ 0 → (F L).line ≡ 0) → ((k : ℕ) → (F L).fault ≡ suc k → Stop F L (suc k) (λ p. Told kind L (suc k) (F L).line (suc p))) → Lined kind
  lined kind quiet stop =
      record {
        none = quiet;
        least = λ k e z. let s = stop k e in subst (λ (n : ℕ). LeastAt (suc k) n) (sym (s.told.other z)) (at_stop (suc k) (λ p. Told kind L (suc k) (F L).line (suc p)) s);
        long = λ e. let s = stop 20 e in record { last = suc s.past; least = at_stop 21 (λ p. Told kind L 21 (F L).line (suc p)) s; block = s.told.long refl };
      }

-- ---- by kind: x bytes of BOM stand before the lines
stop_with : (F : List (List ℕ) → Walk) (L : List (List ℕ)) (k : ℕ) (P Q : ℕ → Type 0) → ((p : ℕ) → P p → Q p) → Stop F L k P → Stop F L k Q
stop_with F L k P Q f s = record { past = s.past; within = s.within; same = s.same; least = s.least; told = f s.past s.told }

module _ (x : ℕ) (L : List (List ℕ)) where
  ass_lined : Lined (ass_walk x no_columns 0 x) L 0
  ass_lined =
      lined (ass_walk x no_columns 0 x) L 0 (ass_quiet L x no_columns 0 x)
      (λ k e. stop_with (ass_walk x no_columns 0 x) L (suc k) (λ p. (ass_walk x no_columns 0 x L).line ≡ suc 0 + p) (λ p. Told 0 L (suc k) (ass_walk x no_columns 0 x L).line (suc p))
      (λ p t. record { other = λ z. t ∙ (let y : suc 0 + p ≡ suc p = omega arith in y); long = λ z. absurd (ass_short L x no_columns 0 x (e ∙ z)) }) (ass_stop L x no_columns 0 x k e))

  module _ (c : Cut L) where
    srt_open : Opened 1 L [] [] L 0
    srt_open = record { all = refl; cut = c; count = refl; filled = refl; closed = refl; head = omega arith }

    srt_lined : Lined (block_walk 1 x x 0 [] 0) L 1
    srt_lined =
        lined (block_walk 1 x x 0 [] 0) L 1 (block_quiet 1 L L x x 0 0 [])
        (λ k e. stop_with (block_walk 1 x x 0 [] 0) L (suc k) (λ p. Told 1 L (suc k) (block_walk 1 x x 0 [] 0 L).line (suc 0 + p)) (λ p. Told 1 L (suc k) (block_walk 1 x x 0 [] 0 L).line (suc p))
        (λ p t. subst (λ (n : ℕ). Told 1 L (suc k) (block_walk 1 x x 0 [] 0 L).line n) (let y : suc 0 + p ≡ suc p = omega arith in y) t) (block_stop 1 L k L [] x x srt_open e))

  -- ---- WebVTT: the first line
  vtt_none : (i : ℕ) → vtt_walk x i [] ≡ stopped 24 1
  unfolding vtt_walk
  vtt_none i = refl

  module _ (i : ℕ) (l : List ℕ) where
    abbrev G : List (List ℕ) → Walk
    G ks = block_walk 2 0 (i + length l) 1 [] 1 ks

    clause : (ks : List (List ℕ)) → vtt_walk x i (l ∷ ks) ≡ (head_turn x l then G ks)
    unfolding vtt_walk
    clause ks = refl

    fault_on : (ks : List (List ℕ)) → (head_turn x l).number ≡ 0 → (vtt_walk x i (l ∷ ks)).fault ≡ (G ks).fault
    fault_on ks q = ap (λ (w : Walk). w.fault) (clause ks) ∙ on_fault (head_turn x l) (G ks) q

    line_on : (ks : List (List ℕ)) → (head_turn x l).number ≡ 0 → (vtt_walk x i (l ∷ ks)).line ≡ (G ks).line
    line_on ks q = ap (λ (w : Walk). w.line) (clause ks) ∙ on_line (head_turn x l) (G ks) q

    fault_at : (ks : List (List ℕ)) (h : ℕ) → (head_turn x l).number ≡ suc h → (vtt_walk x i (l ∷ ks)).fault ≡ suc h
    fault_at ks h q = ap (λ (w : Walk). w.fault) (clause ks) ∙ at_fault_lem (head_turn x l) (G ks) h q

    head_line : (h : ℕ) → (head_turn x l).number ≡ suc h → (head_turn x l).line ≡ 1
    unfolding head_turn
    head_line h e = go (eqb (head_fault x l) 0) e
      where
        go : (b : Bool) → (cond b quiet (at_fault (head_fault x l) 1)).number ≡ suc h → (cond b quiet (at_fault (head_fault x l) 1)).line ≡ 1
        go true e = zero_suc h e
        go false e = refl

    line_at : (ks : List (List ℕ)) (h : ℕ) → (head_turn x l).number ≡ suc h → (vtt_walk x i (l ∷ ks)).line ≡ 1
    line_at ks h q = ap (λ (w : Walk). w.line) (clause ks) ∙ at_line (head_turn x l) (G ks) h q ∙ head_line h q

    -- 19, 20 and 24
    head_only : (head_turn x l).number ≡ 21 → ⊥
    unfolding head_turn head_fault line_fault fault_unless ◌or_else◌
    head_only e = go (leb (x + length l) most_line) (utf8 l) (headed (text_of l)) e
      where
        go : (a b d : Bool)
            → (cond (eqb ((fault_unless a 19 or_else fault_unless b 20) or_else fault_unless d 24) 0) quiet (at_fault ((fault_unless a 19 or_else fault_unless b 20) or_else fault_unless d 24) 1)).number ≡ 21 → ⊥
        go false b d e = omega arith
        go true false d e = omega arith
        go true true false e = omega arith
        go true true true e = omega arith

-- the first line alone
first_least : (F : List (List ℕ) → Walk) (L : List (List ℕ)) (k : ℕ) → (F (take 1 L)).fault ≡ k → LeastAt F L k 1
first_least F L k e = record { some = omega arith; same = e; least = λ m a b z. omega arith; within = inl (omega arith) }

vtt_lined : (x i : ℕ) (L : List (List ℕ)) → Cut L → Lined (vtt_walk x i) L 2
vtt_lined x i [] c =
    let f : (vtt_walk x i []).fault ≡ 24 = ap (λ (w : Walk). w.fault) (vtt_none x [] i) in
    record {
      none = λ e. absurd (let z : ◌≡◌ {A = ℕ} 24 0 = sym f ∙ e in omega arith);
      least = λ k e z. subst (λ (n : ℕ). LeastAt (vtt_walk x i) [] (suc k) n) (sym (ap (λ (w : Walk). w.line) (vtt_none x [] i))) (first_least (vtt_walk x i) [] (suc k) e);
      long = λ e. absurd (let z : ◌≡◌ {A = ℕ} 24 21 = sym f ∙ e in omega arith);
    }
vtt_lined x i (l ∷ ls) c = go (head_turn x l).number refl
  where
    opened : Opened 2 (l ∷ ls) (l ∷ []) [] ls 1
    opened = record { all = refl; cut = cut_tail l ls c; count = refl; filled = refl; closed = refl; head = omega arith }

    behind : (k : ℕ) → (head_turn x l).number ≡ 0 → (vtt_walk x i (l ∷ ls)).fault ≡ suc k → Stop (block_walk 2 0 (i + length l) 1 [] 1) ls (suc k) (λ p. Told 2 (l ∷ ls) (suc k) (block_walk 2 0 (i + length l) 1 [] 1 ls).line (suc 1 + p))
    behind k q e = block_stop 2 (l ∷ ls) k ls (l ∷ []) 0 (i + length l) opened (sym (fault_on x [] i l ls q) ∙ e)

    later : (k : ℕ) → (head_turn x l).number ≡ 0 → (P : ℕ → Type 0) (s : Stop (block_walk 2 0 (i + length l) 1 [] 1) ls (suc k) P) → LeastAt (vtt_walk x i) (l ∷ ls) (suc k) (suc (suc s.past))
    later k q P s = record { some = omega arith; same = fault_on x [] i l (take (suc s.past) ls) q ∙ s.same; least = least; within = inr (omega (arith, s.within)) }
      where
        least : (m : ℕ) → 1 ≤ m → m < suc (suc s.past) → (vtt_walk x i (take m (l ∷ ls))).fault ≡ suc k → ⊥
        least zero a b e = omega arith
        least (suc m) a b e = s.least m (omega arith) (sym (fault_on x [] i l (take m ls) q) ∙ e)

    go : (t : ℕ) → (head_turn x l).number ≡ t → Lined (vtt_walk x i) (l ∷ ls) 2
    go (suc h) q =
        record {
          none = λ e. zero_suc h (sym e ∙ fault_at x [] i l ls h q);
          least = λ k e z.
              subst (λ (n : ℕ). LeastAt (vtt_walk x i) (l ∷ ls) (suc k) n) (sym (line_at x [] i l ls h q))
              (first_least (vtt_walk x i) (l ∷ ls) (suc k) (fault_at x [] i l [] h q ∙ sym (fault_at x [] i l ls h q) ∙ e));
          long = λ e. absurd (head_only x [] i l (q ∙ sym (fault_at x [] i l ls h q) ∙ e));
        }
    go zero q =
        record {
          none = λ e. line_on x [] i l ls q ∙ block_quiet 2 (l ∷ ls) ls 0 (i + length l) 1 1 [] (sym (fault_on x [] i l ls q) ∙ e);
          least = λ k e z.
              let s = behind k q e in
              subst (λ (n : ℕ). LeastAt (vtt_walk x i) (l ∷ ls) (suc k) n) (sym (line_on x [] i l ls q ∙ s.told.other z ∙ (let y : suc 1 + s.past ≡ suc (suc s.past) = omega arith in y)))
              (later k q (λ p. Told 2 (l ∷ ls) (suc k) (block_walk 2 0 (i + length l) 1 [] 1 ls).line (suc 1 + p)) s);
          long = λ e.
              let s = behind 20 q e in
              record {
                last = suc (suc s.past);
                least = later 20 q (λ p. Told 2 (l ∷ ls) 21 (block_walk 2 0 (i + length l) 1 [] 1 ls).line (suc 1 + p)) s;
                block =
                    subst (λ (n : ℕ). OneBlock 2 (l ∷ ls) (vtt_walk x i (l ∷ ls)).line n) (let y : suc 1 + s.past ≡ suc (suc s.past) = omega arith in y)
                    (subst (λ (n : ℕ). OneBlock 2 (l ∷ ls) n (suc 1 + s.past)) (sym (line_on x [] i l ls q)) (s.told.long refl));
              };
        }

-- ---- every kind
zero_lined : (x : ℕ) (L : List (List ℕ)) → Lined (walk_behind 0 x) L 0
unfolding walk_behind
zero_lined x L = ass_lined x L

one_lined : (x : ℕ) (L : List (List ℕ)) → Cut L → Lined (walk_behind 1 x) L 1
unfolding walk_behind
one_lined x L c = srt_lined x L c

two_lined : (x : ℕ) (L : List (List ℕ)) → Cut L → Lined (walk_behind 2 x) L 2
unfolding walk_behind
two_lined x L c = vtt_lined x x L c

behind_lined : (kind x : ℕ) (L : List (List ℕ)) → kind_bad kind ≡ false → Cut L → Lined (walk_behind kind x) L kind
behind_lined kind x L g c = by_kind (λ i. Lined (walk_behind i x) L i) (zero_lined x L) (one_lined x L c) (two_lined x L c) kind g

-- ---- the first lines of a text, as the walk sees them
module _ (kind : ℕ) (text : List ℕ) (n : ℕ) where
  abbrev lines : List (List ℕ)
  lines = lines_of (behind_bom text)

  front_cut : Cut (take n lines)
  front_cut = cut_before (take n lines) (drop n lines) (subst Cut (sym (take-append-drop n lines)) (text_cut true (behind_bom text)))

  front_lines : lines_of (concat (take n lines)) ≡ take n lines
  front_lines = cut_lines (take n lines) front_cut

  -- behind a BOM
  marked_walk : (y : List ℕ) → walk_of kind (bom ++ y) ≡ walk_behind kind 3 (lines_of y)
  unfolding walk_of starts
  marked_walk y = refl

  bare_walk : (y : List ℕ) → starts_bom y ≡ false → walk_of kind y ≡ walk_behind kind 0 (lines_of y)
  unfolding walk_of
  bare_walk y e = rw e

  bare_front : starts_bom text ≡ false → starts_bom (concat (take n lines)) ≡ false
  unfolding has_bom
  bare_front e =
      no_bom_part (concat (take n lines)) (concat (drop n lines))
      (ap starts_bom
      (sym (concat_append (take n lines) (drop n lines)) ∙ ap concat (take-append-drop n lines) ∙ lines_joined (behind_bom text) ∙ ap (λ (b : Bool). cond b (drop 3 text) text) e) ∙ e)

  front_walk : walk_of kind (first_lines n text) ≡ walk_behind kind (bom_length text) (take n lines)
  front_walk = go (starts_bom text) refl
    where
      go : (b : Bool) → starts_bom text ≡ b → walk_of kind (first_lines n text) ≡ walk_behind kind (bom_length text) (take n lines)
      go true e =
          ap (λ (b : Bool). walk_of kind (cond b bom [] ++ concat (take n lines))) e ∙ marked_walk (concat (take n lines)) ∙ ap (walk_behind kind 3) front_lines
          ∙ ap (λ (b : Bool). walk_behind kind (cond b 3 0) (take n lines)) (sym e)
      go false e =
          ap (λ (b : Bool). walk_of kind (cond b bom [] ++ concat (take n lines))) e ∙ bare_walk (concat (take n lines)) (bare_front e) ∙ ap (walk_behind kind 0) front_lines
          ∙ ap (λ (b : Bool). walk_behind kind (cond b 3 0) (take n lines)) (sym e)

  front_fault : kind_bad kind ≡ false → text_fault kind (first_lines n text) ≡ (walk_behind kind (bom_length text) (take n lines)).fault
  front_fault g = sym (walk_plain kind (first_lines n text) g).fault ∙ ap (λ (w : Walk). w.fault) front_walk

module _ (kind : ℕ) (text : List ℕ) (g : kind_bad kind ≡ false) where
  abbrev F : List (List ℕ) → Walk
  F = walk_behind kind (bom_length text)

  abbrev L : List (List ℕ)
  L = lines_of (behind_bom text)

  whole_is : walk_of kind text ≡ F L
  unfolding walk_of
  whole_is = refl

  fault_is : text_fault kind text ≡ (F L).fault
  fault_is = sym (walk_plain kind text g).fault ∙ ap (λ (w : Walk). w.fault) whole_is

  least_is : (k n : ℕ) → text_fault kind text ≡ k → LeastAt F L k n → LeastLines kind text n
  least_is k n e a =
      record {
        some = a.some;
        same = front_fault kind text n g ∙ a.same ∙ sym e;
        least = λ m p q z. a.least m p q (sym (front_fault kind text m g) ∙ z ∙ e);
        within = a.within;
      }

  of_line_lem : Lined F L kind → FaultLine kind text (F L).line
  of_line_lem d =
      record {
        none = λ e. d.none (sym fault_is ∙ e);
        least = λ p z. go (text_fault kind text) refl p z;
        long = λ e. let a = d.long (sym fault_is ∙ e) in record { last = a.last; least = least_is 21 a.last e a.least; block = a.block };
      }
    where
      go : (k : ℕ) → text_fault kind text ≡ k → 0 < k → (k ≡ 21 → ⊥) → LeastLines kind text (F L).line
      go zero e p z = absurd (omega arith)
      go (suc k) e p z = least_is (suc k) (F L).line e (d.least k (sym fault_is ∙ e) z)

pub fault_line : FaultLineTold
fault_line kind text g =
    subst (λ (w : Walk). FaultLine kind text w.line) (sym (whole_is kind text g))
    (of_line_lem kind text g (behind_lined kind (bom_length text) (lines_of (behind_bom text)) g (text_cut true (behind_bom text))))
