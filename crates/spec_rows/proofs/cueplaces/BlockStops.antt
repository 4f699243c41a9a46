-- SRT and WebVTT: where a walk of blocks stops, and the line that it tells.
use mathlib.Core.Path.{◌≡◌, refl, sym, ap, subst, ◌∙◌}
use mathlib.Core.Logic.{◌⊎◌, inl, inr, ⊎_elim}
use mathlib.Core.Bool.{Bool, true, false, cond, not, ◌&&◌}
use mathlib.Core.List.{List, [], ◌∷◌, ◌++◌, append_assoc, append-nil}
use Prim.Native.Nat.{ℕ, zero, suc, ◌+◌, ◌≤◌}
use native.Mathlib.Omega.{arith}
use borrow.Author.Tests.{ne_eqb}
use lib.Dec.{leb}
use lib.ListN.{length, drop}
use Rattle.spec_base.specs.base.Limits.{most_line, most_block}
use Rattle.spec_base.specs.base.Refusal.{◌or_else◌, fault_unless}
use Rattle.spec_text.specs.utf8.Utf8.{utf8}
use Rattle.spec_text.specs.text.Line.{concat, line_count, lines_of}
use Rattle.spec_cue.specs.block_timing.Style.{blank_in}
use Rattle.spec_cue.specs.block_timing.Arrow.{timing_of}
use Rattle.spec_cue.specs.block_cue.Block.{block_says}
use Rattle.promise.specs.Plain.{line_fault}
use Rattle.promise.specs.Whole.{ends_blank}
use Rattle.promise.proofs.LinesCut.{Cut, cut_tail, cut_behind, cut_before, many_append, concat_append}
use Rattle.spec_rows.specs.declared.caption_rows.Said.{Said}
use Rattle.spec_rows.specs.caption_rows.Said.{at_fault, quiet, block_said}
use Rattle.spec_rows.specs.caption_rows.Walk.{Walk, stopped, ◌then◌, block_turn, block_walk}
use Rattle.spec_rows.specs.cueplaces.FaultLine.{none_blank, head_lines, OneBlock}
use Rattle.spec_rows.proofs.cueplaces.Stops.{Stop, stop_now, stop_later, on_fault, on_line, at_fault_lem, at_line, zero_suc}
use Rattle.spec_rows.proofs.cueplaces.BlockMore.{said_only, Grown, Same, said_more}

-- ---- the checks of a line are 19 and 20
line_only : (x : ℕ) (l : List ℕ) (k : ℕ) → line_fault x l ≡ k → (k ≡ 0) ⊎ ((k ≡ 19) ⊎ (k ≡ 20))
unfolding line_fault fault_unless ◌or_else◌
line_only x l k e = go (leb (x + length l) most_line) (utf8 l) e
  where
    go : (a b : Bool) → (fault_unless a 19 or_else fault_unless b 20) ≡ k → (k ≡ 0) ⊎ ((k ≡ 19) ⊎ (k ≡ 20))
    go false b e = inr (inl (sym e))
    go true false e = inr (inr (sym e))
    go true true e = inl (sym e)

line_not : (x : ℕ) (l : List ℕ) (h k : ℕ) → line_fault x l ≡ suc h → (k ≡ 21) ⊎ (k ≡ 22) → suc h ≡ k → ⊥
line_not x l h k e (inl p) q = ⊎_elim (λ z. omega (arith, z, p, q)) (⊎_elim (λ z. omega (arith, z, p, q)) (λ z. omega (arith, z, p, q))) (line_only x l (suc h) e)
line_not x l h k e (inr p) q = ⊎_elim (λ z. omega (arith, z, p, q)) (⊎_elim (λ z. omega (arith, z, p, q)) (λ z. omega (arith, z, p, q))) (line_only x l (suc h) e)

-- ---- lists
none_more : (kind : ℕ) (ks : List (List ℕ)) (l : List ℕ) → none_blank kind ks ≡ true → blank_in kind l ≡ false → none_blank kind (ks ++ (l ∷ [])) ≡ true
none_more kind [] l a b = ap (λ (t : Bool). not t && true) b
none_more kind (k ∷ ks) l a b = go (not (blank_in kind k)) a (λ p. none_more kind ks l p b)
  where
    go : (t : Bool) → (t && none_blank kind ks) ≡ true → (none_blank kind ks ≡ true → none_blank kind (ks ++ (l ∷ [])) ≡ true) → (t && none_blank kind (ks ++ (l ∷ []))) ≡ true
    go true p ih = ih p
    go false p ih = p

ends_more : (kind : ℕ) (ls : List (List ℕ)) (l : List ℕ) → blank_in kind l ≡ true → ends_blank kind (ls ++ (l ∷ [])) ≡ true
ends_more kind [] l b = b
ends_more kind (k ∷ []) l b = b
ends_more kind (k ∷ (j ∷ ls)) l b = ends_more kind (j ∷ ls) l b

-- behind the first lines
drop_more : (h : ℕ) (ls : List (List ℕ)) (l : List ℕ) → h ≤ line_count ls → drop h (ls ++ (l ∷ [])) ≡ drop h ls ++ (l ∷ [])
drop_more zero ls l p = refl
drop_more (suc h) [] l p = absurd (omega arith)
drop_more (suc h) (k ∷ ls) l p = drop_more h ls l (omega arith)

module _ (kind : ℕ) (L : List (List ℕ)) where
  -- ---- the walk's clauses
  module _ (x i f n : ℕ) (b l : List ℕ) where
    abbrev S : Said
    S = block_turn kind x i f b n l

    abbrev W : List (List ℕ) → Walk
    W ks = cond (blank_in kind l) (block_walk kind 0 (i + length b + length l) (suc n) [] (suc n) ks) (block_walk kind 0 i f (b ++ l) (suc n) ks)

    pub clause : (ks : List (List ℕ)) → block_walk kind x i f b n (l ∷ ks) ≡ (S then W ks)
    unfolding block_walk
    clause ks = refl

    fault_on : (ks : List (List ℕ)) → S.number ≡ 0 → (block_walk kind x i f b n (l ∷ ks)).fault ≡ (W ks).fault
    fault_on ks q = ap (λ (w : Walk). w.fault) (clause ks) ∙ on_fault S (W ks) q

    line_on : (ks : List (List ℕ)) → S.number ≡ 0 → (block_walk kind x i f b n (l ∷ ks)).line ≡ (W ks).line
    line_on ks q = ap (λ (w : Walk). w.line) (clause ks) ∙ on_line S (W ks) q

    fault_at : (ks : List (List ℕ)) (h : ℕ) → S.number ≡ suc h → (block_walk kind x i f b n (l ∷ ks)).fault ≡ suc h
    fault_at ks h q = ap (λ (w : Walk). w.fault) (clause ks) ∙ at_fault_lem S (W ks) h q

    line_at : (ks : List (List ℕ)) (h : ℕ) → S.number ≡ suc h → (block_walk kind x i f b n (l ∷ ks)).line ≡ S.line
    line_at ks h q = ap (λ (w : Walk). w.line) (clause ks) ∙ at_line S (W ks) h q

    -- the turn, by its checks
    pub turn_bad : (h : ℕ) → line_fault x l ≡ suc h → S ≡ at_fault (suc h) (suc n)
    unfolding block_turn
    turn_bad h e = rw (e, ne_eqb (suc h) 0 (λ q. omega arith))

    pub turn_blank : line_fault x l ≡ 0 → blank_in kind l ≡ true → S ≡ block_said kind (suc f) i b
    unfolding block_turn
    turn_blank e q = rw (e, q)

    pub turn_long : line_fault x l ≡ 0 → blank_in kind l ≡ false → leb (length b + length l) most_block ≡ false → S ≡ at_fault 21 (suc f)
    unfolding block_turn
    turn_long e q r = rw (e, q, r)

    pub turn_fits : line_fault x l ≡ 0 → blank_in kind l ≡ false → leb (length b + length l) most_block ≡ true → S ≡ quiet
    unfolding block_turn
    turn_fits e q r = rw (e, q, r)

    pub next_blank : blank_in kind l ≡ true → (ks : List (List ℕ)) → W ks ≡ block_walk kind 0 (i + length b + length l) (suc n) [] (suc n) ks
    next_blank q ks = ap (λ (t : Bool). cond t (block_walk kind 0 (i + length b + length l) (suc n) [] (suc n) ks) (block_walk kind 0 i f (b ++ l) (suc n) ks)) q

    pub next_more : blank_in kind l ≡ false → (ks : List (List ℕ)) → W ks ≡ block_walk kind 0 i f (b ++ l) (suc n) ks
    next_more q ks = ap (λ (t : Bool). cond t (block_walk kind 0 (i + length b + length l) (suc n) [] (suc n) ks) (block_walk kind 0 i f (b ++ l) (suc n) ks)) q

  pub end_is : (x i f n : ℕ) (b : List ℕ) → block_walk kind x i f b n [] ≡ (block_said kind (suc f) i b then stopped 0 0)
  unfolding block_walk
  end_is x i f n b = refl

  end_fault : (x i f n : ℕ) (b : List ℕ) → (block_walk kind x i f b n []).fault ≡ (block_said kind (suc f) i b).number
  end_fault x i f n b = ap (λ (w : Walk). w.fault) (end_is x i f n b) ∙ go (block_said kind (suc f) i b).number refl
    where
      go : (t : ℕ) → (block_said kind (suc f) i b).number ≡ t → (block_said kind (suc f) i b then stopped 0 0).fault ≡ t
      go zero q = on_fault (block_said kind (suc f) i b) (stopped 0 0) q
      go (suc h) q = at_fault_lem (block_said kind (suc f) i b) (stopped 0 0) h q

  none_said : (f i : ℕ) → block_said kind f i [] ≡ quiet
  unfolding block_said block_says timing_of lines_of
  none_said f i = refl

  -- ---- no fault, no line
  pub block_quiet : (ls : List (List ℕ)) (x i f n : ℕ) (b : List ℕ) → (block_walk kind x i f b n ls).fault ≡ 0 → (block_walk kind x i f b n ls).line ≡ 0
  block_quiet [] x i f n b e =
      ap (λ (w : Walk). w.line) (end_is x i f n b) ∙ on_line (block_said kind (suc f) i b) (stopped 0 0) (sym (end_fault x i f n b) ∙ e)
  block_quiet (l ∷ ls) x i f n b e =
      go (block_turn kind x i f b n l).number refl (block_quiet ls 0 (i + length b + length l) (suc n) (suc n) []) (block_quiet ls 0 i f (suc n) (b ++ l))
    where
      rest : (t : Bool) → blank_in kind l ≡ t
          → ((block_walk kind 0 (i + length b + length l) (suc n) [] (suc n) ls).fault ≡ 0 → (block_walk kind 0 (i + length b + length l) (suc n) [] (suc n) ls).line ≡ 0)
          → ((block_walk kind 0 i f (b ++ l) (suc n) ls).fault ≡ 0 → (block_walk kind 0 i f (b ++ l) (suc n) ls).line ≡ 0)
          → (W x i f n b l ls).fault ≡ 0 → (W x i f n b l ls).line ≡ 0
      rest true q u v r = ap (λ (w : Walk). w.line) (next_blank x i f n b l q ls) ∙ u (ap (λ (w : Walk). w.fault) (sym (next_blank x i f n b l q ls)) ∙ r)
      rest false q u v r = ap (λ (w : Walk). w.line) (next_more x i f n b l q ls) ∙ v (ap (λ (w : Walk). w.fault) (sym (next_more x i f n b l q ls)) ∙ r)

      go : (t : ℕ) → (block_turn kind x i f b n l).number ≡ t
          → ((block_walk kind 0 (i + length b + length l) (suc n) [] (suc n) ls).fault ≡ 0 → (block_walk kind 0 (i + length b + length l) (suc n) [] (suc n) ls).line ≡ 0)
          → ((block_walk kind 0 i f (b ++ l) (suc n) ls).fault ≡ 0 → (block_walk kind 0 i f (b ++ l) (suc n) ls).line ≡ 0)
          → (block_walk kind x i f b n (l ∷ ls)).line ≡ 0
      go zero q u v = line_on x i f n b l ls q ∙ rest (blank_in kind l) refl u v (sym (fault_on x i f n b l ls q) ∙ e)
      go (suc h) q u v = zero_suc h (sym e ∙ fault_at x i f n b l ls h q)

  -- ---- the line told by a walk that stops with the fault k behind n + p lines
  pub record Told (k line last : ℕ) : Type 0 where
    pub other : (k ≡ 21 → ⊥) → line ≡ last
    pub long : k ≡ 21 → OneBlock kind L line last

  told_same : (k a b u v : ℕ) → a ≡ b → u ≡ v → Told k a u → Told k b v
  told_same k a b u v p q t = subst (λ (y : ℕ). Told k b y) q (subst (λ (z : ℕ). Told k z u) p t)

  -- the open block is at fault already, with this line
  abbrev Held : (x i f n : ℕ) → List ℕ → List (List ℕ) → ℕ → Type 0
  Held x i f n b ls k = ((block_said kind (suc f) i b).number ≡ k) × ((block_walk kind x i f b n ls).line ≡ (block_said kind (suc f) i b).line)

  abbrev Stops : (x i f n : ℕ) → List ℕ → List (List ℕ) → ℕ → Type 0
  Stops x i f n b ls k = Stop (block_walk kind x i f b n) ls k (λ p. Told k (block_walk kind x i f b n ls).line (suc n + p))

  -- the block is open behind the lines `done`, with the lines ks
  pub record Opened (done ks ls : List (List ℕ)) (n : ℕ) : Type 0 where
    pub all : L ≡ done ++ (ks ++ ls)
    pub cut : Cut (ks ++ ls)
    pub count : n ≡ line_count done + line_count ks
    pub filled : none_blank kind ks ≡ true
    pub closed : ends_blank kind (drop (head_lines kind) done) ≡ true
    pub head : head_lines kind ≤ line_count done

  -- a line more
  pub open_more : (done ks ls : List (List ℕ)) (l : List ℕ) (n : ℕ) → Opened done ks (l ∷ ls) n → blank_in kind l ≡ false → Opened done (ks ++ (l ∷ [])) ls (suc n)
  open_more done ks ls l n o q =
      let k1 = many_append ks (l ∷ []) in
      record {
        all = o.all ∙ ap (λ (y : List (List ℕ)). done ++ y) (sym (append_assoc ks (l ∷ []) ls));
        cut = subst Cut (sym (append_assoc ks (l ∷ []) ls)) o.cut;
        count = omega (arith, k1, o.count);
        filled = none_more kind ks l o.filled q;
        closed = o.closed;
        head = o.head;
      }

  -- a blank line
  pub open_blank : (done ks ls : List (List ℕ)) (l : List ℕ) (n : ℕ) → Opened done ks (l ∷ ls) n → blank_in kind l ≡ true → Opened (done ++ (ks ++ (l ∷ []))) [] ls (suc n)
  open_blank done ks ls l n o q =
      let k1 = many_append done (ks ++ (l ∷ [])) in
      let k2 = many_append ks (l ∷ []) in
      let k3 = many_append done ks in
      record {
        all = o.all ∙ ap (λ (y : List (List ℕ)). done ++ y) (sym (append_assoc ks (l ∷ []) ls)) ∙ sym (append_assoc done (ks ++ (l ∷ [])) ls);
        cut = cut_tail l ls (cut_behind ks (l ∷ ls) o.cut);
        count = omega (arith, k1, k2, o.count);
        filled = refl;
        closed =
            ap (ends_blank kind) (ap (drop (head_lines kind)) (sym (append_assoc done ks (l ∷ []))) ∙ drop_more (head_lines kind) (done ++ ks) l (omega (arith, k3, o.head)))
            ∙ ends_more kind (drop (head_lines kind) (done ++ ks)) l q;
        head = omega (arith, k1, o.head);
      }

  -- ---- where it stops
  module _ (k : ℕ) where
    -- a line that is too long or not UTF-8
    stop_bad : (done ks ls : List (List ℕ)) (l : List ℕ) (x i n h : ℕ) → Opened done ks (l ∷ ls) n → line_fault x l ≡ suc h → (block_walk kind x i (line_count done) (concat ks) n (l ∷ ls)).fault ≡ suc k
        → Stops x i (line_count done) n (concat ks) (l ∷ ls) (suc k)
    stop_bad done ks ls l x i n h o e g =
        let s = turn_bad x i (line_count done) n (concat ks) l h e in
        let num : (block_turn kind x i (line_count done) (concat ks) n l).number ≡ suc h = ap (λ (y : Said). y.number) s in
        let hk : suc h ≡ suc k = sym (fault_at x i (line_count done) n (concat ks) l ls h num) ∙ g in
        let line : (block_walk kind x i (line_count done) (concat ks) n (l ∷ ls)).line ≡ suc n = line_at x i (line_count done) n (concat ks) l ls h num ∙ ap (λ (y : Said). y.line) s in
        stop_now (block_walk kind x i (line_count done) (concat ks) n) l ls (suc k) (λ p. Told (suc k) (block_walk kind x i (line_count done) (concat ks) n (l ∷ ls)).line (suc n + p))
        (λ q. line_not x l h 22 e (inr refl) (hk ∙ said_only kind (suc (line_count done)) i ks (cut_before ks (l ∷ ls) o.cut) k (sym (end_fault x i (line_count done) n (concat ks)) ∙ q)))
        (fault_at x i (line_count done) n (concat ks) l [] h num ∙ hk)
        (record { other = λ z. line ∙ (let y : suc n ≡ suc n + 0 = omega arith in y); long = λ z. absurd (line_not x l h 21 e (inl refl) (hk ∙ z)) })

    -- a block that is too long
    stop_long : (done ks ls : List (List ℕ)) (l : List ℕ) (x i n : ℕ) → Opened done ks (l ∷ ls) n → line_fault x l ≡ 0 → blank_in kind l ≡ false → leb (length (concat ks) + length l) most_block ≡ false
        → (block_walk kind x i (line_count done) (concat ks) n (l ∷ ls)).fault ≡ suc k → Stops x i (line_count done) n (concat ks) (l ∷ ls) (suc k)
    stop_long done ks ls l x i n o e q r g =
        let s = turn_long x i (line_count done) n (concat ks) l e q r in
        let num : (block_turn kind x i (line_count done) (concat ks) n l).number ≡ 21 = ap (λ (y : Said). y.number) s in
        let hk : ◌≡◌ {A = ℕ} 21 (suc k) = sym (fault_at x i (line_count done) n (concat ks) l ls 20 num) ∙ g in
        let line : (block_walk kind x i (line_count done) (concat ks) n (l ∷ ls)).line ≡ suc (line_count done) = line_at x i (line_count done) n (concat ks) l ls 20 num ∙ ap (λ (y : Said). y.line) s in
        let m = many_append ks (l ∷ []) in
        let block : OneBlock kind L (suc (line_count done)) (suc n + 0) =
        record {
          before = done;
          body = ks ++ (l ∷ []);
          behind = ls;
          cut = o.all ∙ ap (λ (y : List (List ℕ)). done ++ y) (sym (append_assoc ks (l ∷ []) ls));
          opens = refl;
          ends = omega (arith, m, o.count);
          order = omega (arith, o.count);
          filled = none_more kind ks l o.filled q;
          closed = o.closed;
        } in
        stop_now (block_walk kind x i (line_count done) (concat ks) n) l ls (suc k) (λ p. Told (suc k) (block_walk kind x i (line_count done) (concat ks) n (l ∷ ls)).line (suc n + p))
        (λ y. let z = said_only kind (suc (line_count done)) i ks (cut_before ks (l ∷ ls) o.cut) k (sym (end_fault x i (line_count done) n (concat ks)) ∙ y) in omega (arith, z, hk))
        (fault_at x i (line_count done) n (concat ks) l [] 20 num ∙ hk)
        (record { other = λ z. absurd (z (sym hk)); long = λ z. subst (λ (y : ℕ). OneBlock kind L y (suc n + 0)) (sym line) block })

    -- a blank line that closes the block
    stop_blank : (done ks ls : List (List ℕ)) (l : List ℕ) (x i n : ℕ) → line_fault x l ≡ 0 → blank_in kind l ≡ true
        → (block_walk kind x i (line_count done) (concat ks) n (l ∷ ls)).fault ≡ suc k
        → ((block_walk kind 0 (i + length (concat ks) + length l) (suc n) [] (suc n) ls).fault ≡ suc k → Stops 0 (i + length (concat ks) + length l) (suc n) (suc n) [] ls (suc k))
        → Held x i (line_count done) n (concat ks) (l ∷ ls) (suc k) ⊎ Stops x i (line_count done) n (concat ks) (l ∷ ls) (suc k)
    stop_blank done ks ls l x i n e q g ih = go (block_said kind (suc (line_count done)) i (concat ks)).number refl
      where
        go : (t : ℕ) → (block_said kind (suc (line_count done)) i (concat ks)).number ≡ t → Held x i (line_count done) n (concat ks) (l ∷ ls) (suc k) ⊎ Stops x i (line_count done) n (concat ks) (l ∷ ls) (suc k)
        go (suc h) z =
            let s = turn_blank x i (line_count done) n (concat ks) l e q in
            let num : (block_turn kind x i (line_count done) (concat ks) n l).number ≡ suc h = ap (λ (y : Said). y.number) s ∙ z in
            let hk : suc h ≡ suc k = sym (fault_at x i (line_count done) n (concat ks) l ls h num) ∙ g in
            inl (z ∙ hk, line_at x i (line_count done) n (concat ks) l ls h num ∙ ap (λ (y : Said). y.line) s)
        go zero z =
            let s = turn_blank x i (line_count done) n (concat ks) l e q in
            let num : (block_turn kind x i (line_count done) (concat ks) n l).number ≡ 0 = ap (λ (y : Said). y.number) s ∙ z in
            let on : (js : List (List ℕ)) → (block_walk kind x i (line_count done) (concat ks) n (l ∷ js)).fault ≡ (block_walk kind 0 (i + length (concat ks) + length l) (suc n) [] (suc n) js).fault =
            λ js. fault_on x i (line_count done) n (concat ks) l js num ∙ ap (λ (w : Walk). w.fault) (next_blank x i (line_count done) n (concat ks) l q js) in
            let line : (block_walk kind 0 (i + length (concat ks) + length l) (suc n) [] (suc n) ls).line ≡ (block_walk kind x i (line_count done) (concat ks) n (l ∷ ls)).line =
            sym (line_on x i (line_count done) n (concat ks) l ls num ∙ ap (λ (w : Walk). w.line) (next_blank x i (line_count done) n (concat ks) l q ls)) in
            inr
            (stop_later (block_walk kind x i (line_count done) (concat ks) n) (block_walk kind 0 (i + length (concat ks) + length l) (suc n) [] (suc n)) l ls (suc k)
            (λ p. Told (suc k) (block_walk kind x i (line_count done) (concat ks) n (l ∷ ls)).line (suc n + p))
            (λ p. Told (suc k) (block_walk kind 0 (i + length (concat ks) + length l) (suc n) [] (suc n) ls).line (suc (suc n) + p)) on
            (λ y. zero_suc k (sym z ∙ sym (end_fault x i (line_count done) n (concat ks)) ∙ y))
            (λ p t. told_same (suc k) _ _ (suc (suc n) + p) (suc n + suc p) line (let y : suc (suc n) + p ≡ suc n + suc p = omega arith in y) t)
            (ih (sym (on ls) ∙ g)))

    -- a line more of the block
    stop_fits : (done ks ls : List (List ℕ)) (l : List ℕ) (x i n : ℕ) → Opened done ks (l ∷ ls) n → line_fault x l ≡ 0 → blank_in kind l ≡ false → leb (length (concat ks) + length l) most_block ≡ true
        → (block_walk kind x i (line_count done) (concat ks) n (l ∷ ls)).fault ≡ suc k
        → ((block_walk kind 0 i (line_count done) (concat (ks ++ (l ∷ []))) (suc n) ls).fault ≡ suc k
        → Held 0 i (line_count done) (suc n) (concat (ks ++ (l ∷ []))) ls (suc k) ⊎ Stops 0 i (line_count done) (suc n) (concat (ks ++ (l ∷ []))) ls (suc k))
        → Held x i (line_count done) n (concat ks) (l ∷ ls) (suc k) ⊎ Stops x i (line_count done) n (concat ks) (l ∷ ls) (suc k)
    stop_fits done ks ls l x i n o e q r g ih = go (said_more kind (suc (line_count done)) i ks l c1 c2) (ih (sym (on ls) ∙ g))
      where
        c1 : Cut ks
        c1 = cut_before ks (l ∷ ls) o.cut

        c2 : Cut (ks ++ (l ∷ []))
        c2 = cut_before (ks ++ (l ∷ [])) ls (subst Cut (sym (append_assoc ks (l ∷ []) ls)) o.cut)

        num : (block_turn kind x i (line_count done) (concat ks) n l).number ≡ 0
        num = ap (λ (y : Said). y.number) (turn_fits x i (line_count done) n (concat ks) l e q r)

        bytes : concat ks ++ l ≡ concat (ks ++ (l ∷ []))
        bytes = sym (concat_append ks (l ∷ []) ∙ ap (λ (y : List ℕ). concat ks ++ y) (append-nil l))

        next : (js : List (List ℕ)) → W x i (line_count done) n (concat ks) l js ≡ block_walk kind 0 i (line_count done) (concat (ks ++ (l ∷ []))) (suc n) js
        next js = next_more x i (line_count done) n (concat ks) l q js ∙ ap (λ (b : List ℕ). block_walk kind 0 i (line_count done) b (suc n) js) bytes

        on : (js : List (List ℕ)) → (block_walk kind x i (line_count done) (concat ks) n (l ∷ js)).fault ≡ (block_walk kind 0 i (line_count done) (concat (ks ++ (l ∷ []))) (suc n) js).fault
        on js = fault_on x i (line_count done) n (concat ks) l js num ∙ ap (λ (w : Walk). w.fault) (next js)

        line : (block_walk kind x i (line_count done) (concat ks) n (l ∷ ls)).line ≡ (block_walk kind 0 i (line_count done) (concat (ks ++ (l ∷ []))) (suc n) ls).line
        line = line_on x i (line_count done) n (concat ks) l ls num ∙ ap (λ (w : Walk). w.line) (next ls)

        empty : (block_walk kind x i (line_count done) (concat ks) n []).fault ≡ (block_said kind (suc (line_count done)) i (concat ks)).number
        empty = end_fault x i (line_count done) n (concat ks)

        one : (block_walk kind 0 i (line_count done) (concat (ks ++ (l ∷ []))) (suc n) []).fault ≡ (block_said kind (suc (line_count done)) i (concat (ks ++ (l ∷ [])))).number
        one = end_fault 0 i (line_count done) (suc n) (concat (ks ++ (l ∷ [])))

        past : ((block_said kind (suc (line_count done)) i (concat ks)).number ≡ suc k → ⊥) → Stops 0 i (line_count done) (suc n) (concat (ks ++ (l ∷ []))) ls (suc k)
            → Held x i (line_count done) n (concat ks) (l ∷ ls) (suc k) ⊎ Stops x i (line_count done) n (concat ks) (l ∷ ls) (suc k)
        past fresh s =
            inr
            (stop_later (block_walk kind x i (line_count done) (concat ks) n) (block_walk kind 0 i (line_count done) (concat (ks ++ (l ∷ []))) (suc n)) l ls (suc k)
            (λ p. Told (suc k) (block_walk kind x i (line_count done) (concat ks) n (l ∷ ls)).line (suc n + p))
            (λ p. Told (suc k) (block_walk kind 0 i (line_count done) (concat (ks ++ (l ∷ []))) (suc n) ls).line (suc (suc n) + p)) on
            (λ y. fresh (sym empty ∙ y))
            (λ p t. told_same (suc k) _ _ (suc (suc n) + p) (suc n + suc p) (sym line) (let y : suc (suc n) + p ≡ suc n + suc p = omega arith in y) t) s)

        go : Same kind (suc (line_count done)) i (block_said kind (suc (line_count done)) i (concat ks)) (block_said kind (suc (line_count done)) i (concat (ks ++ (l ∷ []))))
            ⊎ Grown kind (suc (line_count done)) i (block_said kind (suc (line_count done)) i (concat ks)) (block_said kind (suc (line_count done)) i (concat (ks ++ (l ∷ [])))) (suc (line_count done) + line_count ks)
            → Held 0 i (line_count done) (suc n) (concat (ks ++ (l ∷ []))) ls (suc k) ⊎ Stops 0 i (line_count done) (suc n) (concat (ks ++ (l ∷ []))) ls (suc k)
            → Held x i (line_count done) n (concat ks) (l ∷ ls) (suc k) ⊎ Stops x i (line_count done) n (concat ks) (l ∷ ls) (suc k)
        go (inl m) (inl a) = inl (sym m.0 ∙ a.0, line ∙ a.1 ∙ m.1)
        go (inl m) (inr s) = past (λ y. s.least 0 (omega arith) (one ∙ m.0 ∙ y)) s
        go (inr m) (inr s) = past (λ y. zero_suc k (sym m.quiet ∙ y)) s
        go (inr m) (inl a) =
            inr
            (stop_now (block_walk kind x i (line_count done) (concat ks) n) l ls (suc k) (λ p. Told (suc k) (block_walk kind x i (line_count done) (concat ks) n (l ∷ ls)).line (suc n + p))
            (λ y. zero_suc k (sym m.quiet ∙ sym empty ∙ y)) (on [] ∙ one ∙ a.0)
            (record {
              other = λ z. line ∙ a.1 ∙ m.new k a.0 ∙ (let y : suc (line_count done) + line_count ks ≡ suc n + 0 = omega (arith, o.count) in y);
              long = λ z. absurd (let y = said_only kind (suc (line_count done)) i (ks ++ (l ∷ [])) c2 k a.0 in omega (arith, y, z));
            }))

    abbrev Answer : (x i f n : ℕ) → List ℕ → List (List ℕ) → Type 0
    Answer x i f n b ls = (block_walk kind x i f b n ls).fault ≡ suc k → Held x i f n b ls (suc k) ⊎ Stops x i f n b ls (suc k)

    -- an empty block is not at fault
    not_held : (x i f n : ℕ) (ls : List (List ℕ)) → Held x i f n [] ls (suc k) ⊎ Stops x i f n [] ls (suc k) → Stops x i f n [] ls (suc k)
    not_held x i f n ls (inl a) = zero_suc k (sym (ap (λ (s : Said). s.number) (none_said (suc f) i)) ∙ a.0)
    not_held x i f n ls (inr s) = s

    stop_line : (ls done ks : List (List ℕ)) (l : List ℕ) (x i n : ℕ) → Opened done ks (l ∷ ls) n
        → (Opened (done ++ (ks ++ (l ∷ []))) [] ls (suc n) → Answer 0 (i + length (concat ks) + length l) (line_count (done ++ (ks ++ (l ∷ [])))) (suc n) [] ls)
        → (Opened done (ks ++ (l ∷ [])) ls (suc n) → Answer 0 i (line_count done) (suc n) (concat (ks ++ (l ∷ []))) ls) → Answer x i (line_count done) n (concat ks) (l ∷ ls)
    stop_line ls done ks l x i n o shut more g = bad (line_fault x l) refl
      where
        many : line_count (done ++ (ks ++ (l ∷ []))) ≡ suc n
        many = let m1 = many_append done (ks ++ (l ∷ [])) in let m2 = many_append ks (l ∷ []) in omega (arith, m1, m2, o.count)

        closed : blank_in kind l ≡ true → (block_walk kind 0 (i + length (concat ks) + length l) (suc n) [] (suc n) ls).fault ≡ suc k → Stops 0 (i + length (concat ks) + length l) (suc n) (suc n) [] ls (suc k)
        closed q y =
            not_held 0 (i + length (concat ks) + length l) (suc n) (suc n) ls
            (subst (λ (f : ℕ). Answer 0 (i + length (concat ks) + length l) f (suc n) [] ls) many (shut (open_blank done ks ls l n o q)) y)

        fits : (t : Bool) → leb (length (concat ks) + length l) most_block ≡ t → line_fault x l ≡ 0 → blank_in kind l ≡ false
            → Held x i (line_count done) n (concat ks) (l ∷ ls) (suc k) ⊎ Stops x i (line_count done) n (concat ks) (l ∷ ls) (suc k)
        fits false r e q = inr (stop_long done ks ls l x i n o e q r g)
        fits true r e q = stop_fits done ks ls l x i n o e q r g (more (open_more done ks ls l n o q))

        blanks : (t : Bool) → blank_in kind l ≡ t → line_fault x l ≡ 0 → Held x i (line_count done) n (concat ks) (l ∷ ls) (suc k) ⊎ Stops x i (line_count done) n (concat ks) (l ∷ ls) (suc k)
        blanks true q e = stop_blank done ks ls l x i n e q g (closed q)
        blanks false q e = fits (leb (length (concat ks) + length l) most_block) refl e q

        bad : (h : ℕ) → line_fault x l ≡ h → Held x i (line_count done) n (concat ks) (l ∷ ls) (suc k) ⊎ Stops x i (line_count done) n (concat ks) (l ∷ ls) (suc k)
        bad (suc h) e = inr (stop_bad done ks ls l x i n h o e g)
        bad zero e = blanks (blank_in kind l) refl e

    stop_any : (ls done ks : List (List ℕ)) (x i n : ℕ) → Opened done ks ls n → Answer x i (line_count done) n (concat ks) ls
    stop_any [] done ks x i n o g =
        let z : (block_said kind (suc (line_count done)) i (concat ks)).number ≡ suc k = sym (end_fault x i (line_count done) n (concat ks)) ∙ g in
        inl (z, ap (λ (w : Walk). w.line) (end_is x i (line_count done) n (concat ks)) ∙ at_line (block_said kind (suc (line_count done)) i (concat ks)) (stopped 0 0) k z)
    stop_any (l ∷ ls) done ks x i n o g =
        stop_line ls done ks l x i n o (stop_any ls (done ++ (ks ++ (l ∷ []))) [] 0 (i + length (concat ks) + length l) (suc n)) (stop_any ls done (ks ++ (l ∷ [])) 0 i (suc n)) g

    -- from no open block on
    pub block_stop : (ls done : List (List ℕ)) (x i : ℕ) → Opened done [] ls (line_count done) → (block_walk kind x i (line_count done) [] (line_count done) ls).fault ≡ suc k
        → Stop (block_walk kind x i (line_count done) [] (line_count done)) ls (suc k) (λ p. Told (suc k) (block_walk kind x i (line_count done) [] (line_count done) ls).line (suc (line_count done) + p))
    block_stop ls done x i o g = not_held x i (line_count done) (line_count done) ls (stop_any ls done [] x i (line_count done) o g)
