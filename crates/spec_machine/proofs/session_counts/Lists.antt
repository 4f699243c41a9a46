-- For every list of calls the sessions answer as the plain reader does.
use mathlib.Core.Path.{◌≡◌, refl, sym, ap, ap₂, subst, ◌∙◌}
use mathlib.Core.Logic.{inl, inr}
use mathlib.Core.Bool.{Bool, true, false, not, true≢false}
use mathlib.Core.List.{List, [], ◌∷◌, ◌++◌, append-nil, append_assoc}
use Prim.Native.Nat.{ℕ, suc, ◌+◌, ◌≤◌}
use native.Mathlib.Omega.{arith}
use lib.Dec.{ltb, eqb}
use lib.ListN.{length, length-append}
use borrow.Author.Tests.{ltb-false}
use Rattle.spec_base.specs.base.Limits.{most_taken, most_piece, least_output, least_places}
use Rattle.spec_base.proofs.base.Laws.{or_right}
use Rattle.spec_map.specs.segment.Segment.{map_bad, segments_of}
use Rattle.spec_caption.specs.declared.caption_fate.Config.{Config}
use Rattle.spec_caption.specs.caption_fate.Says.{Part, captions_in}
use Rattle.spec_caption.specs.caption_fate.Emit.{Emit, Warning, output_of, warnings_of}
use Rattle.spec_machine.specs.declared.session_counts.Counts.{Counts}
use Rattle.spec_machine.specs.session_counts.Counts.{no_counts, count_all, counts_of}
use Rattle.spec_machine.specs.session_counts.Cut.{closed_lines, unfinished}
use Rattle.spec_machine.specs.session_counts.Machine.{Machine, Says, faulty, says, Run, going, stopped, run, finish_run, rest_of}
use Rattle.spec_machine.specs.session_counts.Reader.{Reading, reading, read_text}
use Rattle.spec_machine.specs.session_counts.Session.{is_outcome, outcome_bad, config_bad, Session, Kit, Call, feed, finish, lent_of, piece_of, argument_bad, refuse, gate}
use Rattle.spec_machine.specs.session_counts.Session.{foreign, blank_of, fresh, Answer, settle, resume, accepted, respond, answer, emitted}
use Rattle.spec_machine.specs.session_counts.Calls.{Played, Reader, Heard, ReaderAnswer, play, ProperCall, Proper, reader_accepts, reader_answer, new_reader, hear, reading_of, SameAsReader}
use Rattle.spec_machine.proofs.session_counts.Emits.{emits_append, emits_none, output_append, output_none, warnings_append, warnings_none, count_append, count_none, total_parts}
use Rattle.spec_machine.proofs.session_counts.Bytes.{ran_to, begin, bytes_reading}
use Rattle.spec_machine.proofs.session_counts.Resume.{after, ByFault, run_append, run_after, finish_after, run_fault, Stopped, finish_stops}
use Rattle.spec_machine.proofs.session_counts.CutLaws.{has_none}
use Rattle.spec_machine.proofs.session_counts.ReaderGate.{reader_responds, reader_gated}
use Rattle.spec_machine.proofs.session_counts.Laws.{Lawful}
use Rattle.spec_machine.proofs.session_counts.Keeps.{Kept as LineKept, Going, run_keeps}
use Rattle.spec_machine.proofs.session_counts.Numbers.{OfText, of_outcome, lines_number}
use Rattle.spec_machine.proofs.session_counts.Native.{GoingOk, Ok, text_ok, finish_ok, not_foreign}

module _ {σ κ : Type 0} (K : Kit σ κ) (c : Config) (m : List ℕ) (L : Lawful K c.kind) (cOk : config_bad c ≡ false) where
  abbrev pub M : Machine σ
  M = K.machine c.kind

  abbrev pub read : Bool → List ℕ → Reading
  read f t = read_text M f t

  -- the parts through the map, and their counts
  abbrev pub E : List Part → List Emit
  E ps = emitted c m ps

  abbrev pub counted : List Part → Counts
  counted ps = counts_of (E ps)

  counted_more : (ps new : List Part) → counted (ps ++ new) ≡ count_all (counted ps) (E new)
  counted_more ps new = ap counts_of (emits_append c (segments_of m) ps new) ∙ count_append no_counts (E ps) (E new)

  abbrev pub live_session : ℕ → σ → ℕ → List ℕ → Counts → Session κ
  live_session t s n h k = record { config = c; taken = t; lines = n; held = K.pack s h; known = K.known s; counts = k; outcome = 0; ended = false }

  abbrev pub dead_session : ℕ → ℕ → Counts → Session κ
  dead_session t x k = blank_of K c x true t k

  abbrev pub reader_at : List ℕ → Bool → Bool → Reader
  reader_at t f e = record { text = t; finished = f; ended = e }

  -- the session, the parts of all calls so far, and the reader
  pub data Inv : Session κ → List Part → Reader → Type 0 where
    live : (t : List ℕ) (s : σ) (n : ℕ) (h : List ℕ) (ps : List Part) → run M (begin M) t ≡ going s n h ps → length t ≤ most_taken
        → Inv (live_session (length t) s n h (counted ps)) ps (reader_at t false false)
    dead : (t : List ℕ) (f : Bool) (k : ℕ) (ps : List Part) → read f t ≡ reading k ps → captions_in ps ≤ length t → length t ≤ most_taken
        → Inv (dead_session (length t) k (counted ps)) ps (reader_at t f true)

  pub record Kept (a : Answer κ) (ps : List Part) (b : ReaderAnswer) : Type 0 where
    pub number : a.number ≡ b.number
    pub new : List Part
    pub emits : a.emits ≡ E new
    pub inv : Inv a.session (ps ++ new) b.reader

  refused : (s : Session κ) (ps : List Part) (r : Reader) (k : ℕ) (x : Call) → Inv s ps r
      → Kept (respond K (refuse k) s x) ps (reader_responds read (refuse k) r x)
  refused s ps r k x i =
      record {
        number = refl;
        new = [];
        emits = sym (emits_none c (segments_of m));
        inv = subst (λ (l : List Part). Inv s l r) (sym (append-nil ps)) i;
      }

  -- an accepted feed, by how its run ends
  abbrev reader_fed : List ℕ → ℕ → ReaderAnswer
  reader_fed t k = record { number = k; reader = reader_at t false (not (eqb k 0)) }

  fed_by : (t : List ℕ) (s : σ) (n : ℕ) (h : List ℕ) (ps : List Part) (piece : List ℕ) (q : Run σ)
      → run M (begin M) (t ++ piece) ≡ after ps q → ByFault q → Ok K c.kind L 0 (length (t ++ piece)) (after ps q)
      → read false (t ++ piece) ≡ ran_to (after ps q) → length t + length piece ≤ most_taken
      → Kept (settle K (live_session (length t) s n h (counted ps)) (length t + length piece) m q) ps (reader_fed (t ++ piece) (ran_to (after ps q)).fault)
  fed_by t s n h ps piece (going s2 n2 h2 new) e f o w q =
      record {
        number = refl;
        new = new;
        emits = refl;
        inv =
            subst (λ (x : Session κ). Inv x (ps ++ new) (reader_at (t ++ piece) false false))
            (ap₂ (λ (a : ℕ) (b : Counts). live_session a s2 n2 h2 b) (length-append t piece) (counted_more ps new))
            (live (t ++ piece) s2 n2 h2 (ps ++ new) e (rw (length-append t piece) q));
      }
  fed_by t s n h ps piece (stopped k new) e f o w q =
      record {
        number = refl;
        new = new;
        emits = refl;
        inv =
            subst (λ (x : Session κ). Inv x (ps ++ new) (reader_fed (t ++ piece) k).reader)
            (ap₂ (λ (a : ℕ) (b : Counts). dead_session a k b) (length-append t piece) (counted_more ps new))
            (rw f (dead (t ++ piece) false k (ps ++ new) w (omega (arith, o)) (rw (length-append t piece) q)));
      }

  fed : (t : List ℕ) (s : σ) (n : ℕ) (h : List ℕ) (ps : List Part) → run M (begin M) t ≡ going s n h ps
      → (piece : List ℕ) → length t + length piece ≤ most_taken
      → Kept (settle K (live_session (length t) s n h (counted ps)) (length t + length piece) m (run M (going s n h []) piece)) ps
      (reader_fed (t ++ piece) (read false (t ++ piece)).fault)
  fed t s n h ps e piece q =
      subst (λ (k : ℕ). Kept (settle K (live_session (length t) s n h (counted ps)) (length t + length piece) m (run M (going s n h []) piece)) ps (reader_fed (t ++ piece) k))
      (ap (λ (r : Reading). r.fault) (sym same))
      (fed_by t s n h ps piece (run M (going s n h []) piece) whole (run_fault M (going s n h []) piece tt)
      (subst (λ (r : Run σ). Ok K c.kind L 0 (length (t ++ piece)) r) whole (text_ok K c.kind L 0 (t ++ piece))) same q)
    where
      whole : run M (begin M) (t ++ piece) ≡ after ps (run M (going s n h []) piece)
      whole =
          run_append M (begin M) t piece
          ∙ ap (λ (r : Run σ). run M r piece) (e ∙ ap (going s n h) (sym (append-nil ps)))
          ∙ run_after M ps (going s n h []) piece

      same : read false (t ++ piece) ≡ ran_to (after ps (run M (going s n h []) piece))
      same = sym (bytes_reading M false (t ++ piece)) ∙ ap ran_to whole

  -- an accepted finish
  abbrev reader_done : List ℕ → ℕ → ReaderAnswer
  reader_done t k = record { number = k; reader = reader_at t true true }

  done_by : (t : List ℕ) (s : σ) (n : ℕ) (h : List ℕ) (ps : List Part) (q : Run σ)
      → Stopped M q → Ok K c.kind L 0 (length t) (after ps q) → read true t ≡ ran_to (after ps q) → length t ≤ most_taken
      → Kept (settle K (live_session (length t) s n h (counted ps)) (length t) m q) ps (reader_done t (ran_to (after ps q)).fault)
  done_by t s n h ps (going s2 n2 h2 new) f o w q = absurd f
  done_by t s n h ps (stopped k new) f o w q =
      record {
        number = refl;
        new = new;
        emits = refl;
        inv =
            subst (λ (x : Session κ). Inv x (ps ++ new) (reader_at t true true))
            (ap (λ (b : Counts). dead_session (length t) k b) (counted_more ps new))
            (dead t true k (ps ++ new) w (omega (arith, o)) q);
      }

  done : (t : List ℕ) (s : σ) (n : ℕ) (h : List ℕ) (ps : List Part) → run M (begin M) t ≡ going s n h ps → length t ≤ most_taken
      → Kept (settle K (live_session (length t) s n h (counted ps)) (length t) m (finish_run M (going s n h []))) ps (reader_done t (read true t).fault)
  done t s n h ps e q =
      subst (λ (k : ℕ). Kept (settle K (live_session (length t) s n h (counted ps)) (length t) m (finish_run M (going s n h []))) ps (reader_done t k))
      (ap (λ (r : Reading). r.fault) (sym same))
      (done_by t s n h ps (finish_run M (going s n h [])) (finish_stops M (rest_of n h) s n h [])
      (subst (λ (r : Run σ). Ok K c.kind L 0 (length t) r) (finish_after M ps (going s n h []))
      (subst (λ (x : List Part). Ok K c.kind L 0 (length t) (finish_run M (going s n h x))) (sym (append-nil ps))
      (finish_ok K c.kind L 0 (length t) s n h ps (subst (λ (r : Run σ). Ok K c.kind L 0 (length t) r) e (text_ok K c.kind L 0 t))))) same q)
    where
      whole : finish_run M (run M (begin M) t) ≡ after ps (finish_run M (going s n h []))
      whole =
          ap (finish_run M) (e ∙ ap (going s n h) (sym (append-nil ps)))
          ∙ finish_after M ps (going s n h [])

      same : read true t ≡ ran_to (after ps (finish_run M (going s n h [])))
      same = sym (bytes_reading M true t) ∙ ap ran_to whole

  -- the text is at most 2^30 bytes long after an admitted call
  room : (t : ℕ) (x : Call) → argument_bad t x ≡ false → t + length (piece_of x) ≤ most_taken
  room t x e =
      ltb-false most_taken (t + length (piece_of x))
      (or_right (ltb (lent_of x).place_count least_places) _ (or_right (ltb (lent_of x).out_length least_output) _ (or_right (ltb most_piece (length (piece_of x))) _ e)))

  reached : (t : List ℕ) (s : σ) (n : ℕ) (h : List ℕ) (ps : List Part) → run M (begin M) t ≡ going s n h ps → GoingOk K c.kind L 0 (length t) s n h ps
  reached t s n h ps e = subst (λ (r : Run σ). Ok K c.kind L 0 (length t) r) e (text_ok K c.kind L 0 t)

  -- the session holds what the machine knows
  resumed : (t : List ℕ) (s : σ) (n : ℕ) (h : List ℕ) (ps : List Part) → run M (begin M) t ≡ going s n h ps
      → resume K (live_session (length t) s n h (counted ps)) ≡ going s n h []
  resumed t s n h ps e =
      let g = reached t s n h ps e in
      ap₂ (λ (x : σ) (y : List ℕ). going x n y []) (L.same_state s h g.fit g.open_line) (L.same_line s h g.fit g.open_line)

  admitted : (t : List ℕ) (s : σ) (n : ℕ) (h : List ℕ) (ps : List Part) → run M (begin M) t ≡ going s n h ps
      → (x : Call) → (lent_of x).map ≡ m → length t + length (piece_of x) ≤ most_taken
      → Kept (accepted K (live_session (length t) s n h (counted ps)) x) ps (reader_accepts read (reader_at t false false) x)
  admitted t s n h ps e (feed l piece) p q =
      subst (λ (r : Run σ). Kept (settle K (live_session (length t) s n h (counted ps)) (length t + length piece) l.map (run M r piece)) ps (reader_fed (t ++ piece) (read false (t ++ piece)).fault))
      (sym (resumed t s n h ps e))
      (subst (λ (y : List ℕ). Kept (settle K (live_session (length t) s n h (counted ps)) (length t + length piece) y (run M (going s n h []) piece)) ps (reader_fed (t ++ piece) (read false (t ++ piece)).fault))
      (sym p) (fed t s n h ps e piece q))
  admitted t s n h ps e (finish l) p q =
      subst (λ (r : Run σ). Kept (settle K (live_session (length t) s n h (counted ps)) (length t) l.map (finish_run M r)) ps (reader_done t (read true t).fault))
      (sym (resumed t s n h ps e))
      (subst (λ (y : List ℕ). Kept (settle K (live_session (length t) s n h (counted ps)) (length t) y (finish_run M (going s n h []))) ps (reader_done t (read true t).fault))
      (sym p) (done t s n h ps e (omega arith)))

  own_map : (x : Call) → ProperCall m x → map_bad (lent_of x).map ≡ false → (lent_of x).map ≡ m
  own_map x (inl p) e = p
  own_map x (inr p) e = absurd (true≢false (sym p ∙ e))

  gated : (t : List ℕ) (s : σ) (n : ℕ) (h : List ℕ) (ps : List Part) → run M (begin M) t ≡ going s n h ps → length t ≤ most_taken
      → (x : Call) → ProperCall m x → (mb ab : Bool) → map_bad (lent_of x).map ≡ mb → argument_bad (length t) x ≡ ab
      → Kept (respond K (gate false false mb ab) (live_session (length t) s n h (counted ps)) x) ps
      (reader_responds read (gate false false mb ab) (reader_at t false false) x)
  gated t s n h ps e q x p true ab e1 e2 = refused _ ps _ 15 x (live t s n h ps e q)
  gated t s n h ps e q x p false true e1 e2 = refused _ ps _ 16 x (live t s n h ps e q)
  gated t s n h ps e q x p false false e1 e2 = admitted t s n h ps e x (own_map x p e1) (room (length t) x e2)

  -- no more lines are held than have ended
  few_rows : (t : List ℕ) (s : σ) (n : ℕ) (h : List ℕ) (ps : List Part) → run M (begin M) t ≡ going s n h ps → L.rows s ≤ n
  few_rows t s n h ps e = subst (Going (λ (x : σ) (i : ℕ). L.rows x ≤ i)) e (run_keeps M (λ (x : σ) (i : ℕ). L.rows x ≤ i) row_step (begin M) t (omega (arith, L.start_rows)))
    where
      row_kept : (x : σ) (i : ℕ) (y : Says σ) → L.rows x ≤ i → LineKept (λ z. L.rows z ≤ suc (L.rows x)) y → LineKept (λ z. L.rows z ≤ suc i) y
      row_kept x i (faulty f) h k = tt
      row_kept x i (says z ps) h k = omega arith

      row_step : (x : σ) (i : ℕ) (l : List ℕ) → L.rows x ≤ i → LineKept (λ z. L.rows z ≤ suc i) (M.step x i l)
      row_step x i l h = row_kept x i (M.step x i l) h (L.step_rows x i l)

  live_outcome : outcome_bad false 0 ≡ false
  unfolding outcome_bad is_outcome
  live_outcome = refl

  live_native : (t : List ℕ) (s : σ) (n : ℕ) (h : List ℕ) (ps : List Part) → run M (begin M) t ≡ going s n h ps → length t ≤ most_taken
      → foreign K (live_session (length t) s n h (counted ps)) ≡ false
  live_native t s n h ps e q =
      let g = reached t s n h ps e in
      not_foreign K c (length t) n (K.pack s h) (K.known s) (counted ps) 0 false cOk q (omega (arith, g.bytes))
      (omega (arith, g.few, g.bytes, total_parts c (segments_of m) ps))
      (omega (arith, L.pack_length s h, g.room)) (L.not_strange s h g.fit g.short g.open_line) live_outcome (omega (arith, L.pack_rows s h g.fit g.open_line, few_rows t s n h ps e))

  blank_held : K.strange c.kind (K.known M.start) [] ≡ false
  blank_held =
      subst (λ (x : List ℕ). K.strange c.kind (K.known M.start) x ≡ false) L.start_pack
      (L.not_strange M.start [] L.start_fit (omega arith) has_none)

  dead_native : (t k : ℕ) (ps : List Part) → OfText k → captions_in ps ≤ t → t ≤ most_taken → foreign K (dead_session t k (counted ps)) ≡ false
  dead_native t k ps f o q =
      not_foreign K c t 0 [] (K.known M.start) (counted ps) k true cOk q (omega arith)
      (omega (arith, total_parts c (segments_of m) ps)) (omega arith) blank_held (of_outcome k f) (omega arith)

  read_number_lem : (f : Bool) (t : List ℕ) (k : ℕ) (ps : List Part) → read f t ≡ reading k ps → OfText k
  read_number_lem f t k ps e = subst (λ (r : Reading). OfText r.fault) e (lines_number M f (closed_lines t) (unfinished t) M.start 0)

  -- one call
  pub keeps : (s : Session κ) (ps : List Part) (r : Reader) → Inv s ps r → (x : Call) → ProperCall m x → Kept (answer K s x) ps (reader_answer read r x)
  keeps _ _ _ (live t s n h ps e q) x p =
      subst (λ (b : Bool). Kept (respond K (gate b false (map_bad (lent_of x).map) (argument_bad (length t) x)) (live_session (length t) s n h (counted ps)) x) ps
      (reader_answer read (reader_at t false false) x))
      (sym (live_native t s n h ps e q))
      (subst (Kept (respond K (gate false false (map_bad (lent_of x).map) (argument_bad (length t) x)) (live_session (length t) s n h (counted ps)) x) ps)
      (sym (reader_gated read (reader_at t false false) x))
      (gated t s n h ps e q x p (map_bad (lent_of x).map) (argument_bad (length t) x) refl refl))
  keeps _ _ _ (dead t f k ps w o q) x p =
      subst (λ (b : Bool). Kept (respond K (gate b true (map_bad (lent_of x).map) (argument_bad (length t) x)) (dead_session (length t) k (counted ps)) x) ps
      (reader_answer read (reader_at t f true) x))
      (sym (dead_native (length t) k ps (read_number_lem f t k ps w) o q))
      (subst (Kept (respond K (refuse 18) (dead_session (length t) k (counted ps)) x) ps) (sym (reader_gated read (reader_at t f true) x))
      (refused _ ps _ 18 x (dead t f k ps w o q)))

  -- the list
  record Matches (ps : List Part) (p : Played κ) (h : Heard) : Type 0 where
    numbers : p.numbers ≡ h.numbers
    all : List Part
    output : output_of (E ps) ++ p.output ≡ output_of (E all)
    warnings : warnings_of (E ps) ++ p.warnings ≡ warnings_of (E all)
    inv : Inv p.session all h.reader

  joined : (x : Call) (xs : List Call) (s : Session κ) (ps : List Part) (r : Reader) (k : Kept (answer K s x) ps (reader_answer read r x))
      → Matches (ps ++ k.new) (play K (answer K s x).session xs) (hear read (reader_answer read r x).reader xs)
      → Matches ps (play K s (x ∷ xs)) (hear read r (x ∷ xs))
  joined x xs s ps r k ih =
      let new : List Emit = (answer K s x).emits in
      let later : Played κ = play K (answer K s x).session xs in
      let both : E ps ++ new ≡ E (ps ++ k.new) = ap (λ (l : List Emit). E ps ++ l) k.emits ∙ sym (emits_append c (segments_of m) ps k.new) in
      record {
        numbers = ap₂ (λ (a : ℕ) (l : List ℕ). a ∷ l) k.number ih.numbers;
        all = ih.all;
        output =
            sym (append_assoc (output_of (E ps)) (output_of new) later.output)
            ∙ ap (λ (l : List ℕ). l ++ later.output) (sym (output_append (E ps) new) ∙ ap output_of both) ∙ ih.output;
        warnings =
            sym (append_assoc (warnings_of (E ps)) (warnings_of new) later.warnings)
            ∙ ap (λ (l : List Warning). l ++ later.warnings) (sym (warnings_append (E ps) new) ∙ ap warnings_of both) ∙ ih.warnings;
        inv = ih.inv;
      }

  lists : (xs : List Call) → Proper m xs → (s : Session κ) (ps : List Part) (r : Reader) → Inv s ps r → Matches ps (play K s xs) (hear read r xs)
  lists [] p s ps r i =
      record { numbers = refl; all = ps; output = append-nil (output_of (E ps)); warnings = append-nil (warnings_of (E ps)); inv = i }
  lists (x ∷ xs) p s ps r i =
      let k = keeps s ps r i x p.0 in
      joined x xs s ps r k (lists xs p.1 (answer K s x).session (ps ++ k.new) (reader_answer read r x).reader k.inv)

  pub record AtLast (s : Session κ) (ps : List Part) (r : Reader) : Type 0 where
    pub is : reading_of read r ≡ reading s.outcome ps
    pub counts : s.counts ≡ counted ps
    pub taken : s.taken ≡ length r.text
    pub ended : s.ended ≡ r.ended

  pub at_last : (s : Session κ) (ps : List Part) (r : Reader) → Inv s ps r → AtLast s ps r
  at_last _ _ _ (live t s n h ps e q) =
      record { is = sym (bytes_reading M false t) ∙ ap ran_to e; counts = refl; taken = refl; ended = refl }
  at_last _ _ _ (dead t f k ps w o q) = record { is = w; counts = refl; taken = refl; ended = refl }

  none_counted : counted [] ≡ no_counts
  none_counted = ap counts_of (emits_none c (segments_of m)) ∙ count_none no_counts

  pub starts : Inv (fresh K c) [] new_reader
  starts =
      subst (λ (s : Session κ). Inv s [] new_reader)
      (ap₂ (λ (x : List ℕ) (y : Counts). record { config = c; taken = 0; lines = 0; held = x; known = K.known M.start; counts = y; outcome = 0; ended = false })
      L.start_pack none_counted)
      (live [] M.start 0 [] [] refl (omega arith))

  -- where a list of calls has led to
  pub record Led (xs : List Call) : Type 0 where
    pub parts : List Part
    pub inv : Inv (play K (fresh K c) xs).session parts (hear read new_reader xs).reader

  pub led : (xs : List Call) → Proper m xs → Led xs
  led xs p = let w = lists xs p (fresh K c) [] new_reader starts in record { parts = w.all; inv = w.inv }

  -- it is not foreign
  inv_native : (s : Session κ) (ps : List Part) (r : Reader) → Inv s ps r → foreign K s ≡ false
  inv_native _ _ _ (live t s n h ps e q) = live_native t s n h ps e q
  inv_native _ _ _ (dead t f k ps w o q) = dead_native (length t) k ps (read_number_lem f t k ps w) o q

  pub led_native : (xs : List Call) → Proper m xs → foreign K (play K (fresh K c) xs).session ≡ false
  led_native xs p = let l = led xs p in inv_native (play K (fresh K c) xs).session l.parts (hear read new_reader xs).reader l.inv

  -- from a fresh session, for every list of calls
  pub same_as_reader : (xs : List Call) → Proper m xs → SameAsReader read c m (play K (fresh K c) xs) (hear read new_reader xs)
  same_as_reader xs p =
      let w = lists xs p (fresh K c) [] new_reader starts in
      let z = at_last (play K (fresh K c) xs).session w.all (hear read new_reader xs).reader w.inv in
      let parts : w.all ≡ (reading_of read (hear read new_reader xs).reader).parts = ap (λ (r : Reading). r.parts) (sym z.is) in
      record {
        numbers = w.numbers;
        output = front_output (play K (fresh K c) xs).output ∙ w.output ∙ ap (λ (ps : List Part). output_of (E ps)) parts;
        warnings = front_warnings (play K (fresh K c) xs).warnings ∙ w.warnings ∙ ap (λ (ps : List Part). warnings_of (E ps)) parts;
        outcome = ap (λ (r : Reading). r.fault) (sym z.is);
        counts = z.counts ∙ ap counted parts;
        taken = z.taken;
        ended = z.ended;
      }
    where
      front_output : (l : List ℕ) → l ≡ output_of (E []) ++ l
      front_output l = ap (λ (x : List ℕ). x ++ l) (sym (ap output_of (emits_none c (segments_of m)) ∙ output_none))

      front_warnings : (l : List Warning) → l ≡ warnings_of (E []) ++ l
      front_warnings l = ap (λ (x : List Warning). x ++ l) (sym (ap warnings_of (emits_none c (segments_of m)) ∙ warnings_none))
