-- The parts that calls say, one after the other, are the parts of the reader's text; and what each call emits comes from its parts.
use mathlib.Core.Path.{◌≡◌, refl, sym, ap, ap₂, subst, ◌∙◌}
use mathlib.Core.Logic.{inl, inr}
use mathlib.Core.Bool.{Bool, true, false, true≢false}
use mathlib.Core.List.{List, [], ◌∷◌, ◌++◌, append-nil, append_assoc}
use Prim.Native.Nat.{ℕ}
use lib.ListN.{length}
use Rattle.spec_map.specs.segment.Segment.{map_bad}
use Rattle.spec_caption.specs.declared.caption_fate.Config.{Config}
use Rattle.spec_caption.specs.caption_fate.Says.{Part}
use Rattle.spec_map.specs.segment.Segment.{segments_of}
use Rattle.spec_ass.specs.declared.ass_columns.Columns.{Columns}
use Rattle.spec_machine.specs.session_counts.Machine.{Machine, Run, going, stopped, run, finish_run}
use Rattle.spec_machine.specs.session_counts.Reader.{Reading}
use Rattle.spec_machine.specs.session_counts.Session.{Session, Call, feed, finish, lent_of, argument_bad, Gate, refuse, admit, gate, gate_of, foreign, fresh, settle, resume, respond, answer, emitted}
use Rattle.spec_machine.specs.session_counts.Calls.{play, ProperCall, Proper, Reader, ReaderAnswer, reader_answer, new_reader, hear, reading_of}
use Rattle.spec_machine.proofs.session_counts.Emits.{emits_none}
use Rattle.spec_machine.proofs.session_counts.Bytes.{ran_to, begin, bytes_reading}
use Rattle.spec_machine.proofs.session_counts.Resume.{after, run_append, run_after, finish_after}
use Rattle.spec_machine.proofs.session_counts.ReaderGate.{reader_responds, reader_gated}
use Rattle.spec_machine.proofs.session_counts.Native.{GoingOk, Ok, text_ok}
use Rattle.spec_machine.proofs.session_counts.Numbers.{Opened, opened_config}
use Rattle.spec_machine.proofs.session_counts.Lists.{Inv, live, dead, live_session, dead_session, counted, led, led_native}
use Rattle.spec_machine.specs.kinds.Takes.{State, machine_of}
use Rattle.spec_machine.specs.kinds.Kit.{kit, said}
use Rattle.spec_machine.proofs.kinds.KindLaws.{lawful}
use Rattle.spec_session.specs.session.Stand.{parts_in}
use Rattle.spec_session.specs.session.SessionCalls.{gate_number}
use Rattle.spec_session.proofs.session.CallLaws.{gate_passed}
use Rattle.promise.specs.Demand.{said_in}
use Rattle.spec_runs.specs.parkruns.Steps.{parts_by, parts_of}
use Rattle.promise.proofs.DemandText.{read_same}

-- ---- one call, of any session
settled_emits : (v : Session Columns) (t : ℕ) (m : List ℕ) (y : Run State) → (settle kit v t m y).emits ≡ emitted v.config m (parts_in y)
settled_emits v t m (going s n h ps) = refl
settled_emits v t m (stopped k ps) = refl

settled_config : (v : Session Columns) (t : ℕ) (m : List ℕ) (y : Run State) → (settle kit v t m y).session.config ≡ v.config
settled_config v t m (going s n h ps) = refl
settled_config v t m (stopped k ps) = refl

respond_emits : (v : Session Columns) (x : Call) (g : Gate) → (respond kit g v x).emits ≡ emitted v.config (lent_of x).map (parts_by g v x)
respond_emits v x (refuse k) = sym (emits_none v.config (segments_of (lent_of x).map))
respond_emits v (feed l piece) admit = settled_emits v _ l.map (run (machine_of v.config.kind) (resume kit v) piece)
respond_emits v (finish l) admit = settled_emits v _ l.map (finish_run (machine_of v.config.kind) (resume kit v))

respond_config : (v : Session Columns) (x : Call) (g : Gate) → (respond kit g v x).session.config ≡ v.config
respond_config v x (refuse k) = refl
respond_config v (feed l piece) admit = settled_config v _ l.map (run (machine_of v.config.kind) (resume kit v) piece)
respond_config v (finish l) admit = settled_config v _ l.map (finish_run (machine_of v.config.kind) (resume kit v))

pub emits_are : (v : Session Columns) (x : Call) → (answer kit v x).emits ≡ emitted v.config (lent_of x).map (parts_of v x)
unfolding parts_of
emits_are v x = respond_emits v x (gate_of kit v x)

pub config_same : (v : Session Columns) (x : Call) → (answer kit v x).session.config ≡ v.config
config_same v x = respond_config v x (gate_of kit v x)

-- a call that says something was lent the map
own : (m : List ℕ) (x : Call) → ProperCall m x → map_bad (lent_of x).map ≡ false → (lent_of x).map ≡ m
own m x (inl p) e = p
own m x (inr p) e = absurd (true≢false (sym p ∙ e))

pub by_map : (P : List ℕ → List Part → Type 0) (m : List ℕ) (v : Session Columns) (x : Call) → ProperCall m x
    → P (lent_of x).map [] → ((lent_of x).map ≡ m → P (lent_of x).map (parts_of v x)) → P (lent_of x).map (parts_of v x)
unfolding parts_of
by_map P m v x p none some = go (gate_of kit v x) refl
  where
    go : (g : Gate) → gate_of kit v x ≡ g → P (lent_of x).map (parts_by (gate_of kit v x) v x)
    go (refuse k) e = subst (λ (g : Gate). P (lent_of x).map (parts_by g v x)) (sym e) none
    go admit e =
        some (own m x p (gate_passed (foreign kit v) v.ended (map_bad (lent_of x).map) (argument_bad v.taken x) (ap gate_number e)).2)

-- ---- calls in a row
abbrev pub parts_all : Session Columns → List Call → List Part
parts_all v [] = []
parts_all v (x ∷ xs) = parts_of v x ++ parts_all (answer kit v x).session xs

pub play_snoc : (v : Session Columns) (xs : List Call) (x : Call) → (play kit v (xs ++ (x ∷ []))).session ≡ (answer kit (play kit v xs).session x).session
play_snoc v [] x = refl
play_snoc v (y ∷ xs) x = play_snoc (answer kit v y).session xs x

pub proper_snoc : (m : List ℕ) (xs : List Call) (x : Call) → Proper m xs → ProperCall m x → Proper m (xs ++ (x ∷ []))
proper_snoc m [] x p q = (q, tt)
proper_snoc m (y ∷ xs) x p q = (p.0, proper_snoc m xs x p.1 q)

hear_snoc : (read : Bool → List ℕ → Reading) (r : Reader) (xs : List Call) (x : Call) → (hear read r (xs ++ (x ∷ []))).reader ≡ (reader_answer read (hear read r xs).reader x).reader
hear_snoc read r [] x = refl
hear_snoc read r (y ∷ xs) x = hear_snoc read (reader_answer read r y).reader xs x

part_after : (ps : List Part) (q : Run State) → (ran_to (after ps q)).parts ≡ ps ++ parts_in q
part_after ps (going s n h new) = refl
part_after ps (stopped k new) = refl

module _ (c : Config) (m : List ℕ) (o : Opened c m) where
  abbrev M : Machine State
  M = machine_of c.kind

  abbrev read : Bool → List ℕ → Reading
  read f t = said c.kind f t

  abbrev Here : Session Columns → List Part → Reader → Type 0
  Here v ps r = Inv kit c m (lawful c.kind o.kind_known) (opened_config c m o) v ps r

  abbrev lives : ℕ → State → ℕ → List ℕ → List Part → Session Columns
  lives t s n h ps = live_session kit c m (lawful c.kind o.kind_known) (opened_config c m o) t s n h (counted kit c m (lawful c.kind o.kind_known) (opened_config c m o) ps)

  abbrev reader : List ℕ → Bool → Bool → Reader
  reader t f e = record { text = t; finished = f; ended = e }

  told : (v : Session Columns) (ps : List Part) (r : Reader) → Here v ps r → (reading_of read r).parts ≡ ps
  told _ _ _ (live t s n h ps e q) = ap (λ (x : Reading). x.parts) (sym (bytes_reading M false t) ∙ ap ran_to e)
  told _ _ _ (dead t f k ps w u q) = ap (λ (x : Reading). x.parts) w

  module _ (t : List ℕ) (s : State) (n : ℕ) (h : List ℕ) (ps : List Part) (e : run M (begin M) t ≡ going s n h ps) where
    begun : run M (begin M) t ≡ after ps (going s n h [])
    begun = e ∙ ap (going s n h) (sym (append-nil ps))

    resumed : resume kit (lives (length t) s n h ps) ≡ going s n h []
    resumed =
        let L = lawful c.kind o.kind_known in
        let g : GoingOk kit c.kind L 0 (length t) s n h ps = subst (λ (r : Run State). Ok kit c.kind L 0 (length t) r) e (text_ok kit c.kind L 0 t) in
        ap₂ (λ (x : State) (y : List ℕ). going x n y []) (L.same_state s h g.fit g.open_line) (L.same_line s h g.fit g.open_line)

    live_parts : (x : Call) (g : Gate) → (reading_of read (reader_responds read g (reader t false false) x).reader).parts ≡ ps ++ parts_by g (lives (length t) s n h ps) x
    live_parts x (refuse k) = ap (λ (y : Reading). y.parts) (sym (bytes_reading M false t) ∙ ap ran_to e) ∙ sym (append-nil ps)
    live_parts (feed l piece) admit =
        ap (λ (y : Reading). y.parts)
        (sym (bytes_reading M false (t ++ piece)) ∙ ap ran_to (run_append M (begin M) t piece ∙ ap (λ (r : Run State). run M r piece) begun ∙ run_after M ps (going s n h []) piece))
        ∙ part_after ps (run M (going s n h []) piece) ∙ ap (λ (r : Run State). ps ++ parts_in (run M r piece)) (sym resumed)
    live_parts (finish l) admit =
        ap (λ (y : Reading). y.parts)
        (sym (bytes_reading M true t) ∙ ap ran_to (ap (finish_run M) begun ∙ finish_after M ps (going s n h [])))
        ∙ part_after ps (finish_run M (going s n h [])) ∙ ap (λ (r : Run State). ps ++ parts_in (finish_run M r)) (sym resumed)

  grown : (v : Session Columns) (ps : List Part) (r : Reader) → Here v ps r → foreign kit v ≡ false → (x : Call)
      → (reading_of read (reader_answer read r x).reader).parts ≡ ps ++ parts_of v x
  unfolding parts_of
  grown _ _ _ (live t s n h ps e q) f x =
      let v = lives (length t) s n h ps in
      let g = gate false false (map_bad (lent_of x).map) (argument_bad (length t) x) in
      ap (λ (a : ReaderAnswer). (reading_of read a.reader).parts) (reader_gated read (reader t false false) x)
      ∙ live_parts t s n h ps e x g
      ∙ ap (λ (b : Bool). ps ++ parts_by (gate b false (map_bad (lent_of x).map) (argument_bad (length t) x)) v x) (sym f)
  grown _ _ _ (dead t u k ps w i q) f x =
      let v = dead_session kit c m (lawful c.kind o.kind_known) (opened_config c m o) (length t) k (counted kit c m (lawful c.kind o.kind_known) (opened_config c m o) ps) in
      ap (λ (a : ReaderAnswer). (reading_of read a.reader).parts) (reader_gated read (reader t u true) x)
      ∙ ap (λ (y : Reading). y.parts) w ∙ sym (append-nil ps)
      ∙ ap (λ (b : Bool). ps ++ parts_by (gate b true (map_bad (lent_of x).map) (argument_bad (length t) x)) v x) (sym f)

  abbrev said_parts : List Call → List Part
  said_parts xs = (reading_of read (hear read new_reader xs).reader).parts

  parts_snoc : (past : List Call) → Proper m past → (x : Call) → said_parts (past ++ (x ∷ [])) ≡ said_parts past ++ parts_of (play kit (fresh kit c) past).session x
  parts_snoc past p x =
      let l = led kit c m (lawful c.kind o.kind_known) (opened_config c m o) past p in
      let f = led_native kit c m (lawful c.kind o.kind_known) (opened_config c m o) past p in
      let v = (play kit (fresh kit c) past).session in
      ap (λ (r : Reader). (reading_of read r).parts) (hear_snoc read new_reader past x)
      ∙ grown v l.parts (hear read new_reader past).reader l.inv f x
      ∙ ap (λ (ps : List Part). ps ++ parts_of v x) (sym (told v l.parts (hear read new_reader past).reader l.inv))

  parts_more : (past : List Call) → Proper m past → (xs : List Call) → Proper m xs
      → said_parts (past ++ xs) ≡ said_parts past ++ parts_all (play kit (fresh kit c) past).session xs
  parts_more past p [] q = ap said_parts (append-nil past) ∙ sym (append-nil (said_parts past))
  parts_more past p (x ∷ xs) q =
      let v = (play kit (fresh kit c) past).session in
      ap said_parts (sym (append_assoc past (x ∷ []) xs))
      ∙ parts_more (past ++ (x ∷ [])) (proper_snoc m past x p q.0) xs q.1
      ∙ ap₂ (λ (ps qs : List Part). ps ++ qs) (parts_snoc past p x) (ap (λ (y : Session Columns). parts_all y xs) (play_snoc (fresh kit c) past x))
      ∙ append_assoc (said_parts past) (parts_of v x) (parts_all (answer kit v x).session xs)

  said_same : (xs : List Call) → said_parts xs ≡ (said_in c xs).parts
  said_same xs = ap (λ (r : Bool → List ℕ → Reading). (reading_of r (hear r new_reader xs).reader).parts) (read_same c m o)

  -- the parts of a text that goes on
  pub said_more : (past : List Call) → Proper m past → (xs : List Call) → Proper m xs
      → (said_in c (past ++ xs)).parts ≡ (said_in c past).parts ++ parts_all (play kit (fresh kit c) past).session xs
  said_more past p xs q =
      sym (said_same (past ++ xs)) ∙ parts_more past p xs q ∙ ap (λ (ps : List Part). ps ++ parts_all (play kit (fresh kit c) past).session xs) (said_same past)

  nothing_said : said_parts [] ≡ []
  nothing_said = ap (λ (y : Reading). y.parts) (sym (bytes_reading M false []))

  -- those of calls from a fresh session
  pub said_all : (xs : List Call) → Proper m xs → (said_in c xs).parts ≡ parts_all (fresh kit c) xs
  said_all xs q = said_more [] tt xs q ∙ ap (λ (ps : List Part). ps ++ parts_all (fresh kit c) xs) (sym (said_same []) ∙ nothing_said)
