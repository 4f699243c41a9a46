-- The number of every call is one of document 01's table: open 0, 15, 16; feed and finish 0, 15 to 22, 24.
use mathlib.Core.Path.{◌≡◌, refl}
use mathlib.Core.Logic.{◌⊎◌, inl, inr}
use mathlib.Core.Bool.{Bool, true, false, ◌||◌}
use mathlib.Core.List.{List, [], ◌∷◌, ◌++◌}
use Prim.Native.Nat.{ℕ, suc, ◌+◌, ◌≤◌}
use native.Mathlib.Omega.{arith}
use lib.Dec.{leb, eqb}
use lib.ListN.{length}
use borrow.Author.Tests.{ne_eqb, le-leb}
use Rattle.spec_base.specs.base.Limits.{most_line}
use Rattle.spec_time.specs.caption_time.Kind.{kind_bad}
use Rattle.spec_time.specs.caption_time.Convert.{timescale_bad}
use Rattle.spec_map.specs.segment.Segment.{map_bad}
use Rattle.spec_caption.specs.declared.caption_fate.Config.{Config}
use Rattle.spec_caption.specs.caption_fate.Says.{Part, Fault, long_line, not_utf8, long_block, bad_time, bad_header, fault_number}
use Rattle.spec_machine.specs.session_counts.Machine.{Machine, Says, faulty, says, with_bom, take_line, Rest, nothing, bom_alone, last_line, rest_of, Run, going, stopped}
use Rattle.spec_machine.specs.session_counts.Machine.{line_end, byte, byte_step, run, closed, last_end, at_end, finish_run}
use Rattle.spec_machine.specs.session_counts.Reader.{Reading, read_line, read_close, read_last, read_rest, read_lines}
use Rattle.spec_machine.specs.session_counts.Session.{is_outcome, outcome_bad}
use Rattle.spec_machine.specs.session_counts.Session.{Session, Kit, Call, feed, finish, lent_of, argument_bad, gate, config_bad, foreign, fresh, open_by, open_session, settle, resume, accepted, respond, answer}

-- done, or a fault of the text
abbrev pub OfText : ℕ → Type 0
OfText k = (k ≡ 0) ⊎ (((19 ≤ k) × (k ≤ 22)) ⊎ (k ≡ 24))

-- done, or from 15 to 22, or 24
abbrev pub OfCall : ℕ → Type 0
OfCall k = (k ≡ 0) ⊎ (((15 ≤ k) × (k ≤ 22)) ⊎ (k ≡ 24))

-- done, or 15 or 16
abbrev pub OfOpen : ℕ → Type 0
OfOpen k = (k ≡ 0) ⊎ ((15 ≤ k) × (k ≤ 16))

pub fault_of_text : (f : Fault) → OfText (fault_number f)
fault_of_text long_line = inr (inl (omega arith, omega arith))
fault_of_text not_utf8 = inr (inl (omega arith, omega arith))
fault_of_text long_block = inr (inl (omega arith, omega arith))
fault_of_text bad_time = inr (inl (omega arith, omega arith))
fault_of_text bad_header = inr (inr refl)

wider : (k : ℕ) → OfText k → OfCall k
wider k (inl e) = inl e
wider k (inr (inl h)) = inr (inl (omega (arith, h.0), h.1))
wider k (inr (inr e)) = inr (inr e)

abbrev Numbered : {σ : Type 0} → Run σ → Type 0
Numbered (going s n h ps) = Unit {0}
Numbered (stopped k ps) = OfText k

module _ {σ : Type 0} (M : Machine σ) where
  line_number : (n : ℕ) (ps : List Part) (x : Says σ) → Numbered (line_end M n ps x)
  line_number n ps (faulty f) = fault_of_text f
  line_number n ps (says t new) = tt

  byte_number : (ok lf : Bool) (s : σ) (n : ℕ) (l : List ℕ) (ps : List Part) → Numbered (byte M ok lf s n l ps)
  byte_number false lf s n l ps = inr (inl (omega arith, omega arith))
  byte_number true true s n l ps = line_number n ps (take_line M s n l)
  byte_number true false s n l ps = tt

  step_number : (r : Run σ) (b : ℕ) → Numbered r → Numbered (byte_step M r b)
  step_number (going s n h ps) b f = byte_number (leb (length (h ++ (b ∷ []))) most_line) (eqb b 10) s n (h ++ (b ∷ [])) ps
  step_number (stopped k ps) b f = f

  run_number_lem : (r : Run σ) (t : List ℕ) → Numbered r → Numbered (run M r t)
  run_number_lem r [] f = f
  run_number_lem r (b ∷ t) f = run_number_lem (byte_step M r b) t (step_number r b f)

  closed_number : (ps : List Part) (x : Says σ) → Numbered (closed M ps x)
  closed_number ps (faulty f) = fault_of_text f
  closed_number ps (says t new) = inl refl

  last_number : (n : ℕ) (ps : List Part) (x : Says σ) → Numbered (last_end M n ps x)
  last_number n ps (faulty f) = fault_of_text f
  last_number n ps (says t new) = closed_number (ps ++ new) (M.close t (suc n))

  end_number : (x : Rest) (s : σ) (n : ℕ) (h : List ℕ) (ps : List Part) → Numbered (at_end M x s n h ps)
  end_number nothing s n h ps = closed_number ps (M.close s n)
  end_number bom_alone s n h ps = closed_number ps (with_bom (M.close s n))
  end_number last_line s n h ps = last_number n ps (take_line M s n h)

module _ {σ κ : Type 0} (K : Kit σ κ) where
  settle_number : (s : Session κ) (t : ℕ) (m : List ℕ) (r : Run σ) → Numbered r → OfText (settle K s t m r).number
  settle_number s t m (going st n h ps) f = inl refl
  settle_number s t m (stopped k ps) f = f

  -- an admitted call: 0, 19 to 22 or 24
  pub accepted_number : (s : Session κ) (c : Call) → OfText (accepted K s c).number
  accepted_number s (feed l piece) =
      settle_number s (s.taken + length piece) l.map (run (K.machine s.config.kind) (resume K s) piece)
      (run_number_lem (K.machine s.config.kind) (resume K s) piece tt)
  accepted_number s (finish l) =
      settle_number s s.taken l.map (finish_run (K.machine s.config.kind) (resume K s))
      (end_number (K.machine s.config.kind) (rest_of s.lines (K.open_line s.held)) (K.state s.known s.held) s.lines (K.open_line s.held) [])

  by_gate : (f e m a : Bool) (s : Session κ) (c : Call) → OfCall (respond K (gate f e m a) s c).number
  by_gate true e m a s c = inr (inl (omega arith, omega arith))
  by_gate false true m a s c = inr (inl (omega arith, omega arith))
  by_gate false false true a s c = inr (inl (omega arith, omega arith))
  by_gate false false false true s c = inr (inl (omega arith, omega arith))
  by_gate false false false false s c = wider (accepted K s c).number (accepted_number s c)

  -- feed and finish
  pub call_number_lem : (s : Session κ) (c : Call) → OfCall (answer K s c).number
  call_number_lem s c = by_gate (foreign K s) s.ended (map_bad (lent_of c).map) (argument_bad s.taken c) s c

  -- 15 to 18 write nothing, and the session comes back equal
  not_of_text : {A : Type 0} (k : ℕ) → OfText k → 15 ≤ k → k ≤ 18 → A
  not_of_text k (inl e) l h = absurd (omega arith)
  not_of_text k (inr (inl g)) l h = absurd (omega (arith, g.0))
  not_of_text k (inr (inr e)) l h = absurd (omega arith)

  refused_by : (f e m a : Bool) (s : Session κ) (c : Call) → 15 ≤ (respond K (gate f e m a) s c).number → (respond K (gate f e m a) s c).number ≤ 18
      → ((respond K (gate f e m a) s c).session ≡ s) × ((respond K (gate f e m a) s c).emits ≡ [])
  refused_by true e m a s c l h = (refl, refl)
  refused_by false true m a s c l h = (refl, refl)
  refused_by false false true a s c l h = (refl, refl)
  refused_by false false false true s c l h = (refl, refl)
  refused_by false false false false s c l h = not_of_text (accepted K s c).number (accepted_number s c) l h

  pub refused_same : (s : Session κ) (c : Call) → 15 ≤ (answer K s c).number → (answer K s c).number ≤ 18
      → ((answer K s c).session ≡ s) × ((answer K s c).emits ≡ [])
  refused_same s c l h = refused_by (foreign K s) s.ended (map_bad (lent_of c).map) (argument_bad s.taken c) s c l h

  open_by_lem : (m a : Bool) (c : Config) → OfOpen (open_by K (gate false false m a) c).number
  open_by_lem true a c = inr (omega arith, omega arith)
  open_by_lem false true c = inr (omega arith, omega arith)
  open_by_lem false false c = inl refl

  pub open_number_lem : (c : Config) (m : List ℕ) → OfOpen (open_session K c m).number
  open_number_lem c m = open_by_lem (timescale_bad c.timescale || map_bad m) (kind_bad c.kind) c

-- where open answers 0: T, the map and the kind are good, and the session is fresh
pub record Opened (c : Config) (m : List ℕ) : Type 0 where
  pub timescale_good : timescale_bad c.timescale ≡ false
  pub map_good : map_bad m ≡ false
  pub kind_known : kind_bad c.kind ≡ false

module _ {σ κ : Type 0} (K : Kit σ κ) where
  opens_by : (c : Config) (m : List ℕ) (t b k : Bool) → timescale_bad c.timescale ≡ t → map_bad m ≡ b → kind_bad c.kind ≡ k
      → (open_by K (gate false false (t || b) k) c).number ≡ 0 → Opened c m
  opens_by c m true b k p q r e = absurd (let z : ◌≡◌ {A = ℕ} 15 0 = e in omega arith)
  opens_by c m false true k p q r e = absurd (let z : ◌≡◌ {A = ℕ} 15 0 = e in omega arith)
  opens_by c m false false true p q r e = absurd (let z : ◌≡◌ {A = ℕ} 16 0 = e in omega arith)
  opens_by c m false false false p q r e = record { timescale_good = p; map_good = q; kind_known = r }

  pub opened : (c : Config) (m : List ℕ) → (open_session K c m).number ≡ 0 → Opened c m
  opened c m e = opens_by c m (timescale_bad c.timescale) (map_bad m) (kind_bad c.kind) refl refl refl e

  pub opens_fresh : (c : Config) (m : List ℕ) → Opened c m → open_session K c m ≡ record { number = 0; session = fresh K c; emits = [] }
  opens_fresh c m o = rw (o.timescale_good, o.map_good, o.kind_known)

pub opened_config : (c : Config) (m : List ℕ) → Opened c m → config_bad c ≡ false
opened_config c m o = rw (o.kind_known, o.timescale_good)

-- ---- a text read from the start: 0, 19 to 22, or 24
module _ {σ : Type 0} (M : Machine σ) where
  said_line : (short : Bool) (x : Says σ) (after : σ → Reading) → ((t : σ) → OfText (after t).fault) → OfText (read_line M short x after).fault
  said_line false x after h = inr (inl (omega arith, omega arith))
  said_line true (faulty f) after h = fault_of_text f
  said_line true (says t ps) after h = h t

  said_close : (x : Says σ) → OfText (read_close M x).fault
  said_close (faulty f) = fault_of_text f
  said_close (says t ps) = inl refl

  said_last : (x : Rest) (s : σ) (n : ℕ) (r : List ℕ) → OfText (read_last M x s n r).fault
  said_last nothing s n r = said_close (M.close s n)
  said_last bom_alone s n r = said_close (with_bom (M.close s n))
  said_last last_line s n r =
      said_line true (take_line M s n r) (λ t. read_close M (M.close t (suc n))) (λ t. said_close (M.close t (suc n)))

  said_rest : (short finished : Bool) (s : σ) (n : ℕ) (r : List ℕ) → OfText (read_rest M short finished s n r).fault
  said_rest false finished s n r = inr (inl (omega arith, omega arith))
  said_rest true false s n r = inl refl
  said_rest true true s n r = said_last (rest_of n r) s n r

  pub lines_number : (finished : Bool) (ls : List (List ℕ)) (r : List ℕ) (s : σ) (n : ℕ) → OfText (read_lines M finished ls r s n).fault
  lines_number finished [] r s n = said_rest (leb (length r) most_line) finished s n r
  lines_number finished (l ∷ ls) r s n =
      said_line (leb (length l) most_line) (take_line M s n l) (λ t. read_lines M finished ls r t (suc n)) (λ t. lines_number finished ls r t (suc n))

pub of_outcome : (k : ℕ) → OfText k → outcome_bad true k ≡ false
unfolding outcome_bad is_outcome
of_outcome k (inl e) = rw e
of_outcome k (inr (inl h)) = rw (ne_eqb k 0 (λ z. omega (arith, h.0)), le-leb 19 k h.0, le-leb k 22 h.1)
of_outcome k (inr (inr e)) = rw e
