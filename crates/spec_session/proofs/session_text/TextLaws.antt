-- What a feed answers whose new bytes stand behind the held ones: refused, ended by a fault, or going on.
use mathlib.Core.Path.{◌≡◌, refl, sym, ap, ap₂, subst, ◌∙◌}
use mathlib.Core.Bool.{Bool, true, false}
use mathlib.Core.List.{List, ◌++◌}
use Prim.Native.Nat.{ℕ, ◌+◌, ◌-◌, ◌*◌, ◌/◌, ◌≤◌, ◌<◌}
use native.Mathlib.Omega.{arith}
use lib.Dec.{ltb}
use lib.ListN.{length, take, length-drop, drop_of_length-le}
use borrow.Author.Tests.{ltb-false, eqb-false, lt-ltb, le-ltb}
use Rattle.spec_base.specs.base.Limits.{most_taken}
use Rattle.spec_base.proofs.base.Laws.{or_left, or_right}
use Rattle.spec_text.specs.text.Line.{concat}
use Rattle.spec_map.specs.segment.Segment.{map_bad}
use Rattle.spec_ass.specs.declared.ass_columns.Columns.{Columns}
use Rattle.spec_machine.specs.session_counts.Machine.{Run, going, stopped}
use Rattle.spec_machine.specs.session_counts.Session.{Gate, refuse, admit, gate, foreign, respond, settle, resume}
use Rattle.spec_machine.specs.session_counts.Session as model
use Rattle.spec_machine.proofs.session_counts.Emits.{output_none}
use Rattle.spec_machine.proofs.session_counts.Resume.{ByFault, run_fault}
use Rattle.spec_machine.specs.kinds.Takes.{State, no_columns, machine_of}
use Rattle.spec_machine.specs.kinds.Kit.{kit}
use Rattle.spec_session.specs.declared.session_state.Head.{Head}
use Rattle.spec_session.specs.session_state.Head.{view_of}
use Rattle.spec_session.specs.session.SessionCalls.{feed_call, gate_number}
use Rattle.spec_session.proofs.session.RunLaws.{places_none}
use Rattle.spec_session.proofs.session.CallLaws.{gate_passed, nothing_warned, nothing_written}
use Rattle.spec_session.specs.declared.session_text.TextFed.{TextFed}
use Rattle.spec_session.specs.declared.session_text.Lined.{Lined}
use Rattle.spec_session.specs.session_text.Answer.{text_new, text_session, text_bad, text_gate, text_answer, text_head, text_kept, head_by, kept_by, TextTells, TextAnswered}
use Rattle.spec_session.specs.session_text.Lined.{head_refusal, Starts, text_run, Ends, unchanged_text, ended_text, going_text}

-- ---- 16, test by test
module _ (b : Bool) (h : Head) (n o w : ℕ) where
  pub bad_caller : b ≡ true → true ≡ text_bad b h n o w
  unfolding text_bad
  bad_caller e = rw e

  module _ (e : b ≡ false) where
    pub bad_short : n < h.held_len → true ≡ text_bad b h n o w
    unfolding text_bad
    bad_short p = rw (e, lt-ltb n h.held_len p)

    module _ (p : h.held_len ≤ n) where
      pub bad_much : most_taken < n - h.held_len → true ≡ text_bad b h n o w
      unfolding text_bad
      bad_much q = rw (e, le-ltb n h.held_len p, lt-ltb most_taken (h.taken + (n - h.held_len)) (omega arith))

      pub bad_taken : most_taken < h.taken + (n - h.held_len) → true ≡ text_bad b h n o w
      unfolding text_bad
      bad_taken q = rw (e, le-ltb n h.held_len p, lt-ltb most_taken (h.taken + (n - h.held_len)) q)

      module _ (q : h.taken + (n - h.held_len) ≤ most_taken) where
        pub bad_output : o / 3 < n → true ≡ text_bad b h n o w
        unfolding text_bad
        bad_output r = rw (e, le-ltb n h.held_len p, le-ltb most_taken (h.taken + (n - h.held_len)) q, lt-ltb o (3 * n) (omega arith))

        pub bad_places : n ≤ o / 3 → ltb w (n / 3 + 4) ≡ text_bad b h n o w
        unfolding text_bad
        bad_places r = rw (e, le-ltb n h.held_len p, le-ltb most_taken (h.taken + (n - h.held_len)) q, le-ltb o (3 * n) (omega arith))

pub record Fine (b : Bool) (h : Head) (n o w : ℕ) : Type 0 where
  pub long : h.held_len ≤ n
  pub few : h.taken + (n - h.held_len) ≤ most_taken
  pub output : 3 * n ≤ o
  pub placed : n / 3 + 4 ≤ w

text_fine : (b : Bool) (h : Head) (n o w : ℕ) → text_bad b h n o w ≡ false → Fine b h n o w
unfolding text_bad
text_fine b h n o w e =
    let e1 = or_right b _ e in
    let e2 = or_right (ltb n h.held_len) _ e1 in
    let e3 = or_right (ltb most_taken (h.taken + (n - h.held_len))) _ e2 in
    record {
      long = ltb-false n h.held_len (or_left (ltb n h.held_len) _ e1);
      few = ltb-false most_taken (h.taken + (n - h.held_len)) (or_left (ltb most_taken (h.taken + (n - h.held_len))) _ e2);
      output = ltb-false o (3 * n) (or_left (ltb o (3 * n)) _ e3);
      placed = ltb-false w (n / 3 + 4) (or_right (ltb o (3 * n)) _ e3);
    }

-- ---- the refusal, test by test
module _ (h : Head) (held m : List ℕ) (b f : Bool) (ef : f ≡ foreign kit (view_of h held)) where
  pub refused_foreign : f ≡ true → 17 ≡ head_refusal h held m b
  unfolding head_refusal
  refused_foreign p = let x = sym ef ∙ p in rw x

  module _ (p : f ≡ false) where
    pub refused_ended : h.ended ≡ true → 18 ≡ head_refusal h held m b
    unfolding head_refusal
    refused_ended q = let x = sym ef ∙ p in rw (x, q)

    module _ (q : h.ended ≡ false) (g : Bool) (eg : g ≡ map_bad m) where
      pub refused_map : g ≡ true → 15 ≡ head_refusal h held m b
      unfolding head_refusal
      refused_map r = let x = sym ef ∙ p in let y = sym eg ∙ r in rw (x, q, y)

      module _ (r : g ≡ false) where
        pub refused_lengths : b ≡ true → 16 ≡ head_refusal h held m b
        unfolding head_refusal
        refused_lengths z = let x = sym ef ∙ p in let y = sym eg ∙ r in rw (x, q, y, z)

        pub refused_not : b ≡ false → 0 ≡ head_refusal h held m b
        unfolding head_refusal
        refused_not z = let x = sym ef ∙ p in let y = sym eg ∙ r in rw (x, q, y, z)

-- ---- the answer by the gate
by_gate : (h : Head) (m text : List ℕ) (b : Bool) (r : TextFed) (out out' places places' : List ℕ) (g : Gate) → text_gate h m text b (length out) (length places) ≡ g
    → TextTells (respond kit g (text_session h text) (feed_call m (text_new h text) (length out) (length places)))
    (head_by g h (respond kit g (text_session h text) (feed_call m (text_new h text) (length out) (length places))).session)
    (kept_by g text (respond kit g (text_session h text) (feed_call m (text_new h text) (length out) (length places))).session.held) text r out out' places places'
    → TextAnswered h m text b r out out' places places'
unfolding text_answer text_head text_kept
by_gate h m text b r out out' places places' g e t =
    subst (λ (y : Gate). TextTells (respond kit y (text_session h text) (feed_call m (text_new h text) (length out) (length places)))
    (head_by y h (respond kit y (text_session h text) (feed_call m (text_new h text) (length out) (length places))).session)
    (kept_by y text (respond kit y (text_session h text) (feed_call m (text_new h text) (length out) (length places))).session.held) text r out out' places places') (sym e) t

module _ (h : Head) (m text : List ℕ) (b : Bool) (out places held : List ℕ) (a : Bool) (n : ℕ) (eh : held ≡ take h.held_len text)
    (ea : a ≡ text_bad b h (length text) (length out) (length places)) (en : n ≡ head_refusal h held m a) where
  refusal_gate : n ≡ gate_number (text_gate h m text b (length out) (length places))
  unfolding head_refusal text_gate
  refusal_gate = en ∙ ap₂ (λ (x : List ℕ) (y : Bool). gate_number (gate (foreign kit (view_of h x)) h.ended (map_bad m) y)) eh ea

  -- refused, all is as it came
  pub text_refused : (n ≡ 0 → ⊥) → (r : TextFed) → r ≡ unchanged_text n h → TextAnswered h m text b r out out places places
  text_refused z r f = subst (λ (y : TextFed). TextAnswered h m text b y out out places places) (sym f) (go (text_gate h m text b (length out) (length places)) refl)
    where
      go : (g : Gate) → text_gate h m text b (length out) (length places) ≡ g → TextAnswered h m text b (unchanged_text n h) out out places places
      go admit q = absurd (z (refusal_gate ∙ ap gate_number q))
      go (refuse k) q =
          by_gate h m text b (unchanged_text n h) out out places places (refuse k) q
          (record {
            number = refusal_gate ∙ ap gate_number q;
            written = sym (ap length output_none);
            warned = sym (ap length places_none);
            head = refl;
            begin = omega arith;
            held = refl;
            text = nothing_written out;
            warnings = nothing_warned places;
          })

  module _ (z : n ≡ 0) where
    passed : (foreign kit (text_session h text) ≡ false) × (h.ended ≡ false) × (map_bad m ≡ false) × (text_bad b h (length text) (length out) (length places) ≡ false)
    unfolding text_gate
    passed = gate_passed (foreign kit (text_session h text)) h.ended (map_bad m) (text_bad b h (length text) (length out) (length places)) (sym refusal_gate ∙ z)

    admits : text_gate h m text b (length out) (length places) ≡ admit
    unfolding text_gate
    admits =
        ap (gate (foreign kit (text_session h text)) h.ended (map_bad m)) passed.3
        ∙ ap (λ (x : Bool). gate (foreign kit (text_session h text)) h.ended x false) passed.2
        ∙ ap (λ (x : Bool). gate (foreign kit (text_session h text)) x false false) passed.1
        ∙ ap (λ (x : Bool). gate x false false false) passed.0

    pub text_starts : Starts h m text (length out) (length places)
    text_starts =
        let F = text_fine b h (length text) (length out) (length places) passed.3 in
        record { sound = passed.0; map_good = passed.2; long = F.long; few = F.few; output = F.output; placed = F.placed }

    module _ (end : Lined) (out' places' : List ℕ) (E : Ends h m text (text_run h text) end out out' places places') (t : ℕ) (et : t ≡ h.taken + (length text - h.held_len)) where
      taken_is : t ≡ h.taken + length (text_new h text)
      taken_is = et ∙ ap (λ (j : ℕ). h.taken + j) (sym (length-drop h.held_len text))

      abbrev a₀ : Run State → model.Answer Columns
      a₀ q = settle kit (text_session h text) (h.taken + length (text_new h text)) m q

      dead_by : (q : Run State) → Ends h m text q end out out' places places' → (end.number ≡ 0 → ⊥)
          → TextTells (a₀ q) (head_by admit h (a₀ q).session) (kept_by admit text (a₀ q).session.held) text (ended_text h.config t (length text) end) out out' places places'
      dead_by (going s n l ps) d f = absurd (f d.number)
      dead_by (stopped k ps) d f =
          record {
            number = d.number;
            written = d.wrote.written;
            warned = d.wrote.warned;
            head = λ i. record { config = h.config; ended = true; outcome = d.number i; taken = taken_is i; lines = 0; counts = d.counts i; columns = no_columns; held_len = 0 };
            begin = omega arith;
            held = let u : length text ≤ length text = omega arith in drop_of_length-le text u;
            text = d.wrote.text;
            warnings = d.wrote.warnings;
          }

      live_by : (q : Run State) → ByFault q → Ends h m text q end out out' places places' → end.number ≡ 0
          → TextTells (a₀ q) (head_by admit h (a₀ q).session) (kept_by admit text (a₀ q).session.held) text (going_text h.config h.outcome t (length text) end) out out' places places'
      live_by (stopped k ps) x d f = absurd (eqb-false k 0 x (sym d.number ∙ f))
      live_by (going s n l ps) x d f =
          let u : length text - end.begin ≡ length (concat s.block ++ l) = sym (length-drop end.begin text) ∙ ap length d.keeps.bytes in
          record {
            number = refl;
            written = d.wrote.written;
            warned = d.wrote.warned;
            head =
                λ i. record {
                  config = h.config;
                  ended = false;
                  outcome = h.outcome;
                  taken = taken_is i;
                  lines = d.keeps.lines i;
                  counts = d.counts i;
                  columns = d.keeps.columns i;
                  held_len = u i;
                };
            begin = omega (arith, u, d.keeps.within);
            held = d.keeps.bytes;
            text = d.wrote.text;
            warnings = d.wrote.warnings;
          }

      pub text_ended : (end.number ≡ 0 → ⊥) → (r : TextFed) → r ≡ ended_text h.config t (length text) end → TextAnswered h m text b r out out' places places'
      text_ended f r q =
          subst (λ (y : TextFed). TextAnswered h m text b y out out' places places') (sym q)
          (by_gate h m text b _ out out' places places' admit admits (dead_by (text_run h text) E f))

      pub text_goes : end.number ≡ 0 → (r : TextFed) → r ≡ going_text h.config h.outcome t (length text) end → TextAnswered h m text b r out out' places places'
      text_goes f r q =
          subst (λ (y : TextFed). TextAnswered h m text b y out out' places places') (sym q)
          (by_gate h m text b _ out out' places places' admit admits
          (live_by (text_run h text) (run_fault (machine_of h.config.kind) (resume kit (text_session h text)) (text_new h text) tt) E f))

      -- the open block begins within the text
      begin_by : (q : Run State) → ByFault q → Ends h m text q end out out' places places' → end.number ≡ 0 → end.begin ≤ length text
      begin_by (stopped k ps) x d f = absurd (eqb-false k 0 x (sym d.number ∙ f))
      begin_by (going s n l ps) x d f = d.keeps.within

      pub begin_within : end.number ≡ 0 → end.begin ≤ length text
      begin_within f = begin_by (text_run h text) (run_fault (machine_of h.config.kind) (resume kit (text_session h text)) (text_new h text) tt) E f
