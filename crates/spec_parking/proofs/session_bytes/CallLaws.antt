-- Laws of open, feed and finish over bytes.
use mathlib.Core.Path.{◌≡◌, refl, sym, ap, ap₂, subst, ◌∙◌}
use mathlib.Core.Bool.{Bool, true, false, ◌||◌, cond}
use mathlib.Core.List.{List, []}
use Prim.Native.Nat.{ℕ}
use lib.Dec.{eqb}
use lib.ListN.{length}
use native.Mathlib.Omega.{arith}
use borrow.Author.Tests.{ne_eqb, eqb-true, le-leb}
use Rattle.spec_base.specs.base.Refusal.{◌or_else◌, fault_unless}
use Rattle.spec_base.specs.base.Put.{put}
use Rattle.spec_base.proofs.base.RefusalLaws.{else_none, else_found, else_here}
use Rattle.spec_base.proofs.base.Laws.{and_left}
use Rattle.spec_base.proofs.base.PutLaws.{put_nil}
use Rattle.spec_caption.specs.caption_fate.Emit.{Emit, output_of, warnings_of, places_of}
use Rattle.spec_machine.specs.session_counts.Session.{Call}
use Rattle.spec_machine.specs.session_counts.Session as model
use Rattle.spec_machine.proofs.session_counts.Numbers.{OfCall, call_number_lem, refused_same}
use Rattle.spec_machine.specs.kinds.Kit.{kit}
use Rattle.spec_session.specs.declared.session_state.Session.{Session}
use Rattle.spec_session.specs.session_state.View.{view, stored}
use Rattle.spec_session.specs.declared.session.Fed.{Fed}
use Rattle.spec_session.specs.declared.session.Opened.{Opened}
use Rattle.spec_session.specs.session.SessionCalls.{feed_call, open_of, answer_of, next_of, Answered, OpenAnswered}
use Rattle.spec_parked_blocks.specs.parked_blocks.Sealed.{sealed_length, is_row, all_hold}
use Rattle.spec_parking.specs.declared.parking.TakenUp.{TakenUp}
use Rattle.spec_parking.specs.parking.Parked.{parked_of, is_parked, session_in}
use Rattle.spec_parking.specs.parking.Parkings.{take_number, when_done, keep_number, Stores, TakesUp}
use Rattle.spec_parking.specs.declared.session_bytes.Told.{Told}
use Rattle.spec_parking.specs.session_bytes.ByteCalls.{open_number, open_bytes, refuses, call_number, empty_piece, bytes_after, text_out, places_in, kept_next, Called, EmptyStays}
use Rattle.spec_parking.proofs.session_bytes.NumberLaws.{take_refuses, taken_parked, refuses_between}

-- ---- open
module _ (kind T : ℕ) (m : List ℕ) (o : Opened) (a : OpenAnswered kind T m o) (b : List ℕ) where
  pub number_refused : (o.number ≡ 0 → ⊥) → o.number ≡ open_number kind T m (length b)
  unfolding open_number
  number_refused h = else_here (open_of kind T m).number (keep_number (length b)) o.number a.number h

  pub bytes_refused : (o.number ≡ 0 → ⊥) → b ≡ open_bytes kind T m b
  unfolding open_bytes
  bytes_refused h =
      let v = parked_of 2 (stored (open_of kind T m).session) in
      let z : eqb (open_number kind T m (length b)) 0 ≡ false = ap (λ (n : ℕ). eqb n 0) (sym (number_refused h)) ∙ ne_eqb o.number 0 h in
      sym (ap (λ (t : Bool). put (cond t v []) b) z ∙ put_nil b)

  pub number_kept : (k : ℕ) (b' : List ℕ) → o.number ≡ 0 → Stores o.session k b b' → k ≡ open_number kind T m (length b)
  unfolding open_number
  number_kept k b' z p = p.answer ∙ sym (else_none (keep_number (length b)) (sym a.number ∙ z))

  pub bytes_kept : (k : ℕ) (b' : List ℕ) → o.number ≡ 0 → Stores o.session k b b' → b' ≡ open_bytes kind T m b
  unfolding open_bytes
  bytes_kept k b' z p = p.bytes ∙ ap₂ (λ (n : ℕ) (s : Session). put (when_done n (parked_of 2 s)) b) (number_kept k b' z p) a.session

-- ---- feed and finish
parked_row : (b : List ℕ) → is_parked b ≡ true → is_row b ≡ true
unfolding is_parked
parked_row b e = and_left (is_row b) _ e

row_length : (b : List ℕ) → is_row b ≡ true → length b ≡ sealed_length
unfolding is_row
row_length b e = eqb-true (length b) sealed_length (and_left (eqb (length b) sealed_length) (all_hold b 0 18) e)

none_long : (t : Bool) (v : List ℕ) → t ≡ true → 0 ≡ length (cond t [] v)
none_long t v e = sym (ap (λ (u : Bool). length (cond u [] v)) e)

none_put : (t : Bool) (v l : List ℕ) → t ≡ true → l ≡ put (cond t [] v) l
none_put t v l e = sym (ap (λ (u : Bool). put (cond u [] v) l) e ∙ put_nil l)

module _ (b : List ℕ) (x : Call) where
  -- refused, nothing is written and the bytes stay
  pub refused_is : (r : Told) (out places : List ℕ) → r.number ≡ call_number b x → r.written ≡ 0 → r.warned ≡ 0 → refuses (call_number b x) ≡ true → Called x r b b out out places places
  unfolding bytes_after text_out places_in
  refused_is r out places n w v t =
      record {
        number = n;
        written = w ∙ none_long (refuses (call_number b x)) _ t;
        warned = v ∙ none_long (refuses (call_number b x)) _ t;
        bytes = none_put (refuses (call_number b x) || empty_piece x) _ b (ap (λ (u : Bool). u || empty_piece x) t);
        text = none_put (refuses (call_number b x)) _ out t;
        warnings = none_put (refuses (call_number b x)) _ places t;
      }

  module _ (up : TakenUp) (a : TakesUp b up) where
    pub up_refused : (r : Told) (out places : List ℕ) → (up.number ≡ 0 → ⊥) → r ≡ record { number = up.number; written = 0; warned = 0 } → Called x r b b out out places places
    unfolding call_number
    up_refused r out places h e =
        let z : take_number b ≡ 0 → ⊥ = λ q. h (a.number ∙ q) in
        let f : take_number b or_else (answer_of (session_in b) x).number ≡ take_number b = else_found (take_number b) (answer_of (session_in b) x).number z in
        refused_is r out places (ap (λ (y : Told). y.number) e ∙ a.number ∙ sym f) (ap (λ (y : Told). y.written) e) (ap (λ (y : Told). y.warned) e) (ap refuses f ∙ take_refuses b z)

    module _ (z : up.number ≡ 0) where
      took : take_number b ≡ 0
      took = sym a.number ∙ z

      session_up : up.session ≡ session_in b
      session_up = a.session ∙ ap (λ (n : ℕ). cond (eqb n 0) (session_in b) (stored (model.no_session kit))) z

      number_up : call_number b x ≡ (answer_of (session_in b) x).number
      unfolding call_number
      number_up = else_none (answer_of (session_in b) x).number took

      module _ (f : Fed) (out out' places places' : List ℕ) (p : Answered up.session x f out out' places places') where
        P : Answered (session_in b) x f out out' places places'
        P = subst (λ (s : Session). Answered s x f out out' places places') session_up p

        number_fed : f.number ≡ call_number b x
        number_fed = P.number ∙ sym number_up

        none_emitted : refuses f.number ≡ true → (answer_of (session_in b) x).emits ≡ []
        unfolding answer_of
        none_emitted t =
            let o : OfCall f.number = subst OfCall (sym P.number) (call_number_lem kit (view (session_in b)) x) in
            let g = refuses_between f.number o t in
            (refused_same kit (view (session_in b)) x (omega (arith, g.0, P.number)) (omega (arith, g.1, P.number))).1

        kept_zero : keep_number (length b) ≡ 0
        unfolding fault_unless
        kept_zero = ap (λ (t : Bool). fault_unless t 16) (le-leb sealed_length (length b) (omega (arith, row_length b (parked_row b (taken_parked b took)))))

        T : Told
        T = record { number = f.number; written = f.written; warned = f.warned }

        call_refused : (b' : List ℕ) → refuses f.number ≡ true → b' ≡ b → Called x T b b' out out' places places'
        unfolding T output_of warnings_of places_of
        call_refused b' y e =
            let n = none_emitted y in
            let o : out' ≡ out = P.text ∙ ap (λ (l : List Emit). put (output_of l) out) n ∙ put_nil out in
            let w : places' ≡ places = P.warnings ∙ ap (λ (l : List Emit). put (places_of (warnings_of l)) places) n ∙ put_nil places in
            let c : Called x T b b out out places places =
            refused_is T out places number_fed (P.written ∙ ap (λ (l : List Emit). length (output_of l)) n) (P.warned ∙ ap (λ (l : List Emit). length (places_of (warnings_of l))) n) (ap refuses (sym number_fed) ∙ y) in
            subst (λ (l : List ℕ). Called x T b l out out' places places') (sym e)
            (subst (λ (l : List ℕ). Called x T b b out l places places') (sym o)
            (subst (λ (l : List ℕ). Called x T b b out out places l) (sym w) c))

        call_done : (b' : List ℕ) → refuses f.number ≡ false → b' ≡ put (cond (empty_piece x) [] (parked_of 2 f.session)) b → Called x T b b' out out' places places'
        unfolding T bytes_after text_out places_in
        call_done b' q e =
            let y : refuses (call_number b x) ≡ false = ap refuses (sym number_fed) ∙ q in
            let emits = (answer_of (session_in b) x).emits in
            record {
              number = number_fed;
              written = P.written ∙ sym (ap (λ (u : Bool). length (cond u [] (output_of emits))) y);
              warned = P.warned ∙ sym (ap (λ (u : Bool). length (cond u [] (places_of (warnings_of emits)))) y);
              bytes = e ∙ ap (λ (s : Session). put (cond (empty_piece x) [] (parked_of 2 s)) b) P.session ∙ sym (ap (λ (u : Bool). put (cond (u || empty_piece x) [] (parked_of 2 (next_of (session_in b) x))) b) y);
              text = P.text ∙ sym (ap (λ (u : Bool). put (cond u [] (output_of emits)) out) y);
              warnings = P.warnings ∙ sym (ap (λ (u : Bool). put (cond u [] (places_of (warnings_of emits))) places) y);
            }

        pub call_made : (b' : List ℕ) → b' ≡ kept_next f.number (empty_piece x) f.session b → Called x (record { number = f.number; written = f.written; warned = f.warned }) b b' out out' places places'
        unfolding T kept_next
        call_made b' e = go (refuses f.number) refl
          where
            is : (t : Bool) → refuses f.number ≡ t → b' ≡ put (cond (t || empty_piece x) [] (parked_of 2 f.session)) b
            is t q = e ∙ ap₂ (λ (u : Bool) (n : ℕ). put (cond (u || empty_piece x) [] (when_done n (parked_of 2 f.session))) b) q kept_zero

            go : (t : Bool) → refuses f.number ≡ t → Called x T b b' out out' places places'
            go true q = call_refused b' q (is true q ∙ put_nil b)
            go false q = call_done b' q (is false q)

-- ---- what is stored of a call
or_true : (t : Bool) → (t || true) ≡ true
or_true true = refl
or_true false = refl

pub next_nothing : (k : ℕ) (s : Session) (b : List ℕ) (i : Bool) → i ≡ true → b ≡ kept_next k i s b
unfolding kept_next
next_nothing k s b i z = none_put (refuses k || i) _ b (ap (λ (u : Bool). refuses k || u) z ∙ or_true (refuses k))

module _ (k : ℕ) (s : Session) (b : List ℕ) (i t : Bool) (e : t ≡ refuses k) where
  pub next_refused : t ≡ true → b ≡ kept_next k i s b
  unfolding kept_next
  next_refused z = none_put (refuses k || i) _ b (ap (λ (u : Bool). u || i) (sym e ∙ z))

  pub next_kept : (n : ℕ) (b' : List ℕ) → i ≡ false → t ≡ false → Stores s n b b' → b' ≡ kept_next k i s b
  unfolding kept_next
  next_kept n b' y z p =
      p.bytes ∙ ap (λ (j : ℕ). put (when_done j (parked_of 2 s)) b) p.answer
      ∙ sym (ap₂ (λ (u v : Bool). put (cond (u || v) [] (when_done (keep_number (length b)) (parked_of 2 s))) b) (sym e ∙ z) y)

-- ---- an empty piece leaves the bytes
pub empty_stays : EmptyStays
unfolding bytes_after
empty_stays b map out places = sym (none_put (refuses (call_number b (feed_call map [] out places)) || true) _ b (or_true (refuses (call_number b (feed_call map [] out places)))))
