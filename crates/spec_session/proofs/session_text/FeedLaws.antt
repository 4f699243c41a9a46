-- A feed of a piece behind held bytes: it answers what a feed of the piece answers to the session that holds them. A piece that is too long may be cut: it is refused.
use mathlib.Core.Path.{◌≡◌, refl, sym, ap, ap₂, subst, ◌∙◌}
use mathlib.Core.Bool.{Bool, true, false}
use mathlib.Core.List.{List, ◌++◌}
use Prim.Native.Nat.{ℕ, ◌+◌, ◌-◌, ◌*◌, ◌/◌, ◌≤◌}
use native.Mathlib.Omega.{arith}
use lib.Dec.{ltb}
use lib.ListN.{length, take, drop, length-append, length-take}
use lib.Seq.{take-append_seam, drop-append_seam, take_all}
use borrow.Author.Tests.{ltb-false, le-ltb}
use Rattle.spec_base.specs.base.Limits.{most_piece, least_output, least_places, most_taken}
use Rattle.spec_base.proofs.base.Laws.{or_left, or_right}
use Rattle.spec_map.specs.segment.Segment.{map_bad}
use Rattle.spec_ass.specs.declared.ass_columns.Columns.{Columns}
use Rattle.spec_machine.specs.session_counts.Session.{Call, Gate, refuse, admit, gate, foreign, respond, gate_of, answer}
use Rattle.spec_machine.specs.session_counts.Session as model
use Rattle.spec_machine.specs.kinds.Kit.{kit}
use Rattle.spec_machine.proofs.kinds.Native.{is_native}
use Rattle.spec_session.specs.declared.session_state.Head.{Head}
use Rattle.spec_session.specs.session_state.Head.{view_of}
use Rattle.spec_session.specs.session.SessionCalls.{feed_call, gate_number, lengths_bad}
use Rattle.spec_session.proofs.session.CallLaws.{gate_passed}
use Rattle.spec_session.specs.declared.session_text.TextFed.{TextFed}
use Rattle.spec_session.specs.session_text.Answer.{text_held, text_new, text_session, text_bad, text_gate, text_answer, text_head, text_kept, head_by, kept_by, TextTells, TextAnswered}

-- what 16 leaves of a feed
record Lengths (taken piece o w : ℕ) : Type 0 where
  short : piece ≤ most_piece
  output : least_output ≤ o
  placed : least_places ≤ w
  few : taken + piece ≤ most_taken

lengths_good : (t p o w : ℕ) → lengths_bad t p o w ≡ false → Lengths t p o w
lengths_good t p o w e =
    let a = or_right (ltb most_piece p) _ e in
    let b = or_right (ltb o least_output) _ a in
    record {
      short = ltb-false most_piece p (or_left (ltb most_piece p) _ e);
      output = ltb-false o least_output (or_left (ltb o least_output) _ a);
      placed = ltb-false w least_places (or_left (ltb w least_places) _ b);
      few = ltb-false most_taken (t + p) (or_right (ltb w least_places) _ b);
    }

module _ (h : Head) (held piece m : List ℕ) (o w : ℕ) (size : length held ≡ h.held_len) (b : Bool) (eb : b ≡ lengths_bad h.taken (length piece) o w) where
  abbrev text : List ℕ
  text = held ++ take most_piece piece

  abbrev v : model.Session Columns
  v = view_of h held

  abbrev x : Call
  x = feed_call m piece o w

  held_is : text_held h text ≡ held
  held_is = ap (λ (j : ℕ). take j text) (sym size) ∙ take-append_seam held (take most_piece piece)

  new_is : text_new h text ≡ take most_piece piece
  new_is = ap (λ (j : ℕ). drop j text) (sym size) ∙ drop-append_seam held (take most_piece piece)

  -- enough is lent for 8,192 held bytes and 1,024 new ones
  not_bad : foreign kit v ≡ false → b ≡ false → text_bad false h (length text) o w ≡ false
  unfolding text_bad
  not_bad f e =
      let G = lengths_good h.taken (length piece) o w (sym eb ∙ e) in
      let N = (is_native v f).holds.few in
      let n : length text ≡ h.held_len + length piece = length-append held (take most_piece piece) ∙ omega (arith, size, length-take most_piece piece, G.short) in
      rw (
        le-ltb (length text) h.held_len (omega (arith, n)),
        le-ltb most_taken (h.taken + (length text - h.held_len)) (omega (arith, n, G.few)),
        le-ltb o (3 * length text) (omega (arith, n, size, N, G.short, G.output)),
        le-ltb w (length text / 3 + 4) (omega (arith, n, size, N, G.short, G.placed)),
      )

  bad_is : foreign kit v ≡ false → text_bad b h (length text) o w ≡ b
  unfolding text_bad
  bad_is f = go b refl
    where
      go : (t : Bool) → b ≡ t → text_bad t h (length text) o w ≡ t
      go true e = refl
      go false e = not_bad f e

  pub feed_gate : text_gate h m text b o w ≡ gate_of kit v x
  unfolding text_gate
  feed_gate =
      ap (λ (l : List ℕ). gate (foreign kit (view_of h l)) h.ended (map_bad m) (text_bad b h (length text) o w)) held_is ∙ go (foreign kit v) refl
      ∙ ap (gate (foreign kit v) h.ended (map_bad m)) eb
    where
      go : (t : Bool) → foreign kit v ≡ t → gate t h.ended (map_bad m) (text_bad b h (length text) o w) ≡ gate t h.ended (map_bad m) b
      go true e = refl
      go false e = ap (gate false h.ended (map_bad m)) (bad_is e)

  same_piece : (g : Gate) → gate (foreign kit v) h.ended (map_bad m) (lengths_bad h.taken (length piece) o w) ≡ g
      → respond kit g v (feed_call m (take most_piece piece) o w) ≡ respond kit g v x
  same_piece (refuse k) e = refl
  same_piece admit e =
      let p = gate_passed (foreign kit v) h.ended (map_bad m) (lengths_bad h.taken (length piece) o w) (ap gate_number e) in
      let s = (lengths_good h.taken (length piece) o w p.3).short in
      ap (λ (l : List ℕ). respond kit admit v (feed_call m l o w)) (take_all most_piece piece s)

  pub feed_answer : text_answer h m text b o w ≡ answer kit v x
  unfolding text_answer
  feed_answer =
      ap (λ (g : Gate). respond kit g (text_session h text) (feed_call m (text_new h text) o w)) feed_gate
      ∙ ap₂ (λ (l k : List ℕ). respond kit (gate_of kit v x) (view_of h l) (feed_call m k o w)) held_is new_is
      ∙ same_piece (gate_of kit v x) refl

-- as the call tells it
pub text_feeds : (h : Head) (held piece m : List ℕ) (b : Bool) (r : TextFed) (out out' places places' : List ℕ) → length held ≡ h.held_len
    → b ≡ lengths_bad h.taken (length piece) (length out) (length places) → TextAnswered h m (held ++ take most_piece piece) b r out out' places places'
    → TextTells (answer kit (view_of h held) (feed_call m piece (length out) (length places)))
    (head_by (gate_of kit (view_of h held) (feed_call m piece (length out) (length places))) h (answer kit (view_of h held) (feed_call m piece (length out) (length places))).session)
    (kept_by (gate_of kit (view_of h held) (feed_call m piece (length out) (length places))) (held ++ take most_piece piece) (answer kit (view_of h held) (feed_call m piece (length out) (length places))).session.held)
    (held ++ take most_piece piece) r out out' places places'
unfolding text_head text_kept
text_feeds h held piece m b r out out' places places' size eb T =
    subst (λ (a : model.Answer Columns). TextTells a (head_by (gate_of kit (view_of h held) (feed_call m piece (length out) (length places))) h a.session)
    (kept_by (gate_of kit (view_of h held) (feed_call m piece (length out) (length places))) (held ++ take most_piece piece) a.session.held) (held ++ take most_piece piece) r out out' places places')
    (feed_answer h held piece m (length out) (length places) size b eb)
    (subst (λ (g : Gate). TextTells (text_answer h m (held ++ take most_piece piece) b (length out) (length places))
    (head_by g h (text_answer h m (held ++ take most_piece piece) b (length out) (length places)).session)
    (kept_by g (held ++ take most_piece piece) (text_answer h m (held ++ take most_piece piece) b (length out) (length places)).session.held) (held ++ take most_piece piece) r out out' places places')
    (feed_gate h held piece m (length out) (length places) size b eb) T)
