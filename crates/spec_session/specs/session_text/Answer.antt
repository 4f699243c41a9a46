-- What a feed answers whose new bytes stand behind the held ones in one text: number, lengths, the numbers of the session, what is held, and what stands in the lent output and places afterwards.
use Rattle.std.specs.Prelude.{◌≡◌, Bool, ◌||◌, List, ℕ, ◌+◌, ◌-◌, ◌*◌, ◌/◌, ltb, length, take, drop}
use Rattle.spec_base.specs.base.Limits.{most_taken}
use Rattle.spec_base.specs.base.Put.{put}
use Rattle.spec_map.specs.segment.Segment.{map_bad}
use Rattle.spec_caption.specs.caption_fate.Emit.{output_of, warnings_of, places_of}
use Rattle.spec_ass.specs.declared.ass_columns.Columns.{Columns}
use Rattle.spec_machine.specs.session_counts.Session.{Gate, refuse, admit, gate, foreign, respond}
use Rattle.spec_machine.specs.session_counts.Session as model
use Rattle.spec_machine.specs.kinds.Kit.{kit}
use Rattle.spec_session.specs.declared.session_state.Head.{Head}
use Rattle.spec_session.specs.session_state.Head.{view_of, head_of}
use Rattle.spec_session.specs.session.SessionCalls.{feed_call}
use Rattle.spec_session.specs.declared.session_text.TextFed.{TextFed}

-- ---- the text: the held bytes, then the new ones
abbrev pub text_held : Head → (text : List ℕ) → List ℕ
text_held h text = take h.held_len text

abbrev pub text_new : Head → (text : List ℕ) → List ℕ
text_new h text = drop h.held_len text

abbrev pub text_session : Head → (text : List ℕ) → model.Session Columns
text_session h text = view_of h (text_held h text)

-- 16: the caller's own test; n bytes of text are fewer than are held; too many bytes taken together; less than three bytes of output for each byte, or a place for every three and four more
unfoldable pub text_bad : (bad : Bool) → Head → (n out places : ℕ) → Bool
text_bad b h n o w =
    b || (ltb n h.held_len || (ltb most_taken (h.taken + (n - h.held_len)) || (ltb o (3 * n) || ltb w (n / 3 + 4))))

-- the order of the refusals: 17, 18, 15, 16
unfoldable pub text_gate : Head → (map text : List ℕ) → (bad : Bool) → (out places : ℕ) → Gate
text_gate h m text b o w = gate (foreign kit (text_session h text)) h.ended (map_bad m) (text_bad b h (length text) o w)

-- a feed of the new bytes
unfoldable pub text_answer : Head → (map text : List ℕ) → (bad : Bool) → (out places : ℕ) → model.Answer Columns
text_answer h m text b o w = respond kit (text_gate h m text b o w) (text_session h text) (feed_call m (text_new h text) o w)

-- ---- afterwards: refused, all is as it came
abbrev pub head_by : Gate → Head → model.Session Columns → Head
head_by (refuse k) h s = h
head_by admit h s = head_of s

abbrev pub kept_by : Gate → (text held : List ℕ) → List ℕ
kept_by (refuse k) text held = text
kept_by admit text held = held

unfoldable pub text_head : Head → (map text : List ℕ) → (bad : Bool) → (out places : ℕ) → Head
text_head h m text b o w = head_by (text_gate h m text b o w) h (text_answer h m text b o w).session

-- what of the text is held
unfoldable pub text_kept : Head → (map text : List ℕ) → (bad : Bool) → (out places : ℕ) → List ℕ
text_kept h m text b o w = kept_by (text_gate h m text b o w) text (text_answer h m text b o w).session.held

-- a: the answer, h': the numbers of the session, kept: what is held, at the end of the whole text. Bytes and places past what was written are as they were
pub record TextTells (a : model.Answer Columns) (h' : Head) (kept whole : List ℕ) (r : TextFed) (out out' places places' : List ℕ) : Type 0 where
  pub number : r.number ≡ a.number
  pub written : r.written ≡ length (output_of a.emits)
  pub warned : r.warned ≡ length (places_of (warnings_of a.emits))
  pub head : r.head ≡ h'
  pub begin : r.begin ≡ length whole - length kept
  pub held : drop r.begin whole ≡ kept
  pub text : out' ≡ put (output_of a.emits) out
  pub warnings : places' ≡ put (places_of (warnings_of a.emits)) places

abbrev pub TextAnswered : Head → (map text : List ℕ) → (bad : Bool) → TextFed → (out out' places places' : List ℕ) → Type 0
TextAnswered h m text b r out out' places places' =
    TextTells (text_answer h m text b (length out) (length places)) (text_head h m text b (length out) (length places)) (text_kept h m text b (length out) (length places)) text r out out' places places'
