-- A feed of new bytes behind held ones by rows: its numbers apart from what is held, 16 on both sides of each limit, the refusals in their order, and what is held of a text afterwards.
use mathlib.Core.Path.{◌≡◌, refl}
use mathlib.Core.Bool.{Bool, true, false}
use mathlib.Core.List.{List, [], ◌∷◌, ◌++◌}
use Prim.Native.Nat.{ℕ, ◌-◌, ◌^◌}
use Rattle.spec_text.specs.utf8.Utf8.{lead_len, second_low, second_high, tail, width_by, char_width, code_by, code_head, utf8_from, utf8}
use Rattle.spec_text.specs.whitespace.White.{white_high, white, white_head, head_from, trim_head}
use Rattle.spec_text.specs.pattern.Find.{starts}
use Rattle.spec_text.specs.text.Line.{blank}
use Rattle.spec_map.specs.segment.Segment.{segments_of, any_bad, map_bad}
use Rattle.spec_time.specs.caption_time.Kind.{kind_bad}
use Rattle.spec_time.specs.caption_time.Convert.{timescale_bad}
use Rattle.spec_caption.specs.caption_fate.Emit.{emit_by, emits_of, output_of}
use Rattle.spec_cue.specs.block_timing.Style.{blank_in}
use Rattle.spec_cue.specs.block_timing.Header.{header_due}
use Rattle.spec_machine.specs.session_counts.Counts.{no_counts}
use Rattle.spec_machine.specs.session_counts.Machine.{has_bom}
use Rattle.spec_machine.specs.session_counts.Session.{is_outcome, outcome_bad}
use Rattle.spec_machine.specs.kinds.Takes.{no_columns, takes, block_takes}
use Rattle.spec_machine.specs.kinds.Kit.{held_bad, columns_bad}
use Rattle.spec_session.specs.declared.session_state.Head.{Head}
use Rattle.spec_session.specs.session_state.Head.{view_of, head_of}
use Rattle.spec_session.specs.session_text.Answer.{text_bad, text_gate, text_answer, text_head, text_kept}

-- an SRT session that holds n bytes, after so many lines and bytes
abbrev at : (timescale : ℕ) → (ended : Bool) → (taken lines n : ℕ) → Head
at T e t l n =
    record {
      config = record { kind = 1; timescale = T };
      ended = e;
      outcome = 0;
      taken = t;
      lines = l;
      counts = no_counts;
      columns = no_columns;
      held_len = n;
    }

-- ---- numbers and held bytes apart
-- how many bytes are held is told by the bytes, not by the claim; then bytes taken and lines ended
pub head_rows : (let r = head_of (view_of (at 1000 false 5 1 7) (97 ∷ 10 ∷ 98 ∷ [])) in r.held_len ∷ r.taken ∷ r.lines ∷ r.config.timescale ∷ [])
    ≡ 3 ∷ 5 ∷ 1 ∷ 1000 ∷ []
head_rows = refl

-- ---- 16: 10 bytes of text, 4 of them held, 30 of output and 7 places
abbrev live : ℕ → Head
live t = at 1000 false t 1 4

-- the caller's own test; no byte more than is held, and one fewer; 2^30 bytes together, and one more
pub bad_rows : text_bad false (live 5) 10 30 7 ∷ text_bad true (live 5) 10 30 7 ∷ text_bad false (live 5) 4 30 7 ∷ text_bad false (live 5) 3 30 7
    ∷ text_bad false (live (2 ^ 30 - 6)) 10 30 7 ∷ text_bad false (live (2 ^ 30 - 5)) 10 30 7 ∷ []
    ≡ false ∷ true ∷ false ∷ true ∷ false ∷ true ∷ []
unfolding text_bad
bad_rows = refl

-- 29 bytes of output; 6 places; 7 of them for 11 bytes of text, and for 12
pub lent_rows : text_bad false (live 5) 10 29 7 ∷ text_bad false (live 5) 10 30 6 ∷ text_bad false (live 5) 11 36 7 ∷ text_bad false (live 5) 12 36 7 ∷ []
    ≡ true ∷ true ∷ false ∷ true ∷ []
unfolding text_bad
lent_rows = refl

-- ---- the order of the refusals: each row breaks one thing fewer than the one before
abbrev number : Head → (map text : List ℕ) → (bad : Bool) → ℕ
number h m text b = (text_answer h m text b 100 20).number

-- T of 0 (17), an ended session (18), a map of one number (15), the caller's own test (16); then none
pub order_rows : number (at 0 true 5 0 0) (1 ∷ []) (97 ∷ []) true ∷ number (at 1000 true 5 0 0) (1 ∷ []) (97 ∷ []) true ∷ number (at 1000 false 5 0 0) (1 ∷ []) (97 ∷ []) true
    ∷ number (at 1000 false 5 0 0) [] (97 ∷ []) true ∷ number (at 1000 false 5 0 0) [] (97 ∷ []) false ∷ []
    ≡ 17 ∷ 18 ∷ 15 ∷ 16 ∷ 0 ∷ []
unfolding text_bad text_gate text_answer kind_bad timescale_bad is_outcome outcome_bad held_bad columns_bad map_bad any_bad segments_of
order_rows = refl

-- ---- afterwards
-- what is held, then the numbers: bytes held, taken, lines ended
abbrev kept : Head → (text : List ℕ) → (bad : Bool) → List ℕ
kept h text b = text_kept h [] text b 100 20

abbrev numbers : Head → (text : List ℕ) → (bad : Bool) → List ℕ
numbers h text b = let r = text_head h [] text b 100 20 in r.held_len ∷ r.taken ∷ r.lines ∷ []

-- refused, all is as it came, also a claim of more bytes than the text has
pub refused_rows : kept (at 1000 false 5 0 3) (97 ∷ []) false ++ numbers (at 1000 false 5 0 3) (97 ∷ []) false ≡ 97 ∷ 3 ∷ 5 ∷ 0 ∷ []
unfolding text_bad text_gate text_answer text_head text_kept kind_bad timescale_bad is_outcome outcome_bad held_bad columns_bad map_bad any_bad segments_of
refused_rows = refl

-- a line and a half are held; the new bytes end the second line and begin a third: all is held
pub on_rows : kept (at 1000 false 3 1 3) (97 ∷ 10 ∷ 98 ∷ 99 ∷ 10 ∷ 100 ∷ []) false ++ numbers (at 1000 false 3 1 3) (97 ∷ 10 ∷ 98 ∷ 99 ∷ 10 ∷ 100 ∷ []) false
    ≡ 97 ∷ 10 ∷ 98 ∷ 99 ∷ 10 ∷ 100 ∷ 6 ∷ 6 ∷ 2 ∷ []
unfolding text_bad text_gate text_answer text_head text_kept kind_bad timescale_bad is_outcome outcome_bad held_bad columns_bad map_bad any_bad segments_of takes block_takes header_due has_bom starts blank_in blank trim_head head_from white_head white white_high code_head code_by char_width width_by lead_len second_low second_high tail utf8 utf8_from
on_rows = refl

-- the second line is no UTF-8: 20, nothing is held, and every byte counts as taken
pub fault_rows : number (at 1000 false 3 1 3) [] (97 ∷ 10 ∷ 98 ∷ 255 ∷ 10 ∷ 100 ∷ []) false ∷ numbers (at 1000 false 3 1 3) (97 ∷ 10 ∷ 98 ∷ 255 ∷ 10 ∷ 100 ∷ []) false
    ≡ 20 ∷ 0 ∷ 6 ∷ 0 ∷ []
unfolding text_bad text_gate text_answer text_head text_kept kind_bad timescale_bad is_outcome outcome_bad held_bad columns_bad map_bad any_bad segments_of takes block_takes header_due has_bom starts blank_in blank trim_head head_from white_head white white_high code_head code_by char_width width_by lead_len second_low second_high tail utf8 utf8_from
fault_rows = refl

-- a BOM in two feeds, then a line and the begin of another: it is written, and what is held begins behind it
pub bom_rows : kept (at 1000 false 1 0 1) (239 ∷ 187 ∷ 191 ∷ 97 ∷ 10 ∷ 98 ∷ []) false ++ numbers (at 1000 false 1 0 1) (239 ∷ 187 ∷ 191 ∷ 97 ∷ 10 ∷ 98 ∷ []) false
    ++ output_of (text_answer (at 1000 false 1 0 1) [] (239 ∷ 187 ∷ 191 ∷ 97 ∷ 10 ∷ 98 ∷ []) false 100 20).emits
    ≡ 97 ∷ 10 ∷ 98 ∷ 3 ∷ 6 ∷ 1 ∷ 239 ∷ 187 ∷ 191 ∷ []
unfolding text_bad text_gate text_answer text_head text_kept kind_bad timescale_bad is_outcome outcome_bad held_bad columns_bad map_bad any_bad segments_of takes block_takes header_due has_bom starts blank_in blank trim_head head_from white_head white white_high code_head code_by char_width width_by lead_len second_low second_high tail utf8 utf8_from emits_of output_of emit_by
bom_rows = refl
