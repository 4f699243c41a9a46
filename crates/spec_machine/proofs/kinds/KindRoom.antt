-- Room: what a line or a block of any kind writes has at most three bytes for each byte that was held or came in, and at most one warning for seven.
use mathlib.Core.Path.{◌≡◌, refl, sym, ap, subst, ◌∙◌}
use mathlib.Core.Bool.{Bool, true, false, cond, true≢false}
use mathlib.Core.List.{List, [], ◌∷◌, ◌++◌}
use Prim.Native.Nat.{ℕ, suc, ◌+◌, ◌-◌, ◌*◌, ◌≤◌, ◌<◌}
use native.Mathlib.Omega.{arith}
use lib.Dec.{leb}
use lib.ListN.{length, length-append}
use Rattle.spec_base.specs.base.Limits.{most_block}
use Rattle.spec_text.specs.utf8.Utf8.{utf8}
use Rattle.spec_text.specs.whitespace.White.{head_from, trim_head}
use Rattle.spec_text.specs.text.Line.{lines_of, concat, line_count, has_lf, blank, text_of, terminator_length}
use Rattle.spec_text.proofs.text.LineLaws.{Finished, lines_end}
use Rattle.spec_map.specs.declared.segment.Segment.{Segment}
use Rattle.spec_map.specs.segment.Segment.{segments_of, map_bad}
use Rattle.spec_caption.specs.declared.caption_fate.Config.{Config}
use Rattle.spec_caption.specs.caption_fate.Says.{Part, stays, Fault, not_utf8, bad_header}
use Rattle.spec_caption.specs.caption_fate.Emit.{emit_of}
use Rattle.spec_caption.proofs.caption_fate.FineLaws.{Set}
use Rattle.spec_ass.specs.ass_line.Line.{LineSays, line_says, faulty as lineFaulty, says as line_said}
use Rattle.spec_ass.proofs.ass_line.LineFits.{line_fits}
use Rattle.spec_cue.specs.block_timing.Style.{style_of, blank_in}
use Rattle.spec_cue.specs.block_timing.Header.{is_header, header_due}
use Rattle.spec_cue.specs.block_cue.Block.{BlockSays, block_says, faulty as blockFaulty, says as block_said}
use Rattle.spec_cue.proofs.block_cue.Fits.{block_fits}
use Rattle.spec_cue.proofs.block_cue.FineBlock.{lines_held, lines_open}
use Rattle.spec_machine.specs.session_counts.Machine.{Says, faulty, says}
use Rattle.spec_machine.proofs.session_counts.Room.{out_len, warn_len, out_none, warn_none, out_cons, warn_cons, out_stay, warn_stay, RoomOf, Roomy}
use Rattle.spec_machine.specs.kinds.Takes.{State, of_line, line_takes, with_block, of_block, closes, adds, block_takes, head_takes, takes}
use Rattle.spec_machine.specs.kinds.Kit.{kit}
use Rattle.spec_machine.proofs.kinds.KindLaws.{takes_ass, takes_srt, takes_vtt, ends_ass, ends_srt, ends_vtt, concat_snoc, size, ass_laws, srt_laws, vtt_laws}
use Rattle.spec_machine.proofs.session_counts.Keeps.{Kept}

module _ (c : Config) (m : List Segment) where
  abbrev Of : State → List ℕ → Says State → Type 0
  Of s l x = RoomOf c m size 3 s l x

  checked : (P : Says State → Type 0) (u : Bool) (x : Says State) (f : Fault) → P (faulty f) → (u ≡ true → P x) → P (cond u x (faulty f))
  checked P true x f a h = h refl
  checked P false x f a h = a

  -- a part that is small beside n bytes
  pub record Slim (n : ℕ) (p : Part) : Type 0 where
    pub output : length (emit_of c m p).out ≤ 3 * n
    pub warned : 7 * length (emit_of c m p).warnings ≤ n

-- ---- ASS
module _ (c : Config) (set : Set c) (g : List ℕ) (good : map_bad g ≡ false) where
  abbrev ass_map : List Segment
  ass_map = segments_of g

  said_room : (s : State) (n : ℕ) (l : List ℕ) (x : LineSays) → line_says s.columns n l ≡ x → Of c ass_map s l (of_line s x)
  said_room s n l (lineFaulty f) e = tt
  said_room s n l (line_said d p) e =
      let z = line_fits c set g good s.columns n l d p e in
      record {
        out = rw (out_cons c ass_map p [], out_none c ass_map) (omega (arith, z.output));
        warn = rw (warn_cons c ass_map p [], warn_none c ass_map) (omega (arith, z.warned_long));
      }

  ass_step : (s : State) (n : ℕ) (l : List ℕ) → Of c ass_map s l (line_takes s n l)
  unfolding line_takes
  ass_step s n l = checked c ass_map (Of c ass_map s l) (utf8 l) (of_line s (line_says s.columns n l)) not_utf8 tt (λ e. said_room s n l (line_says s.columns n l) refl)

  no_last : (x : Says State) → Kept (λ s. Unit {0}) x
  no_last (faulty f) = tt
  no_last (says t ps) = tt

  pub ass_roomy : Roomy kit 0 ass_laws c ass_map 3
  ass_roomy =
      record {
        positive = omega arith;
        Last = λ s. Unit {0};
        fit_last = λ s f. tt;
        steps = λ s n l f h. subst (Of c ass_map s l) (sym (takes_ass s n l)) (ass_step s n l);
        lasts = λ s n l f h e. no_last (takes 0 s n l);
        closes =
            λ s n z. subst (Of c ass_map s []) (sym (ends_ass s n))
            (record { out = rw (out_none c ass_map) (omega arith); warn = rw (warn_none c ass_map) (omega arith) });
      }

-- ---- SRT and WebVTT
-- the held lines are the lines of the held bytes
abbrev pub Parsed : State → Type 0
Parsed s = lines_of (concat s.block) ≡ s.block

parsed_none : (s : State) → Parsed (with_block [] s)
parsed_none s = lines_end [] (omega arith)

abbrev NotEmpty : (j : ℕ) → Type 0
NotEmpty j = (l : List ℕ) → blank_in (suc j) l ≡ false → 0 < length l

pub srt_some : NotEmpty 0
unfolding blank_in blank trim_head head_from
srt_some [] e = absurd (true≢false e)
srt_some (b ∷ l) e = omega arith

pub vtt_some : NotEmpty 1
unfolding blank_in text_of terminator_length
vtt_some [] e = absurd (true≢false e)
vtt_some (b ∷ l) e = omega arith

module _ (j : ℕ) (some : NotEmpty j) where
  parsed_more : (s : State) (l : List ℕ) → Finished s.block → blank_in (suc j) l ≡ false → has_lf l ≡ false → Parsed (with_block (s.block ++ (l ∷ [])) s)
  parsed_more s l f b e = ap lines_of (concat_snoc s.block l) ∙ lines_open s.block f l (some l b) e

  last_block : (s : State) (more : List Part) (x : BlockSays) → Kept Parsed (of_block s more x)
  last_block s more (blockFaulty f) = tt
  last_block s more (block_said p) = parsed_none s

  last_closes : (s : State) (n : ℕ) (b : List (List ℕ)) (more : List Part) → Kept Parsed (closes (style_of (suc j)) s n b more)
  last_closes s n [] more = parsed_none s
  last_closes s n (k ∷ ks) more = last_block s more (block_says (style_of (suc j)) (suc n - line_count (k ∷ ks)) (k ∷ ks))

  last_adds : (t : Bool) (s : State) (l : List ℕ) → Finished s.block → blank_in (suc j) l ≡ false → has_lf l ≡ false → Kept Parsed (adds t s l)
  last_adds true s l f b e = parsed_more s l f b e
  last_adds false s l f b e = tt

  last_blank : (t : Bool) (s : State) (n : ℕ) (l : List ℕ) → Finished s.block → blank_in (suc j) l ≡ t → has_lf l ≡ false
      → Kept Parsed (cond t (closes (style_of (suc j)) s n s.block (stays l ∷ [])) (adds (leb (length (concat s.block) + length l) most_block) s l))
  last_blank true s n l f b e = last_closes s n s.block (stays l ∷ [])
  last_blank false s n l f b e = last_adds (leb (length (concat s.block) + length l) most_block) s l f b e

  pub block_end : (s : State) (n : ℕ) (l : List ℕ) → Finished s.block → has_lf l ≡ false → Kept Parsed (block_takes (style_of (suc j)) s n l)
  unfolding block_takes
  block_end s n l f e = checked_last (utf8 l) _ (last_blank (blank_in (suc j) l) s n l f refl e)
    where
      checked_last : (u : Bool) (x : Says State) → Kept Parsed x → Kept Parsed (cond u x (faulty not_utf8))
      checked_last true x a = a
      checked_last false x a = tt

-- WebVTT: a last line of either sort
head_end : (s : State) (l : List ℕ) → Parsed s → Kept Parsed (head_takes s l)
unfolding head_takes
head_end s l h = go (utf8 l) (is_header l)
  where
    go : (u b : Bool) → Kept Parsed (cond u (cond b (says s (stays l ∷ [])) (faulty bad_header)) (faulty not_utf8))
    go true true = h
    go true false = tt
    go false b = tt

pub vtt_end_lem : (s : State) (n : ℕ) (l : List ℕ) → Finished s.block → has_lf l ≡ false → (b : Bool) → Kept Parsed (cond b (head_takes s l) (block_takes (style_of 2) s n l))
vtt_end_lem s n l f e true = head_end s l (lines_held s.block f)
vtt_end_lem s n l f e false = block_end 1 vtt_some s n l f e

module _ (j : ℕ) (c : Config) (set : Set c) (g : List ℕ) (good : map_bad g ≡ false) where
  abbrev m : List Segment
  m = segments_of g

  block_slim : (first : ℕ) (ls : List (List ℕ)) (p : Part) → lines_of (concat ls) ≡ ls → block_says (style_of (suc j)) first ls ≡ block_said p → Slim c m (length (concat ls)) p
  block_slim first ls p e q =
      let z = block_fits c set g good (suc j) first (concat ls) p (ap (block_says (style_of (suc j)) first) e ∙ q) in
      record { output = z.output; warned = z.warned_long }

  -- a block that a line or a finish ends
  block_room : (s : State) (l : List ℕ) (more : List Part) (first : ℕ) (x : BlockSays) → Parsed s → block_says (style_of (suc j)) first s.block ≡ x
      → out_len c m more ≤ 3 * length l → warn_len c m more ≡ 0 → Of c m s l (of_block s more x)
  block_room s l more first (blockFaulty f) h e o w = tt
  block_room s l more first (block_said p) h e o w =
      let z = block_slim first s.block p h e in
      record {
        out = rw (out_cons c m p more) (omega (arith, z.output));
        warn = rw (warn_cons c m p more) (omega (arith, z.warned));
      }

  closes_room : (s : State) (n : ℕ) (l : List ℕ) (b : List (List ℕ)) (more : List Part) → s.block ≡ b → Parsed s
      → out_len c m more ≤ 3 * length l → warn_len c m more ≡ 0 → Of c m s l (closes (style_of (suc j)) s n b more)
  closes_room s n l [] more e h o w = record { out = omega arith; warn = omega arith }
  closes_room s n l (k ∷ ks) more e h o w =
      block_room s l more (suc n - line_count (k ∷ ks)) (block_says (style_of (suc j)) (suc n - line_count (k ∷ ks)) (k ∷ ks)) h
      (ap (block_says (style_of (suc j)) (suc n - line_count (k ∷ ks))) e) o w

  adds_room : (t : Bool) (s : State) (l : List ℕ) → Of c m s l (adds t s l)
  adds_room true s l =
      let k : length (concat (s.block ++ (l ∷ []))) ≡ length (concat s.block) + length l = ap length (concat_snoc s.block l) ∙ length-append (concat s.block) l in
      record { out = rw (out_none c m) (omega arith); warn = rw (warn_none c m) (omega arith) }
  adds_room false s l = tt

  blank_room : (t : Bool) (s : State) (n : ℕ) (l : List ℕ) → Parsed s
      → Of c m s l (cond t (closes (style_of (suc j)) s n s.block (stays l ∷ [])) (adds (leb (length (concat s.block) + length l) most_block) s l))
  blank_room true s n l h =
      let o : out_len c m (stays l ∷ []) ≤ 3 * length l = rw (out_stay c m l [], out_none c m) (omega arith) in
      closes_room s n l s.block (stays l ∷ []) refl h o (warn_stay c m l [] ∙ warn_none c m)
  blank_room false s n l h = adds_room (leb (length (concat s.block) + length l) most_block) s l

  block_step : (s : State) (n : ℕ) (l : List ℕ) → Parsed s → Of c m s l (block_takes (style_of (suc j)) s n l)
  unfolding block_takes
  block_step s n l h = checked c m (Of c m s l) (utf8 l) _ not_utf8 tt (λ e. blank_room (blank_in (suc j) l) s n l h)

module _ (c : Config) (set : Set c) (g : List ℕ) (good : map_bad g ≡ false) where
  abbrev n₁ : List Segment
  n₁ = segments_of g

  pub srt_roomy : Roomy kit 1 srt_laws c n₁ 3
  srt_roomy =
      record {
        positive = omega arith;
        Last = Parsed;
        fit_last = λ s f. lines_held s.block f.block;
        steps = λ s n l f h. subst (Of c n₁ s l) (sym (takes_srt s n l)) (block_step 0 c set g good s n l (lines_held s.block f.block));
        lasts = λ s n l f h e. subst (Kept Parsed) (sym (takes_srt s n l)) (block_end 0 srt_some s n l f.block e);
        closes =
            λ s n h. subst (Of c n₁ s []) (sym (ends_srt s n))
            (closes_room 0 c set g good s n [] s.block [] refl h (rw (out_none c n₁) (omega arith)) (warn_none c n₁));
      }

  -- WebVTT: the first line writes itself
  head_room : (s : State) (l : List ℕ) → Of c n₁ s l (head_takes s l)
  unfolding head_takes
  head_room s l = checked c n₁ (Of c n₁ s l) (utf8 l) _ not_utf8 tt (λ e. checked c n₁ (Of c n₁ s l) (is_header l) (says s (stays l ∷ [])) bad_header tt (λ z. stay))
    where
      stay : Of c n₁ s l (says s (stays l ∷ []))
      stay = record { out = rw (out_stay c n₁ l [], out_none c n₁) (omega arith); warn = rw (warn_stay c n₁ l [], warn_none c n₁) (omega arith) }

  vtt_room : (s : State) (n : ℕ) (l : List ℕ) → Parsed s → (b : Bool) → Of c n₁ s l (cond b (head_takes s l) (block_takes (style_of 2) s n l))
  vtt_room s n l h true = head_room s l
  vtt_room s n l h false = block_step 1 c set g good s n l h

  vtt_closes : (s : State) (n : ℕ) → Parsed s → (b : Bool) → Of c n₁ s [] (cond b (faulty bad_header) (closes (style_of 2) s n s.block []))
  vtt_closes s n h true = tt
  vtt_closes s n h false = closes_room 1 c set g good s n [] s.block [] refl h (rw (out_none c n₁) (omega arith)) (warn_none c n₁)

  pub vtt_roomy : Roomy kit 2 vtt_laws c n₁ 3
  vtt_roomy =
      record {
        positive = omega arith;
        Last = Parsed;
        fit_last = λ s f. lines_held s.block f.block;
        steps = λ s n l f h. subst (Of c n₁ s l) (sym (takes_vtt s n l)) (vtt_room s n l (lines_held s.block f.block) (header_due 2 n s.block));
        lasts = λ s n l f h e. subst (Kept Parsed) (sym (takes_vtt s n l)) (vtt_end_lem s n l f.block e (header_due 2 n s.block));
        closes = λ s n h. subst (Of c n₁ s []) (sym (ends_vtt s n)) (vtt_closes s n h (header_due 2 n s.block));
      }
