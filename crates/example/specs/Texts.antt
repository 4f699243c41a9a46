-- Two texts cut within a time, and what four calls tell of them.
use Rattle.std.specs.Prelude.{true, false, List, [], ◌∷◌, ℕ}
use Rattle.spec_base.specs.base.Ascii.{ascii}
use Rattle.spec_caption.specs.caption_fate.Says.{bytes, start, stop, short, Cue, Part, stays, passes, cue}
use Rattle.spec_caption.specs.caption_fate.Emit.{warning}
use Rattle.example.specs.Worked.{Told}

-- ---- ASS; the last line has no terminator
abbrev pub ass_first : List ℕ
ass_first = ascii "[Events]\nFormat:Start,End\nDialogue:0:0:0.05,0:0:0."

abbrev pub ass_rest : List ℕ
ass_rest =
    ascii "25\nDialogue:0:0:0.12,0:0:0.20\nDialogue:0:0:0.21\nDialogue:0:0:0.21,0:0:0.25\nDialogue:0:0:0.0,0:0:0.0\nDialogue:0:0:0.13,0:0:0.14\nDialogue:a\nDialogue:b\nComment:c\nDialogue:0:0:0.20,0:0:0.21"

-- 5–25 clipped to 5–11 with warning 4, 12–20 dropped, one field of two passed with warning 2, 21–25 shifted to 10–15; then two more dropped, three
-- more passed, and 20–21 clipped to 10–11 at the finish: four different counts
abbrev pub ass_told : Told
ass_told =
    record {
      numbers = 0 ∷ 16 ∷ 0 ∷ 0 ∷ [];
      output = ascii "[Events]\nFormat:Start,End\nDialogue:0:00:00.05,0:00:00.11\nDialogue:0:0:0.21\nDialogue:0:00:00.10,0:00:00.15\nDialogue:a\nDialogue:b\nComment:c\nDialogue:0:00:00.10,0:00:00.11";
      warnings = warning 4 3 ∷ warning 2 5 ∷ warning 2 9 ∷ warning 2 10 ∷ warning 2 11 ∷ [];
      outcome = 0;
      counts = record { shifted = 1; clipped = 2; dropped = 3; passed = 4 };
      taken = 235;
      ended = true;
    }

-- what the text alone says
abbrev pub ass_cue : (line start stop : ℕ) → (terminator : List ℕ) → Cue
ass_cue n S E z =
    record {
      line = n;
      start = S;
      start_mark = 46;
      stop = E;
      stop_mark = 46;
      tagged = false;
      stamped = false;
      frame = bytes (ascii "Dialogue:") ∷ start ∷ bytes (ascii ",") ∷ stop ∷ bytes z ∷ [];
    }

abbrev pub ass_parts : List Part
ass_parts =
    stays (ascii "[Events]\n")
    ∷ stays (ascii "Format:Start,End\n")
    ∷ cue (ass_cue 3 5 25 (10 ∷ []))
    ∷ cue (ass_cue 4 12 20 (10 ∷ []))
    ∷ passes short 5 (ascii "Dialogue:0:0:0.21\n")
    ∷ cue (ass_cue 6 21 25 (10 ∷ []))
    ∷ cue (ass_cue 7 0 0 (10 ∷ []))
    ∷ cue (ass_cue 8 13 14 (10 ∷ []))
    ∷ passes short 9 (ascii "Dialogue:a\n")
    ∷ passes short 10 (ascii "Dialogue:b\n")
    ∷ passes short 11 (ascii "Comment:c\n")
    ∷ cue (ass_cue 12 20 21 [])
    ∷ []

-- ---- SRT; the last block is ended by the finish
abbrev pub srt_first : List ℕ
srt_first = ascii "1\n00:00:00,050 --> 00:00:0"

abbrev pub srt_rest : List ℕ
srt_rest =
    ascii "0,250\na\n\n2\n00:00:00,120 --> 00:00:00,200\nb\n\n3\n00:00:00,210 --> 00:00:00,250\nc\n\n4\n0:0:0,0-->0:0:0,0\n\n0:0:0,130-->0:0:0,140\n\n0:0:0,200-->0:0:0,210"

-- 50–250 clipped to 50–101 with warning 4, 120–200 dropped with its block, 210–250 shifted to 109–150; then two more dropped, and 200–210 clipped to
-- 100–110 at the finish: four different counts
abbrev pub srt_told : Told
srt_told =
    record {
      numbers = 0 ∷ 16 ∷ 0 ∷ 0 ∷ [];
      output = ascii "1\n00:00:00,050 --> 00:00:00,101\na\n\n\n3\n00:00:00,109 --> 00:00:00,150\nc\n\n\n\n00:00:00,100 --> 00:00:00,110";
      warnings = warning 4 2 ∷ [];
      outcome = 0;
      counts = record { shifted = 1; clipped = 2; dropped = 3; passed = 0 };
      taken = 170;
      ended = true;
    }

-- ---- WebVTT; the last block is ended by the finish
abbrev pub vtt_first : List ℕ
vtt_first = ascii "WEBVTT x\n\n1\n00:00.050 --> 00:00:0"

abbrev pub vtt_rest : List ℕ
vtt_rest =
    ascii "0.250 line:0\n<1>\n\nNOTE\n\n00:00.120 --> 00:00.200\nb<2\n\n3\n00:00.210-->00:00.250\nc <3\n\n00:00.200 --> 00:00.210"

-- the first line stays; 50–250 clipped to 50–101 with warnings 4 and 5 at line 4, 120–200 dropped with no warning, 210–250 shifted to 109–150 with
-- warning 5, and 200–210 clipped to 100–110 at the finish
abbrev pub vtt_told : Told
vtt_told =
    record {
      numbers = 0 ∷ 16 ∷ 0 ∷ 0 ∷ [];
      output = ascii "WEBVTT x\n\n1\n00:00:00.050 --> 00:00:00.101 line:0\n<1>\n\nNOTE\n\n\n3\n00:00:00.109 --> 00:00:00.150\nc <3\n\n00:00:00.100 --> 00:00:00.110";
      warnings = warning 4 4 ∷ warning 5 4 ∷ warning 5 13 ∷ [];
      outcome = 0;
      counts = record { shifted = 1; clipped = 2; dropped = 1; passed = 0 };
      taken = 139;
      ended = true;
    }
