-- WebVTT texts worked by hand through document 01's map: the number, the bytes, the warnings and the counts, after a finish and before one.
use Rattle.std.specs.Prelude.{◌≡◌, Bool, true, false, List, [], ◌∷◌, ◌++◌, ℕ}
use Rattle.spec_base.specs.base.Ascii.{ascii}
use Rattle.spec_caption.specs.caption_fate.Emit.{Warning, warning, emits_of, output_of, warnings_of}
use Rattle.spec_machine.specs.declared.session_counts.Counts.{Counts}
use Rattle.spec_machine.specs.session_counts.Counts.{counts_of}
use Rattle.spec_machine.specs.session_counts.Reader.{Reading}
use Rattle.promise.specs.Plain.{plain_read}
use Rattle.promise.specs.Promise.{config_of}
use Rattle.example.specs.Worked.{plain_map}

pub record Became : Type 0 where
  pub number : ℕ
  pub output : List ℕ
  pub warnings : List Warning
  pub counts : Counts

abbrev pub became : (number : ℕ) → (output : List ℕ) → List Warning → (shifted clipped dropped : ℕ) → Became
became k o ws a b c = record { number = k; output = o; warnings = ws; counts = record { shifted = a; clipped = b; dropped = c; passed = 0 } }

-- what the plain reader reads, put through the map
abbrev pub becomes_by : Reading → Became
becomes_by r =
    record {
      number = r.fault;
      output = output_of (emits_of (config_of 2 30000) plain_map.segments r.parts);
      warnings = warnings_of (emits_of (config_of 2 30000) plain_map.segments r.parts);
      counts = counts_of (emits_of (config_of 2 30000) plain_map.segments r.parts);
    }

abbrev pub becomes : (finished : Bool) → List ℕ → Became
becomes f text = becomes_by (plain_read 2 f text)

pub record Rows : Type 0 where
  -- empty text
  pub empty_text : becomes true ([]) ≡ became 24 ([]) ([]) 0 0 0
  -- BOM alone
  pub bom_alone : becomes true ((0xEF ∷ 0xBB ∷ 0xBF ∷ [])) ≡ became 24 ([]) ([]) 0 0 0
  -- part of a BOM is a last line
  pub part_of_a_bom_is_a : becomes true ((0xEF ∷ 0xBB ∷ [])) ≡ became 20 ([]) ([]) 0 0 0
  -- header alone, no terminator
  pub header_alone_no_terminator : becomes true (ascii "WEBVTT") ≡ became 0 (ascii "WEBVTT") ([]) 0 0 0
  -- BOM and header
  pub bom_and_header : becomes true ((0xEF ∷ 0xBB ∷ 0xBF ∷ []) ++ ascii "WEBVTT" ++ (0x0D ∷ []) ++ ascii "\n") ≡ became 0 ((0xEF ∷ 0xBB ∷ 0xBF ∷ []) ++ ascii "WEBVTT" ++ (0x0D ∷ []) ++ ascii "\n") ([]) 0 0 0
  -- header goes on with a tab and an arrow
  pub header_goes_on_with_a_tab : becomes true (ascii "WEBVTT\t00:60.000 --> x\n") ≡ became 0 (ascii "WEBVTT\t00:60.000 --> x\n") ([]) 0 0 0
  -- header goes on with a space
  pub header_goes_on_with_a_space : becomes true (ascii "WEBVTT - A play\n\n00:00.210 --> 00:00.250\n") ≡ became 0 (ascii "WEBVTT - A play\n\n00:00:00.109 --> 00:00:00.150\n") ([]) 1 0 0
  -- header goes on with another byte
  pub header_goes_on_with_another_byte : becomes true (ascii "WEBVTT-\n\n") ≡ became 24 ([]) ([]) 0 0 0
  -- lone CR behind the word is text
  pub lone_cr_behind_the_word_is : becomes true (ascii "WEBVTT" ++ (0x0D ∷ []) ++ ascii "x\n") ≡ became 24 ([]) ([]) 0 0 0
  -- CR at the end of the text is no terminator
  pub cr_at_the_end_of_the : becomes true (ascii "WEBVTT" ++ (0x0D ∷ [])) ≡ became 24 ([]) ([]) 0 0 0
  -- CR CR LF: the first CR is text
  pub cr_cr_lf_the_first_cr : becomes true (ascii "WEBVTT" ++ (0x0D ∷ 0x0D ∷ []) ++ ascii "\n") ≡ became 24 ([]) ([]) 0 0 0
  -- small letters
  pub small_letters : becomes true (ascii "webvtt\n") ≡ became 24 ([]) ([]) 0 0 0
  -- empty first line
  pub empty_first_line : becomes true (ascii "\nWEBVTT\n") ≡ became 24 ([]) ([]) 0 0 0
  -- BOM is not written back with 24
  pub bom_is_not_written_back_with : becomes true ((0xEF ∷ 0xBB ∷ 0xBF ∷ []) ++ ascii "WEBVT\n") ≡ became 24 ([]) ([]) 0 0 0
  -- two BOMs
  pub two_boms : becomes true ((0xEF ∷ 0xBB ∷ 0xBF ∷ 0xEF ∷ 0xBB ∷ 0xBF ∷ []) ++ ascii "WEBVTT\n") ≡ became 24 ([]) ([]) 0 0 0
  -- 20 before 24
  pub n_20_before_24 : becomes true (ascii "x" ++ (0xFF ∷ []) ++ ascii "\n") ≡ became 20 ([]) ([]) 0 0 0
  -- no blank line behind the header
  pub no_blank_line_behind_the_header : becomes true (ascii "WEBVTT\n00:00.210 --> 00:00.250\n") ≡ became 0 (ascii "WEBVTT\n00:00:00.109 --> 00:00:00.150\n") ([]) 1 0 0
  -- a line of a space is not blank
  pub a_line_of_a_space_is : becomes true (ascii "WEBVTT\n\n00:00.210 --> 00:00.250\na\n \n00:99.000 --> b\n") ≡ became 0 (ascii "WEBVTT\n\n00:00:00.109 --> 00:00:00.150\na\n \n00:99.000 --> b\n") ([]) 1 0 0
  -- CR LF is blank, CR CR LF is not
  pub cr_lf_is_blank_cr_cr : becomes true (ascii "WEBVTT\n\n00:00.210 --> 00:00.250" ++ (0x0D ∷ []) ++ ascii "\n" ++ (0x0D ∷ 0x0D ∷ []) ++ ascii "\n" ++ (0x0D ∷ []) ++ ascii "\nb" ++ (0x0D ∷ []) ++ ascii "\n") ≡ became 0 (ascii "WEBVTT\n\n00:00:00.109 --> 00:00:00.150" ++ (0x0D ∷ []) ++ ascii "\n" ++ (0x0D ∷ 0x0D ∷ []) ++ ascii "\n" ++ (0x0D ∷ []) ++ ascii "\nb" ++ (0x0D ∷ []) ++ ascii "\n") ([]) 1 0 0
  -- a last CR is a line of a block
  pub a_last_cr_is_a_line : becomes true (ascii "WEBVTT\n\n" ++ (0x0D ∷ [])) ≡ became 0 (ascii "WEBVTT\n\n" ++ (0x0D ∷ [])) ([]) 0 0 0
  -- dropped keeps the blank lines
  pub dropped_keeps_the_blank_lines : becomes true (ascii "WEBVTT\n\nid\n00:00.120 --> 00:00.200\nx\n\n\nz") ≡ became 0 (ascii "WEBVTT\n\n\n\nz") ([]) 0 0 1
  -- no hours, hours of two and of six digits
  pub no_hours_hours_of_two_and : becomes true (ascii "WEBVTT\n\n00:00.210 --> 00:00:00.250\n\n000000:00:00.210 --> 00:00.250") ≡ became 0 (ascii "WEBVTT\n\n00:00:00.109 --> 00:00:00.150\n\n00:00:00.109 --> 00:00:00.150") ([]) 2 0 0
  -- hours of one digit
  pub hours_of_one_digit : becomes true (ascii "WEBVTT\n\n0:00:00.210 --> 00:00.250\n") ≡ became 22 (ascii "WEBVTT\n\n") ([]) 0 0 0
  -- plus sign
  pub plus_sign : becomes true (ascii "WEBVTT\n\n+0:00.210 --> 00:00.250\n") ≡ became 22 (ascii "WEBVTT\n\n") ([]) 0 0 0
  -- comma
  pub comma : becomes true (ascii "WEBVTT\n\n00:00,210 --> 00:00.250\n") ≡ became 22 (ascii "WEBVTT\n\n") ([]) 0 0 0
  -- fraction of two digits
  pub fraction_of_two_digits : becomes true (ascii "WEBVTT\n\n00:00.21 --> 00:00.250\n") ≡ became 22 (ascii "WEBVTT\n\n") ([]) 0 0 0
  -- fraction of four digits
  pub fraction_of_four_digits : becomes true (ascii "WEBVTT\n\n00:00.2100 --> 00:00.250\n") ≡ became 22 (ascii "WEBVTT\n\n") ([]) 0 0 0
  -- minutes of one digit
  pub minutes_of_one_digit : becomes true (ascii "WEBVTT\n\n0:00.210 --> 00:00.250\n") ≡ became 22 (ascii "WEBVTT\n\n") ([]) 0 0 0
  -- minutes above 59
  pub minutes_above_59 : becomes true (ascii "WEBVTT\n\n60:00.000 --> 60:00.250\n") ≡ became 22 (ascii "WEBVTT\n\n") ([]) 0 0 0
  -- seconds above 59
  pub seconds_above_59 : becomes true (ascii "WEBVTT\n\n00:60.000 --> 00:60.250\n") ≡ became 22 (ascii "WEBVTT\n\n") ([]) 0 0 0
  -- hours 9,999 are read
  pub hours_9999_are_read : becomes true (ascii "WEBVTT\n\n9999:59:59.999 --> 9999:59:59.999\n") ≡ became 0 (ascii "WEBVTT\n\n") ([]) 0 0 1
  -- hours 10,000
  pub hours_10000 : becomes true (ascii "WEBVTT\n\n10000:00:00.000 --> 10000:00:00.000\n") ≡ became 22 (ascii "WEBVTT\n\n") ([]) 0 0 0
  -- three colons
  pub three_colons : becomes true (ascii "WEBVTT\n\n00:00:00:00.210 --> 00:00.250\n") ≡ became 22 (ascii "WEBVTT\n\n") ([]) 0 0 0
  -- no end
  pub no_end : becomes true (ascii "WEBVTT\n\n00:00.210 -->\n") ≡ became 22 (ascii "WEBVTT\n\n") ([]) 0 0 0
  -- trimmed by White_Space
  pub trimmed_by_whitespace : becomes true (ascii "WEBVTT\n\n" ++ (0xC2 ∷ 0xA0 ∷ []) ++ ascii "00:00.210" ++ (0xC2 ∷ 0xA0 ∷ []) ++ ascii "-->" ++ (0xE3 ∷ 0x80 ∷ 0x80 ∷ []) ++ ascii "00:00.250" ++ (0xC2 ∷ 0xA0 ∷ []) ++ ascii " a\n") ≡ became 0 (ascii "WEBVTT\n\n00:00:00.109 --> 00:00:00.150 a\n") ([]) 1 0 0
  -- settings are kept with their space
  pub settings_are_kept_with_their_space : becomes true (ascii "WEBVTT\n\n00:00.210 --> 00:00.250 align:start position:10%\nx\n") ≡ became 0 (ascii "WEBVTT\n\n00:00:00.109 --> 00:00:00.150 align:start position:10%\nx\n") ([]) 1 0 0
  -- settings behind a tab
  pub settings_behind_a_tab : becomes true (ascii "WEBVTT\n\n00:00.210 --> 00:00.250\t line:0 " ++ (0x0D ∷ []) ++ ascii "\n") ≡ became 0 (ascii "WEBVTT\n\n00:00:00.109 --> 00:00:00.150\t line:0 " ++ (0x0D ∷ []) ++ ascii "\n") ([]) 1 0 0
  -- end stops at a space or tab only
  pub end_stops_at_a_space_or : becomes true (ascii "WEBVTT\n\n00:00.210 --> 00:00.250" ++ (0xC2 ∷ 0xA0 ∷ []) ++ ascii "align:start\n") ≡ became 22 (ascii "WEBVTT\n\n") ([]) 0 0 0
  -- CR behind the end belongs to it and is trimmed
  pub cr_behind_the_end_belongs_to : becomes true (ascii "WEBVTT\n\n00:00.210 --> 00:00.250" ++ (0x0D ∷ 0x0D ∷ []) ++ ascii "\nx\n") ≡ became 0 (ascii "WEBVTT\n\n00:00:00.109 --> 00:00:00.150" ++ (0x0D ∷ []) ++ ascii "\nx\n") ([]) 1 0 0
  -- CR behind a space is kept
  pub cr_behind_a_space_is_kept : becomes true (ascii "WEBVTT\n\n00:00.210 --> 00:00.250 " ++ (0x0D ∷ 0x0D ∷ []) ++ ascii "\nx\n") ≡ became 0 (ascii "WEBVTT\n\n00:00:00.109 --> 00:00:00.150 " ++ (0x0D ∷ 0x0D ∷ []) ++ ascii "\nx\n") ([]) 1 0 0
  -- no spaces about the arrow
  pub no_spaces_about_the_arrow : becomes true (ascii "WEBVTT\n\n00:00.210-->00:00.250\n") ≡ became 0 (ascii "WEBVTT\n\n00:00:00.109 --> 00:00:00.150\n") ([]) 1 0 0
  -- an identifier with an arrow is the timing line
  pub an_identifier_with_an_arrow_is : becomes true (ascii "WEBVTT\n\na --> b\n00:00.210 --> 00:00.250\n") ≡ became 22 (ascii "WEBVTT\n\n") ([]) 0 0 0
  -- a second arrow below stays
  pub a_second_arrow_below_stays : becomes true (ascii "WEBVTT\n\n00:00.210 --> 00:00.250\na --> b\n") ≡ became 0 (ascii "WEBVTT\n\n00:00:00.109 --> 00:00:00.150\na --> b\n") ([]) 1 0 0
  -- NOTE, STYLE, REGION and bare identifiers stay, uncounted
  pub note_style_region_and_bare_identifiers : becomes true (ascii "WEBVTT\n\nNOTE x\n\nSTYLE\n::cue { color: red }\n\nREGION\nid:a\n\n7\n\n00:00.210 --> 00:00.250\n") ≡ became 0 (ascii "WEBVTT\n\nNOTE x\n\nSTYLE\n::cue { color: red }\n\nREGION\nid:a\n\n7\n\n00:00:00.109 --> 00:00:00.150\n") ([]) 1 0 0
  -- 4 then 5, at the timing line
  pub n_4_then_5_at_the_timing : becomes true (ascii "WEBVTT\n\nid\n00:00.050 --> 00:00.250\n<00:00:00.060>a<00:00:00.070>b\n") ≡ became 0 (ascii "WEBVTT\n\nid\n00:00:00.050 --> 00:00:00.101\n<00:00:00.060>a<00:00:00.070>b\n") (warning 4 4 ∷ warning 5 4 ∷ []) 0 1 0
  -- 5 for a shifted cue
  pub n_5_for_a_shifted_cue : becomes true (ascii "WEBVTT\n\n00:00.210 --> 00:00.250\nI <3 you\n") ≡ became 0 (ascii "WEBVTT\n\n00:00:00.109 --> 00:00:00.150\nI <3 you\n") (warning 5 3 ∷ []) 1 0 0
  -- no 5 for a dropped cue
  pub no_5_for_a_dropped_cue : becomes true (ascii "WEBVTT\n\n00:00.120 --> 00:00.200\n<1\n") ≡ became 0 (ascii "WEBVTT\n\n") ([]) 0 0 1
  -- no 5 on or above the timing line
  pub no_5_on_or_above_the : becomes true (ascii "WEBVTT\n\n<1\n00:00.210 --> 00:00.250 <2\n< 3<b>4\n") ≡ became 0 (ascii "WEBVTT\n\n<1\n00:00:00.109 --> 00:00:00.150 <2\n< 3<b>4\n") ([]) 1 0 0
  -- no 5 over a line's end
  pub no_5_over_a_lines_end : becomes true (ascii "WEBVTT\n\n00:00.210 --> 00:00.250\na<\n1\n") ≡ became 0 (ascii "WEBVTT\n\n00:00:00.109 --> 00:00:00.150\na<\n1\n") ([]) 1 0 0
  -- no 5 for a digit that is not ASCII
  pub no_5_for_a_digit_that : becomes true (ascii "WEBVTT\n\n00:00.210 --> 00:00.250\n<" ++ (0xD9 ∷ 0xA3 ∷ []) ++ ascii "\n") ≡ became 0 (ascii "WEBVTT\n\n00:00:00.109 --> 00:00:00.150\n<" ++ (0xD9 ∷ 0xA3 ∷ []) ++ ascii "\n") ([]) 1 0 0
  -- 5 in the second line below, none in another block
  pub n_5_in_the_second_line_below : becomes true (ascii "WEBVTT\n\n00:00.210 --> 00:00.250\na\n<<9\n\n<1\n") ≡ became 0 (ascii "WEBVTT\n\n00:00:00.109 --> 00:00:00.150\na\n<<9\n\n<1\n") (warning 5 3 ∷ []) 1 0 0
  -- 22 leaves its block out and keeps those before
  pub n_22_leaves_its_block_out_and : becomes true ((0xEF ∷ 0xBB ∷ 0xBF ∷ []) ++ ascii "WEBVTT\n\n00:00.210 --> 00:00.250\n\n00:00.050 --> 00:00.250\n\nx\n00:00.2 --> 00:01.000\ny\n\nz") ≡ became 22 ((0xEF ∷ 0xBB ∷ 0xBF ∷ []) ++ ascii "WEBVTT\n\n00:00:00.109 --> 00:00:00.150\n\n00:00:00.050 --> 00:00:00.101\n\n") (warning 4 5 ∷ []) 1 1 0
  -- 20 in a block leaves the block out
  pub n_20_in_a_block_leaves_the : becomes true (ascii "WEBVTT\n\n00:00.210 --> 00:00.250\n" ++ (0xFF ∷ []) ++ ascii "\n") ≡ became 20 (ascii "WEBVTT\n\n") ([]) 0 0 0
  -- 20 of the blank line's follower
  pub n_20_of_the_blank_lines_follower : becomes true (ascii "WEBVTT\n\n00:00.210 --> 00:00.250\n\n" ++ (0xFF ∷ []) ++ ascii "\n") ≡ became 20 (ascii "WEBVTT\n\n00:00:00.109 --> 00:00:00.150\n\n") ([]) 1 0 0
  -- before a finish: nothing yet
  pub before_a_finish_nothing_yet : becomes false ([]) ≡ became 0 ([]) ([]) 0 0 0
  -- before a finish: BOM alone
  pub before_a_finish_bom_alone : becomes false ((0xEF ∷ 0xBB ∷ 0xBF ∷ [])) ≡ became 0 ([]) ([]) 0 0 0
  -- before a finish: a rest that is no header is not refused before its LF
  pub before_a_finish_a_rest_that : becomes false (ascii "XYZ") ≡ became 0 ([]) ([]) 0 0 0
  -- before a finish: nor one that is not UTF-8
  pub before_a_finish_nor_one_that : becomes false ((0xFF ∷ [])) ≡ became 0 ([]) ([]) 0 0 0
  -- before a finish: an open block is left out
  pub before_a_finish_an_open_block : becomes false ((0xEF ∷ 0xBB ∷ 0xBF ∷ []) ++ ascii "WEBVTT\n\n00:00.210 --> 00:00.250\n") ≡ became 0 ((0xEF ∷ 0xBB ∷ 0xBF ∷ []) ++ ascii "WEBVTT\n\n") ([]) 0 0 0
