-- What the definitions say of the small sheet and of damaged ones, by computation.
use Prim.Native.Nat.{ℕ}
use mathlib.Core.Bool.{true, false}
use mathlib.Core.List.{List, [], ◌∷◌, ◌++◌, map}
use mathlib.Core.Path.{◌≡◌, refl, sym, ap, ◌∙◌}
use lib.ListN.{get_or, set, take}
use Rattle.std.specs.Prelude.{Ok}
use Rattle.spec_base.specs.base.Limits.{most_work}
use Rattle.spec_base.specs.base.Put.{put, placed}
use Rattle.spec_base.specs.base.Refusal.{◌or_else◌, fault_unless, first_of}
use Rattle.spec_sheet.specs.checked_blocks.Block.{word_at, sum_words, block_holds}
use Rattle.spec_sheet.specs.sheet_frames.Frames.{timescale_of, frames_of, rate_num_of, rate_den_of, record_word, decode_of, sync_of, duration_of, long_of, ticks_from}
use Rattle.spec_sheet.specs.sheet_permutation.Once.{times_named, repeat_fault, work_bytes, once_number, work_once}
use Rattle.spec_sheet.specs.sheet.Sheet.{spare_fault, head_fault}
use Rattle.spec_sheet.specs.sheet.Sheet.{record_fault, check_fault, block_fault, record_blocks, sheet_fault, total_fault, sheet_number, work_after, head_of, sheet_answer, sheet_of, number_of}
use Rattle.spec_sheet.proofs.sheet.SheetLaws.{Checked, checked, number_is, sound_number, work_enough}
use Rattle.sheet_vectors.specs.Small.{checked_block, sync_frame, frame, small_records, sheet_with, small_sheet}

-- the small sheet is sound, with its head; two work bytes are enough for ten frames, and so are more
pub small_sound : sheet_of small_sheet 2 ≡ Ok (record { timescale = 30000; frames = 10; rate_num = 30000; rate_den = 1001 })
unfolding small_sheet sheet_of sheet_answer head_of sheet_number once_number work_bytes repeat_fault times_named sheet_fault check_fault block_holds head_fault block_fault record_fault record_word decode_of record_blocks spare_fault timescale_of frames_of rate_num_of rate_den_of sum_words word_at first_of fault_unless ◌or_else◌ long_of total_fault ticks_from duration_of
small_sound = refl

small_checked : Checked small_sheet 2
small_checked = checked small_sheet 2 (sym (number_is small_sheet 2) ∙ ap number_of small_sound)

pub small_fault : sheet_fault small_sheet ≡ 0
small_fault = small_checked.fault

pub small_number : sheet_number small_sheet most_work ≡ 0
small_number = sound_number small_sheet most_work (record { fault = small_fault; room = work_enough small_sheet small_fault; once = small_checked.once; within = small_checked.within })

pub small_timescale : timescale_of small_sheet ≡ 30000
unfolding small_sheet timescale_of word_at
small_timescale = refl

pub small_frames : frames_of small_sheet ≡ 10
unfolding small_sheet frames_of word_at
small_frames = refl

-- its records, and one past them
abbrev places : List ℕ
places = 0 ∷ 1 ∷ 2 ∷ 3 ∷ 4 ∷ 5 ∷ 6 ∷ 7 ∷ 8 ∷ 9 ∷ 10 ∷ []

pub small_decode : map (decode_of small_sheet) places ≡ 0 ∷ 1 ∷ 2 ∷ 3 ∷ 4 ∷ 5 ∷ 6 ∷ 7 ∷ 8 ∷ 9 ∷ 0 ∷ []
unfolding small_sheet decode_of record_word word_at long_of
small_decode = refl

pub small_sync : map (sync_of small_sheet) places ≡ true ∷ false ∷ false ∷ true ∷ false ∷ false ∷ true ∷ false ∷ false ∷ false ∷ false ∷ []
unfolding small_sheet sync_of record_word word_at long_of
small_sync = refl

pub small_durations : map (duration_of small_sheet) places ≡ 1001 ∷ 1001 ∷ 1001 ∷ 1001 ∷ 1001 ∷ 1001 ∷ 1001 ∷ 1001 ∷ 1001 ∷ 1001 ∷ 0 ∷ []
unfolding small_sheet duration_of record_word word_at long_of
small_durations = refl

-- 11: no byte, not whole blocks, and not as long as the frame count asks for
pub refused_length : map sheet_fault ([] ∷ take 1023 small_sheet ∷ sheet_with 30000 64 small_records ∷ []) ≡ 11 ∷ 11 ∷ 11 ∷ []
unfolding small_sheet sheet_fault check_fault block_holds head_fault block_fault record_fault record_word decode_of record_blocks spare_fault timescale_of frames_of sum_words word_at first_of fault_unless ◌or_else◌ long_of
refused_length = refl

-- 12: another number or another check, in block 0 before the head, in block 1 before its records
pub refused_block : map sheet_fault (set small_sheet 0 1 ∷ set small_sheet 6 255 ∷ set small_sheet 512 2 ∷ set small_sheet 516 10 ∷ []) ≡ 12 ∷ 12 ∷ 12 ∷ 12 ∷ []
unfolding small_sheet sheet_fault check_fault block_holds head_fault block_fault record_fault record_word decode_of record_blocks spare_fault timescale_of frames_of sum_words word_at first_of fault_unless ◌or_else◌ long_of
refused_block = refl

-- 13: T or n outside its limits, before the full length; a word 5 above 1; a spare word that is not zero
pub refused_head :
    map sheet_fault
    (sheet_with 1000001 64 small_records
    ∷ sheet_with 30000 0 small_records
    ∷ (checked_block (0 ∷ 30000 ∷ 10 ∷ 30000 ∷ 1001 ∷ 2 ∷ []) ++ checked_block (1 ∷ small_records))
    ∷ (checked_block (0 ∷ 30000 ∷ 10 ∷ 30000 ∷ 1001 ∷ 0 ∷ 1 ∷ []) ++ checked_block (1 ∷ small_records))
    ∷ [])
    ≡ 13 ∷ 13 ∷ 13 ∷ 13 ∷ []
unfolding small_sheet sheet_fault check_fault block_holds head_fault block_fault record_fault record_word decode_of record_blocks spare_fault timescale_of frames_of sum_words word_at first_of fault_unless ◌or_else◌ long_of
refused_head = refl

-- 14: a decode index that is n; a record past n
pub refused_record : map sheet_fault (sheet_with 30000 10 (sync_frame 10) ∷ sheet_with 30000 9 small_records ∷ []) ≡ 14 ∷ 14 ∷ []
unfolding small_sheet sheet_fault check_fault block_holds head_fault block_fault record_fault record_word decode_of record_blocks spare_fault timescale_of frames_of sum_words word_at first_of fault_unless ◌or_else◌ long_of
refused_record = refl

-- 16 and 25: the third of three records has the index of the first. No work byte is too few, and comes before 25; an index that is n is 14 before both
abbrev three : List ℕ → List ℕ
three r = sheet_with 30000 3 (sync_frame 0 ++ frame 1 ++ r)

repeat_fault_lem : map sheet_fault (three (frame 0) ∷ three (frame 3) ∷ []) ≡ 0 ∷ 14 ∷ []
unfolding sheet_fault check_fault block_holds head_fault block_fault record_fault record_word decode_of record_blocks spare_fault timescale_of frames_of sum_words word_at first_of fault_unless ◌or_else◌ long_of
repeat_fault_lem = refl

repeat_once : map (λ (k : ℕ). once_number (three (frame 0)) 3 k or_else total_fault (three (frame 0)) 3) (1 ∷ 0 ∷ []) ≡ 25 ∷ 16 ∷ []
unfolding once_number work_bytes repeat_fault times_named record_word decode_of word_at first_of fault_unless ◌or_else◌ long_of
repeat_once = refl

repeat_frames : frames_of (three (frame 0)) ≡ 3
unfolding frames_of word_at
repeat_frames = refl

pub refused_repeat : map (sheet_number (three (frame 0))) (1 ∷ 0 ∷ []) ≡ 25 ∷ 16 ∷ []
unfolding sheet_number ◌or_else◌
refused_repeat = rw (ap (λ (x : List ℕ). get_or x 0 7) repeat_fault_lem, repeat_frames) repeat_once

-- the work bytes afterwards: the one needed is zero and the other stays; where none is lent, none is written
pub work_left : map (work_after (three (frame 0))) ((7 ∷ 8 ∷ []) ∷ [] ∷ []) ≡ (0 ∷ 8 ∷ []) ∷ [] ∷ []
unfolding work_after work_once placed put work_bytes
work_left = rw (ap (λ (x : List ℕ). get_or x 0 7) repeat_fault_lem, repeat_frames)
