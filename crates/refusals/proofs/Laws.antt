-- The numbers in a row, and what the number of an answer tells.
use Rattle.std.proofs.Common.{◌≡◌, refl, ℕ, ◌<◌, ◌≤◌, ◌∷◌, [], Result, Ok, Err, arith}
use mathlib.Core.List.{List}
use Rattle.refusals.specs.Numbers.{number_of, told}
use Rattle.refusals.specs.declared.refusal.Refusal.{Refusal}
use Rattle.refusals.specs.declared.refusal.Refusal.TheVariants.{Shape, Number, Backward, LastFrame, Crossing, ListTooLong, Overlap, TurnedOver, PastTheEnd, SheetLength, SheetBlock, SheetHead, SheetRecord, BadMap, BadArgument, ForeignSession, Ended, LongLine, NotUtf8, LongBlock, BadTime, NoMapText, FirstLine, SampleNamedTwice, TooManyTicks, NotParked, NotAscending, TooManyCaptions}

-- the refusals in the table's order have the numbers 2 to 29
pub number_rows : ◌≡◌ {A = List ℕ} (number_of Shape ∷ number_of Number ∷ number_of Backward ∷ number_of LastFrame ∷ number_of Crossing ∷ number_of ListTooLong ∷ number_of Overlap ∷ number_of TurnedOver ∷ number_of PastTheEnd ∷ number_of SheetLength ∷ number_of SheetBlock ∷ number_of SheetHead ∷ number_of SheetRecord ∷ number_of BadMap ∷ number_of BadArgument ∷ number_of ForeignSession ∷ number_of Ended ∷ number_of LongLine ∷ number_of NotUtf8 ∷ number_of LongBlock ∷ number_of BadTime ∷ number_of NoMapText ∷ number_of FirstLine ∷ number_of SampleNamedTwice ∷ number_of TooManyTicks ∷ number_of NotParked ∷ number_of NotAscending ∷ number_of TooManyCaptions ∷ []) (2 ∷ 3 ∷ 4 ∷ 5 ∷ 6 ∷ 7 ∷ 8 ∷ 9 ∷ 10 ∷ 11 ∷ 12 ∷ 13 ∷ 14 ∷ 15 ∷ 16 ∷ 17 ∷ 18 ∷ 19 ∷ 20 ∷ 21 ∷ 22 ∷ 23 ∷ 24 ∷ 25 ∷ 26 ∷ 27 ∷ 28 ∷ 29 ∷ [])
number_rows = refl

-- no refusal has the number 0, which is that of an answer
pub refused_above : (r : Refusal) → 2 ≤ number_of r
refused_above Shape = omega arith
refused_above Number = omega arith
refused_above Backward = omega arith
refused_above LastFrame = omega arith
refused_above Crossing = omega arith
refused_above ListTooLong = omega arith
refused_above Overlap = omega arith
refused_above TurnedOver = omega arith
refused_above PastTheEnd = omega arith
refused_above SheetLength = omega arith
refused_above SheetBlock = omega arith
refused_above SheetHead = omega arith
refused_above SheetRecord = omega arith
refused_above BadMap = omega arith
refused_above BadArgument = omega arith
refused_above ForeignSession = omega arith
refused_above Ended = omega arith
refused_above LongLine = omega arith
refused_above NotUtf8 = omega arith
refused_above LongBlock = omega arith
refused_above BadTime = omega arith
refused_above NoMapText = omega arith
refused_above FirstLine = omega arith
refused_above SampleNamedTwice = omega arith
refused_above TooManyTicks = omega arith
refused_above NotParked = omega arith
refused_above NotAscending = omega arith
refused_above TooManyCaptions = omega arith

pub refused_below : (r : Refusal) → number_of r ≤ 29
refused_below Shape = omega arith
refused_below Number = omega arith
refused_below Backward = omega arith
refused_below LastFrame = omega arith
refused_below Crossing = omega arith
refused_below ListTooLong = omega arith
refused_below Overlap = omega arith
refused_below TurnedOver = omega arith
refused_below PastTheEnd = omega arith
refused_below SheetLength = omega arith
refused_below SheetBlock = omega arith
refused_below SheetHead = omega arith
refused_below SheetRecord = omega arith
refused_below BadMap = omega arith
refused_below BadArgument = omega arith
refused_below ForeignSession = omega arith
refused_below Ended = omega arith
refused_below LongLine = omega arith
refused_below NotUtf8 = omega arith
refused_below LongBlock = omega arith
refused_below BadTime = omega arith
refused_below NoMapText = omega arith
refused_below FirstLine = omega arith
refused_below SampleNamedTwice = omega arith
refused_below TooManyTicks = omega arith
refused_below NotParked = omega arith
refused_below NotAscending = omega arith
refused_below TooManyCaptions = omega arith

pub refused_not_0 : (r : Refusal) → number_of r ≡ 0 → ⊥
refused_not_0 r e = let h : 2 ≤ number_of r = refused_above r in omega arith
