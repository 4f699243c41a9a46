-- The number of each refusal, as the table gives it, and the number of an answer.
use Rattle.std.specs.Prelude.{ℕ, Result, Ok, Err}
use Rattle.refusals.specs.declared.refusal.Refusal.{Refusal}
use Rattle.refusals.specs.declared.refusal.Refusal.TheVariants.{Shape, Number, Backward, LastFrame, Crossing, ListTooLong, Overlap, TurnedOver, PastTheEnd, SheetLength, SheetBlock, SheetHead, SheetRecord, BadMap, BadArgument, ForeignSession, Ended, LongLine, NotUtf8, LongBlock, BadTime, NoMapText, FirstLine, SampleNamedTwice, TooManyTicks, NotParked, NotAscending, TooManyCaptions}

abbrev pub number_of : Refusal → ℕ
number_of Shape = 2
number_of Number = 3
number_of Backward = 4
number_of LastFrame = 5
number_of Crossing = 6
number_of ListTooLong = 7
number_of Overlap = 8
number_of TurnedOver = 9
number_of PastTheEnd = 10
number_of SheetLength = 11
number_of SheetBlock = 12
number_of SheetHead = 13
number_of SheetRecord = 14
number_of BadMap = 15
number_of BadArgument = 16
number_of ForeignSession = 17
number_of Ended = 18
number_of LongLine = 19
number_of NotUtf8 = 20
number_of LongBlock = 21
number_of BadTime = 22
number_of NoMapText = 23
number_of FirstLine = 24
number_of SampleNamedTwice = 25
number_of TooManyTicks = 26
number_of NotParked = 27
number_of NotAscending = 28
number_of TooManyCaptions = 29

-- 0 for an answer that is no refusal
abbrev pub told : {A : Type 0} → Result A Refusal → ℕ
told (Ok a) = 0
told (Err r) = number_of r
