use Rattle.spec_sheet.proofs.sheet.FaultLaws.{record_high, record_good, record_first, record_second, record_third, record_clear, record_short}
use Rattle.sheet.proofs.RecordLaws.{told_true, told_false}
use Rattle.sheet.proofs.records.record_fault.Goals as goal
use Rattle.sheet.proofs.records.record_fault.Goals.{then-first-ne0-via-then-first-ne0, then-first-ne0-via-else-first-ne0+then-word-ne0, else-this-ne0-via-then-this-ne0+else-word-ne0-2, else-this-ne0-via-else-this-ne0}

pub returns-then-n-decode : goal.returns-then-n-decode
returns-then-n-decode g c = search record_high

pub returns-then-i-n : goal.returns-then-i-n
returns-then-i-n g c = search record_good

pub returns-then-first-ne0 : goal.returns-then-first-ne0
returns-then-first-ne0 g c =
    elim c.then-first-ne0.branch [ then-first-ne0-via-then-first-ne0 w ↦ search record_first | then-first-ne0-via-else-first-ne0+then-word-ne0 w ↦ search record_second ]

pub returns-then-word-ne0-2 : goal.returns-then-word-ne0-2
returns-then-word-ne0-2 g c = search (record_third, told_true)

pub returns-else-this-ne0 : goal.returns-else-this-ne0
returns-else-this-ne0 g c =
    elim c.else-this-ne0.branch [ else-this-ne0-via-then-this-ne0+else-word-ne0-2 w ↦ search (record_clear, told_true) | else-this-ne0-via-else-this-ne0 w ↦ search (record_short, told_false) ]
