use Rattle.spec_json.proofs.json.ItemLaws.{item_fits, item_fits_2, parts_none, parts_some, row_bad, row_fits_1, row_fits_3, row_end, row_stop, row_in, row_again, row_over, value_flat, value_scalar, open_empty, open_bad, open_some, open_fits, open_fits_2}
use Rattle.std.proofs.Common.{rules}
use Rattle.json_values.proofs.value.+item_parts_row_width_value_width.Goals as goal
use Rattle.json_values.proofs.value.+item_parts_row_width_value_width.Goals.{value_width-then-depth-eq0-via-then-depth-eq0, value_width-then-depth-eq0-via-else-depth-eq0+then-not-is_open}

pub item_parts-returns-then-width-eq0 : goal.item_parts-returns-then-width-eq0
item_parts-returns-then-width-eq0 t c = search parts_none

pub item_parts-overflow_add-e : goal.item_parts-overflow_add-e
item_parts-overflow_add-e t c = record { fits = search item_fits }

pub item_parts-overflow_add-whole : goal.item_parts-overflow_add-whole
item_parts-overflow_add-whole t c = record { fits = search item_fits_2 }

pub item_parts-returns : goal.item_parts-returns
item_parts-returns t c = search parts_some

pub row_width-returns-then-k-eq0 : goal.row_width-returns-then-k-eq0
row_width-returns-then-k-eq0 t c = search row_bad

pub row_width-overflow_add-result : goal.row_width-overflow_add-result
row_width-overflow_add-result t c = record { fits = search row_fits_1 }

pub row_width-overflow_add-result-then-b-close : goal.row_width-overflow_add-result-then-b-close
row_width-overflow_add-result-then-b-close t c = record { fits = search row_fits_3 }

pub row_width-returns-then-b-close : goal.row_width-returns-then-b-close
row_width-returns-then-b-close t c = search row_end

pub row_width-returns-then-b-ne44 : goal.row_width-returns-then-b-ne44
row_width-returns-then-b-ne44 t c = search row_stop

pub row_width-loop-at-preserved : goal.row_width-loop-at-preserved
row_width-loop-at-preserved t c = (search row_in, search rules, search row_again)

pub row_width-returns : goal.row_width-returns
row_width-returns t c = search row_over

pub value_width-returns-then-depth-eq0 : goal.value_width-returns-then-depth-eq0
value_width-returns-then-depth-eq0 t c =
    elim c.then-depth-eq0.branch [
      | value_width-then-depth-eq0-via-then-depth-eq0 w ↦ search (value_flat, w.if-depth-eq0)
      | value_width-then-depth-eq0-via-else-depth-eq0+then-not-is_open w ↦ search (value_scalar, w.if-depth-eq0, w.if-not-is_open)
    ]

pub value_width-overflow_add-result : goal.value_width-overflow_add-result
value_width-overflow_add-result t c = record { fits = search open_fits }

pub value_width-returns-then-get_or-close_of : goal.value_width-returns-then-get_or-close_of
value_width-returns-then-get_or-close_of t c = search open_empty

pub value_width-returns-in-0 : goal.value_width-returns-in-0
value_width-returns-in-0 t c = search open_bad

pub value_width-overflow_add-result-in_default : goal.value_width-overflow_add-result-in_default
value_width-overflow_add-result-in_default t c = record { fits = search open_fits_2 }

pub value_width-returns-in_default : goal.value_width-returns-in_default
value_width-returns-in_default t c = search open_some
