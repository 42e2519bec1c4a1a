use Rattle.map_rows.proofs.TwoRows.{two_rows_of}
use Rattle.field_rows.proofs.small_map.two_rows.Goals as goal

pub invariant_of-result : goal.invariant_of-result
invariant_of-result c =
    two_rows_of c.in_ok-from_array.field-0.items c.in_ok-from_array-2.field-0.items c.in_ok-from_array-3.field-0.items c.in_ok-from_array.ensures.items c.in_ok-from_array-2.ensures.items
    c.in_ok-from_array-3.ensures.items
