use Rattle.std.proofs.Common.{length, sym, ap, ◌∙◌}
use Rattle.merge.proofs.Told.{inside, front}
use Rattle.page.proofs.Whole.{possible, page_made}
use Rattle.page.proofs.printing.add_page.Goals as goal

pub slice_bounds-reports-end : goal.slice_bounds-reports-end
slice_bounds-reports-end c = inside _ _ _ _ _ _ _ c.in-Ok.ensures

pub slice_bounds-add_sheet-end : goal.slice_bounds-add_sheet-end
slice_bounds-add_sheet-end c = c.in-Ok.ensures.counted ∙ sym (ap length (front _ _ _ _ _ _ _ c.in-Ok.ensures))

pub add_sheet-requires : goal.add_sheet-requires
add_sheet-requires c = possible _ c.empty-planner.ensures _ _ _ _ _ _ c.in-Ok.ensures

pub returns-in-Ok : goal.returns-in-Ok
returns-in-Ok c = page_made _ c.empty-planner.ensures _ _ _ _ _ _ c.in-Ok.ensures _ _ _ c.add_sheet.ensures
