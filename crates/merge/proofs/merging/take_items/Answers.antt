use Rattle.std.proofs.Common.{◌≤◌, length, arith}
use Rattle.book.proofs.Walking.{falls}
use Rattle.planner.specs.Entering.{sheet_of}
use Rattle.merge.proofs.Turning.{has_room, turned, ended}
use Rattle.merge.proofs.merging.take_items.Goals as goal

pub take_item-count-requires : goal.take_item-count-requires
take_item-count-requires c =
    let room : 1024 ≤ length c.args.hours.now = c.requires.room in
    let spare = has_room c.args.book c.args.reader.now (sheet_of c.args.planner.now) c.args.hours.now c.args.reports.now c.loop-item.reader (sheet_of c.loop-item.planner) c.loop-item.hours c.loop-item.reports c.loop-item.count c.loop-item.invariant _ _ c.in-Some.ensures c.requires.reports in
    let same_hours = c.loop-item.auto.hours in
    let same_reports = c.loop-item.auto.reports in
    record { room = omega arith; place = omega arith }

pub loop-item-smaller : goal.loop-item-smaller
loop-item-smaller c = falls c.in-Some.ensures

pub loop-item-preserved : goal.loop-item-preserved
loop-item-preserved c =
    turned c.args.book c.args.reader.now (sheet_of c.args.planner.now) c.args.hours.now c.args.reports.now c.loop-item.reader (sheet_of c.loop-item.planner) c.loop-item.hours c.loop-item.reports c.loop-item.count c.loop-item.invariant
    _ _ c.in-Some.ensures c.requires.reports _ _ _ _ c.take_item-count.ensures

pub returns : goal.returns
returns c =
    let known = c.loop-item.invariant in
    let few = known.few in
    record {
      few = omega arith;
      taken = ended c.args.book c.args.reader.now (sheet_of c.args.planner.now) c.args.hours.now c.args.reports.now c.loop-item.reader (sheet_of c.loop-item.planner) c.loop-item.hours c.loop-item.reports c.loop-item.count known
          _ c.in_default.ensures;
    }
