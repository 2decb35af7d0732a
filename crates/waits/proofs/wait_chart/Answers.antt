use Rattle.std.proofs.Common.{sym, ◌∙◌}
use Rattle.loops.proofs.Searching.{none_found, one_found}
use Rattle.waits.proofs.Entries.{not_charted}
use Rattle.waits.proofs.wait_chart.Goals as goal

pub unreachable-requires : goal.unreachable-requires
unreachable-requires g c =
    let plainly = not_charted (g.S.Source.sheet c.args.source.now).told c.args.hours.now c.plain_chart.new.hours c.args.chart.now c.plain_chart.new.chart c.plain_chart.result (sym c.is_ok.ensures.value ∙ c.if-is_ok.false) (c.if-hours-lt1024.false, c.if-chart-lt1024.false) c.plain_chart.ensures in
    none_found (g.S.Source.sheet c.args.source.now).told c.args.counted.now c.find_loop.new.cells c.args.codes.now c.find_loop.new.codes c.in_ok-count.field-0 c.in_ok-count.ensures c.in-None.is plainly.0

pub returns : goal.returns
returns g c =
    let plainly = not_charted (g.S.Source.sheet c.args.source.now).told c.args.hours.now c.plain_chart.new.hours c.args.chart.now c.plain_chart.new.chart c.plain_chart.result (sym c.is_ok.ensures.value ∙ c.if-is_ok.false) (c.if-hours-lt1024.false, c.if-chart-lt1024.false) c.plain_chart.ensures in
    let found = one_found (g.S.Source.sheet c.args.source.now).told c.args.counted.now c.find_loop.new.cells c.args.codes.now c.find_loop.new.codes c.in_ok-count.field-0 c.in_ok-count.ensures c.in-Some.count c.in-Some.is in
    record {
      room = record { hours = c.if-hours-lt1024.false; counted = c.if-counted-lt1024.false; chart = c.if-chart-lt1024.false; codes = c.if-codes-lt32.false };
      none = plainly.0;
      hours = plainly.1;
      counted = found.0;
      loop = found.1;
      chart = plainly.2;
    }
