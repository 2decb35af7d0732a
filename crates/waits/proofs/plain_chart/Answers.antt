use Rattle.std.proofs.Common.{refl, arith}
use Rattle.waits.proofs.Entries.{finished_front, lacks_room, beaten, written_front, front_kept}
use Rattle.waits.proofs.plain_chart.Goals as goal

pub write_chart-requires : goal.write_chart-requires
write_chart-requires g c = finished_front _ _ _ _ _ c.in-Ok.ensures c.work_out.auto.cells c.front.ensures

pub returns-in-Ok : goal.returns-in-Ok
returns-in-Ok g c =
    record {
      room = (c.in-Ok.ensures.room, c.in-Some.ensures.cases.enough);
      working = c.in-Ok.ensures.rest;
      written = written_front _ c.args.chart.now c.write_chart.new.chart c.write_chart.ensures;
    }

pub returns-in-Err-Short : goal.returns-in-Err-Short
returns-in-Err-Short g c =
    let arm = c.in-Err-Short in
    let lacks = lacks_room _ c.args.hours.now c.work_out.new.cells _ arm.field-0-is arm.ensures in
    let short = lacks.short in
    (λ room. omega (arith, room.0), lacks.same, front_kept c.args.chart.now c.in-Some.chart.now c.in-Some.ensures.cases.same)

pub returns-in-Err-Beaten : goal.returns-in-Err-Beaten
returns-in-Err-Beaten g c =
    let arm = c.in-Err-Beaten in
    let stopped = beaten (g.S.Source.sheet c.args.source.now) c.args.hours.now c.work_out.new.cells _ _ _ arm.field-0-is arm.ensures in
    record {
      room = (stopped.0, c.in-Some.ensures.cases.enough);
      none = stopped.1;
      no_codes = refl;
      working = stopped.2;
      kept = front_kept c.args.chart.now c.in-Some.chart.now c.in-Some.ensures.cases.same;
    }
