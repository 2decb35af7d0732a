use Rattle.std.proofs.Common.{sym}
use Rattle.planner.proofs.Windows.{told_present, low, out_range, back_range, is_window}
use Rattle.planner.proofs.planner.Planner.window.Goals as goal

pub window_at-requires : goal.window_at-requires
window_at-requires c =
    let p = c.args.self.now in
    let here = told_present p.checked.sheet c.args.step _ (sym c.in_ok-record_of.ensures) in
    let out = out_range p.checked.sheet p.chart p.checked.sound p.kept c.args.step here in
    let back = back_range p.checked.sheet p.chart p.checked.sound p.kept c.args.step here in
    record {
      step = low p.checked.sheet p.chart p.checked.sound p.kept c.args.step here;
      first = out.0;
      last_low = back.0;
      last_high = back.1;
    }

pub returns : goal.returns
returns c =
    let p = c.args.self.now in
    let here = told_present p.checked.sheet c.args.step _ (sym c.in_ok-record_of.ensures) in
    (here, is_window p.checked.sheet p.chart p.checked.sound p.kept c.args.step here _ _ c.window_at.ensures.first c.window_at.ensures.last)
