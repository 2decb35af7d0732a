-- A chart that stopped, at the front of its buffer. Assumes nothing.
use Rattle.std.proofs.Common.{◌≡◌, ℕ, ◌≤◌, List, length, take, Err, sym, subst, arith, length-take-le}
use Rattle.chart.specs.Runs.{AtFront, WorkedOut}
use Rattle.chart.specs.declared.places.Places.{Places}
use Rattle.chart.specs.declared.places.Stop.{Stop}
use Rattle.chart.specs.declared.places.Stop.TheVariants.{Beaten}
use Rattle.kinds.specs.Together.{no_link, counted_sum, RanksUnder, CountedWithin, one_link}
use Rattle.kinds.specs.declared.together.Counted.{Counted}
use Rattle.sheet.specs.Sheets.{RuleSheet}
use Rattle.loops.specs.Loops.{RestKept}
use Rattle.loops.specs.Steps.{Stopped}

module _ (s : RuleSheet) (xs ys : List Counted) (stop : Stop) (p : Places) (k : ℕ) (is : stop ≡ Beaten p k)
    (worked : WorkedOut no_link counted_sum one_link RanksUnder CountedWithin s xs ys (Err stop)) where
  beaten : AtFront no_link counted_sum one_link RanksUnder CountedWithin s xs ys (Err (Beaten p k))
  beaten = subst (λ x. WorkedOut no_link counted_sum one_link RanksUnder CountedWithin s xs ys (Err x)) is worked

  pub stopped_kept : RestKept xs ys
  stopped_kept = beaten.rest

  pub stopped_front : length ys ≡ length xs → Stopped s p k (take 1024 ys)
  stopped_front same =
      let chart = beaten.chart in
      let long = beaten.room in
      let room : 1024 ≤ length ys = omega arith in
      record {
        room = subst (λ n. 1024 ≤ n) (sym (length-take-le 1024 ys room)) (omega arith);
        places = chart.places;
        inside = chart.inside;
        chart = chart.worked;
        beats = chart.beats;
      }
