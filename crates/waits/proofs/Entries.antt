-- The entries of the wait chart, read off a finished working chart. Assumes nothing.
use Rattle.std.proofs.Common.{◌≡◌, ℕ, ◌+◌, ◌*◌, ◌/◌, ◌%◌, ◌<◌, ◌≤◌, false, List, ◌++◌, length, get_or, take, drop, set, ℤ, pos, neg_ℤ, ◌≤ℤ◌, is_ok, Ok, Err, Result, sym, ap, ◌∙◌, subst, ⊎_elim, arith}
use Rattle.std.proofs.Math.Seq.{take-append_seam, drop-append_seam}
use Rattle.std.proofs.lemmas.List.{length-take-le, get_or-set_same, get_or-set_other, take-append-drop}
use Rattle.std.proofs.lemmas.Bool.{and_from, true≢false, cases_lt}
use Rattle.chart.specs.Cells.{at}
use Rattle.chart.specs.Positions.{position}
use Rattle.chart.specs.Runs.{WorkedOut, LacksRoom}
use Rattle.chart.specs.declared.places.Places.{Places}
use Rattle.chart.specs.declared.places.Stop.{Stop}
use Rattle.chart.specs.declared.places.Stop.TheVariants.{Short, Beaten}
use Rattle.kinds.proofs.Measures.{closed_matrix, matrix_of_runs, heavy_run}
use Rattle.kinds.proofs.Weighing.{hours_alone}
use Rattle.kinds.specs.Alone.{no_hours, hours_sum, HoursUnder, AloneWithin, link_hours}
use Rattle.kinds.specs.declared.alone.Hours.{Hours}
use Rattle.sheet.specs.Limits.{SoundSheet}
use Rattle.sheet.specs.Sheets.{RuleSheet, Present}
use Rattle.sheet.specs.Timetables.{Timetable, Lawful}
use Rattle.sheet.specs.Waits.{IsWait, IsEntry, IsChart}
use Rattle.walks.proofs.RunLaws.{no_lawful}
use Rattle.walks.proofs.Potentials.{entries_are_waits}
use Rattle.walks.proofs.Small.{wait_small}
use Rattle.loops.specs.Loops.{RestKept}
use Rattle.waits.specs.Charts.{Finished, ChartWritten, PlainlyCharted}
use Rattle.loops.specs.declared.refusals.LoopRefusal.{LoopRefusal}
use Rattle.loops.specs.declared.refusals.LoopRefusal.TheVariants.{TooShort, NoTimetable}

module _ (sheet : SoundSheet) {p : Places} {cells : List Hours} (finished : Finished sheet.told p cells) where
  pub is_wait : (i j : ℕ) → Present sheet.told i → Present sheet.told j → IsWait sheet.told i j (at no_hours cells (position p i) (position p j)).hours
  is_wait i j here there =
      entries_are_waits sheet.told sheet.sound _ (closed_matrix hours_alone sheet p finished.places cells finished.chart) (matrix_of_runs hours_alone sheet p finished.places cells finished.chart) i j here there

  pub is_small : (i j : ℕ) → Present sheet.told i → Present sheet.told j → (neg_ℤ (pos 2000) ≤ℤ (at no_hours cells (position p i) (position p j)).hours) × ((at no_hours cells (position p i) (position p j)).hours ≤ℤ pos 2000)
  is_small i j here there = wait_small sheet.told sheet.sound i j _ (is_wait i j here there)

  pub is_entry : (i j : ℕ) (wait : ℤ) → Present sheet.told i → Present sheet.told j → wait ≡ (at no_hours cells (position p i) (position p j)).hours → IsEntry sheet.told i j wait
  is_entry i j wait here there is = record {
    there = λ _. subst (IsWait sheet.told i j) (sym is) (is_wait i j here there);
    absent = λ e. absurd (true≢false (sym (and_from _ _ here there) ∙ e));
  }

-- the working chart at the front of its buffer
pub finished_front : (s : RuleSheet) (before after cells : List Hours) (p : Places) → WorkedOut no_hours hours_sum link_hours HoursUnder AloneWithin s before after (Ok p) → length after ≡ length before → cells ≡ take 1024 after → Finished s p cells
finished_front s before after cells p worked long is =
    let room = worked.room in
    let chart = worked.chart in
    subst (Finished s p) (sym is)
    (record { room = subst (λ n. 1024 ≤ n) (sym (length-take-le 1024 after (omega arith))) (omega arith); places = chart.places; chart = chart.worked })

-- a chart that stopped for want of room
pub lacks_room : (s : RuleSheet) (before after : List Hours) (stop : Stop) → stop ≡ Short → WorkedOut no_hours hours_sum link_hours HoursUnder AloneWithin s before after (Err stop) → LacksRoom no_hours hours_sum link_hours HoursUnder AloneWithin before after
lacks_room s before after stop is worked = subst (λ x. WorkedOut no_hours hours_sum link_hours HoursUnder AloneWithin s before after (Err x)) is worked

-- a chart that stopped at a position leaves no lawful timetable
pub beaten : (sheet : SoundSheet) (before after : List Hours) (stop : Stop) (p : Places) (k : ℕ) → stop ≡ Beaten p k → WorkedOut no_hours hours_sum link_hours HoursUnder AloneWithin sheet.told before after (Err stop) → (1024 ≤ length before) × ((t : Timetable) → Lawful sheet.told t → ⊥) × RestKept before after
beaten sheet before after stop p k is worked =
    let front = subst (λ x. WorkedOut no_hours hours_sum link_hours HoursUnder AloneWithin sheet.told before after (Err x)) is worked in
    let chart = front.chart in
    let heavy = heavy_run hours_alone sheet p chart.places (take 1024 after) k k chart.worked chart.inside chart.beats in
    (front.room, no_lawful sheet.told _ heavy.run heavy.closed heavy.heavy, front.rest)

-- one entry more, and one cell less behind it
pub entry_more : (s : RuleSheet) (xs : List ℤ) (k : ℕ) (x y : ℤ) → k < length xs → x ≡ y → IsEntry s (k / 32) (k % 32) y → ((m : ℕ) → m < k → IsEntry s (m / 32) (m % 32) (get_or xs m (pos 0))) → (m : ℕ) → m < k + 1 → IsEntry s (m / 32) (m % 32) (get_or (set xs k x) m (pos 0))
entry_more s xs k x y inside same here below m low =
    ⊎_elim
    (λ before. subst (IsEntry s (m / 32) (m % 32)) (sym (get_or-set_other xs k m x (pos 0) (λ e. let n = e in absurd (omega arith)))) (below m before))
    (λ after.
    let is : k ≡ m = omega arith in
    subst (λ n. IsEntry s (n / 32) (n % 32) (get_or (set xs k x) n (pos 0))) is
    (subst (IsEntry s (k / 32) (k % 32)) (sym (get_or-set_same xs k x (pos 0) inside ∙ same)) here))
    (cases_lt m k)

-- all entries, row by row
pub whole_chart : (s : RuleSheet) (chart : List ℤ) → length chart ≡ 1024 → ((m : ℕ) → m < 1024 → IsEntry s (m / 32) (m % 32) (get_or chart m (pos 0))) → IsChart s chart
whole_chart s chart size entries = record {
  size = size;
  entries = λ i j low_i low_j.
      let m = 32 * i + j in
      let low : m < 1024 = omega arith in
      let row : m / 32 ≡ i = omega arith in
      let column : m % 32 ≡ j = omega arith in
      subst (λ b. IsEntry s i b (get_or chart m (pos 0))) column (subst (λ a. IsEntry s a (m % 32) (get_or chart m (pos 0))) row (entries m low));
}

-- a whole chart, written over the front of a buffer
pub written_front : (s : RuleSheet) (before chart : List ℤ) → IsChart s chart → ChartWritten s before (chart ++ drop 1024 before)
written_front s before chart is = record {
  chart = subst (IsChart s) (sym (ap (λ n. take n (chart ++ drop 1024 before)) (sym is.size) ∙ take-append_seam chart (drop 1024 before))) is;
  rest = ap (λ n. drop n (chart ++ drop 1024 before)) (sym is.size) ∙ drop-append_seam chart (drop 1024 before);
}

-- a front that was lent and not written
pub front_kept : (before front : List ℤ) → front ≡ take 1024 before → front ++ drop 1024 before ≡ before
front_kept before front is = ap (λ l. l ++ drop 1024 before) is ∙ take-append-drop 1024 before

-- a plain chart that is refused although there is room leaves no lawful timetable
pub refused_plainly : (s : RuleSheet) (hours hours_after : List Hours) (chart chart_after : List ℤ) (refusal : LoopRefusal) → (1024 ≤ length hours) × (1024 ≤ length chart) → PlainlyCharted s hours hours_after chart chart_after (Err refusal) → ((t : Timetable) → Lawful s t → ⊥) × RestKept hours hours_after × (chart_after ≡ chart)
refused_plainly s hours hours_after chart chart_after TooShort room short = absurd (short.0 room)
refused_plainly s hours hours_after chart chart_after (NoTimetable count) room refused = (refused.none, refused.working, refused.kept)

pub not_charted : (s : RuleSheet) (hours hours_after : List Hours) (chart chart_after : List ℤ) (r : Result (Unit {0}) LoopRefusal) → is_ok r ≡ false → (1024 ≤ length hours) × (1024 ≤ length chart) → PlainlyCharted s hours hours_after chart chart_after r → ((t : Timetable) → Lawful s t → ⊥) × RestKept hours hours_after × (chart_after ≡ chart)
not_charted s hours hours_after chart chart_after (Ok done) fails room given = absurd (true≢false fails)
not_charted s hours hours_after chart chart_after (Err refusal) fails room refused = refused_plainly s hours hours_after chart chart_after refusal room refused
