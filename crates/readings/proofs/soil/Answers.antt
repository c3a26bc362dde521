-- `soil` refuses in the order of the checks, and else reports.
use mathlib.Core.{Path.{◌≡◌, sym, ap, ◌∙◌}, Bool.{true, false}}
use lib.ListN.{length}
use Rattle.std.specs.Prelude.{ℕ, Option, None}
use Rattle.readings.specs.Reading.{pairs_of}
use Rattle.readings.specs.{Limits.{distances, resistances}, Refusal.{sound_count, first_outside, refused_at, judged, answer_of}}
use Rattle.readings.specs.Answer.{RightAnswer}
use Rattle.readings.proofs.{Bounds.{all_taken}, Right.{right_report}}
use Rattle.readings.proofs.soil.Goals as goal
use Rattle.readings.proofs.soil.Goals.{After-first_outside-distance, After-first_outside-resistance, Else-not-sound_count, Then-not-sound_count}
use Rattle.std.specs.Prelude.{Ok}

-- what the checks found
count_wrong : (c : Then-not-sound_count) → sound_count (length c.args.readings.now) ≡ false
count_wrong c = sym c.sound_count.ensures ∙ c.if-not-sound_count.true

count_right : (c : Else-not-sound_count) → sound_count (length c.args.readings.now) ≡ true
count_right c = sym c.sound_count.ensures ∙ c.if-not-sound_count.false

module _ (f : After-first_outside-distance) where
  distance_found : {o : Option ℕ} → f.first_outside-distance.result ≡ o → first_outside distances 1 1 (pairs_of f.args.readings.now) ≡ o
  distance_found e = sym f.first_outside-distance.ensures ∙ e

module _ (f : After-first_outside-resistance) where
  resistance_found : {o : Option ℕ} → f.first_outside-resistance.result ≡ o → first_outside resistances 2 1 (pairs_of f.args.readings.now) ≡ o
  resistance_found e = sym f.first_outside-resistance.ensures ∙ e

  -- no distance is out of range
  distance_none : first_outside distances 1 1 (pairs_of f.args.readings.now) ≡ None
  distance_none = sym f.first_outside-distance.ensures ∙ f.in_default.is

pub returns-then-not-sound_count : goal.returns-then-not-sound_count
unfolding answer_of RightAnswer
returns-then-not-sound_count c = record { answer = rw (count_wrong (goal.at.returns-then-not-sound_count c).Then-not-sound_count); right = tt }

pub returns-in-Some : goal.returns-in-Some
unfolding answer_of judged refused_at RightAnswer
returns-in-Some c =
    record { answer = rw (count_right (goal.at.returns-in-Some c).Else-not-sound_count, distance_found (goal.at.returns-in-Some c).After-first_outside-distance c.in-Some.is); right = tt }

pub returns-in-Some-resistance : goal.returns-in-Some-resistance
unfolding answer_of judged refused_at RightAnswer
returns-in-Some-resistance c =
    let f = (goal.at.returns-in-Some-resistance c).After-first_outside-resistance in
    record { answer = rw (count_right (goal.at.returns-in-Some-resistance c).Else-not-sound_count, distance_none f, resistance_found f c.in-Some-resistance.is); right = tt }

pub work_report-requires : goal.work_report-requires
work_report-requires c =
    let f = (goal.at.work_report-requires c).After-first_outside-resistance in
    all_taken _ (count_right (goal.at.work_report-requires c).Else-not-sound_count) (distance_none f) (resistance_found f c.in_default-resistance.is)

pub returns : goal.returns
unfolding answer_of judged refused_at RightAnswer
returns c =
    let f = (goal.at.returns c).After-first_outside-resistance in
    let n = count_right (goal.at.returns c).Else-not-sound_count in
    let d = distance_none f in
    let r = resistance_found f c.in_default-resistance.is in
    record {
      answer = rw (n, d, r) (ap Ok c.work_report.ensures);
      right = rw c.work_report.ensures (right_report (all_taken _ n d r));
    }
