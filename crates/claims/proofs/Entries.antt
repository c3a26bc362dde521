-- §11.1, §11.3: what the entries for programs in C report: one convention, and the operations that fill the caller's arrays.
use Prim.Native.Nat.{ℕ, ◌≤◌, ◌<◌}
use mathlib.Core.{Path.{◌≡◌, refl, ◌∙◌}, List.{List, [], ◌∷◌}}
use native.Mathlib.Omega.{arith}
use lib.{IntN.{ℤ}, ListN.{length}}
use Rattle.case.specs.{declared.Form.{Form}, Columns.{Column, columns}, Parts.{form_of}}
use Rattle.judgement.proofs.Numbers as judgements
use Rattle.judgement.specs.Sheet.{judgement}
use Rattle.carried_values.specs.Values.{other}
use Rattle.c_tell.specs.{Answer.{signed_answer}, Place.{place_after}, Told.{Told}}
use Rattle.c_reply.specs.Stations.{station_count}
use Rattle.c_questions.specs.Operations.{SummaryTold, ReleaseTold, CarryTold}
use Rattle.claims.specs.Summary as summary
use Rattle.claims.specs.Releases as releases
use Rattle.claims.specs.Carried as carrying
use Rattle.claims.specs.Entries.{PointsAt, InC, count, refusal, SummaryInC, ReleaseInC, CarryInC}
use Rattle.claims.proofs.SummaryAnswers as summaries
use Rattle.claims.proofs.Releases as licences
use Rattle.claims.proofs.Carrying.{carry_outcome}
use Rattle.std.specs.Prelude.{Result, Ok, Err}
use Rattle.refusal.specs.{declared.Refused.{Refused}, Refused.{refuse}}
use Rattle.stations.specs.declared.Counts.{Counts}

-- ---- §11.1: one convention

points_at : (number line column : ℕ) (place told : List ℕ) → told ≡ place_after (refuse number line column) place
    → PointsAt line column place told
unfolding place_after
points_at number line column place told e = record { two = λ p. e ∙ rw p; fewer = λ l. e ∙ fewer place l }
  where
    fewer : (place : List ℕ) → length place < 2 → place_after (refuse number line column) place ≡ place
    fewer [] l = refl
    fewer (a ∷ []) l = refl
    fewer (a ∷ b ∷ rest) l = absurd (omega arith)

-- what an answer says
unfoldable pub Says : (ℕ → Type 0) → (ℕ → ℕ → ℕ → Type 0) → Result ℕ Refused → Type 0
Says Held Broken (Ok n) = Held n
Says Held Broken (Err why) = (1 ≤ why.0) × Broken why.0 why.1 why.2

pub in_c : {Held : ℕ → Type 0} {Broken : ℕ → ℕ → ℕ → Type 0} {place told : List ℕ} {r : ℤ} (a : Result ℕ Refused) → Told a place told r
    → Says Held Broken a → InC Held Broken place told r
unfolding Says signed_answer place_after
in_c (Ok n) t h = rw t.answer_is (count h t.place_is)
in_c {place = place} {told} (Err why) t h =
    rw t.answer_is (refusal h.0 h.1 (points_at why.0 why.1 why.2 place told t.place_is))

-- a rule's number is not 0
pub rule_number : (form : List Column) (s : List ℕ) {number line column : ℕ} → judgement form s ≡ refuse number line column
    → 1 ≤ number
rule_number form s {number} {line} {column} e = go (rw e at (judgements.judgement_numbered form s))
  where
    go : judgements.Numbered (refuse number line column) → 1 ≤ number
    go (judgements.number _ p q) = p

-- ---- the operations that fill arrays of the caller's

module _ {s : List ℕ} {rowsBefore rows before after : List ℤ} where
  summary_number : {number line column : ℕ} → summary.SummaryOutcome s rowsBefore rows before after (refuse number line column)
      → 1 ≤ number
  summary_number (summary.rule b u) = rule_number columns s b
  summary_number (summary.rows_short t u) = omega arith
  summary_number (summary.summary_short e p a l u) = omega arith

  pub summary_in_c : {place told : List ℕ} {r : ℤ} → SummaryTold s rowsBefore rows before after place told r
      → SummaryInC s rowsBefore rows before after place told r
  unfolding Says station_count
  summary_in_c {place} {told} {r} t = go t.answer (summaries.summary t.asked) t.told
    where
      go : (a : Result Counts Refused) → summary.SummaryOutcome s rowsBefore rows before after a → Told (station_count a) place told r
          → SummaryInC s rowsBefore rows before after place told r
      go (Ok found) o t = in_c (Ok found.stations) t (found, o, refl)
      go (Err why) o t = in_c (Err why) t (summary_number o, o)

module _ {s licence : List ℕ} {before after : List ℤ} where
  release_number : {number line column : ℕ} → releases.ReleaseOutcome s licence before after (refuse number line column)
      → 1 ≤ number
  release_number (releases.rule b u) = rule_number columns s b
  release_number (releases.count e p u) = omega arith
  release_number (releases.entry e p k w b u) = omega arith
  release_number (releases.table e p w l u) = omega arith

  pub release_in_c : {place told : List ℕ} {r : ℤ} → ReleaseTold s licence before after place told r
      → ReleaseInC s licence before after place told r
  unfolding Says
  release_in_c t = in_c t.answer t.told (says t.answer (licences.release t.asked))
    where
      says : (a : Result ℕ Refused) → releases.ReleaseOutcome s licence before after a
          → Says (λ m. releases.ReleaseOutcome s licence before after (Ok m))
          (λ k l c. releases.ReleaseOutcome s licence before after (refuse k l c)) a
      says (Ok m) o = o
      says (Err why) o = (release_number o, o)

held_number : {s : List ℕ} {i number : ℕ} → carrying.Held s i number → 1 ≤ number
held_number (carrying.times t) = omega arith
held_number (carrying.counts t c) = omega arith
held_number (carrying.hertz t c h) = omega arith

module _ {form : Form} {s before after : List ℕ} where
  carry_number : {number line column : ℕ} → carrying.CarryOutcome form s before after (refuse number line column) → 1 ≤ number
  carry_number (carrying.rule b u) = rule_number (form_of (other form)) s b
  carry_number (carrying.held f h u) = held_number h
  carry_number (carrying.short g l u) = omega arith

  pub carry_in_c : {place told : List ℕ} {r : ℤ} → CarryTold form s before after place told r → CarryInC form s before after place told r
  unfolding Says
  carry_in_c t = in_c t.answer t.told (says t.answer (carry_outcome t.asked))
    where
      says : (a : Result ℕ Refused) → carrying.CarryOutcome form s before after a
          → Says (λ n. carrying.CarryOutcome form s before after (Ok n))
          (λ k l c. carrying.CarryOutcome form s before after (refuse k l c)) a
      says (Ok n) o = o
      says (Err why) o = (carry_number o, o)
