-- §1.1–§1.6: what holds of a sheet that breaks no rule, in the specification's words; the sample sheet (§3.3) breaks none.
use Prim.Native.Nat.{ℕ, ◌<◌}
use mathlib.Core.{Path.{◌≡◌, ◌∙◌}, Bool.{Bool, true, false}, List.{List, []}}
use native.Mathlib.Omega.{arith}
use lib.ListN.{length, get_or}
use borrow.Author.Tests.{eq-eqb}
use Rattle.text.specs.Text.{same}
use Rattle.case.specs.{Columns.{columns, name_count_lem, name_index, named}, Bounds.{Bounds}}
use Rattle.header.proofs.NamesStand.{names_stand, stands_once, name_known_at}
use Rattle.line.specs.Line.{line_case}
use Rattle.line_finding.specs.Findings.{same_key}
use Rattle.line_finding.proofs.LineFound as line
use Rattle.judgement.specs.{Limits.{today}, Sheet.{names, value_lines}, Accepted.{Accepted}}
use Rattle.judgement.proofs.{Whole.{text_right}, LinesInTurn.{sound_at, none_before}}
use Rattle.judgement.proofs.Accepted as judged
use Rattle.sheet.{specs.Examples.{sample_judged, sample_cases}, proofs.Accepted.{sound_bounds}}
use Rattle.claims.specs.{Words.{BreaksNone, case_at}, Rules.{fields_at, OwnLine, SameKey, RulesKept, SampleSheet}}
use Rattle.claims.proofs.OwnLines.{columns_in, values_at, right_fields, case_is, own_line}
use Rattle.std.specs.Prelude.{Ok}

-- ---- keys

module _ (s : List ℕ) (i j : ℕ) (h : i < length (value_lines s)) (l : j < length (value_lines s)) where
  other_key : same_key columns (values_at s i) (values_at s j) ≡ false → SameKey (case_at s i) (case_at s j) → ⊥
  unfolding same_key named name_index columns same
  other_key e k =
      let a : get_or (values_at s i) 0 0 ≡ get_or (values_at s j) 0 0 = rw (case_is s i h, case_is s j l) at k.station in
      let b : get_or (values_at s i) 1 0 ≡ get_or (values_at s j) 1 0 = rw (case_is s i h, case_is s j l) at k.season in
      let z : ◌≡◌ {A = Bool} true false = rw (eq-eqb _ _ a, eq-eqb _ _ b) at e in
      let y : ◌≡◌ {A = ℕ} 0 1 = cc in
      omega arith

-- ---- a sheet that breaks none

line_bounds : {s : List ℕ} {n : ℕ} → Accepted columns s n → (i : ℕ) → i < length (value_lines s) → Bounds (case_at s i)
unfolding line_case
line_bounds {s} a i h = rw (case_is s i h) (sound_bounds a.placed (a.lines.line i h))

pub rules_kept : {s : List ℕ} {n : ℕ} → BreaksNone s n → RulesKept s n
rules_kept {s} {n} e =
    let a = judged.accepted columns s n e in
    let t = text_right today s a.text in
    let stand = names_stand columns (names s) a.names_sound in
    record {
      some_bytes = t.some;
      few_bytes = t.most;
      last_byte = t.last;
      name_count_lem = stand.count ∙ name_count_lem;
      names_known = λ c l m. name_known_at stand c l (omega (arith, name_count_lem));
      names_once = λ k h. stands_once stand k (omega (arith, name_count_lem));
      count = a.count;
      some_lines = a.some;
      few_lines = a.most;
      own_line = λ i h. own a i (omega (arith, a.count));
      bounds = λ i h. line_bounds a i (omega (arith, a.count));
      keys_once = λ i j h l. keys_once a i j h l;
    }
  where
    own : Accepted columns s n → (i : ℕ) → i < length (value_lines s) → OwnLine s i (case_at s i)
    own a i h = own_line s i h a.names_sound (right_fields (fields_at s i) (a.lines.line i h).form_sound)

    keys_once : Accepted columns s n → (i j : ℕ) → i < j → j < n → SameKey (case_at s j) (case_at s i) → ⊥
    keys_once a i j h l =
        let m : j < length (value_lines s) = omega (arith, a.count) in
        let f = sound_at columns (columns_in columns s) [] 2 (Ok n) (value_lines s) a.judged j m in
        let q = line.sound_says columns (columns_in columns s) _ (fields_at s j) f in
        other_key s j i m (omega arith) ((none_before columns (columns_in columns s) (values_at s j) [] (value_lines s) j m q.1).1 i h)

-- ---- §3.3: the sample sheet

pub sample_sheet : SampleSheet
sample_sheet = record { breaks_none = sample_judged; dry = rw sample_cases; wet = rw sample_cases }
