-- §11.3: margins, working and headroom of every value line reported to a program in C.
use Prim.Native.Nat.{ℕ, zero, suc, ◌*◌, ◌≤◌}
use mathlib.Core.{Path.{◌≡◌, refl, sym, ◌∙◌}, Bool.{Bool, true, false, cond}, List.{List, [], ◌∷◌}}
use native.Mathlib.Omega.{arith}
use lib.{Dec.{ltb}, IntN.{ℤ, pos}, ListN.{length}}
use borrow.Author.Tests.{ltb-true, ltb-false}
use Rattle.tables.specs.Parts.{part_at}
use Rattle.case.specs.{declared.Case.{Case}, Columns.{columns}, Check.{record_answer}, Bounds.{Bounds}}
use Rattle.case.proofs.BoundsSound.{bounds_sound}
use Rattle.judgement.specs.Sheet.{judgement}
use Rattle.row.specs.{declared.Row.{Row}, Ends.{row_of}}
use Rattle.margin.{specs.Meaning.{Right, RightMargins}, proofs.Right.{right_margins}}
use Rattle.working.specs.{Ends.{working_of}, Working.{working_answer, RightWorked}}
use Rattle.headroom.specs.Headroom as headroom
use Rattle.sheet.specs.Answer.{cases}
use Rattle.hocsimbur.{specs.{Asked.{RowAnswered}}, proofs.Answers.{bounds_answered}}
use Rattle.c_line.specs.declared.Question.{Question}
use Rattle.c_line.specs.declared.Question.TheVariants as question
use Rattle.c_line.specs.Line as line
use Rattle.c_lines.specs.Lines.{lines_by, lines_answer, Filled, ArrayAfter, LinesTold}
use Rattle.claims.specs.Words.{BreaksNone, case_at}
use Rattle.claims.specs.Entries as entries
use Rattle.claims.proofs.{Sheets.{cases_count, bounds_at}, Workings.{working_outcome}, Later.{headroom_outcome}}
use Rattle.claims.proofs.Entries.{Says, in_c, rule_number}
use Rattle.std.specs.Prelude.{Result, Ok, Err}
use Rattle.refusal.specs.{declared.Refused.{Refused}, Refused.{refuse}}

-- ---- every question: what its numbers say of a case within its bounds is all that differs

module _ (q : Question) (Line : Case → List ℤ → Type 0)
    (says : (c : Case) (part : List ℤ) → Bounds c → line.LineOf q c part → Line c part) where
  abbrev width : ℕ
  width = line.width_of q

  every_line : {s : List ℕ} {before after : List ℤ} {n : ℕ} → BreaksNone s n → width * n ≤ length before
      → Filled q (cases s) before after → entries.EveryLine width Line s before after n
  every_line {s} {before} {after} {n} e l f =
      let k = cases_count s n e in
      record {
        breaks_none = e;
        fits = l;
        line = λ i h. says (case_at s i) (part_at width after i) (bounds_at s e i h) (f.parts i (omega (arith, k)));
        rest_kept = rw k f.rest;
        same_length = f.size;
      }

  answer_says : (s : List ℕ) (before after : List ℤ) (j : Result ℕ Refused) → judgement columns s ≡ j
      → ArrayAfter q s before after (lines_by width (length before) j)
      → Says (entries.EveryLine width Line s before after) (entries.LinesRefused width Line s before after)
      (lines_by width (length before) j)
  unfolding Says ArrayAfter lines_by
  answer_says s before after (Err why) e h = (rule_number columns s e, entries.rule e h)
  answer_says s before after (Ok n) e h = roomy (ltb (length before) (width * n)) refl h
    where
      roomy : (b : Bool) → ltb (length before) (width * n) ≡ b → ArrayAfter q s before after (cond b (refuse 8 0 0) (Ok n))
          → Says (entries.EveryLine width Line s before after) (entries.LinesRefused width Line s before after)
          (cond b (refuse 8 0 0) (Ok n))
      roomy true p h =
          (omega arith, entries.short (record { lines = n; breaks_none = e; short = ltb-true (length before) (width * n) p }) h)
      roomy false p h = every_line e (ltb-false (length before) (width * n) p) h

  lines_in_c : {s : List ℕ} {before after : List ℤ} {place told : List ℕ} {r : ℤ} → LinesTold q s before after place told r
      → entries.LinesInC width Line s before after place told r
  unfolding lines_answer
  lines_in_c {s} {before} {after} t =
      let a = t.asked in
      in_c t.answer t.told
      (rw a.answer_is (answer_says s before after (judgement columns s) refl (rw a.answer_is at a.array_is)))

-- ---- the three

-- a case within its bounds is answered with its row
answered_row : {c : Case} {a : Result Row Refused} {r : Row} → Bounds c → RowAnswered c a → a ≡ Ok r → r ≡ row_of c
answered_row b h e = let z = sym e ∙ bounds_answered b h in cc

margins_say : (c : Case) (part : List ℤ) → Bounds c → line.MarginsLine c part → entries.MarginNumbers c part
unfolding Right row_of
margins_say c part b l =
    let right : RightMargins c l.mesh l.step = rw l.margins at (right_margins b) in
    rw l.is
    (entries.margins {m = l.mesh} {k = l.step}
    (λ r a. rw (answered_row b a refl) l.margins)
    right.mesh_below
    right.step_below
    (λ a h. (
      λ w. right.safe_both (rw (answered_row b h w.is) at w.verdict),
      λ p. record { row = row_of c; is = bounds_answered b h; verdict = right.both_safe p.0 p.1 },
    )))

-- a case within its bounds has a working
is_worked : {c : Case} → Bounds c → working_answer c ≡ Ok (working_of c)
unfolding working_answer record_answer
is_worked b = rw (bounds_sound b)

working_says : (c : Case) (part : List ℤ) → Bounds c → line.WorkingLine c part → entries.WorkingNumbers c part
unfolding RightWorked
working_says c part b l = rw l.is (entries.working (working_outcome (record { answer = sym (is_worked b); right = l.right })))

headroom_says : (c : Case) (part : List ℤ) → Bounds c → line.HeadroomLine c part → entries.HeadroomNumber c part
unfolding headroom.RightFault headroom.RightRoom headroom.checked
headroom_says c part b l = rw l.is (go l.fault l.right)
  where
    go : (fault : ℕ) → headroom.RightFault c fault → entries.HeadroomNumber c (pos fault ∷ [])
    go zero h = entries.none (headroom_outcome (record { checks = bounds_sound b; right = h }))
    go (suc k) h = entries.up_to (headroom_outcome (record { checks = bounds_sound b; right = h }))

module _ {s : List ℕ} {before after : List ℤ} {place told : List ℕ} {r : ℤ} where
  pub margins_in_c : LinesTold question.Margins s before after place told r
      → entries.LinesInC 2 entries.MarginNumbers s before after place told r
  unfolding line.LineOf line.width_of
  margins_in_c t = lines_in_c question.Margins entries.MarginNumbers margins_say t

  pub working_in_c : LinesTold question.Working s before after place told r
      → entries.LinesInC 30 entries.WorkingNumbers s before after place told r
  unfolding line.LineOf line.width_of
  working_in_c t = lines_in_c question.Working entries.WorkingNumbers working_says t

  pub headroom_in_c : LinesTold question.Headroom s before after place told r
      → entries.LinesInC 1 entries.HeadroomNumber s before after place told r
  unfolding line.LineOf line.width_of
  headroom_in_c t = lines_in_c question.Headroom entries.HeadroomNumber headroom_says t
