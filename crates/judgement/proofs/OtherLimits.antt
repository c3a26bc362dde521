-- A sheet that is accepted within some limits, judged within others (§1.5).
use Prim.Native.Nat.{ℕ, ◌+◌, ◌≤◌, ◌<◌}
use mathlib.Core.{Path.{◌≡◌, ◌∙◌}, Bool.{cond, or-false}, List.{List}}
use native.Mathlib.Omega.{arith}
use lib.{ListN.{length}, Dec.{ltb}}
use borrow.Author.Tests.{eq-eqb, ne_eqb, lt-ltb, le-ltb}
use Rattle.case.specs.Columns.{Form}
use Rattle.judgement.specs.Limits.{Limits, earlier, today}
use Rattle.judgement.specs.Refusal.{text_refused, many_lines_refused}
use Rattle.judgement.specs.{Sheet.{bad_text, values_judgement, names_judgement, judgement_within, judgement}, Accepted.{RightText}}
use Rattle.judgement.proofs.{Whole.{text_right}, Accepted.{accepted_within}}
use Rattle.std.specs.Prelude.{Ok}
use Rattle.refusal.specs.{Refused.{refuse}}

-- of a text that is right within some limits, others refuse the bytes alone
bytes_alone : {limits : Limits} {s : List ℕ} (others : Limits) → RightText limits s → bad_text others s ≡ ltb others.bytes (length s)
unfolding bad_text
bytes_alone {s = s} others r =
    rw (ne_eqb (length s) 0 (λ e. omega (arith, e, r.some)), eq-eqb _ 10 r.last) (or-false (ltb others.bytes (length s)))

module _ (form : Form) (limits others : Limits) (s : List ℕ) (n : ℕ) (e : judgement_within form limits s ≡ Ok n) where
  -- bytes and lines are all that other limits can refuse
  limits_alone : judgement_within form others s
      ≡ cond (ltb others.bytes (length s)) text_refused (cond (ltb others.lines n) (many_lines_refused others) (Ok n))
  unfolding judgement_within names_judgement values_judgement
  limits_alone =
      let a = accepted_within form limits s n e in
      let t = bytes_alone others (text_right limits s a.text) in
      rw (t, eq-eqb _ 0 a.names_sound, ← a.count, ne_eqb n 0 (λ z. omega (arith, z, a.some)), a.judged)

  pub kept_within : limits.bytes ≤ others.bytes → limits.lines ≤ others.lines → judgement_within form others s ≡ Ok n
  kept_within b l =
      let a = accepted_within form limits s n e in
      let r = text_right limits s a.text in
      limits_alone ∙ rw (le-ltb others.bytes (length s) (omega (arith, r.most)), le-ltb others.lines n (omega (arith, a.most)))

  pub bytes_refused : others.bytes < length s → judgement_within form others s ≡ refuse 1 0 0
  unfolding text_refused
  bytes_refused h = limits_alone ∙ rw (lt-ltb others.bytes (length s) h)

  pub lines_refused : length s ≤ others.bytes → others.lines < n → judgement_within form others s ≡ refuse 4 (others.lines + 2) 0
  unfolding many_lines_refused
  lines_refused b h = limits_alone ∙ rw (le-ltb others.bytes (length s) b, lt-ltb others.lines n h)

module _ (form : Form) (s : List ℕ) (n : ℕ) where
  -- "Stored sheets keep their rows."
  pub stored_sheet_kept : judgement_within form earlier s ≡ Ok n → judgement form s ≡ Ok n
  unfolding judgement
  stored_sheet_kept e = kept_within form earlier today s n e (omega arith) (omega arith)

  -- "A sheet above the old limit and otherwise right is refused by programs sold earlier for the same columns, with 1 or 4."
  pub long_refused_earlier : judgement form s ≡ Ok n → 16384 < length s → judgement_within form earlier s ≡ refuse 1 0 0
  unfolding judgement
  long_refused_earlier e h = bytes_refused form today earlier s n e h

  pub many_refused_earlier : judgement form s ≡ Ok n → length s ≤ 16384 → 64 < n → judgement_within form earlier s ≡ refuse 4 66 0
  unfolding judgement
  many_refused_earlier e b h = lines_refused form today earlier s n e b h
