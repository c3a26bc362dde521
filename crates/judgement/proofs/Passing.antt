-- The pass over the value lines: what holds when n lines are sound, rest holds the others, the array the keys of the n lines, and the store
-- their values.
use Prim.Native.Nat.{ℕ, ◌+◌, ◌*◌, ◌-◌, ◌≤◌, ◌<◌}
use mathlib.Core.{Path.{◌≡◌, refl, sym, ap, ◌∙◌}, Logic.{◌⊎◌, inl, inr}, List.{List, [], ◌∷◌, map}}
use native.Mathlib.{Nat.{add-zero, eq-or-lt_of_le, mul-le-mul_left}, Omega.{arith}}
use lib.ListN.{length, get_or, take, drop, set, replicate, length-set, length-drop}
use Rattle.text.{specs.{Text.{index_of, lines_of, fields_of}, Parts.{Skipped}}, proofs.{Clash.{clash}, Lines.{lines_next, lines_none}}}
use Rattle.text.proofs.LineTurns.{line_turn, line_shorter, next_of}
use Rattle.tables.{specs.Parts.{part_at}, proofs.{Writing.{part_kept}, Parts.{part_entry}}}
use Rattle.case.specs.Columns.{Form, named}
use Rattle.line.specs.Line.{line_values}
use Rattle.line_finding.specs.{declared.LineFinding.{LineFinding}, Findings.{line_finding}, Parts.{packed, keys_of}}
use Rattle.line_finding.proofs.Keys.{Keyed, kept, finding_kept, keys_more}
use Rattle.judgement.specs.Refusal.{line_judgement}
use Rattle.judgement.specs.{Limits.{most_lines}, Sheet.{lines_judgement}, Read.{LineStored, LinesRead}}
use Rattle.judgement.proofs.LineJudged.{refused_line, sound_line}
use Rattle.std.specs.Prelude.{Result, Ok, Err}
use Rattle.refusal.specs.{declared.Refused.{Refused}, Refused.{refuse}}

pub record Passing (form : Form) (s at keys rest : List ℕ) (n : ℕ) (sound : Result ℕ Refused) (before store : List ℕ) : Type 0 where
  pub earlier : List (List ℕ)
  pub kept_are : keys_of keys n ≡ map (kept form) earlier
  pub answer_left : lines_judgement form at [] 2 sound (lines_of s) ≡ lines_judgement form at earlier (n + 2) sound (lines_of rest)
  pub lines : drop n (lines_of s) ≡ lines_of rest
  pub keys_count : length keys ≡ most_lines
  pub most : length (lines_of s) ≤ most_lines
  pub short : length rest ≤ length s
  pub size : length store ≡ length before
  pub stored : (i : ℕ) → i < n → part_at (length form) store i ≡ line_values at (fields_of (get_or (lines_of s) i []))

pub passing_start : (form : Form) (s at : List ℕ) (sound : Result ℕ Refused) (store : List ℕ) → length (lines_of s) ≤ most_lines
    → Passing form s at (replicate most_lines 0) s 0 sound store store
unfolding keys_of
passing_start form s at sound store h =
    record {
      earlier = [];
      kept_are = refl;
      answer_left = refl;
      lines = refl;
      keys_count = refl;
      most = h;
      short = omega arith;
      size = refl;
      stored = λ i l. absurd (omega arith);
    }

module _ {form : Form} {s at keys rest : List ℕ} {n : ℕ} {sound : Result ℕ Refused} {before store : List ℕ}
    (p : Passing form s at keys rest n sound before store) where
  -- there is a line left
  left : 0 < length rest → n < length (lines_of s)
  left some = omega (arith, length-drop n (lines_of s), ap length p.lines, ap length (lines_next rest some))

  -- there is a place for its key
  pub passing_room : 0 < length rest → n < most_lines
  passing_room some = omega (arith, p.most, left some)

  -- and for its values, in parts of w numbers
  pub passing_store : {w k : ℕ} → w ≡ length form → k ≡ length (lines_of s) → length form * k ≤ length before → 0 < length rest
      → w * n + w ≤ length store
  passing_store {w} {k} e count room some =
      let l : w * n + w ≤ w * k = omega (arith, mul-le-mul_left w (rw (← count) at (left some))) in
      omega (arith, p.size, ap (λ (m : ℕ). m * k) e)

  pub passing_end : length rest ≤ 0 → LinesRead form at (lines_of s) sound before store sound
  unfolding lines_judgement
  passing_end h =
      record {
        answer_is = sym (p.answer_left ∙ rw (lines_none rest h));
        size = p.size;
        stored = λ m e i l. p.stored i (omega (arith, length-drop n (lines_of s), ap length (p.lines ∙ lines_none rest h)));
      }

-- a value of the line that is part n of the store
pub stored_value : {form : Form} {at line before after : List ℕ} {earlier : List (List ℕ)} {n w : ℕ} {f : LineFinding} (j : ℕ)
    (l : LineStored form at earlier line n before after f) → w ≡ length form → j < w → get_or after (w * n + j) 0 ≡ get_or l.row j 0
stored_value {form} {after = after} {n = n} j l e h =
    rw e (sym (part_entry (length form) n j after 0 (omega arith)) ∙ ap (λ (p : List ℕ). get_or p j 0) l.written.part_is)

pub stored_first : {form : Form} {at line before after : List ℕ} {earlier : List (List ℕ)} {n w : ℕ} {f : LineFinding}
    (l : LineStored form at earlier line n before after f) → w ≡ length form → 0 < w → get_or after (w * n) 0 ≡ get_or l.row 0 0
stored_first {after = after} {n = n} {w} l e h = ap (λ (k : ℕ). get_or after k 0) (sym (add-zero (w * n))) ∙ stored_value 0 l e h

-- a turn: the line before e is checked, with finding f; its values are part n of the store; a is its refusal
module _ {form : Form} {s at keys rest : List ℕ} {n : ℕ} {sound : Result ℕ Refused} {a : Result (Unit {0}) Refused} {before store after : List ℕ} {f : LineFinding} (e : ℕ)
    (keyed : Keyed form)
    (p : Passing form s at keys rest n sound before store) (some : 0 < length rest) (ends : e ≡ index_of 10 rest)
    (j : LineStored form at (keys_of keys n) (take e rest) n store after f) (answered : a ≡ line_judgement {A = Unit {0}} (n + 2) (Ok tt) f) where
  found_is : f ≡ line_finding form at p.earlier (fields_of (take e rest))
  found_is = j.checks.found_is ∙ rw p.kept_are (finding_kept keyed at p.earlier (fields_of (take e rest)))

  pub passing_refused : {why : Refused} → a ≡ Err why → LinesRead form at (lines_of s) sound before after (Err why)
  unfolding lines_judgement
  passing_refused h =
      record {
        answer_is = sym (p.answer_left ∙ rw (lines_next rest some, ← ends, ← found_is) (refused_line (n + 2) _ f answered h));
        size = j.written.size ∙ p.size;
        stored = λ m q. clash cc;
      }

  pub passing_step : {x y : ℕ} (r : ℕ) → a ≡ Ok tt → x ≡ get_or j.row 0 0 → y ≡ get_or j.row 1 0 → Skipped e (length rest) r
      → Passing form s at (set keys n (packed x y)) (take (length rest - r) (drop r rest)) (n + 1) sound before after
  unfolding lines_judgement line_judgement kept named
  passing_step {x = x} {y} r h g q k =
      let t = line_turn rest e r some ends k in
      let z = (sound_line (n + 2) (Ok tt) f answered h).0 in
      let i = passing_room p some in
      let o = next_of n (lines_of s) (take e rest) _ (p.lines ∙ t) in
      record {
        earlier = line_values at (fields_of (take e rest)) ∷ p.earlier;
        kept_are =
            keys_more keys n x y (rw q (j.checks.keyable z).season_few) (omega (arith, p.keys_count))
            ∙ rw (p.kept_are, g, q, j.checks.row_is z, keyed.first, keyed.second);
        answer_left =
            p.answer_left ∙ rw (t, ← found_is, z)
            (ap (λ (m : ℕ). lines_judgement form at (line_values at (fields_of (take e rest)) ∷ p.earlier) m sound
            (lines_of (take (length rest - r) (drop r rest)))) (omega arith));
        lines = o.after;
        keys_count = length-set keys n (packed x y) ∙ p.keys_count;
        most = p.most;
        short = omega (arith, p.short, line_shorter rest e r some ends k);
        size = j.written.size ∙ p.size;
        stored = λ i l. store_at o.is (j.checks.row_is z) i (eq-or-lt_of_le (omega arith));
      }
    where
      store_at : get_or (lines_of s) n [] ≡ take e rest → j.row ≡ line_values at (fields_of (take e rest)) → (i : ℕ) → (i ≡ n) ⊎ (i < n)
          → part_at (length form) after i ≡ line_values at (fields_of (get_or (lines_of s) i []))
      store_at g q i (inl z) = rw (z, j.written.part_is, g) q
      store_at g q i (inr l) = part_kept i j.written l ∙ p.stored i l
