-- The whole sheet: its text, its header, its value lines.
use Prim.Native.Nat.{ℕ, ◌+◌, ◌-◌, ◌*◌, ◌≤◌, ◌<◌}
use mathlib.Core.{Path.{◌≡◌, refl, ap, ◌∙◌}, Bool.{Bool, true, false, not, ◌||◌}, Logic.{◌⊎◌, inl, inr}, List.{List}}
use native.Mathlib.{Omega.{arith}, Nat.{le_trans, mul-le-mul_left}}
use lib.{ListN.{length, get_or, take, drop}, Dec.{eqb, ltb}}
use borrow.Author.Tests.{eq-eqb, ne_eqb, lt-ltb, le-ltb, eqb-true, eqb-false, ltb-true, ltb-false, not-true, not-false}
use Rattle.std.specs.Prelude.{Result, Ok, Err}
use Rattle.text.specs.{Text.{index_of, lines_of, fields_of}, Parts.{Skipped}}
use Rattle.text.proofs.{Clash.{clash}, Lines.{lines_next}}
use Rattle.text.proofs.LineTurns.{line_turn}
use Rattle.case.specs.Columns.{Form}
use Rattle.judgement.specs.Limits.{Limits, today, most_bytes, most_lines}
use Rattle.judgement.specs.Refusal.{text_refused, name_refused, no_line_refused, many_lines_refused}
use Rattle.judgement.specs.Sheet.{names, value_lines, bad_text, values_judgement, names_judgement, judgement_within, judgement}
use Rattle.judgement.specs.{Read.{Room, LinesRead, ValuesRead, Read}, Accepted.{RightText}}
use Rattle.header.{specs.{Header.{columns_of}, Parts.{Header}}, proofs.HeaderReading.{names_right, names_wrong}}
use Rattle.std.specs.Prelude.{Result, Ok}
use Rattle.refusal.specs.{declared.Refused.{Refused}, Refused.{refuse}}

-- ---- the text

module _ (s : List ℕ) where
  pub text_empty : length s ≡ 0 → true ≡ bad_text today s
  unfolding bad_text
  text_empty h = rw (eq-eqb (length s) 0 h)

  pub text_long : (length s ≡ 0 → ⊥) → most_bytes < length s → true ≡ bad_text today s
  unfolding bad_text
  text_long z h = rw (ne_eqb (length s) 0 z, lt-ltb most_bytes (length s) h)

  pub text_last : (length s ≡ 0 → ⊥) → length s ≤ most_bytes → not (eqb (get_or s (length s - 1) 0) 10) ≡ bad_text today s
  unfolding bad_text
  text_last z h = rw (ne_eqb (length s) 0 z, le-ltb most_bytes (length s) h)

pub text_right : (limits : Limits) (s : List ℕ) → bad_text limits s ≡ false → RightText limits s
unfolding bad_text
text_right limits s e =
    let p = none_of (eqb (length s) 0 || ltb limits.bytes (length s)) _ e in
    let q = none_of (eqb (length s) 0) _ p.0 in
    record {
      some = omega (arith, eqb-false (length s) 0 q.0);
      most = ltb-false limits.bytes (length s) q.1;
      last = eqb-true (get_or s (length s - 1) 0) 10 (not-false _ p.1);
    }
  where
    none_of : (a b : Bool) → (a || b) ≡ false → (a ≡ false) × (b ≡ false)
    none_of true b h = clash cc
    none_of false b h = (refl, h)

-- a text that refusal 1 meets
pub text_wrong : (limits : Limits) (s : List ℕ) → bad_text limits s ≡ true
    → (length s ≡ 0) ⊎ ((limits.bytes < length s) ⊎ (get_or s (length s - 1) 0 ≡ 10 → ⊥))
unfolding bad_text
text_wrong limits s = go (eqb (length s) 0) refl (ltb limits.bytes (length s)) refl
  where
    go : (a : Bool) → eqb (length s) 0 ≡ a → (b : Bool) → ltb limits.bytes (length s) ≡ b
        → (a || b || not (eqb (get_or s (length s - 1) 0) 10)) ≡ true
        → (length s ≡ 0) ⊎ ((limits.bytes < length s) ⊎ (get_or s (length s - 1) 0 ≡ 10 → ⊥))
    go true p b q e = inl (eqb-true (length s) 0 p)
    go false p true q e = inr (inl (ltb-true limits.bytes (length s) q))
    go false p false q e = inr (inr (eqb-false (get_or s (length s - 1) 0) 10 (not-true _ e)))

text_some : (s : List ℕ) → bad_text today s ≡ false → 0 < length s
text_some s e = omega (arith, (text_right today s e).some)

-- a refusal stores nothing
not_lines : {n k l c : ℕ} → refuse k l c ≡ Ok n → ⊥
not_lines e = clash cc

read_refused : {form : Form} {s : List ℕ} {k l c : ℕ} (store : List ℕ) → refuse k l c ≡ judgement form s
    → Read form s store store (refuse k l c)
read_refused store e = record { answer_is = e; size = refl; stored = λ n q. absurd (not_lines q) }

lines_refused : {form : Form} {at : List ℕ} {ls : List (List ℕ)} {k l c : ℕ} (store : List ℕ)
    → refuse k l c ≡ values_judgement form today at ls → ValuesRead form at ls store store (refuse k l c)
lines_refused store e = record { answer_is = e; size = refl; stored = λ n q. absurd (not_lines q) }

pub read_text : (form : Form) (s store : List ℕ) → bad_text today s ≡ true → Read form s store store (refuse 1 0 0)
unfolding judgement judgement_within text_refused
read_text form s store b = read_refused store (rw b)

-- ---- the header, which ends at e, and the value lines, which begin at r

pub names_are : (s : List ℕ) (e : ℕ) → bad_text today s ≡ false → e ≡ index_of 10 s → names s ≡ fields_of (take e s)
unfolding names
names_are s e b ends = rw (lines_next s (text_some s b), ← ends)

pub values_are : (s : List ℕ) (e r : ℕ) → bad_text today s ≡ false → e ≡ index_of 10 s → Skipped e (length s) r
    → value_lines s ≡ lines_of (take (length s - r) (drop r s))
unfolding value_lines
values_are s e r b ends k = rw (line_turn s e r (text_some s b) ends k)

-- a store for as many value lines as a sheet may have has room for those of any sheet
pub most_room : {form : Form} {lines : List (List ℕ)} (store : List ℕ) → length form * most_lines ≤ length store → Room form lines store
most_room {form} store h = record { enough = λ f m. le_trans (mul-le-mul_left (length form) m) h }

-- room for all lines is room for the value lines
pub room_left : {form : Form} {store : List ℕ} (s : List ℕ) (e : ℕ) {r : ℕ} → bad_text today s ≡ false → e ≡ index_of 10 s
    → Skipped e (length s) r → Room form (lines_of s) store → Room form (lines_of (take (length s - r) (drop r s))) store
room_left s e {r} b ends k room =
    let l = ap length (line_turn s e r (text_some s b) ends k) in
    record { enough = λ h m. room.enough (omega (arith, l)) m }

module _ {form : Form} (s : List ℕ) {at order : List ℕ} {found : Result Unit ℕ} (e : ℕ) (b : bad_text today s ≡ false)
    (ends : e ≡ index_of 10 s) (h : Header form (take e s) found at order) where
  pub read_names : {c : ℕ} (store : List ℕ) → found ≡ Err c → Read form s store store (refuse 2 1 c)
  unfolding judgement judgement_within names_judgement name_refused
  read_names {c} store z =
      let w = names_wrong h z in
      read_refused store (rw (b, names_are s e b ends, w.is, ne_eqb c 0 w.some))

  pub read_values : {before after : List ℕ} {j : Result ℕ Refused} (r : ℕ) → found ≡ Ok tt → Skipped e (length s) r
      → ValuesRead form at (lines_of (take (length s - r) (drop r s))) before after j → Read form s before after j
  unfolding judgement judgement_within names_judgement
  read_values r z k v =
      let q : at ≡ columns_of form (names s) = h.at_is z ∙ rw (← names_are s e b ends) in
      let l = values_are s e r b ends k in
      record {
        answer_is = v.answer_is ∙ rw (b, names_are s e b ends, names_right h z, l, ← h.at_is z);
        size = v.size;
        stored = λ n t. rw (l, ← q) (v.stored n t);
      }

-- ---- the number of value lines

module _ (form : Form) (at : List ℕ) (ls : List (List ℕ)) (n : ℕ) (count : n ≡ length ls) where
  pub values_none : (store : List ℕ) → n ≡ 0 → ValuesRead form at ls store store (refuse 4 2 0)
  unfolding values_judgement no_line_refused
  values_none store h = lines_refused store (rw (← count, eq-eqb n 0 h))

  pub values_many : (store : List ℕ) → most_lines < n → ValuesRead form at ls store store (refuse 4 (most_lines + 2) 0)
  unfolding values_judgement many_lines_refused
  values_many store h = lines_refused store (rw (← count, ne_eqb n 0 (λ e. omega (arith, e)), lt-ltb most_lines n h))

  pub values_some : {before after : List ℕ} {j : Result ℕ Refused} → (n ≡ 0 → ⊥) → n ≤ most_lines → LinesRead form at ls (Ok n) before after j
      → ValuesRead form at ls before after j
  unfolding values_judgement
  values_some z h l =
      record { answer_is = l.answer_is ∙ rw (← count, ne_eqb n 0 z, le-ltb most_lines n h); size = l.size; stored = l.stored }
