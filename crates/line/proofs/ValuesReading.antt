-- The reading of a value line of n columns: what holds while the fields fs are left, and the values of c columns are put.
use Prim.Native.Nat.{ℕ, suc, ◌+◌, ◌≤◌, ◌<◌}
use mathlib.Core.{Path.{◌≡◌, refl, sym, ap, ◌∙◌}, Bool.{Bool, true, false, cond}, List.{List, [], ◌∷◌, map}}
use native.Mathlib.{Numerals.{add-one}, Nat.{add-zero, zero-add}, Decide.{ℕ_discrete}, Omega.{arith}}
use lib.{ListN.{length, get_or, set, length-set}, Seq.{get_or-set_same, get_or-set_other}}
use borrow.Author.Tests.{le-leb, lt-leb}
use Rattle.std.specs.Prelude.{Option, Some, None, MatchOption, IfSome, Result, Ok, Err}
use Rattle.text.specs.{Text.{fields_of}, Value.{is_value, value_of, field_value}}
use Rattle.text.proofs.{Clash.{clash}, LeftmostWrong.{WrongAt, none_wrong, one_wrong, right_columns, wrong_column_lem}}
use Rattle.line.specs.{Line.{wrong_form, form_found}, Parts.{LineValues, ValuesAt}}
use Rattle.case.specs.Order.{Distinct}

-- what a field's value says of its form
wrong_form_lem : (b : Bool) (n : ℕ) → cond b (Some n) None ≡ None → b ≡ false
wrong_form_lem true n e = cc
wrong_form_lem false n e = refl

right_form : (b : Bool) (n x : ℕ) → cond b (Some n) None ≡ Some x → (b ≡ true) × (x ≡ n)
right_form true n x e = (refl, cc)
right_form false n x e = clash cc

pub values_start : (order : List ℕ) (all : List (List ℕ)) (row : List ℕ) → ValuesAt (length row) order all row all 0
values_start order all row =
    record {
      count = refl;
      most = omega arith;
      wrong_left = refl;
      values_left = λ i. ap (λ (k : ℕ). get_or (map value_of all) k 0) (zero-add i);
      values_put = λ i h. absurd (omega arith);
    }

-- a turn: the next field is t, which holds f
module _ {n : ℕ} {order : List ℕ} {all : List (List ℕ)} {row : List ℕ} {fs : List (List ℕ)} {t : List ℕ} {ts : List (List ℕ)} {c : ℕ}
    {f : Option ℕ}
    (a : ValuesAt n order all row fs c) (next : fs ≡ t ∷ ts) (held : f ≡ field_value t) (h : c < n) where
  pub values_wrong : f ≡ None → wrong_form n 1 all ≡ c + 1
  unfolding wrong_form field_value
  values_wrong e = a.wrong_left ∙ rw (next, le-leb (c + 1) n (omega arith), wrong_form_lem (is_value t) (value_of t) (sym held ∙ e))

  pub values_step : (x : ℕ) → Distinct n order → f ≡ Some x → ValuesAt n order all (set row (get_or order c 0) x) ts (c + 1)
  unfolding wrong_form field_value
  values_step x d e =
      let q = right_form (is_value t) (value_of t) x (sym held ∙ e) in
      let k = get_or order c 0 in
      record {
        count = length-set row k x ∙ a.count;
        most = omega arith;
        wrong_left =
            a.wrong_left ∙ rw (next, le-leb (c + 1) n (omega arith), q.0) (ap (λ (m : ℕ). wrong_form n m ts) (sym (add-one (c + 1))));
        values_left = λ i. ap (λ (m : ℕ). get_or (map value_of all) m 0) (omega arith) ∙ a.values_left (suc i) ∙ rw next;
        values_put = λ i l. put q.1 i (ℕ_discrete i c) l;
      }
    where
      put : x ≡ value_of t → (i : ℕ) → Dec (i ≡ c) → i < c + 1
          → get_or (set row (get_or order c 0) x) (get_or order i 0) 0 ≡ get_or (map value_of all) i 0
      put q i (yes p) l =
          rw (p, get_or-set_same row (get_or order c 0) x 0 (omega (arith, d.within c h, a.count)), q)
          (sym (ap (λ (m : ℕ). get_or (map value_of all) m 0) (sym (add-zero c)) ∙ a.values_left 0 ∙ rw next))
      put q i (no p) l =
          get_or-set_other row (get_or order c 0) (get_or order i 0) x 0 (λ z. p (d.distinct i c (omega arith) h z)) ∙ a.values_put i
          (omega (arith, p))

-- ---- what is returned: a wrong column, or the values

pub values_refused : {n : ℕ} {order line row : List ℕ} (c : ℕ) → length row ≡ n → wrong_form n 1 (fields_of line) ≡ c + 1
    → LineValues n order line (Err (c + 1)) row
unfolding form_found
values_refused c k e = record { found_is = rw e (sym (one_wrong (c + 1) (omega arith))); count = k; values = λ z. clash cc }

pub values_many : {n : ℕ} {order line row t : List ℕ} {fs ts : List (List ℕ)} {c : ℕ} → ValuesAt n order (fields_of line) row fs c
    → fs ≡ t ∷ ts → n ≤ c → LineValues n order line (Err (n + 1)) row
unfolding wrong_form
values_many {n} {c = c} a next h =
    values_refused n a.count (a.wrong_left ∙ rw (next, lt-leb (c + 1) n (omega arith)) (omega (arith, a.most)))

module _ {n : ℕ} {order line row : List ℕ} {c : ℕ} (a : ValuesAt n order (fields_of line) row [] c) where
  pub values_few : c < n → LineValues n order line (Err (c + 1)) row
  unfolding wrong_form
  values_few h = values_refused c a.count (a.wrong_left ∙ rw (le-leb (c + 1) n (omega arith)))

  pub values_end : n ≤ c → LineValues n order line (Ok tt) row
  unfolding wrong_form form_found
  values_end h =
      record {
        found_is = sym (none_wrong _ (a.wrong_left ∙ rw (lt-leb (c + 1) n (omega arith))));
        count = a.count;
        values = λ z i l. a.values_put i (omega arith);
      }

-- ---- what the answer says of the fields

module _ {n : ℕ} {order line row : List ℕ} {found : Result Unit ℕ} (v : LineValues n order line found row) where
  pub form_right : found ≡ Ok tt → wrong_form n 1 (fields_of line) ≡ 0
  unfolding form_found
  form_right e = right_columns _ (sym v.found_is ∙ e)

  pub form_wrong : {c : ℕ} → found ≡ Err c → WrongAt (wrong_form n 1 (fields_of line)) c
  unfolding form_found
  form_wrong e = wrong_column_lem _ (sym v.found_is ∙ e)

-- ---- a part of the line, where there is one, and what is read of it

pub part_read : {A B : Type 0} (o : Option A) {r : Option B} {v : B} (N : Type 0) (P : A → Type 0) (R : A → B → Type 0) → MatchOption o N P
    → MatchOption o (r ≡ None) (λ x. IfSome r (R x)) → r ≡ Some v → (x : A) × (P x) × R x v
part_read None N P R n m e = clash cc
part_read (Some x) N P R p q e = (x, p, rw e at q)
