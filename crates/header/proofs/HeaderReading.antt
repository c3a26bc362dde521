-- The reading of a header: what holds while the fields fs are left, column c is next, and `at` holds the columns left of it.
use Prim.Native.Nat.{ℕ, zero, suc, ◌+◌, ◌-◌, ◌≤◌, ◌<◌}
use mathlib.Core.{Path.{◌≡◌, refl, sym, ap, ◌∙◌}, Bool.{Bool, true, false, cond}, List.{List, [], ◌∷◌}}
use native.Mathlib.{Numerals.{add-one}, Decide.{ℕ_discrete}, Omega.{arith}}
use lib.{ListN.{length, get_or, set, replicate, length-set, length-replicate}, Seq.{get_or-set_same, get_or-set_other}, Dec.{ltb}}
use borrow.Author.Tests.{eq-eqb, ne_eqb, le-leb, lt-leb, ltb-true}
use Rattle.std.specs.Prelude.{Option, Some, None, Result, Ok, Err}
use Rattle.text.specs.Text.{fields_of}
use Rattle.text.proofs.{Clash.{clash}, LeftmostWrong.{WrongAt, none_wrong, one_wrong, right_columns, wrong_column_lem}}
use Rattle.case.specs.{Columns.{Form, name_index}, Bounds.{Placed}, Order.{Ordered}}
use Rattle.header.specs.Header.{no_columns, fresh, wrong_name, names_found, columns_from, columns_of}
use Rattle.header.specs.Parts.{Header, found_name}
use Rattle.header.proofs.FreeNames.{free, free_zeros, free_set, free_none, set_under}

-- what the search for a name says of its index
known : (b : Bool) (i k : ℕ) → cond b (Some i) None ≡ Some k → (b ≡ true) × (i ≡ k)
known true i k e = (refl, cc)
known false i k e = clash cc

unknown : (b : Bool) (i : ℕ) → cond b (Some i) None ≡ None → b ≡ false
unknown true i e = clash cc
unknown false i e = refl

zeros_under : (n k : ℕ) → get_or (replicate n 0) k 0 < 1
zeros_under zero k = omega arith
zeros_under (suc n) zero = omega arith
zeros_under (suc n) (suc k) = zeros_under n k

pub record HeaderAt (form : Form) (all : List (List ℕ)) (at : List ℕ) (fs : List (List ℕ)) (c : ℕ) : Type 0 where
  pub count : length at ≡ length form
  pub left : c + free at ≡ length form + 1
  pub first : 1 ≤ c
  pub under : (k : ℕ) → get_or at k 0 < c
  pub wrong_left : wrong_name form 1 (no_columns form) all ≡ wrong_name form c at fs
  pub columns_left : columns_of form all ≡ columns_from form c at fs

pub no_columns_count : (form : Form) → length (no_columns form) ≡ length form
unfolding no_columns
no_columns_count form = length-replicate (length form) 0

pub header_start : (form : Form) (all : List (List ℕ)) → HeaderAt form all (no_columns form) all 1
unfolding columns_of no_columns
header_start form all =
    record {
      count = no_columns_count form;
      left = omega (arith, free_zeros (length form));
      first = omega arith;
      under = zeros_under (length form);
      wrong_left = refl;
      columns_left = refl;
    }

-- a turn: the next field is t, whose search finds f
module _ {form : Form} {all : List (List ℕ)} {at : List ℕ} {fs : List (List ℕ)} {t : List ℕ} {ts : List (List ℕ)} {c : ℕ}
    (a : HeaderAt form all at fs c) (next : fs ≡ t ∷ ts) where
  pub header_unknown : found_name form t ≡ None → wrong_name form 1 (no_columns form) all ≡ c
  unfolding wrong_name fresh found_name
  header_unknown e = a.wrong_left ∙ rw (next, unknown (ltb (name_index form t) (length form)) (name_index form t) e)

  module _ {k : ℕ} (found : found_name form t ≡ Some k) where
    index_is : (ltb (name_index form t) (length form) ≡ true) × (name_index form t ≡ k)
    unfolding found_name
    index_is = known (ltb (name_index form t) (length form)) (name_index form t) _ found

    pub header_within : k < length form
    header_within = rw (← index_is.1) (ltb-true _ _ index_is.0)

    -- there is a column for a name that has none
    pub header_room : get_or at k 0 ≡ 0 → c ≤ length form
    header_room e = omega (arith, a.left, free_set at k c (omega (arith, a.count, header_within)) e a.first)

    pub header_again : (get_or at k 0 ≡ 0 → ⊥) → wrong_name form 1 (no_columns form) all ≡ c
    unfolding wrong_name fresh
    header_again e = a.wrong_left ∙ rw (next, index_is.0, index_is.1, ne_eqb _ 0 e)

    pub header_step : get_or at k 0 ≡ 0 → HeaderAt form all (set at k c) ts (c + 1)
    unfolding wrong_name fresh columns_from
    header_step e =
        let h = header_within in
        record {
          count = length-set at k c ∙ a.count;
          left = omega (arith, a.left, free_set at k c (omega (arith, a.count)) e a.first);
          first = omega arith;
          under = λ j. rw add-one (set_under at k j c (λ i. omega (arith, a.under i)));
          wrong_left = a.wrong_left ∙ rw (next, index_is.0, index_is.1, eq-eqb _ 0 e, add-one);
          columns_left = a.columns_left ∙ rw (next, index_is.1, add-one);
        }

  -- past the last column every name has one, so that a further name is unknown or stands further left
  pub header_surplus : length form < c → wrong_name form 1 (no_columns form) all ≡ c
  header_surplus h = by_search (found_name form t) refl
    where
      by_search : (f : Option ℕ) → found_name form t ≡ f → wrong_name form 1 (no_columns form) all ≡ c
      by_search None e = header_unknown e
      by_search (Some k) e = header_again e (λ z. omega (arith, header_room e z))

-- no field is left
module _ {form : Form} {all : List (List ℕ)} {at : List ℕ} {c : ℕ} (a : HeaderAt form all at [] c) where
  pub header_few : c ≤ length form → wrong_name form 1 (no_columns form) all ≡ c
  unfolding wrong_name
  header_few h = a.wrong_left ∙ rw (le-leb c (length form) h)

  pub header_none : length form < c → wrong_name form 1 (no_columns form) all ≡ 0
  unfolding wrong_name
  header_none h = a.wrong_left ∙ rw (lt-leb c (length form) h)

  pub header_columns : at ≡ columns_of form all
  unfolding columns_from
  header_columns = sym a.columns_left

  pub header_placed : length form < c → Placed (length form) at
  header_placed h =
      record {
        count = a.count;
        some = λ k l. free_none at k (omega (arith, a.left)) (omega (arith, a.count));
        within = λ k. omega (arith, a.under k, a.left);
      }

-- ---- the names of the columns left of column c

pub record OrderAt (form : Form) (at order : List ℕ) (c : ℕ) : Type 0 where
  pub count : length order ≡ length form
  pub within : (i : ℕ) → i + 1 < c → get_or order i 0 < length form
  pub column_of : (i : ℕ) → i + 1 < c → get_or at (get_or order i 0) 0 ≡ i + 1
  pub name_of : (k : ℕ) → 1 ≤ get_or at k 0 → get_or order (get_or at k 0 - 1) 0 ≡ k

pub order_start : (form : Form) (order : List ℕ) → length order ≡ length form → OrderAt form (no_columns form) order 1
unfolding no_columns
order_start form order e =
    record {
      count = e;
      within = λ i h. absurd (omega arith);
      column_of = λ i h. absurd (omega arith);
      name_of = λ k h. absurd (omega (arith, zeros_under (length form) k));
    }

-- column c has the name with index k, which had no column
pub order_step : {form : Form} {all : List (List ℕ)} {at order : List ℕ} {fs : List (List ℕ)} {c : ℕ} (k : ℕ) → HeaderAt form all at fs c
    → OrderAt form at order c → k < length form → c ≤ length form → get_or at k 0 ≡ 0
    → OrderAt form (set at k c) (set order (c - 1) k) (c + 1)
order_step {form} {at = at} {order} {c = c} k a o h m e =
    record {
      count = length-set order (c - 1) k ∙ o.count;
      within = λ i l. within i (ℕ_discrete i (c - 1)) l;
      column_of = λ i l. column_of i (ℕ_discrete i (c - 1)) l;
      name_of = λ j l. name_of j (ℕ_discrete j k) l;
    }
  where
    here : get_or (set order (c - 1) k) (c - 1) 0 ≡ k
    here = get_or-set_same order (c - 1) k 0 (omega (arith, o.count, a.first))

    other : (i : ℕ) → (i ≡ c - 1 → ⊥) → get_or (set order (c - 1) k) i 0 ≡ get_or order i 0
    other i n = get_or-set_other order (c - 1) i k 0 n

    set_here : get_or (set at k c) k 0 ≡ c
    set_here = get_or-set_same at k c 0 (omega (arith, a.count))

    within : (i : ℕ) → Dec (i ≡ c - 1) → i + 1 < c + 1 → get_or (set order (c - 1) k) i 0 < length form
    within i (yes p) l = rw (p, here) h
    within i (no p) l = rw (other i p) (o.within i (omega (arith, p)))

    column_of : (i : ℕ) → Dec (i ≡ c - 1) → i + 1 < c + 1 → get_or (set at k c) (get_or (set order (c - 1) k) i 0) 0 ≡ i + 1
    column_of i (yes p) l = rw (p, here, set_here) (omega (arith, a.first))
    column_of i (no p) l =
        let q = o.column_of i (omega (arith, p)) in
        rw (other i p, get_or-set_other at k (get_or order i 0) c 0 (λ z. omega (arith, q, ap (λ (x : ℕ). get_or at x 0) z))) q

    name_of : (j : ℕ) → Dec (j ≡ k) → 1 ≤ get_or (set at k c) j 0 → get_or (set order (c - 1) k) (get_or (set at k c) j 0 - 1) 0 ≡ j
    name_of j (yes p) l = rw (p, set_here) here
    name_of j (no p) l =
        let q = get_or-set_other at k j c 0 p in
        let t : 1 ≤ get_or at j 0 = rw q at l in
        rw (q, other (get_or at j 0 - 1) (λ z. omega (arith, a.under j))) (o.name_of j t)

pub order_end : {form : Form} {all : List (List ℕ)} {at order : List ℕ} {c : ℕ} → HeaderAt form all at [] c → OrderAt form at order c
    → length form < c → Ordered (length form) at order
order_end a o h =
    record {
      count = o.count;
      within = λ i l. o.within i (omega arith);
      column_of = λ i l. o.column_of i (omega arith);
      name_of = λ k l. o.name_of k ((header_placed a h).some k l);
    }

-- ---- the loop over the names of a line: rest holds those that are left

pub record HeaderTurn (form : Form) (line at order rest : List ℕ) (c : ℕ) : Type 0 where
  pub header : HeaderAt form (fields_of line) at (fields_of rest) c
  pub named : OrderAt form at order c
  pub short : length rest ≤ length line

pub turn_start : (form : Form) (line order : List ℕ) → length order ≡ length form → HeaderTurn form line (no_columns form) order line 1
turn_start form line order e = record { header = header_start form (fields_of line); named = order_start form order e; short = omega arith }

-- ---- what is returned: a wrong column, or the columns

module _ {form : Form} {line at order : List ℕ} {c : ℕ} where
  pub header_refused : {fs : List (List ℕ)} → HeaderAt form (fields_of line) at fs c → OrderAt form at order c
      → wrong_name form 1 (no_columns form) (fields_of line) ≡ c → Header form line (Err c) at order
  unfolding names_found
  header_refused a o e =
      record {
        found_is = rw e (sym (one_wrong c a.first));
        at_is = λ z. clash cc;
        placed = λ z. clash cc;
        ordered = λ z. clash cc;
        columns_all = a.count;
        order_all = o.count;
      }

  pub header_end : HeaderAt form (fields_of line) at [] c → OrderAt form at order c → length form < c → Header form line (Ok tt) at order
  unfolding names_found
  header_end a o h =
      record {
        found_is = sym (none_wrong _ (header_none a h));
        at_is = λ z. header_columns a;
        placed = λ z. header_placed a h;
        ordered = λ z. order_end a o h;
        columns_all = a.count;
        order_all = o.count;
      }

-- ---- what the answer says of the names

module _ {form : Form} {line at order : List ℕ} {found : Result Unit ℕ} (h : Header form line found at order) where
  pub names_right : found ≡ Ok tt → wrong_name form 1 (no_columns form) (fields_of line) ≡ 0
  unfolding names_found
  names_right e = right_columns _ (sym h.found_is ∙ e)

  pub names_wrong : {c : ℕ} → found ≡ Err c → WrongAt (wrong_name form 1 (no_columns form) (fields_of line)) c
  unfolding names_found
  names_wrong e = wrong_column_lem _ (sym h.found_is ∙ e)
