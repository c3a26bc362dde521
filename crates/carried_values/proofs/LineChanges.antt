-- §8.3: what the former form cannot say, line by line: the search for the first such line.
use Prim.Native.Nat.{ℕ, suc, ◌+◌, ◌≤◌, ◌<◌}
use mathlib.Core.{Path.{◌≡◌, refl, sym, ◌∙◌}, Bool.{Bool, true, false, cond, ◌&&◌, and-false}, List.{List, []}}
use native.Mathlib.{Numerals.{add-one}, Omega.{arith}}
use lib.{Dec.{eqb}, ListN.{length, get_or, drop, drop_of_length-le}, Seq.{drop-cons}}
use borrow.Author.Tests.{eq-eqb, ne_eqb}
use Rattle.text.{specs.Text.{same}, proofs.Clash.{clash}}
use Rattle.case.specs.Columns.{columns, name_index, named}
use Rattle.carried_values.specs.Changes.{line_change, changes_from}
use Rattle.std.specs.Prelude.{Result, Ok, Err}
use Rattle.refusal.specs.{declared.Refused.{Refused}, Refused.{refuse}}

-- ---- one line, by the places of its values

module _ (line : ℕ) (next : Result (Unit {0}) Refused) (v : List ℕ) where
  pub shock_differs : (get_or v 5 0 ≡ get_or v 6 0 → ⊥) → refuse 9 line 0 ≡ line_change line next v
  unfolding line_change named name_index columns same
  shock_differs p = rw (ne_eqb _ _ p)

  pub wire_differs : get_or v 5 0 ≡ get_or v 6 0 → (get_or v 6 0 ≡ get_or v 7 0 → ⊥) → refuse 9 line 0 ≡ line_change line next v
  unfolding line_change named name_index columns same
  wire_differs p q = rw (ne_eqb (get_or v 6 0) (get_or v 7 0) q, and-false (eqb (get_or v 5 0) (get_or v 6 0)))

  module _ (shock : get_or v 5 0 ≡ get_or v 6 0) (wire : get_or v 6 0 ≡ get_or v 7 0) where
    pub counts_differ : (get_or v 12 0 ≡ get_or v 13 0 → ⊥) → refuse 10 line 0 ≡ line_change line next v
    unfolding line_change named name_index columns same
    counts_differ p =
        rw (eq-eqb (get_or v 5 0) (get_or v 6 0) shock, eq-eqb (get_or v 6 0) (get_or v 7 0) wire, ne_eqb (get_or v 12 0) (get_or v 13 0) p)

    pub hertz_differs : get_or v 12 0 ≡ get_or v 13 0 → (get_or v 21 0 ≡ 60 → ⊥) → refuse 11 line 0 ≡ line_change line next v
    unfolding line_change named name_index columns same
    hertz_differs p q =
        rw (
          eq-eqb (get_or v 5 0) (get_or v 6 0) shock,
          eq-eqb (get_or v 6 0) (get_or v 7 0) wire,
          eq-eqb (get_or v 12 0) (get_or v 13 0) p,
          ne_eqb
              (get_or v 21 0) 60 q,
        )

    pub none_differs : get_or v 12 0 ≡ get_or v 13 0 → get_or v 21 0 ≡ 60 → next ≡ line_change line next v
    unfolding line_change named name_index columns same
    none_differs p q =
        rw (
          eq-eqb (get_or v 5 0) (get_or v 6 0) shock,
          eq-eqb (get_or v 6 0) (get_or v 7 0) wire,
          eq-eqb (get_or v 12 0) (get_or v 13 0) p,
          eq-eqb
              (get_or v 21 0) 60 q,
        )

-- what the refusal of a line says, whatever follows it
pub refused_line : {why : Refused} {r : Result (Unit {0}) Refused} (line : ℕ) (next : Result (Unit {0}) Refused) (v : List ℕ) → r ≡ line_change line (Ok tt) v
    → r ≡ Err why → line_change line next v ≡ Err why
unfolding line_change
refused_line line next v e f =
    go (eqb (named columns v "shock") (named columns v "clear") && eqb (named columns v "clear") (named columns v "wire"))
    (eqb (named columns v "across") (named columns v "along")) (eqb (named columns v "hz") 60) (sym e ∙ f)
  where
    go : (a b d : Bool) {why : Refused}
        → cond a (cond b (cond d (Ok (tt {0})) (refuse 11 line 0)) (refuse 10 line 0)) (refuse 9 line 0) ≡ Err why
        → cond a (cond b (cond d next (refuse 11 line 0)) (refuse 10 line 0)) (refuse 9 line 0) ≡ Err why
    go true true true h = clash cc
    go true true false h = h
    go true false d h = h
    go false b d h = h

pub sound_line : {r : Result (Unit {0}) Refused} (line : ℕ) (next : Result (Unit {0}) Refused) (v : List ℕ) → r ≡ line_change line (Ok tt) v → r ≡ Ok tt
    → line_change line next v ≡ next
unfolding line_change
sound_line line next v e f =
    go (eqb (named columns v "shock") (named columns v "clear") && eqb (named columns v "clear") (named columns v "wire"))
    (eqb (named columns v "across") (named columns v "along")) (eqb (named columns v "hz") 60) (sym e ∙ f)
  where
    go : (a b d : Bool) → cond a (cond b (cond d (Ok (tt {0})) (refuse 11 line 0)) (refuse 10 line 0)) (refuse 9 line 0) ≡ Ok (tt {0})
        → cond a (cond b (cond d next (refuse 11 line 0)) (refuse 10 line 0)) (refuse 9 line 0) ≡ next
    go true true true h = refl
    go true true false h = clash cc
    go true false d h = clash cc
    go false b d h = clash cc

-- ---- the search: lines before line i have no such refusal

pub record Changing (vs : List (List ℕ)) (i : ℕ) : Type 0 where
  pub within : i ≤ length vs
  pub left : changes_from 2 vs ≡ changes_from (i + 2) (drop i vs)

pub changing_start : (vs : List (List ℕ)) → Changing vs 0
changing_start vs = record { within = omega arith; left = refl }

module _ {vs : List (List ℕ)} {i : ℕ} {r : Result (Unit {0}) Refused} (a : Changing vs i) (h : i < length vs)
    (e : r ≡ line_change (i + 2) (Ok tt) (get_or vs i [])) where
  here : changes_from 2 vs ≡ line_change (i + 2) (changes_from (suc (i + 2)) (drop (suc i) vs)) (get_or vs i [])
  unfolding changes_from
  here = a.left ∙ rw (drop-cons vs i [] h)

  pub changing_refused : {why : Refused} → r ≡ Err why → Err why ≡ changes_from 2 vs
  changing_refused f = sym (here ∙ refused_line (i + 2) _ (get_or vs i []) e f)

  pub changing_step : r ≡ Ok tt → Changing vs (i + 1)
  changing_step f =
      let q : suc (i + 2) ≡ i + 1 + 2 = omega arith in
      record { within = omega arith; left = here ∙ sound_line (i + 2) _ (get_or vs i []) e f ∙ rw (q, add-one i) }

pub changing_end : {vs : List (List ℕ)} {i : ℕ} → Changing vs i → length vs ≤ i → Ok tt ≡ changes_from 2 vs
unfolding changes_from
changing_end {vs} {i} a h = sym (a.left ∙ rw (drop_of_length-le vs h))
