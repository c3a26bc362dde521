-- The numbers of a line that is carried over, by the names that they stand under in the two texts.
use Prim.Native.{Nat.{ℕ, zero, suc, ◌<◌}, String.{String}}
use mathlib.Core.{Path.{◌≡◌, refl, sym, ap, ◌∙◌}, Bool.{Bool, true, ◌&&◌}, List.{List, [], ◌∷◌, map}}
use native.Mathlib.Omega.{arith}
use lib.{Dec.{T, ltb, ltb→lt}, ListN.{length, get_or}}
use mir.Facts.{and_yes}
use Rattle.whole.specs.Every.{Every}
use Rattle.text.specs.Text.{bytes, same}
use Rattle.case.specs.declared.Form.{Form, TheVariants.{Present, Former}}
use Rattle.case.specs.Columns.{columns, former_columns, name_index, named}
use Rattle.case.specs.Columns as table
use Rattle.case.specs.Parts.{form_of}
use Rattle.case.proofs.Tests.{◌then◌}
use Rattle.judgement.specs.Sheet.{value_lines}
use Rattle.judgement.proofs.Causes.{wrong_column}
use Rattle.carried_values.specs.Values.{other, present_values, former_values, carried as carried_values, cases_in}
use Rattle.claims.specs.Rules.{Under}
use Rattle.claims.specs.Carried.{Taken, other_names, own_names, Into, Returns, Held}
use Rattle.claims.specs.Carried as claim
use Rattle.claims.proofs.{OnePlace.{one_number}, OwnLines.{values_in, names_right, under}}

pub map_at : (f : List ℕ → List ℕ) (vs : List (List ℕ)) (i : ℕ) → i < length vs → get_or (map f vs) i [] ≡ f (get_or vs i [])
map_at f [] i h = absurd (omega arith)
map_at f (v ∷ vs) zero h = refl
map_at f (v ∷ vs) (suc i) h = map_at f vs i (omega arith)

-- line i of the cases is that of the text
pub line_values_lem : (form : table.Form) (s : List ℕ) (i : ℕ) → i < length (value_lines s) → get_or (cases_in form s) i [] ≡ values_in form s i
unfolding cases_in
line_values_lem form s i h = map_at _ (value_lines s) i h

-- ---- from names of one sheet to names of another

-- every name of a list is in both tables
unfoldable in_both : table.Form → table.Form → List String → Bool
in_both f g [] = true
in_both f g (name ∷ names) = (ltb (name_index f (bytes name)) (length f) && ltb (name_index g (bytes name)) (length g)) && in_both f g names

module _ (f g : table.Form) (s text : List ℕ) (from-right : wrong_column f s ≡ 0) (to-right : wrong_column g text ≡ 0) (i : ℕ) where
  taken : (from to : String) → name_index f (bytes from) < length f → name_index g (bytes to) < length g
      → named g (values_in g text i) to ≡ named f (values_in f s i) from → Taken s from text to i
  taken from to h k e =
      record {
        number = named f (values_in f s i) from;
        source = under f s from-right from h i;
        here = rw e at (under g text to-right to k i);
      }

  each_taken : (names : List String) → T (in_both f g names)
      → Every (λ name. named g (values_in g text i) name ≡ named f (values_in f s i) name) names
      → Every (λ name. Taken s name text name i) names
  unfolding in_both
  each_taken [] t e = tt
  each_taken (name ∷ names) t e =
      let from : Bool = ltb (name_index f (bytes name)) (length f) in
      let to : Bool = ltb (name_index g (bytes name)) (length g) in
      let q = and_yes (from && to) (in_both f g names) t in
      let p = and_yes from to q.0 in
      (taken name name (ltb→lt _ _ p.0) (ltb→lt _ _ p.1) e.0, each_taken names q.1 e.1)

-- ---- a line in the other form

pub into : (form : Form) (s text : List ℕ) → wrong_column (form_of (other form)) s ≡ 0 → wrong_column (form_of form) text ≡ 0 → (i : ℕ)
    → values_in (form_of form) text i ≡ carried_values form (values_in (form_of (other form)) s i) → Into form s text i
unfolding carried_values other form_of present_values former_values columns former_columns named name_index same in_both
into Present s text p q i e =
    let t = taken former_columns columns s text p q i in
    record {
      shock = t "ms" "shock" (omega arith) (omega arith) (rw e);
      clear = t "ms" "clear" (omega arith) (omega arith) (rw e);
      wire = t "ms" "wire" (omega arith) (omega arith) (rw e);
      across = t "lines" "across" (omega arith) (omega arith) (rw e);
      along = t "lines" "along" (omega arith) (omega arith) (rw e);
      hz = rw e at (under columns text q "hz" (omega arith) i);
      others = each_taken former_columns columns s text p q i other_names tt (rw e
          (refl then refl then refl then refl then refl then refl then refl then refl then refl then refl then refl then refl then refl then
          refl
          then refl then refl then tt));
    }
into Former s text p q i e =
    let t = taken columns former_columns s text p q i in
    record {
      ms = t "shock" "ms" (omega arith) (omega arith) (rw e);
      lines = t "across" "lines" (omega arith) (omega arith) (rw e);
      others = each_taken columns former_columns s text p q i other_names tt (rw e
          (refl then refl then refl then refl then refl then refl then refl then refl then refl then refl then refl then refl then refl then
          refl
          then refl then refl then tt));
    }

-- ---- a line with the same values again

each_same : (f : table.Form) {v w : List ℕ} → v ≡ w → (names : List String) → Every (λ name. named f v name ≡ named f w name) names
each_same f e [] = tt
each_same f e (name ∷ names) = (ap (λ v. named f v name) e, each_same f e names)

module _ (f : table.Form) (s text : List ℕ) (p : wrong_column f s ≡ 0) (q : wrong_column f text ≡ 0) (i : ℕ)
    (e : values_in f text i ≡ values_in f s i) where
  same_each : (names : List String) → T (in_both f f names) → Every (λ name. Taken s name text name i) names
  same_each names t = each_taken f f s text p q i names t (each_same f e names)

module _ (s text : List ℕ) (i : ℕ) where
  pub own_kept : (form : Form) → wrong_column (form_of form) s ≡ 0 → wrong_column (form_of form) text ≡ 0
      → values_in (form_of form) text i ≡ values_in (form_of form) s i → Every (λ name. Taken s name text name i) (own_names form)
  unfolding form_of columns former_columns name_index same in_both
  own_kept Present p q e = same_each columns s text p q i e (own_names Present) tt
  own_kept Former p q e = same_each former_columns s text p q i e (own_names Former) tt

  pub others_kept : (form : Form) → wrong_column (form_of form) s ≡ 0 → wrong_column (form_of form) text ≡ 0
      → values_in (form_of form) text i ≡ values_in (form_of form) s i → Every (λ name. Taken s name text name i) other_names
  unfolding form_of columns former_columns name_index same in_both
  others_kept Present p q e = same_each columns s text p q i e other_names tt
  others_kept Former p q e = same_each former_columns s text p q i e other_names tt

-- ---- the values of a line that may go back

abbrev pub TimesIn : List ℕ → Type 0
TimesIn v = (named columns v "shock" ≡ named columns v "clear") × (named columns v "clear" ≡ named columns v "wire")

abbrev pub CountsIn : List ℕ → Type 0
CountsIn v = named columns v "across" ≡ named columns v "along"

abbrev pub HertzIn : List ℕ → Type 0
HertzIn v = named columns v "hz" ≡ 60

pub data HeldIn (v : List ℕ) : ℕ → Type 0 where
  times : ¬ TimesIn v → HeldIn v 9
  counts : TimesIn v → ¬ CountsIn v → HeldIn v 10
  hertz : TimesIn v → CountsIn v → ¬ HertzIn v → HeldIn v 11

module _ (s : List ℕ) (right : wrong_column columns s ≡ 0) (i : ℕ) where
  abbrev v : List ℕ
  v = values_in columns s i

  module _ (from to : String) (h : name_index columns (bytes from) < length columns)
      (k : name_index columns (bytes to) < length columns) where
    same_number : named columns v from ≡ named columns v to → Taken s from s to i
    same_number e = taken columns columns s s right right i from to h k (sym e)

    number_same : Taken s from s to i → named columns v from ≡ named columns v to
    number_same t =
        one_number (names_right columns s right) (under columns s right from h i) t.source
        ∙ one_number (names_right columns s right) t.here (under columns s right to k i)

  times_equal : TimesIn v → Taken s "shock" s "clear" i × Taken s "clear" s "wire" i
  unfolding columns name_index same
  times_equal t =
      (same_number "shock" "clear" (omega arith) (omega arith) t.0, same_number "clear" "wire" (omega arith) (omega arith) t.1)

  equal_times : Taken s "shock" s "clear" i × Taken s "clear" s "wire" i → TimesIn v
  unfolding columns name_index same
  equal_times t =
      (number_same "shock" "clear" (omega arith) (omega arith) t.0, number_same "clear" "wire" (omega arith) (omega arith) t.1)

  counts_equal : CountsIn v → Taken s "across" s "along" i
  unfolding columns name_index same
  counts_equal e = same_number "across" "along" (omega arith) (omega arith) e

  equal_counts_lem : Taken s "across" s "along" i → CountsIn v
  unfolding columns name_index same
  equal_counts_lem t = number_same "across" "along" (omega arith) (omega arith) t

  hertz_under : HertzIn v → Under s i "hz" 60
  unfolding columns name_index same
  hertz_under e = rw e at (under columns s right "hz" (omega arith) i)

  under_hertz : Under s i "hz" 60 → HertzIn v
  unfolding columns name_index same
  under_hertz u = one_number (names_right columns s right) (under columns s right "hz" (omega arith) i) u

  pub returns_at : TimesIn v × CountsIn v × HertzIn v → Returns s i
  returns_at r = (times_equal r.0, counts_equal r.1, hertz_under r.2)

  pub held_at : {n : ℕ} → HeldIn v n → Held s i n
  held_at (times t) = claim.times (λ e. t (equal_times e))
  held_at (counts t c) = claim.counts (times_equal t) (λ e. c (equal_counts_lem e))
  held_at (hertz t c h) = claim.hertz (times_equal t) (counts_equal c) (λ u. h (under_hertz u))
