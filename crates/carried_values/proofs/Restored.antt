-- §8.3: "there and back restores every value".
use Prim.Native.Nat.{ℕ, suc}
use mathlib.Core.{Path.{◌≡◌, refl, sym, ap, ◌∙◌}, Bool.{Bool, true, false, cond, ◌&&◌}, List.{List, [], ◌∷◌, map}}
use native.Mathlib.Omega.{arith}
use lib.{Dec.{eqb}, ListN.{length, get_or}}
use borrow.Author.Tests.{eq-eqb, eqb-true}
use Rattle.text.{specs.Text.{same}, proofs.Clash.{clash}}
use Rattle.case.specs.{declared.Form.{Form as CodeForm, TheVariants.{Present, Former}}, Columns.{columns, former_columns, name_index, named}}
use Rattle.case.{specs.{Check.{count_from}, Parts.{form_of}}, proofs.Values.{entries_from}}
use Rattle.carried_values.specs.{Values.{other, present_values, former_values, carried}, Changes.{line_change, changes_from, changes}}
use Rattle.carried_values.proofs.SoundCases.{SoundCases}
use Rattle.std.specs.Prelude.{Result, Ok}
use Rattle.refusal.specs.{declared.Refused.{Refused}, Refused.{refuse}}

-- ---- what the former form can say of a case

record Same (v : List ℕ) : Type 0 where
  clear : get_or v 6 0 ≡ get_or v 5 0
  wire : get_or v 7 0 ≡ get_or v 5 0
  along : get_or v 13 0 ≡ get_or v 12 0
  hz : get_or v 21 0 ≡ 60

same_line : (n : ℕ) (next : Result (Unit {0}) Refused) (v : List ℕ) → line_change n next v ≡ Ok tt → Same v × (next ≡ Ok tt)
unfolding line_change named name_index columns same
same_line n next v e =
    go (eqb (get_or v 5 0) (get_or v 6 0)) refl (eqb (get_or v 6 0) (get_or v 7 0)) refl (eqb (get_or v 12 0) (get_or v 13 0)) refl
    (eqb (get_or v 21 0) 60) refl e
  where
    go : (a : Bool) → eqb (get_or v 5 0) (get_or v 6 0) ≡ a → (b : Bool) → eqb (get_or v 6 0) (get_or v 7 0) ≡ b → (c : Bool)
        → eqb (get_or v 12 0) (get_or v 13 0) ≡ c → (d : Bool) → eqb (get_or v 21 0) 60 ≡ d
        → cond (a && b) (cond c (cond d next (refuse 11 n 0)) (refuse 10 n 0)) (refuse 9 n 0) ≡ Ok (tt {0}) → Same v × (next ≡ Ok tt)
    go true p true q true r true t h =
        let x = eqb-true (get_or v 5 0) (get_or v 6 0) p in
        let y = eqb-true (get_or v 6 0) (get_or v 7 0) q in (
          record {
            clear = sym x;
            wire = sym (x ∙ y);
            along = sym (eqb-true (get_or v 12 0) (get_or v 13 0) r);
            hz = eqb-true (get_or v 21 0) 60 t;
          },
          h,
        )
    go true p true q true r false t h = clash cc
    go true p true q false r d t h = clash cc
    go true p false q c r d t h = clash cc
    go false p b q c r d t h = clash cc

-- ---- one case

former_restored : (v : List ℕ) → length v ≡ length former_columns → former_values (present_values v) ≡ v
unfolding present_values former_values named name_index same columns former_columns count_from
former_restored v h = entries_from v 0 18 (omega (arith, h))

present_restored : (v : List ℕ) → length v ≡ length columns → Same v → present_values (former_values v) ≡ v
unfolding present_values former_values named name_index same columns former_columns count_from
present_restored v h s =
    let at : ℕ → ℕ = λ i. get_or v i 0 in
    let all : ℕ → ℕ → ℕ → ℕ → List ℕ
    = λ clear wire along hz.
    at 0 ∷ at 1 ∷ at 2 ∷ at 3 ∷ at 4 ∷ at 5 ∷ clear ∷ wire ∷ at 8 ∷ at 9 ∷ at 10 ∷ at 11 ∷ at 12 ∷ along ∷ at 14 ∷ at 15 ∷ at 16 ∷ at 17 ∷
    at 18 ∷ at 19 ∷ at 20 ∷ hz ∷ [] in
    ap (λ (x : ℕ). all x (at 5) (at 12) 60) (sym s.clear) ∙ ap (λ (x : ℕ). all (at 6) x (at 12) 60) (sym s.wire)
    ∙ ap (λ (x : ℕ). all (at 6) (at 7) x 60) (sym s.along)
    ∙ ap (λ (x : ℕ). all (at 6) (at 7) (at 13) x) (sym s.hz) ∙ entries_from v 0 22 (omega (arith, h))

-- ---- all cases of a sheet

former_lines : (earlier vs : List (List ℕ)) → SoundCases (form_of Former) earlier vs → map former_values (map present_values vs) ≡ vs
unfolding form_of
former_lines earlier [] s = refl
former_lines earlier (v ∷ vs) s = rw (former_restored v s.0.count, former_lines (v ∷ earlier) vs s.1.1)

present_lines : (earlier vs : List (List ℕ)) (n : ℕ) → SoundCases (form_of Present) earlier vs → changes_from n vs ≡ Ok tt
    → map present_values (map former_values vs) ≡ vs
unfolding form_of changes_from
present_lines earlier [] n s e = refl
present_lines earlier (v ∷ vs) n s e =
    let k = same_line n (changes_from (suc n) vs) v e in
    rw (present_restored v s.0.count k.0, present_lines (v ∷ earlier) vs (suc n) s.1.1 k.1)

-- carried to a form and back, where nothing is left out on the way
pub restored : (form : CodeForm) (vs : List (List ℕ)) → SoundCases (form_of (other form)) [] vs → changes form vs ≡ Ok tt
    → map (carried (other form)) (map (carried form) vs) ≡ vs
unfolding other carried changes
restored Present vs s e = former_lines [] vs s
restored Former vs s e = present_lines [] vs 2 s e

-- ---- what was carried over can be carried back

kept_line : (n : ℕ) (next : Result (Unit {0}) Refused) (v : List ℕ) → line_change n next (present_values v) ≡ next
unfolding line_change named name_index columns same present_values
kept_line n next v =
    rw (
      eq-eqb (named former_columns v "ms") (named former_columns v "ms") refl,
      eq-eqb (named former_columns v "lines")
          (named former_columns v "lines") refl,
    )

kept_lines : (n : ℕ) (vs : List (List ℕ)) → changes_from n (map present_values vs) ≡ Ok tt
unfolding changes_from
kept_lines n [] = refl
kept_lines n (v ∷ vs) = kept_line n (changes_from (suc n) (map present_values vs)) v ∙ kept_lines (suc n) vs

pub nothing_left_out : (form : CodeForm) (vs : List (List ℕ)) → changes (other form) (map (carried form) vs) ≡ Ok tt
unfolding other carried changes
nothing_left_out Present vs = kept_lines 2 vs
nothing_left_out Former vs = refl
