-- What each finding of a value line says of its fields, its values and the values of earlier lines.
use Prim.Native.Nat.{ℕ}
use mathlib.Core.{Path.{◌≡◌, refl}, Bool.{Bool, true, false, cond, ◌&&◌}, List.{List}}
use lib.{ListN.{length}, Dec.{eqb}}
use borrow.Author.Tests.{eqb-true, eqb-false}
use Rattle.case.specs.{declared.Finding.{Finding}, Columns.{Form, named}, Check.{out_of_range, agree, disagreement, finding}}
use Rattle.case.specs.declared.Finding.TheVariants as found
use Rattle.line.specs.Line.{wrong_form, line_values}
use Rattle.line_finding.specs.declared.LineFinding.{LineFinding}
use Rattle.line_finding.specs.declared.LineFinding.TheVariants.{Sound, Form as WrongForm, OutOfRange, Disagreement, Repeated}
use Rattle.line_finding.specs.Findings.{or_finding, repeats, line_finding}

module _ (form : Form) where
  -- "layer and thick are both 0 (bare soil) or both not 0. rods, rodlen and place are all 0 or all not 0."
  abbrev pub layer_agrees : List ℕ → Bool
  layer_agrees v = agree (named form v "layer") (named form v "thick")

  abbrev pub rods_agree : List ℕ → Bool
  rods_agree v = agree (named form v "rods") (named form v "rodlen") && agree (named form v "rods") (named form v "place")

module _ (form : Form) (at : List ℕ) where
  -- 5 and 6 of some values
  data ValuesFound (v : List ℕ) : Finding → Type 0 where
    sound : out_of_range form at v ≡ 0 → layer_agrees form v ≡ true → rods_agree form v ≡ true → ValuesFound v found.Sound
    range : (out_of_range form at v ≡ 0 → ⊥) → ValuesFound v (found.OutOfRange (out_of_range form at v))
    layer : out_of_range form at v ≡ 0 → layer_agrees form v ≡ false → ValuesFound v (found.Disagreement (named form at "layer"))
    rods : out_of_range form at v ≡ 0 → layer_agrees form v ≡ true → rods_agree form v ≡ false
        → ValuesFound v (found.Disagreement (named form at "rods"))

  values_found : (v : List ℕ) → ValuesFound v (finding form at v)
  unfolding finding disagreement
  values_found v =
      go (eqb (out_of_range form at v) 0) refl (layer_agrees form v) refl (rods_agree form v) refl
    where
      go : (a : Bool) → eqb (out_of_range form at v) 0 ≡ a → (b : Bool) → layer_agrees form v ≡ b → (c : Bool) → rods_agree form v ≡ c
          → ValuesFound v
          (cond a (cond b (cond c found.Sound (found.Disagreement (named form at "rods"))) (found.Disagreement (named form at "layer")))
          (found.OutOfRange (out_of_range form at v)))
      go false p b q c r = range (eqb-false _ 0 p)
      go true p false q c r = layer (eqb-true _ 0 p) q
      go true p true q false r = rods (eqb-true _ 0 p) q r
      go true p true q true r = sound (eqb-true _ 0 p) q r

  -- 3, 5, 6 and 7 of a line
  module _ (earlier fields : List (List ℕ)) where
    -- its values in the order of the form
    abbrev v : List ℕ
    v = line_values at fields

    -- it is of the right form
    abbrev RightForm : Type 0
    RightForm = wrong_form (length form) 1 fields ≡ 0

    -- and every value is in its range, and those that must agree do
    pub record Agreed : Type 0 where
      pub right_form : RightForm
      pub none_outside : out_of_range form at v ≡ 0
      pub layer : layer_agrees form v ≡ true
      pub rods : rods_agree form v ≡ true

    -- each finding where none before it in "3, 5, 6, 7" is made
    pub data LineFound : LineFinding → Type 0 where
      all_sound : Agreed → repeats form v earlier ≡ false → LineFound Sound
      wrong_form_lem : (wrong_form (length form) 1 fields ≡ 0 → ⊥) → LineFound (WrongForm (wrong_form (length form) 1 fields))
      out_of_range_lem : RightForm → (out_of_range form at v ≡ 0 → ⊥) → LineFound (OutOfRange (out_of_range form at v))
      layer_differs : RightForm → out_of_range form at v ≡ 0 → layer_agrees form v ≡ false
          → LineFound (Disagreement (named form at "layer"))
      rods_differ : RightForm → out_of_range form at v ≡ 0 → layer_agrees form v ≡ true → rods_agree form v ≡ false
          → LineFound (Disagreement (named form at "rods"))
      repeated : Agreed → repeats form v earlier ≡ true → LineFound Repeated

    pub line_found : LineFound (line_finding form at earlier fields)
    unfolding line_finding or_finding
    line_found = go (eqb (wrong_form (length form) 1 fields) 0) refl
      where
        last : Agreed → (b : Bool) → repeats form v earlier ≡ b → LineFound (cond b Repeated Sound)
        last r true e = repeated r e
        last r false e = all_sound r e

        then : RightForm → {f : Finding} → ValuesFound v f → LineFound (or_finding f (cond (repeats form v earlier) Repeated Sound))
        then r (sound o l d) = last (record { right_form = r; none_outside = o; layer = l; rods = d }) (repeats form v earlier) refl
        then r (range e) = out_of_range_lem r e
        then r (layer o e) = layer_differs r o e
        then r (rods o l e) = rods_differ r o l e

        go : (b : Bool) → eqb (wrong_form (length form) 1 fields) 0 ≡ b
            → LineFound
            (cond b (or_finding (finding form at v) (cond (repeats form v earlier) Repeated Sound))
            (WrongForm (wrong_form (length form) 1 fields)))
        go true e = then (eqb-true _ 0 e) (values_found v)
        go false e = wrong_form_lem (eqb-false _ 0 e)

    -- a sound line repeats no key
    pub sound_says : line_finding form at earlier fields ≡ Sound → Agreed × (repeats form v earlier ≡ false)
    sound_says e = go (rw e at line_found)
      where
        go : LineFound Sound → Agreed × (repeats form v earlier ≡ false)
        go (all_sound r q) = (r, q)
