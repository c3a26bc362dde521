-- Lines of values carried to a form one after the other: what holds when i of n are.
use Prim.Native.Nat.{ℕ, ◌+◌, ◌*◌, ◌-◌, ◌≤◌, ◌<◌}
use mathlib.Core.{Path.{◌≡◌, refl, sym, ap, ◌∙◌}, Logic.{◌⊎◌, inl, inr}, List.{List, [], map}}
use native.Mathlib.{Nat.{eq-or-lt_of_le}, Omega.{arith}}
use lib.ListN.{length, get_or, take, drop, length-map}
use Rattle.tables.{specs.Parts.{part_at, parts_of, Written}, proofs.Writing.{part_before, part_kept}}
use Rattle.tables.proofs.Parts.{parts_length, parts_at, parts_are}
use Rattle.case.specs.{declared.Form.{Form, TheVariants.{Present, Former}}, Columns.{name_count_lem, former_name_count_lem}, Parts.{form_of}}
use Rattle.judgement.proofs.StoredLines.{map_at}
use Rattle.carried_values.specs.{Values.{other, present_values, former_values, carried}, Parts.{Converted}}

-- the values of a case in a form are as many as its names
pub carried_count : (form : Form) (v : List ℕ) → length (carried form v) ≡ length (form_of form)
unfolding carried present_values former_values form_of
carried_count Present v = sym name_count_lem
carried_count Former v = sym former_name_count_lem

-- part i of n parts of w numbers, where w has another name
pub part_room : {w v : ℕ} (n i room : ℕ) → w ≡ v → v * n ≤ room → i < n → w * i + w ≤ room
part_room {w} {v} n i room e h l = omega (arith, part_before w n i l, ap (λ (k : ℕ). k * n) e)

-- a slice of that part
pub part_is : {w v : ℕ} (t : List ℕ) (i : ℕ) → w ≡ v → take (w * i + w - w * i) (drop (w * i) t) ≡ part_at v t i
part_is {w} {v} t i e =
    let q : w * i + w - w * i ≡ w = omega arith in
    ap (λ (k : ℕ). take k (drop (w * i) t)) q ∙ rw e

pub record Converting (form : Form) (n : ℕ) (values before after : List ℕ) (i : ℕ) : Type 0 where
  pub within : i ≤ n
  pub size : length after ≡ length before
  pub lines : (j : ℕ) → j < i → part_at (length (form_of form)) after j ≡ carried form (part_at (length (form_of (other form))) values j)

pub converting_start : (form : Form) (n : ℕ) (values before : List ℕ) → Converting form n values before before 0
converting_start form n values before = record { within = omega arith; size = refl; lines = λ j h. absurd (omega arith) }

pub converting_step : {form : Form} {n : ℕ} {values before u w row : List ℕ} {i : ℕ} → Converting form n values before u i → i < n
    → Written (length (form_of form)) i row u w → row ≡ carried form (part_at (length (form_of (other form))) values i)
    → Converting form n values before w (i + 1)
converting_step {form} {values = values} {w = w} {i = i} a h r e =
    record { within = omega arith; size = r.size ∙ a.size; lines = λ j l. at j (eq-or-lt_of_le (omega arith)) }
  where
    at : (j : ℕ) → (j ≡ i) ⊎ (j < i) → part_at (length (form_of form)) w j ≡ carried form (part_at (length (form_of (other form))) values j)
    at j (inl q) = rw (q, r.part_is) e
    at j (inr l) = part_kept j r l ∙ a.lines j l

pub converting_end : {form : Form} {n : ℕ} {values before after : List ℕ} {i : ℕ} → Converting form n values before after i → n ≤ i
    → Converted form n values before after
converting_end {form} {n} {values} {after = after} a
    h = record { size = a.size; lines = ap (λ (k : ℕ). parts_of w k after) (sym count) ∙ parts_are w after ls each }
  where
    w : ℕ
    w = length (form_of form)

    parts : List (List ℕ)
    parts = parts_of (length (form_of (other form))) n values

    ls : List (List ℕ)
    ls = map (carried form) parts

    count : length ls ≡ n
    count = length-map parts (carried form) ∙ parts_length (length (form_of (other form))) n values

    each : (j : ℕ) → j < length ls → part_at w after j ≡ get_or ls j []
    each j l =
        let k : j < n = omega (arith, count) in
        a.lines j (omega (arith, a.within)) ∙ ap (carried form) (sym (parts_at (length (form_of (other form))) n j values k))
        ∙ sym (map_at (carried form) parts j (omega (arith, parts_length (length (form_of (other form))) n values)))
