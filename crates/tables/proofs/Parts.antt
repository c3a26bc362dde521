-- The first parts of a table as a list.
use Prim.Native.Nat.{ℕ, zero, suc, ◌+◌, ◌*◌, ◌<◌}
use mathlib.Core.{Path.{◌≡◌, refl, ap, ◌∙◌}, List.{List, [], ◌∷◌}}
use native.Mathlib.Omega.{arith}
use lib.{ListN.{length, get_or, take, drop}, Seq.{drop-drop, get_or-take, get_or-drop}}
use Rattle.tables.specs.Parts.{part_at, parts_of}

pub parts_length : {A : Type 0} (width n : ℕ) (t : List A) → length (parts_of width n t) ≡ n
unfolding parts_of
parts_length width zero t = refl
parts_length width (suc n) t = ap suc (parts_length width n (drop width t))

-- part i + 1 is part i of what follows the first part
part_next : {A : Type 0} (width i : ℕ) (t : List A) → part_at width (drop width t) i ≡ part_at width t (suc i)
part_next width i t =
    let e : width + width * i ≡ width * suc i = omega arith in
    ap (take width) (drop-drop (width * i) width t ∙ ap (λ (k : ℕ). drop k t) e)

first_part : {A : Type 0} (width : ℕ) (t : List A) → take width t ≡ part_at width t 0
first_part width t = let e : 0 ≡ width * 0 = omega arith in ap (λ (k : ℕ). take width (drop k t)) e

pub parts_at : {A : Type 0} (width n i : ℕ) (t : List A) → i < n → get_or (parts_of width n t) i [] ≡ part_at width t i
unfolding parts_of
parts_at width zero i t h = absurd (omega arith)
parts_at width (suc n) zero t h = first_part width t
parts_at width (suc n) (suc i) t h = parts_at width n i (drop width t) (omega arith) ∙ part_next width i t

-- a list whose entries are the parts
pub parts_are : {A : Type 0} (width : ℕ) (t : List A) (ls : List (List A)) → ((i : ℕ) → i < length ls → part_at width t i ≡ get_or ls i [])
    → parts_of width (length ls) t ≡ ls
unfolding parts_of
parts_are width t [] h = refl
parts_are width t (l ∷ ls) h =
    rw (first_part width t, h 0 (omega arith))
    (ap (λ (m : List (List _)). l ∷ m) (parts_are width (drop width t) ls (λ i k. part_next width i t ∙ h (suc i) (omega arith))))

-- an entry of part i
pub part_entry : {A : Type 0} (width i j : ℕ) (t : List A) (d : A) → j < width → get_or (part_at width t i) j d ≡ get_or t (width * i + j) d
part_entry width i j t d h = get_or-take width (drop (width * i) t) j d h ∙ get_or-drop (width * i) t j d
