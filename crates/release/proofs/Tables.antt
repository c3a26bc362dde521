-- The table: eight numbers an entry, one entry after the other.
use Prim.Native.Nat.{ℕ, zero, suc, ◌+◌, ◌*◌, ◌-◌, ◌/◌, ◌≤◌, ◌<◌}
use mathlib.Core.{Path.{◌≡◌, refl, ◌∙◌}, List.{List, [], ◌∷◌}}
use native.Mathlib.Omega.{arith}
use lib.{IntN.{ℤ}, ListN.{length, get_or, length-map}}
use borrow.Rule.Slice.PartMut.{put_mid}
use Rattle.tables.{specs.Parts.{Written}, proofs.Writing.{put_written}}
use Rattle.case.specs.declared.Case.{Case}
use Rattle.tally.specs.{declared.Tally.{Tally}, Lines.{missing, without, first_line}, Fault.{station_fault}}
use Rattle.tally.specs.Tally.{tally_of, lacks, missing_by}
use Rattle.release.specs.{Licence.{entries_of}, Entry.{eight, numbers_of, entry_length, station_numbers, release_of}}
use Rattle.release.proofs.Entries.{entry_count}

eight_long : (station noLine : ℕ) (t : Tally) → length (eight station noLine t) ≡ entry_length
unfolding eight
eight_long station noLine t = refl

-- eight numbers put in the place of entry i
pub entry_written : (i : ℕ) (t part : List ℤ) (station noLine : ℕ) (y : Tally) → entry_length * i + entry_length ≤ length t
    → part ≡ eight station noLine y
    → Written entry_length i (eight station noLine y) t (put_mid (entry_length * i) (entry_length * (i + 1) - entry_length * i) t part)
entry_written i t part station noLine y h e =
    let next : entry_length * (i + 1) ≡ entry_length * i + entry_length = omega arith in
    rw (next, e) (put_written entry_length i t (eight station noLine y) h (eight_long station noLine y))

-- ---- the eight numbers by what is counted

pub eight_is : (station seasons area : ℕ) (cs : List Case)
    → eight station (missing_by seasons (tally_of (first_line cs) area cs)) (tally_of (first_line cs) area cs)
    ≡ numbers_of station seasons area cs
unfolding eight numbers_of missing_by missing lacks without tally_of station_fault
eight_is station seasons area cs = refl

-- ---- the numbers of entry k

pub release_count : (s : List ℕ) (cs : List Case) → length (release_of (entries_of s) cs) ≡ length s / 3
unfolding release_of
release_count s cs = length-map (entries_of s) (λ p. station_numbers p.station p.seasons p.area cs) ∙ entry_count s

pub release_at : (s : List ℕ) (cs : List Case) (k : ℕ) → k < length s / 3
    → get_or (release_of (entries_of s) cs) k [] ≡ station_numbers (get_or s (3 * k) 0) (get_or s (3 * k + 1) 0) (get_or s (3 * k + 2) 0) cs
unfolding release_of entries_of
release_at [] cs k h = absurd (omega arith)
release_at (a ∷ []) cs k h = absurd (omega arith)
release_at (a ∷ b ∷ []) cs k h = absurd (omega arith)
release_at (a ∷ b ∷ d ∷ s) cs zero h = refl
release_at (a ∷ b ∷ d ∷ s) cs (suc k) h =
    let e : 3 * suc k ≡ suc (suc (suc (3 * k))) = omega arith in
    let f : 3 * suc k + 1 ≡ suc (suc (suc (3 * k + 1))) = omega arith in
    let g : 3 * suc k + 2 ≡ suc (suc (suc (3 * k + 2))) = omega arith in
    rw (g, f, e) (release_at s cs k (omega arith))
