-- What is asked of plain numbers: the logarithm (§6.3), readings (§9.1), a staged test (§9.2), the margins of a row (§6.5). For each
-- question every answer that it can give, with its condition; the conditions exclude one another (Answers.antt), so each answer is given
-- exactly on its own.
use Rattle.std.specs.Prelude.{Some, ℕ, suc, ◌+◌, ◌*◌, ◌/◌, ◌%◌, ◌^◌, ◌≤◌, ◌<◌}
use mathlib.Core.{Path.{◌≡◌}, Logic.{◌⊎◌, ◌↔◌}, List.{List, Memᴰ}}
use lib.{IntN.{ℤ, pos, neg_ℤ, nat_abs, ◌+ℤ◌}, ListN.{length, get_or}, Signed.{◌≤ℤ◌, ◌<ℤ◌}}
use Rattle.interval.specs.declared.{Interval.{Interval}}
use Rattle.exact.specs.{Fraction.{Fraction, whole, decimal, ◌÷f◌}, Ends.{Ends}, Exact.{Exact, exactly, ◌·x◌, AtOrBelow}, Logarithm.{ln_of}}
use Rattle.exact.specs.Reported.{ten, Reports}
use Rattle.case.specs.{declared.Case.{Case}, Bounds.{Between}}
use Rattle.formulas.specs.{Tolerable.{tolerable_touch, tolerable_step}, Mesh.{mesh}, Step.{step}}
use Rattle.readings.specs.{declared.{Report.{Report}}, Reading.{Reading, pairs_of}, Resistivity.{apparent}}
use Rattle.readings.specs.Report.{μΩm, width}
use Rattle.readings.specs.Resistivity as Resistivity
use Rattle.numbers.specs.{Number.{Number}, Formulas.{ReadingNumbers}}
use Rattle.staged.specs.{Current.{in_phase, quadrature, injected, branches, total, square_of}}
use Rattle.margin.specs.{Meaning.{IsMargin, share}}
use Rattle.claims.specs.Words.{verdict_at}
use Rattle.std.specs.Prelude.{Result, Ok}
use Rattle.refusal.specs.{declared.Refused.{Refused}, Refused.{refuse}}
use Rattle.staged.specs.declared.GridShare.{GridShare}
use Rattle.std.specs.Prelude.{Option, None}
use Rattle.refusal.specs.{declared.Refused.{Refused}}

-- ---- §6.3: the logarithm

-- "a fraction of two whole numbers from 1 to 10^15"
abbrev pub NumberInside : ℕ → Type 0
NumberInside n = Between 1 n (10 ^ 15)

-- "The logarithm's ends must be at most 200 billionths apart"
abbrev pub two_hundred : Ends → Fraction
two_hundred ends = decimal 200 9

pub data LogarithmOutcome (p q : ℕ) : Result Interval Refused → Type 0 where
  -- "one outside is refused with 5, line 0, column 1 (upper number) or 2 (lower)"
  upper : ¬ NumberInside p → LogarithmOutcome p q (refuse 5 0 1)
  lower : NumberInside p → ¬ NumberInside q → LogarithmOutcome p q (refuse 5 0 2)
  -- "answered as a pair in signed billionths that holds the exact value"
  ends : {i : Interval} → NumberInside p → NumberInside q → Number (ln_of (whole p ÷f whole q))
      → Reports (ln_of (whole p ÷f whole q)) (ten 9) two_hundred i → LogarithmOutcome p q (Ok i)

-- ---- §9.1: soil from four-pin readings

-- "the count of numbers is 0, odd or above 128"
abbrev pub WrongCount : ℕ → Type 0
WrongCount n = (n ≡ 0) ⊎ (n % 2 ≡ 1) ⊎ (128 < n)

module _ (numbers : List ℕ) where
  -- of pair i, from 0: "a probe distance a in mm (500..50,000) and a resistance R in milliohms (1..1,000,000)"
  abbrev pub DistanceInside : ℕ → Type 0
  DistanceInside i = Between 500 (get_or numbers (2 * i) 0) 50000

  abbrev pub ResistanceInside : ℕ → Type 0
  ResistanceInside i = Between 1 (get_or numbers (2 * i + 1) 0) 1000000

  -- of every pair, and "the first such pair" of which it does not hold
  abbrev pub AllPairs : (ℕ → Type 0) → Type 0
  AllPairs P = (i : ℕ) → i < length numbers / 2 → P i

  pub record FirstPair (P : ℕ → Type 0) (i : ℕ) : Type 0 where
    pub within : i < length numbers / 2
    pub not_so : ¬ P i
    pub before : (j : ℕ) → j < i → P j

  -- "over all pairs": a value is at or below those of all, and one of them is at or below it; and the other way round
  pub record LeastOf (x : Exact) : Type 0 where
    pub below : (p : Reading) → Memᴰ p (pairs_of numbers) → AtOrBelow x (apparent p)
    pub reading : Reading
    pub among : Memᴰ reading (pairs_of numbers)
    pub reached : AtOrBelow (apparent reading) x

  pub record GreatestOf (x : Exact) : Type 0 where
    pub above : (p : Reading) → Memᴰ p (pairs_of numbers) → AtOrBelow (apparent p) x
    pub reading : Reading
    pub among : Memᴰ reading (pairs_of numbers)
    pub reached : AtOrBelow x (apparent reading)

  -- "The report gives the ends of the least, the greatest and the mean over all pairs in micro-ohm metres, at most 1/1,000,000 of the lower
  -- end plus 2 apart"
  pub record SoilReport (report : Report) : Type 0 where
    pub least : Reports (Resistivity.least (pairs_of numbers)) μΩm width report.least
    pub greatest : Reports (Resistivity.greatest (pairs_of numbers)) μΩm width report.greatest
    pub mean : Reports (Resistivity.mean (pairs_of numbers)) μΩm width report.mean
    pub numbers_are : ReadingNumbers (pairs_of numbers)
    pub least_of_all : LeastOf (Resistivity.least (pairs_of numbers))
    pub greatest_of_all : GreatestOf (Resistivity.greatest (pairs_of numbers))
    -- "and the upper mean rounded up to whole ohm metres for the soil column": the smallest number that it is not above
    pub soil : report.mean.upper ≤ℤ pos (1000000 * report.soil)
    pub no_less : (m : ℕ) → m < report.soil → pos (1000000 * m) <ℤ report.mean.upper

  -- "Refusals, in this order over the whole input"
  pub data SoilOutcome : Result Report Refused → Type 0 where
    -- "12, 0, 0 when the count of numbers is 0, odd or above 128"
    count : WrongCount (length numbers) → SoilOutcome (refuse 12 0 0)
    -- "13 when a distance is out of range; 14 when a resistance is; the last two with the first such pair's place from 1 as line, and
    -- column 1 or 2"
    distance : {i : ℕ} → ¬ WrongCount (length numbers) → FirstPair DistanceInside i → SoilOutcome (refuse 13 (suc i) 1)
    resistance : {i : ℕ} → ¬ WrongCount (length numbers) → AllPairs DistanceInside → FirstPair ResistanceInside i
        → SoilOutcome (refuse 14 (suc i) 2)
    soil : {report : Report} → ¬ WrongCount (length numbers) → AllPairs DistanceInside → AllPairs ResistanceInside → SoilReport report
        → SoilOutcome (Ok report)

-- ---- §9.2: split from a staged test

-- "the count of numbers is odd, below 4 or above 34"
abbrev pub WrongParts : ℕ → Type 0
WrongParts n = (n % 2 ≡ 1) ⊎ (n < 4) ⊎ (34 < n)

-- a part is not "outside −1,000,000..1,000,000"
abbrev pub PartInside : ℤ → Type 0
PartInside z = (neg_ℤ (pos 1000000) ≤ℤ z) × (z ≤ℤ pos 1000000)

module _ (s : List ℤ) where
  abbrev pub AllParts : Type 0
  AllParts = (i : ℕ) → i < length s → PartInside (get_or s i (pos 0))

  -- "both injected parts are 0": "the injected pair first"
  abbrev pub NoneInjected : Type 0
  NoneInjected = (get_or s 0 (pos 0) ≡ pos 0) × (get_or s 1 (pos 0) ≡ pos 0)

  -- the grid's two parts and the split
  pub record Staged (inPhasePart quadraturePart : ℤ) (perMille : ℕ) : Type 0 where
    -- "Branches and grid together make the injected current exactly, part by part."
    pub in_phase_whole : total (branches (in_phase s)) +ℤ inPhasePart ≡ injected (in_phase s)
    pub quadrature_whole : total (branches (quadrature s)) +ℤ quadraturePart ≡ injected (quadrature s)
    -- "the smallest whole per mille whose square times the injected square is not below a million times the grid's square"
    pub enough : 1000000 * square_of inPhasePart quadraturePart
        ≤ perMille * perMille * square_of (injected (in_phase s)) (injected (quadrature s))
    pub smallest : (m : ℕ) → m < perMille
        → m * m * square_of (injected (in_phase s)) (injected (quadrature s)) < 1000000 * square_of inPhasePart quadraturePart

  -- "Refusals, in order over the whole input, with line and column 0"
  pub data SplitOutcome : Result GridShare Refused → Type 0 where
    -- "17 when the count of numbers is odd, below 4 or above 34"
    count : WrongParts (length s) → SplitOutcome (refuse 17 0 0)
    -- "18 when a part is outside −1,000,000..1,000,000"
    part : (i : ℕ) → ¬ WrongParts (length s) → i < length s → ¬ PartInside (get_or s i (pos 0)) → SplitOutcome (refuse 18 0 0)
    -- "19 when both injected parts are 0"
    none : ¬ WrongParts (length s) → AllParts → NoneInjected → SplitOutcome (refuse 19 0 0)
    grid : {g : GridShare} → ¬ WrongParts (length s) → AllParts → ¬ NoneInjected → Staged g.in_phase g.quadrature g.per_mille → SplitOutcome (Ok g)

-- ---- §6.5: the margins of a row's numbers

-- a voltage from 0 and a tolerable voltage from 1 mV, neither above 10^15 mV
abbrev pub Comparable : ℤ → ℤ → Type 0
Comparable voltage tolerable = ((pos 0 ≤ℤ voltage) × (voltage ≤ℤ pos (10 ^ 15))) × ((pos 1 ≤ℤ tolerable) × (tolerable ≤ℤ pos (10 ^ 15)))

module _ (row : List ℤ) where
  abbrev at : ℕ → ℤ
  at place = get_or row place (pos 0)

  -- upper mesh against lower tolerable touch, upper step against lower tolerable step
  abbrev pub RowComparable : Type 0
  RowComparable = (length row ≡ 20) × (Comparable (at 13) (at 8) × Comparable (at 15) (at 10))

  -- each margin is the smallest whole number of tenths of a percent by which the voltage is not above the tolerable one
  pub data MarginsOutcome : Option (ℤ × ℤ) → Type 0 where
    margins : {m k : ℤ} → RowComparable → IsMargin (nat_abs (at 13)) (nat_abs (at 8)) m → IsMargin (nat_abs (at 15)) (nat_abs (at 10)) k
        → MarginsOutcome (Some (m, k))
    none : ¬ RowComparable → MarginsOutcome None

-- the margins of row i of a table, for a value line with the case c: true of the exact values, and the verdict is safe exactly where
-- neither is above 0
pub data RowMargins (c : Case) (table : List ℤ) (i : ℕ) : Option (ℤ × ℤ) → Type 0 where
  margins : {m k : ℤ} → AtOrBelow (mesh c) (exactly (share m) ·x tolerable_touch c)
      → AtOrBelow (step c) (exactly (share k) ·x tolerable_step c)
      → (verdict_at table i ≡ pos 1) ↔ (m ≤ℤ pos 0) × (k ≤ℤ pos 0) → RowMargins c table i (Some (m, k))
