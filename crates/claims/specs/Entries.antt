-- §11.1, §11.3: the entries for programs in C other than the rows. The caller has the signed number r, the arrays, and a lent place for the
-- line and column of a refusal. The outcomes are those of the operations' own questions.
use Rattle.std.specs.Prelude.{ℕ, ◌*◌, ◌≤◌, ◌<◌}
use mathlib.Core.{Path.{◌≡◌}, Logic.{◌↔◌}, List.{List, [], ◌∷◌, ◌++◌}}
use lib.{IntN.{ℤ, pos, neg_ℤ}, ListN.{length, drop}, Signed.{◌≤ℤ◌}}
use Rattle.exact.specs.Exact.{exactly, ◌·x◌, AtOrBelow}
use Rattle.readings.specs.declared.Report.{Report}
use Rattle.tables.specs.Parts.{part_at}
use Rattle.case.specs.{declared.{Case.{Case}, Form.{Form}}, Columns.{columns}}
use Rattle.header.specs.Names.{WrongName, Leftmost, None}
use Rattle.judgement.specs.{Sheet.{names, value_lines}, Wrong.{WrongValues}}
use Rattle.formulas.specs.{Mesh.{mesh}, Step.{step}, Tolerable.{tolerable_touch, tolerable_step}}
use Rattle.decision.specs.declared.Verdict.TheVariants.{Safe}
use Rattle.row.specs.{declared.Row.{Row}, Row.{numbers}}
use Rattle.working.specs.{declared.Quantities.{Quantities}, Numbers.{working_numbers}}
use Rattle.margin.specs.{Margin.{margins_of}, Meaning.{share}}
use Rattle.c_reply.specs.Reply.{soil_numbers}
use Rattle.hocsimbur.specs.{Asked.{RowAnswered, AnsweredWith}}
use Rattle.claims.specs.{Words.{BreaksNone, Breaks, TooShort, case_at}, Measured.{SoilOutcome, SplitOutcome}, Yards.{FewestOutcome}}
use Rattle.claims.specs.{Workings.{WorkingOutcome}, Later.{HeadroomOutcome}, Summary.{SummaryOutcome}, Releases.{ReleaseOutcome}}
use Rattle.claims.specs.{Rules.{fields_at, OwnLine}, Order.{WrongText}, Carried.{CarryOutcome}}
use Rattle.std.specs.Prelude.{Result, Ok}
use Rattle.refusal.specs.{declared.Refused.{Refused}, Refused.{refuse}}
use Rattle.std.specs.Prelude.{Some, None as Nothing}
use Rattle.stations.specs.declared.Counts.{Counts}
use Rattle.staged.specs.declared.GridShare.{GridShare}
use Rattle.yards.specs.declared.FewestLines.TheVariants as fewest_lines

-- ---- §11.1: one convention

-- line and column of a refusal in the first two numbers of a place; one of fewer numbers is as it was
pub record PointsAt (line column : ℕ) (place told : List ℕ) : Type 0 where
  pub two : {a b : ℕ} {rest : List ℕ} → place ≡ a ∷ b ∷ rest → told ≡ line ∷ column ∷ rest
  pub fewer : length place < 2 → told ≡ place

-- every answer: a count, and the place as it was; or a refusal's number, which is not 0, made negative
pub data InC (Counted : ℕ → Type 0) (Refused : ℕ → ℕ → ℕ → Type 0) (place told : List ℕ) : ℤ → Type 0 where
  count : {n : ℕ} → Counted n → told ≡ place → InC Counted Refused place told (pos n)
  refusal : {number line column : ℕ} → 1 ≤ number → Refused number line column → PointsAt line column place told
      → InC Counted Refused place told (neg_ℤ (pos number))

-- ---- §11.3: an operation on the caller's arrays: the outcome of its own question

abbrev pub SummaryInC : List ℕ → List ℤ → List ℤ → List ℤ → List ℤ → List ℕ → List ℕ → ℤ → Type 0
SummaryInC s rowsBefore rows before after =
    InC (λ m. (found : Counts) × SummaryOutcome s rowsBefore rows before after (Ok found) × (m ≡ found.stations))
    (λ number line column. SummaryOutcome s rowsBefore rows before after (refuse number line column))

abbrev pub ReleaseInC : List ℕ → List ℕ → List ℤ → List ℤ → List ℕ → List ℕ → ℤ → Type 0
ReleaseInC s licence before after =
    InC (λ m. ReleaseOutcome s licence before after (Ok m))
    (λ number line column. ReleaseOutcome s licence before after (refuse number line column))

abbrev pub CarryInC : Form → List ℕ → List ℕ → List ℕ → List ℕ → List ℕ → ℤ → Type 0
CarryInC form s before after =
    InC (λ n. CarryOutcome form s before after (Ok n))
    (λ number line column. CarryOutcome form s before after (refuse number line column))

-- ---- §11.3: a report as numbers in an array

module _ (Numbers : ℕ → List ℤ → Type 0) (before after : List ℤ) where
  -- the numbers, which have room, and past the last what the array held
  pub data Reported : ℕ → Type 0 where
    reported : {count : ℕ} {zs : List ℤ} → Numbers count zs → length zs ≤ length before → after ≡ zs ++ drop (length zs) before
        → Reported count

  -- the operation's own refusals come first, then 8 of an array too short; each leaves it as it was
  pub data ReportRefused (Own : ℕ → ℕ → ℕ → Type 0) : ℕ → ℕ → ℕ → Type 0 where
    own : {number line column : ℕ} → Own number line column → after ≡ before → ReportRefused Own number line column
    short : {count : ℕ} {zs : List ℤ} → Numbers count zs → length before < length zs → after ≡ before → ReportRefused Own 8 0 0

abbrev pub ReportInC : (ℕ → List ℤ → Type 0) → (ℕ → ℕ → ℕ → Type 0) → List ℤ → List ℤ → List ℕ → List ℕ → ℤ → Type 0
ReportInC Numbers Own before after = InC (Reported Numbers before after) (ReportRefused Numbers before after Own)

-- 7, and the ends of least, greatest and mean and the soil column
pub data SoilNumbers (list : List ℕ) : ℕ → List ℤ → Type 0 where
  soil : {report : Report} → SoilOutcome list (Ok report) → SoilNumbers list 7 (soil_numbers report)

abbrev pub SoilInC : List ℕ → List ℤ → List ℤ → List ℕ → List ℕ → ℤ → Type 0
SoilInC list = ReportInC (SoilNumbers list) (λ number line column. SoilOutcome list (refuse number line column))

-- 3, and the grid's two parts and the split
pub data SplitNumbers (s : List ℤ) : ℕ → List ℤ → Type 0 where
  grid : {g : GridShare} → SplitOutcome s (Ok g) → SplitNumbers s 3 (g.in_phase ∷ g.quadrature ∷ pos g.per_mille ∷ [])

abbrev pub SplitInC : List ℤ → List ℤ → List ℤ → List ℕ → List ℕ → ℤ → Type 0
SplitInC s = ReportInC (SplitNumbers s) (λ number line column. SplitOutcome s (refuse number line column))

-- ---- §6.7, §11.3: fewest lines: the sheet's checks 1, 2, 4 and 3, in this order, then those of the search, which does not read the whole
-- case

-- 4: "no value line (line 2)", or a second one
pub data NotOneLine (s : List ℕ) : ℕ → Type 0 where
  none : length (value_lines s) ≡ 0 → NotOneLine s 2
  more : 1 < length (value_lines s) → NotOneLine s 3

-- none of them refuses the sheet, and c is the case of its one value line
pub record OneLineRead (s : List ℕ) (c : Case) : Type 0 where
  pub text : ¬ WrongText s
  pub name : None (WrongName columns (names s))
  pub one : length (value_lines s) ≡ 1
  pub own_line : OwnLine s 0 c

-- 1 with lines, rods and how many yards were tried, or 0 with 0, 0 and how many
pub data FewestNumbers (s : List ℕ) (side : ℕ) : ℕ → List ℤ → Type 0 where
  found : {c : Case} {lines rods tried : ℕ} → OneLineRead s c → FewestOutcome c side (Ok (fewest_lines.Found lines rods tried))
      → FewestNumbers s side 1 (pos lines ∷ pos rods ∷ pos tried ∷ [])
  none : {c : Case} {tried : ℕ} → OneLineRead s c → FewestOutcome c side (Ok (fewest_lines.None tried))
      → FewestNumbers s side 0 (pos 0 ∷ pos 0 ∷ pos tried ∷ [])

-- the first of them that the sheet breaks; else 5 and 6 of what the search reads, 15 or 16
pub data FewestRefused (s : List ℕ) (side : ℕ) : ℕ → ℕ → ℕ → Type 0 where
  text : WrongText s → FewestRefused s side 1 0 0
  name : {column : ℕ} → ¬ WrongText s → Leftmost (WrongName columns (names s)) column → FewestRefused s side 2 1 column
  count : {line : ℕ} → ¬ WrongText s → None (WrongName columns (names s)) → NotOneLine s line → FewestRefused s side 4 line 0
  value : {column : ℕ} → ¬ WrongText s → None (WrongName columns (names s)) → length (value_lines s) ≡ 1
      → Leftmost (WrongValues 22 (fields_at s 0)) column → FewestRefused s side 3 2 column
  search : {c : Case} {number line column : ℕ} → OneLineRead s c → FewestOutcome c side (refuse number line column)
      → FewestRefused s side number line column

abbrev pub FewestInC : List ℕ → ℕ → List ℤ → List ℤ → List ℕ → List ℕ → ℤ → Type 0
FewestInC s side = ReportInC (FewestNumbers s side) (FewestRefused s side)

-- ---- §11.3: some numbers of every value line

module _ (width : ℕ) (Line : Case → List ℤ → Type 0) (s : List ℕ) (before after : List ℤ) where
  -- each line has its own numbers, in the sheet's order, and numbers past the last keep what they held
  pub record EveryLine (n : ℕ) : Type 0 where
    pub breaks_none : BreaksNone s n
    pub fits : width * n ≤ length before
    pub line : (i : ℕ) → i < n → Line (case_at s i) (part_at width after i)
    pub rest_kept : drop (width * n) after ≡ drop (width * n) before
    pub same_length : length after ≡ length before

  pub data LinesRefused : ℕ → ℕ → ℕ → Type 0 where
    rule : {number line column : ℕ} → Breaks s number line column → after ≡ before → LinesRefused number line column
    short : TooShort s (length before) width → after ≡ before → LinesRefused 8 0 0

abbrev pub LinesInC : ℕ → (Case → List ℤ → Type 0) → List ℕ → List ℤ → List ℤ → List ℕ → List ℕ → ℤ → Type 0
LinesInC width Line s before after = InC (EveryLine width Line s before after) (LinesRefused width Line s before after)

-- the margins of the case's row, true of the exact values; the case is answered safe exactly where neither is above 0
pub data MarginNumbers (c : Case) : List ℤ → Type 0 where
  margins : {m k : ℤ} → ((r : Row) → RowAnswered c (Ok r) → margins_of (numbers r) ≡ Some (m, k))
      → AtOrBelow (mesh c) (exactly (share m) ·x tolerable_touch c) → AtOrBelow (step c) (exactly (share k) ·x tolerable_step c)
      → ((a : Result Row Refused) → RowAnswered c a → AnsweredWith Safe a ↔ (m ≤ℤ pos 0) × (k ≤ℤ pos 0)) → MarginNumbers c (m ∷ k ∷ [])

pub data WorkingNumbers (c : Case) : List ℤ → Type 0 where
  working : {w : Quantities} → WorkingOutcome c (Ok w) → WorkingNumbers c (working_numbers w)

-- the greatest fault current at which the case, all else equal, is answered safe, or 0 where none is
pub data HeadroomNumber (c : Case) : List ℤ → Type 0 where
  up_to : {F : ℕ} → HeadroomOutcome c (Ok (Some F)) → HeadroomNumber c (pos F ∷ [])
  none : HeadroomOutcome c (Ok Nothing) → HeadroomNumber c (pos 0 ∷ [])
