-- §8.1, §8.2, §8.3: a sheet of one form carried over to the other, `form` being the one that it is carried to.
use Prim.Native.{Nat.{ℕ, ◌+◌, ◌≤◌, ◌<◌}, String.{String}}
use mathlib.Core.{Path.{◌≡◌}, List.{List, [], ◌∷◌, map}}
use Rattle.std.specs.Prelude.{length, take, drop}
use Rattle.whole.specs.Every.{Every}
use Rattle.case.specs.{declared.Form.{Form, TheVariants.{Present, Former}}, Parts.{form_of}}
use Rattle.judgement.specs.Sheet.{names, judgement}
use Rattle.carried_values.specs.Values.{other}
use Rattle.conversion.specs.Answer.{carried_text}
use Rattle.claims.specs.Rules.{Under}
use Rattle.std.specs.Prelude.{Result, Ok}
use Rattle.refusal.specs.{declared.Refused.{Refused}, Refused.{refuse}}

-- a sheet passes all checks of a form with so many value lines, or is refused by them
abbrev pub AcceptedIn : Form → List ℕ → ℕ → Type 0
AcceptedIn form s lines = judgement (form_of form) s ≡ Ok lines

abbrev pub RefusedIn : Form → List ℕ → ℕ → ℕ → ℕ → Type 0
RefusedIn form s number line column = judgement (form_of form) s ≡ refuse number line column

-- value line i of the text has under one name the number that value line i of the sheet has under another
pub record Taken (s : List ℕ) (from : String) (text : List ℕ) (to : String) (i : ℕ) : Type 0 where
  pub number : ℕ
  pub source : Under s i from number
  pub here : Under text i to number

-- ---- §8.2: what becomes of each column

-- the names that both forms have
abbrev pub other_names : List String
other_names =
    "station" ∷ "season" ∷ "soil" ∷ "layer" ∷ "thick" ∷ "body" ∷ "fault" ∷ "split" ∷ "xr" ∷ "space" ∷ "depth" ∷ "dia" ∷ "rods" ∷ "rodlen" ∷
    "place"
    ∷ "metal" ∷ []

-- those that one has alone
abbrev pub own_names : Form → List String
own_names Present = "shock" ∷ "clear" ∷ "wire" ∷ "across" ∷ "along" ∷ "hz" ∷ []
own_names Former = "ms" ∷ "lines" ∷ []

-- "turns them into the 22, with ms copied to the three times, lines to both counts, and hz 60": line i of the sheet s and of the new one
pub record IntoPresent (s text : List ℕ) (i : ℕ) : Type 0 where
  pub shock : Taken s "ms" text "shock" i
  pub clear : Taken s "ms" text "clear" i
  pub wire : Taken s "ms" text "wire" i
  pub across : Taken s "lines" text "across" i
  pub along : Taken s "lines" text "along" i
  pub hz : Under text i "hz" 60
  -- "their other values are unchanged by either way"
  pub others : Every (λ name. Taken s name text name i) other_names

-- §8.3: a line that may be carried back: not "9 when its three times are not equal; 10 when across and along differ; 11 when hz is not 60"
abbrev pub TimesEqual : List ℕ → ℕ → Type 0
TimesEqual s i = Taken s "shock" s "clear" i × Taken s "clear" s "wire" i

abbrev pub CountsEqual : List ℕ → ℕ → Type 0
CountsEqual s i = Taken s "across" s "along" i

abbrev pub SixtyHertz : List ℕ → ℕ → Type 0
SixtyHertz s i = Under s i "hz" 60

abbrev pub Returns : List ℕ → ℕ → Type 0
Returns s i = TimesEqual s i × CountsEqual s i × SixtyHertz s i

-- the number by which a line is refused, "in that order on each line"
pub data Held (s : List ℕ) (i : ℕ) : ℕ → Type 0 where
  times : ¬ TimesEqual s i → Held s i 9
  counts : TimesEqual s i → ¬ CountsEqual s i → Held s i 10
  hertz : TimesEqual s i → CountsEqual s i → ¬ SixtyHertz s i → Held s i 11

-- §8.3: "It must also go back, to document 01's own names and order": ms is the one time, lines the one count
pub record IntoFormer (s text : List ℕ) (i : ℕ) : Type 0 where
  pub ms : Taken s "shock" text "ms" i
  pub lines : Taken s "across" text "lines" i
  pub others : Every (λ name. Taken s name text name i) other_names

abbrev pub Into : Form → List ℕ → List ℕ → ℕ → Type 0
Into Present s text i = IntoPresent s text i
Into Former s text i = IntoFormer s text i

-- ---- §8.2: a sheet that may be carried over, and the one that it becomes

-- "The source sheet passes all checks of its own form first", and on the way back every line may be carried
pub record Goes (form : Form) (s : List ℕ) (lines : ℕ) : Type 0 where
  pub accepted : AcceptedIn (other form) s lines
  pub returns : form ≡ Former → (i : ℕ) → i < lines → Returns s i

-- the first line that may not be carried back
pub record FirstHeld (form : Form) (s : List ℕ) (i : ℕ) : Type 0 where
  pub back : form ≡ Former
  pub lines : ℕ
  pub accepted : AcceptedIn Present s lines
  pub within : i < lines
  pub before : (j : ℕ) → j < i → Returns s j

pub record NewSheet (form : Form) (s text : List ℕ) (lines : ℕ) : Type 0 where
  -- a sheet that the form's own checks accept, with as many lines, and so no longer than any sheet may be
  pub accepted : AcceptedIn form text lines
  pub few_bytes : length text ≤ 65536
  -- "columns in document 01's order with new ones in place of the old and hz last"
  pub order : names text ≡ map (λ c. c.name) (form_of form)
  -- "Cases keep their order"
  pub values : (i : ℕ) → i < lines → Into form s text i

-- a text in the buffer: "The answer is the count of bytes written, and bytes past them keep what they held."
pub record Written (text before after : List ℕ) (count : ℕ) : Type 0 where
  pub count_is : count ≡ length text
  pub fits : count ≤ length before
  pub bytes : take count after ≡ text
  pub rest_kept : drop count after ≡ drop count before
  pub same_length : length after ≡ length before

-- ---- §8.2, §8.3: every answer, each with its condition; the conditions exclude one another (Answers.antt)

pub data CarryOutcome (form : Form) (s before after : List ℕ) : Result ℕ Refused → Type 0 where
  -- "The source sheet passes all checks of its own form first, save 8."
  rule : {number line column : ℕ} → RefusedIn (other form) s number line column → after ≡ before
      → CarryOutcome form s before after (refuse number line column)
  -- "On the way back a line is then refused, with its line and column 0"
  held : {number i : ℕ} → FirstHeld form s i → Held s i number → after ≡ before
      → CarryOutcome form s before after (refuse number (i + 2) 0)
  -- "and after all lines 8, 0, 0 either way when the output buffer is too short, any refusal leaving it untouched"
  short : {lines : ℕ} → Goes form s lines → length before < length (carried_text form s) → after ≡ before
      → CarryOutcome form s before after (refuse 8 0 0)
  carried : {lines count : ℕ} → Goes form s lines → NewSheet form s (carried_text form s) lines
      → Written (carried_text form s) before after count → CarryOutcome form s before after (Ok count)

-- §8.3: "there and back restores every value": of each name of its form each line has the number that it had
pub record Restored (form : Form) (s text : List ℕ) (lines : ℕ) : Type 0 where
  pub source : AcceptedIn form s lines
  pub accepted : AcceptedIn form text lines
  pub own : (i : ℕ) → i < lines → Every (λ name. Taken s name text name i) (own_names form)
  pub others : (i : ℕ) → i < lines → Every (λ name. Taken s name text name i) other_names

-- the answer of the way back, asked of the bytes `text` that the way there has written for the sheet s
pub data BackOutcome (form : Form) (s text before after : List ℕ) : Result ℕ Refused → Type 0 where
  restored : {lines count : ℕ} → Restored (other form) s (take count after) lines → BackOutcome form s text before after (Ok count)
  short : length before < length (carried_text (other form) text) → BackOutcome form s text before after (refuse 8 0 0)
