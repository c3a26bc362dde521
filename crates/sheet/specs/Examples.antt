-- §2.1, §2.2: the answer computed on sheets: the sample (§3.3), each refusal, and the order of the rules where two are broken at once.
use Rattle.std.specs.Prelude.{ℕ}
use mathlib.Core.{Path.{◌≡◌, refl}, List.{List, [], ◌∷◌, ◌++◌, map}}
use Rattle.std.specs.Prelude.{replicate}
use Rattle.text.specs.{Text.{bytes, on_first, lines_of, fields_of, same}, Value.{digit, digits, plain, is_value, number_from, value_of}}
use Rattle.case.specs.{Columns.{columns, in_range, name_index, named}, Case.{case_of}}
use Rattle.case.specs.Check.{left_of, out_of_range, agree, disagreement, finding}
use Rattle.header.specs.Header.{no_columns, fresh, wrong_name, columns_from, columns_of}
use Rattle.line.specs.Line.{wrong_form, line_values, line_case}
use Rattle.line_finding.specs.Findings.{or_finding, same_key, repeats, line_finding}
use Rattle.judgement.specs.Refusal.{text_refused, name_refused, no_line_refused, many_lines_refused, line_judgement}
use Rattle.judgement.specs.Sheet.{names, value_lines, bad_text, lines_judgement, values_judgement, names_judgement, judgement_within, judgement}
use Rattle.sheet.specs.{declared.Answer.{Answer, TheVariants.{Rows, Refused}}, Answer.{cases, table_refused, answer_by, answer}}
use Rattle.std.specs.Prelude.{Ok}

-- the answer, with all that it is made of
answer_of : List ℕ → ℕ → Answer
unfolding on_first lines_of fields_of same digit digits plain is_value number_from value_of columns in_range name_index named left_of out_of_range
    agree disagreement finding text_refused name_refused no_line_refused many_lines_refused table_refused line_judgement no_columns fresh wrong_name
    columns_from columns_of wrong_form line_values same_key repeats or_finding line_finding names value_lines bad_text lines_judgement values_judgement
    names_judgement judgement_within judgement answer_by answer
answer_of s room = answer s room

abbrev head : List ℕ
head =
    bytes "station,season,soil,layer,thick,shock,clear,wire,body,fault,split,xr,across,along,space,depth,dia,rods,rodlen,place,metal,hz\n"

abbrev dry : List ℕ
dry = bytes "7,1,400,2500,102,500,500,500,70,3180,600,10,11,11,7000,500,100,0,0,0,1,60\n"

abbrev wet : List ℕ
wet = bytes "7,2,100,2500,102,500,500,500,70,3180,600,10,11,11,7000,500,100,0,0,0,1,60\n"

-- the sample sheet
unfoldable pub sample : List ℕ
sample = head ++ dry ++ wet

sample_answer : answer_of sample 40 ≡ Rows 2
unfolding answer_of sample
sample_answer = refl

-- it breaks no rule, and has these two cases
pub sample_judged : judgement columns sample ≡ Ok 2
unfolding on_first lines_of fields_of same digit digits plain is_value number_from value_of columns in_range name_index named left_of out_of_range
    agree disagreement finding text_refused name_refused no_line_refused many_lines_refused line_judgement no_columns fresh wrong_name columns_from
    columns_of wrong_form line_values same_key repeats or_finding line_finding names value_lines bad_text lines_judgement values_judgement
    names_judgement judgement_within judgement sample
sample_judged = refl

pub sample_cases : cases sample ≡
    case_of (7 ∷ 1 ∷ 400 ∷ 2500 ∷ 102 ∷ 500 ∷ 500 ∷ 500 ∷ 70 ∷ 3180 ∷ 600 ∷ 10 ∷ 11 ∷ 11 ∷ 7000 ∷ 500 ∷ 100 ∷ 0 ∷ 0 ∷ 0 ∷ 1 ∷ 60 ∷ [])
    ∷ case_of (7 ∷ 2 ∷ 100 ∷ 2500 ∷ 102 ∷ 500 ∷ 500 ∷ 500 ∷ 70 ∷ 3180 ∷ 600 ∷ 10 ∷ 11 ∷ 11 ∷ 7000 ∷ 500 ∷ 100 ∷ 0 ∷ 0 ∷ 0 ∷ 1 ∷ 60 ∷ [])
    ∷ []
unfolding on_first lines_of fields_of same number_from value_of columns name_index no_columns columns_from columns_of line_values line_case names
    value_lines cases sample
sample_cases = refl

-- a sheet, the length of the table, and the answer
record Example : Type 0 where
  sheet : List ℕ
  room : ℕ
  answered : Answer

abbrev row : List ℕ → ℕ → Answer → Example
row sheet room answered = record { sheet = sheet; room = room; answered = answered }

examples : List Example
examples =
    -- 1: empty, 65,537 bytes, where 65,536 are not too many, no last byte 10
    row [] 40 (Refused 1 0 0)
    ∷ row (replicate 65537 10) 40 (Refused 1 0 0)
    ∷ row (replicate 65536 10) 40 (Refused 2 1 1)
    ∷ row (head ++ bytes "7") 40 (Refused 1 0 0)
    -- 2: unknown, in another case of letters, twice, missing, one too many; the former names ms and lines; no hz
    ∷ row (bytes "station,season,Soil\n") 40 (Refused 2 1 3)
    ∷ row (bytes "station,season,station,nothing\n") 40 (Refused 2 1 3)
    ∷ row (bytes "metal,place\n") 40 (Refused 2 1 3)
    ∷ row
    (bytes
    "station,season,soil,layer,thick,shock,clear,wire,body,fault,split,xr,across,along,space,depth,dia,rods,rodlen,place,metal,hz,soil\n")
    40 (Refused 2 1 23)
    ∷ row
    (bytes
    "station,season,soil,layer,thick,shock,clear,wire,body,fault,split,xr,across,along,space,depth,dia,rods,rodlen,place,metal,hz,\n") 40
    (Refused 2 1 23)
    ∷ row
    (bytes
    "station,season,soil,layer,thick,ms,body,fault,split,xr,lines,space,depth,dia,rods,rodlen,place,metal\n7,1,400,2500,102,500,70,3180,600,10,11,7000,500,100,0,0,0,1\n") 40 (Refused 2 1 6)
    ∷ row
    (bytes
    "station,season,soil,layer,thick,shock,clear,wire,body,fault,split,xr,lines,space,depth,dia,rods,rodlen,place,metal,hz\n7,1,400,2500,102,500,500,500,70,3180,600,10,11,7000,500,100,0,0,0,1,60\n") 40 (Refused 2 1 13)
    ∷ row
    (bytes
    "station,season,soil,layer,thick,shock,clear,wire,body,fault,split,xr,across,along,space,depth,dia,rods,rodlen,place,metal\n7,1,400,2500,102,500,500,500,70,3180,600,10,11,11,7000,500,100,0,0,0,1\n") 40 (Refused 2 1 22)
    -- 2 comes before 4
    ∷ row (bytes "\n") 40 (Refused 2 1 1)
    -- 4: no line, and 257 lines, where 256 are not too many
    ∷ row head 40 (Refused 4 2 0)
    ∷ row (head ++ replicate 257 10) 40 (Refused 4 258 0)
    ∷ row (head ++ replicate 256 10) 40 (Refused 3 2 1)
    -- 3: wrong forms, too few, too many; an empty line
    ∷ row (head ++ dry ++ bytes "\n") 40 (Refused 3 3 1)
    ∷ row (head ++ bytes "7,1,0400,2500,102,500,500,500,70,3180,600,10,11,11,7000,500,100,0,0,0,1,60\n") 40 (Refused 3 2 3)
    ∷ row (head ++ bytes "7,1,400,2500,102,500,500,500,70,3180,600,10,11,11,7000,500,100,0,0,0,1000000,60\n") 40 (Refused 3 2 21)
    ∷ row (head ++ bytes "7,1, 400,2500,102,500,500,500,70,3180,600,10,11,11,7000,500,100,0,0,0,1,60\n") 40 (Refused 3 2 3)
    ∷ row (head ++ bytes "7,1,400,2500,102,500,500,500,70,3180,600,10,11,11,7000,500,100,0,0,0,1\n") 40 (Refused 3 2 22)
    ∷ row (head ++ bytes "7,1,400,2500,102,500,500,500,70,3180,600,10,11,11,7000,500,100,0,0,0,1,60,60\n") 40 (Refused 3 2 23)
    ∷ row (head ++ bytes "7,1,400,2500,102,500,500,500,70,3180,600,10,11,11,7000,500,100,0,0,x,1,60,60\n") 40 (Refused 3 2 20)
    -- 3 of a line comes before 5, and 5 of a line before 3 of a later one
    ∷ row (head ++ bytes "0,1,400,2500,102,500,500,500,70,3180,600,10,11,11,7000,500,100,0,0,0,x,60\n") 40 (Refused 3 2 21)
    ∷ row (head ++ bytes "0,1,400,2500,102,500,500,500,70,3180,600,10,11,11,7000,500,100,0,0,0,1,60\n\n") 40 (Refused 5 2 1)
    -- 5: the leftmost; depth 249 and 2501; a count out of its range; before 6; a frequency between the two
    ∷ row (head ++ bytes "7,1,400,2500,102,500,500,500,70,3180,600,10,11,11,7000,249,0,0,0,0,1,60\n") 40 (Refused 5 2 16)
    ∷ row (head ++ bytes "7,1,400,2500,102,500,500,500,70,3180,600,10,11,11,7000,2501,100,0,0,0,1,60\n") 40 (Refused 5 2 16)
    ∷ row (head ++ bytes "7,1,400,2500,102,500,500,500,70,3180,600,10,26,1,7000,500,100,0,0,0,1,60\n") 40 (Refused 5 2 13)
    ∷ row (head ++ bytes "7,1,400,2500,102,500,500,500,70,3180,600,10,25,1,7000,500,100,0,0,0,1,60\n") 40 (Refused 5 2 14)
    ∷ row (head ++ bytes "7,1,400,2500,0,500,500,500,70,3180,600,10,11,11,7000,500,100,0,0,0,12,60\n") 40 (Refused 5 2 21)
    ∷ row (head ++ bytes "7,1,400,2500,102,500,500,500,70,3180,600,10,11,11,7000,500,100,0,0,0,1,55\n") 40 (Refused 5 2 22)
    -- 6: layer before rods
    ∷ row (head ++ bytes "7,1,400,2500,0,500,500,500,70,3180,600,10,11,11,7000,500,100,3,0,0,1,60\n") 40 (Refused 6 2 4)
    ∷ row (head ++ bytes "7,1,400,2500,102,500,500,500,70,3180,600,10,11,11,7000,500,100,3,1000,0,1,60\n") 40 (Refused 6 2 18)
    -- 7, and 6 before 7
    ∷ row (head ++ dry ++ wet ++ dry) 60 (Refused 7 4 0)
    ∷ row (head ++ dry ++ bytes "7,1,400,2500,0,500,500,500,70,3180,600,10,11,11,7000,500,100,0,0,0,1,60\n") 40 (Refused 6 3 4)
    -- 8 comes last
    ∷ row sample 39 (Refused 8 0 0)
    ∷ row (head ++ dry ++ dry) 0 (Refused 7 3 0)
    -- names in another order: columns are those of the header
    ∷ row
    (bytes
    "hz,metal,place,rodlen,rods,dia,depth,space,along,across,xr,split,fault,body,wire,clear,shock,thick,layer,soil,season,station\n60,1,0,0,0,100,500,7000,11,11,10,600,3180,70,500,500,500,102,2500,400,1,7\n") 20 (Rows 1)
    ∷ row
    (bytes
    "hz,metal,place,rodlen,rods,dia,depth,space,along,across,xr,split,fault,body,wire,clear,shock,thick,layer,soil,season,station\n60,1,0,0,0,0,249,7000,11,11,10,600,3180,70,500,500,500,102,2500,400,1,7\n") 20 (Refused 5 2 6)
    ∷ row
    (bytes
    "hz,metal,place,rodlen,rods,dia,depth,space,along,across,xr,split,fault,body,wire,clear,shock,thick,layer,soil,season,station\n60,1,0,0,3,100,500,7000,11,11,10,600,3180,70,500,500,500,0,2500,400,1,7\n") 20 (Refused 6 2 19)
    ∷ []

right : map (λ e. answer_of e.sheet e.room) examples ≡ map (λ e. e.answered) examples
unfolding answer_of examples sample
right = refl
