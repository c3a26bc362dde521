-- §6.7: sheets of one value line, judged: a case whose unread values are out of range, and what is refused first.
use Rattle.std.specs.Prelude.{ℕ}
use mathlib.Core.{Path.{◌≡◌, refl}, List.{List, [], ◌∷◌, ◌++◌, map}}
use Rattle.text.specs.{Text.{bytes, on_first, lines_of, fields_of, same}, Value.{digit, digits, plain, is_value}}
use Rattle.case.specs.Columns.{columns, name_index}
use Rattle.header.specs.Header.{no_columns, fresh, wrong_name}
use Rattle.line.specs.Line.{wrong_form}
use Rattle.judgement.specs.Sheet.{names, value_lines, bad_text}
use Rattle.judgement.specs.Refusal.{text_refused, name_refused, no_line_refused, many_lines_refused, line_judgement}
use Rattle.one_line.specs.Sheet.{fields_judged, values_judged, names_judged, sheet_judged}
use Rattle.std.specs.Prelude.{Ok}
use Rattle.refusal.specs.{Refused.{refuse}}

header : List ℕ
header =
    bytes "station,season,soil,layer,thick,shock,clear,wire,body,fault,split,xr,across,along,space,depth,dia,rods,rodlen,place,metal,hz\n"

-- across 0, along 99, space 1, rods 7 and place 9
line : List ℕ
line = bytes "7,1,400,2500,102,500,500,500,70,3180,600,10,0,99,1,500,100,7,7500,9,1,60"

-- the line; without its byte 10; nothing at all; names alone; the line twice; and a wrong name
judged : map sheet_judged
    ((header ++ (line ++ bytes "\n")) ∷ (header ++ line) ∷ [] ∷ header ∷ (header ++ (line ++ (bytes "\n" ++ (line ++ bytes "\n"))))
    ∷ (bytes "x" ++ (header ++ (line ++ bytes "\n"))) ∷ [])
    ≡ Ok tt ∷ refuse 1 0 0 ∷ refuse 1 0 0 ∷ refuse 4 2 0 ∷ refuse 4 3 0 ∷ refuse 2 1 1 ∷ []
unfolding header line on_first lines_of fields_of same digit digits plain is_value columns name_index no_columns fresh wrong_name wrong_form names
    value_lines bad_text text_refused name_refused no_line_refused many_lines_refused line_judgement fields_judged values_judged names_judged
    sheet_judged
judged = refl
