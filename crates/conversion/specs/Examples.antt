-- The sample sheet (§3.3) in its former form carried over (§8.2).
use Rattle.std.specs.Prelude.{ℕ}
use mathlib.Core.{Path.{◌≡◌, refl}, List.{List, ◌++◌}}
use Rattle.text.specs.{Text.{bytes, on_first, lines_of, fields_of, same}, Value.{number_from, value_of}}
use Rattle.writing.specs.Decimal.{digits_in, digit_count, last_digits, decimal}
use Rattle.writing.specs.Text.{more_fields, parted, ended, text_of, value_line, sheet_text}
use Rattle.case.specs.{declared.Form.TheVariants.{Present}, Columns.{columns, former_columns, name_index, named}, Parts.{form_of}}
use Rattle.header.specs.Header.{no_columns, columns_from, columns_of}
use Rattle.line.specs.Line.{line_values}
use Rattle.judgement.specs.Sheet.{names, value_lines}
use Rattle.carried_values.specs.Values.{other, present_values, former_values, carried, cases_in}
use Rattle.conversion.specs.{Sheet.{sheet_of}, Answer.{carried_text}}

-- the sample, its columns in another order
former : List ℕ
former =
    bytes "metal,season,station,soil,layer,thick,ms,body,fault,split,xr,lines,space,depth,dia,rods,rodlen,place\n"
    ++ bytes "1,1,7,400,2500,102,500,70,3180,600,10,11,7000,500,100,0,0,0\n" ++ bytes
    "1,2,7,100,2500,102,500,70,3180,600,10,11,7000,500,100,0,0,0\n"

present : List ℕ
present =
    bytes "station,season,soil,layer,thick,shock,clear,wire,body,fault,split,xr,across,along,space,depth,dia,rods,rodlen,place,metal,hz\n"
    ++ bytes "7,1,400,2500,102,500,500,500,70,3180,600,10,11,11,7000,500,100,0,0,0,1,60\n" ++ bytes
    "7,2,100,2500,102,500,500,500,70,3180,600,10,11,11,7000,500,100,0,0,0,1,60\n"

carried_on : carried_text Present former ≡ present
unfolding former present on_first lines_of fields_of same number_from value_of columns former_columns name_index named form_of no_columns columns_from
    columns_of line_values names value_lines digits_in digit_count last_digits decimal more_fields parted ended text_of value_line sheet_text other
    present_values former_values carried cases_in sheet_of carried_text
carried_on = refl
