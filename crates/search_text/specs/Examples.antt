-- Answers of a search (§6.7) and sides, computed by hand.
use mathlib.Core.{Path.{◌≡◌, refl}, List.{[], ◌∷◌}}
use Rattle.std.specs.Prelude.{Ok}
use Rattle.text.specs.{Text.{bytes}, Value.{digit, digits, plain, is_value, number_from, value_of, field_value}}
use Rattle.writing.specs.{Decimal.{digits_in, digit_count, last_digits, decimal}, Text.{more_fields, parted, ended}}
use Rattle.yards.specs.declared.FewestLines.TheVariants.{Found, None}
use Rattle.fields.specs.Refusal.{numbered}
use Rattle.search_text.specs.Fewest.{side_of, search_text}

-- a search that found a yard, and one that found no count that fits
found : search_text (Ok (Found 8 40 33)) ∷ search_text (Ok (None 0)) ∷ [] ≡ bytes "found,8,40,33\n" ∷ bytes "none,0\n" ∷ []
unfolding digits_in digit_count last_digits decimal more_fields parted ended numbered search_text
found = refl

-- a side, and what is not one: a 0 in front, seven digits
sides : side_of (field_value (bytes "70000")) ∷ side_of (field_value (bytes "070000")) ∷ side_of (field_value (bytes "1000000")) ∷ []
    ≡ 70000 ∷ 0 ∷ 0 ∷ []
unfolding digit digits plain is_value number_from value_of field_value side_of
sides = refl
