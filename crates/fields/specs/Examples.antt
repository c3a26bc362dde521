-- The line of a refusal (§3.3), computed by hand.
use Rattle.std.specs.Prelude.{◌≡◌, refl}
use Rattle.text.specs.Text.{bytes}
use Rattle.writing.specs.{Decimal.{digits_in, digit_count, last_digits, decimal}, Text.{more_fields, parted, ended}}
use Rattle.fields.specs.Refusal.{numbered, refused_text}

refusal : refused_text 5 2 10 ≡ bytes "refused,5,2,10\n"
unfolding digits_in digit_count last_digits decimal more_fields parted ended numbered refused_text
refusal = refl
