-- What a word says as the value of an option, by the kind of value that the option has.
use Rattle.std.specs.Prelude.{◌≡◌, ◌≤◌, ◌+◌, ◌-◌, ◌*◌, ◌^◌, ◌==◌, ℕ, nat_le, Bool, ◌&&◌, Option, Some, None, Ok, Err, Result, List}
use Rattle.std.specs.Prelude.{bytes_eq, codes, length, take, drop, option_and_then, if◌then◌else◌}
use Rattle.std.specs.List.{position}
use Rattle.mc_protocol.specs.{Decimals.SpellsNumber, Decimals.decimal_in, declared.decimal.DecimalFault.DecimalFault}
use Rattle.mc_cli.specs.declared.rows.Kind.{Kind}
use Rattle.mc_cli.specs.declared.rows.Kind.TheVariants as kind

-- the most milliseconds of a time: those of 24 hours
abbrev pub GREATEST_TIME : ℕ
GREATEST_TIME = 86400000

-- this number, if it is the milliseconds of a time
abbrev pub if_time : ℕ → Option ℕ
if_time n = if nat_le 1 n && nat_le n GREATEST_TIME then Some n else None

abbrev pub is_point : ℕ → Bool
is_point byte = byte == 46

abbrev pub is_small_letter : ℕ → Bool
is_small_letter byte = nat_le 97 byte && nat_le byte 122

-- the thousandths that these one to three places are, by the number that they spell
abbrev pub scaled : List ℕ → Result ℕ DecimalFault → Option ℕ
scaled places (Ok number) = Some (number * 10 ^ (3 - length places))
scaled places (Err fault) = None

abbrev pub thousandths_in : List ℕ → Option ℕ
thousandths_in places =
    if nat_le 1 (length places) && nat_le (length places) 3 then scaled places (decimal_in 999 places) else None

-- the time of these seconds and these thousandths
abbrev pub joined_time : Result ℕ DecimalFault → Option ℕ → Option ℕ
joined_time (Ok seconds) (Some thousandths) = if_time (seconds * 1000 + thousandths)
joined_time _ _ = None

abbrev pub seconds_at : List ℕ → Option ℕ → Option ℕ
seconds_at word None = joined_time (decimal_in GREATEST_TIME word) (Some 0)
seconds_at word (Some point) = joined_time (decimal_in GREATEST_TIME (take point word)) (thousandths_in (drop (point + 1) word))

-- the time of the seconds that the word is: a decimal without a sign, or one with a point and one to three places
unfoldable pub seconds_in : List ℕ → Option ℕ
seconds_in word = seconds_at word (position is_point word)

-- this number of the unit with this name, in milliseconds
abbrev pub in_unit : ℕ → List ℕ → Option ℕ
in_unit number name =
    if bytes_eq name (codes "ms") then Some number else if bytes_eq name (codes "s") then Some (number * 1000)
    else if bytes_eq name (codes "m") then Some (number * 60000) else if bytes_eq name (codes "h") then Some (number * 3600000) else None

abbrev pub time_by : Result ℕ DecimalFault → List ℕ → Option ℕ
time_by (Ok number) name = option_and_then if_time (in_unit number name)
time_by (Err fault) name = None

abbrev pub time_at : List ℕ → Option ℕ → Option ℕ
time_at word None = seconds_in word
time_at word (Some place) = time_by (decimal_in GREATEST_TIME (take place word)) (drop place word)

-- the milliseconds of the time that the word is: seconds, or a decimal without a sign and a unit; 0.001 seconds to 24 hours in all
unfoldable pub time_in : List ℕ → Option ℕ
time_in word = time_at word (position is_small_letter word)

-- the number that a word says: its own, or the milliseconds of a time. The other kinds say none
abbrev pub reads : Kind → List ℕ → ℕ → Type 0
reads (kind.Number least greatest) word n = SpellsNumber greatest word n × (least ≤ n)
reads kind.Time word n = time_in word ≡ Some n
reads _ word n = ⊥

-- the number that the first word says, or the default if there is no word
abbrev pub IsValue : Kind → Option ℕ → Option (List ℕ) → ℕ → Type 0
IsValue k default None n = default ≡ Some n
IsValue k default (Some word) n = reads k word n

-- the number that the first word says, if there is a word
abbrev pub MayBeValue : Kind → Option (List ℕ) → Option ℕ → Type 0
MayBeValue k None n = n ≡ None
MayBeValue k (Some word) None = ⊥
MayBeValue k (Some word) (Some n) = reads k word n
