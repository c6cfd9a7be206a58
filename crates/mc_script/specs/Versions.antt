-- The versions of the text of a script and of the image of a code: what each has room for, and which one is written.
use Rattle.std.specs.Prelude.{ℕ, nat_le, Bool, ◌&&◌, codes, if◌then◌else◌}
use Rattle.mc_script.specs.Values.{Word, FLAGS_LIMIT, STEPS_LIMIT, Version}
use Rattle.mc_script.specs.Values.version

abbrev pub version_word : Version → Word
version_word version.One = codes "1"
version_word version.Two = codes "2"

-- the most flags
abbrev pub flags_limit : Version → ℕ
flags_limit version.One = 32
flags_limit version.Two = FLAGS_LIMIT

-- the most steps of a section of a text, and the most instructions of a section of an image
abbrev pub steps_limit : Version → ℕ
steps_limit version.One = 64
steps_limit version.Two = STEPS_LIMIT

-- this number of flags, and sections of at most `longest` steps or instructions, keep the version's limits
abbrev pub has_room : Version → ℕ → ℕ → Bool
has_room v flags longest = nat_le flags (flags_limit v) && nat_le longest (steps_limit v)

-- the version that is written: the first one whose limits are kept, or else the last one
abbrev pub least_version : ℕ → ℕ → Version
least_version flags longest = if has_room version.One flags longest then version.One else version.Two
