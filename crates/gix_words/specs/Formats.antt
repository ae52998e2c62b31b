-- Formats that a command takes.
use Rattle.std.specs.Prelude.{ℕ, ◌-◌, nat_le, ◌&&◌, List, ◌++◌, length, take, replicate, if◌then◌else◌, Option, Some, None}
use Rattle.gix_statement.specs.Formats.{is_format}
use Rattle.gix_words.specs.declared.format.Format.{Format}

-- the bytes of a format
abbrev pub format_bytes : Format → List ℕ
format_bytes format = take format.len format.text

-- nothing is said
abbrev pub no_format : Format
no_format = record { text = replicate 128 0; len = 0 }

-- a format of at most 128 bytes, with bytes 0 behind it
unfoldable pub packed : List ℕ → Format
packed text = record { text = text ++ replicate (128 - length text) 0; len = length text }

-- the format that these bytes are
abbrev pub format_of : List ℕ → Option Format
format_of text = if is_format 0 text && nat_le (length text) 128 then Some (packed text) else None
