-- What a keyed hasher computes.
use Rattle.std.specs.Prelude.{ℕ, ◌-◌, ◌*◌, ◌/◌, ◌^◌, List, length, if◌then◌else◌, nat_lt, bit_and, bit_or, bit_xor}
use Rattle.gix_hash.specs.Id.{word_at}
use Rattle.gix_hash.specs.declared.keys.Mixed.{Mixed}
use Rattle.gix_hash.specs.declared.keys.Keys.{Keys}

-- the two halves of the 128 bits of a * b, joined by xor
abbrev pub folded_multiply : ℕ → ℕ → ℕ
folded_multiply a b = bit_xor (bit_and (a * b) (2 ^ 64 - 1)) (a * b / 2 ^ 64)

-- the state after one more word
abbrev pub mixed : Mixed → ℕ → Mixed
mixed h w = record h { state = folded_multiply (bit_xor h.state w) h.key }

-- the state after the eight bytes at two places, at a third one of longer ids, and at the end: so all bytes of an id count
abbrev pub write : Mixed → List ℕ → Mixed
write h bytes =
    if nat_lt (length bytes) 16 then h
    else if nat_lt (length bytes) 32 then mixed (mixed (mixed h (word_at bytes 0)) (word_at bytes 8)) (word_at bytes (length bytes - 8))
    else mixed (mixed (mixed (mixed h (word_at bytes 0)) (word_at bytes 8)) (word_at bytes 16)) (word_at bytes (length bytes - 8))

-- the keys that 16 bytes say, of which the second is odd
abbrev pub keys_of : List ℕ → Keys
keys_of bytes = record { first = word_at bytes 0; second = bit_or (word_at bytes 8) 1 }

-- the hasher of these keys
abbrev pub begun : Keys → Mixed
begun k = record { state = k.first; key = k.second }
