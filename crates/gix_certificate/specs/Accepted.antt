-- What has passed through a writer that hashes.
use Rattle.std.specs.Prelude.{◌≡◌, ℕ, List, [], length, take, Result, Ok, Err}
use Rattle.sha2.specs.Hashers.{Holds256}
use Rattle.gix_certificate.specs.declared.hashing.Hashing.{Hashing}

-- the writer behind it has accepted these bytes since it was made
abbrev pub HasAccepted : {W : Type 0} → Hashing W → List ℕ → Type 0
HasAccepted h accepted = Holds256 h.hasher accepted × (h.count ≡ length accepted)

-- the bytes that a write has taken: none after an error
abbrev pub taken : {E : Type 0} → Result ℕ E → List ℕ → List ℕ
taken (Ok n) bytes = take n bytes
taken (Err e) bytes = []
