-- Ids of 32 bytes, as git prints them. A round of SHA-256 is computed once, from the state before it.
use Rattle.std.proofs.Common.{◌≡◌, ℕ, zero, suc, ◌+◌, ◌*◌, ◌/◌, List, [], ◌∷◌, ◌++◌, length, take, drop, codes, refl, sym, ◌∙◌, ap, arith}
use Rattle.std.specs.Prelude.{slice_index}
use Rattle.std.specs.Fmt.{digits}
use Rattle.sha2.specs.Sha256.{sha256, round, round_constants, rounds, next_word, schedule, first_words, add_state, compress, hash_after, initial_hash_256, digest_bytes, padded_message}
use Rattle.gix_hash.specs.declared.Kind.TheVariants as hash
use Rattle.gix_hash.specs.declared.ObjectId.TheVariants as id
use Rattle.gix_object.specs.declared.Kind.TheVariants as kind
use Rattle.gix_names.specs.Named.{name_text, name_of}

-- round t
abbrev step : List ℕ → List ℕ → ℕ → List ℕ
step v w t = round v (slice_index round_constants t) (slice_index w t)

-- n rounds from round t on
abbrev more_rounds : ℕ → List ℕ → List ℕ → ℕ → List ℕ
more_rounds zero v w t = v
more_rounds (suc n) v w t = more_rounds n (step v w t) w (suc t)

rounds_on : (n : ℕ) (v w : List ℕ) (t : ℕ) → more_rounds n (rounds v w t) w t ≡ rounds v w (n + t)
unfolding rounds
rounds_on zero v w t = let e : t ≡ zero + t = omega arith in ap (rounds v w) e
rounds_on (suc n) v w t = let e : n + suc t ≡ suc n + t = omega arith in rounds_on n v w (suc t) ∙ ap (rounds v w) e

-- n words more than the first t + 16
abbrev more_words : ℕ → List ℕ → ℕ → List ℕ
more_words zero w t = w
more_words (suc n) w t = more_words n (w ++ next_word w (t + 16) ∷ []) (suc t)

words_on : (n : ℕ) (b : List ℕ) (t : ℕ) → more_words n (schedule b t) t ≡ schedule b (n + t)
unfolding schedule
words_on zero b t = let e : t ≡ zero + t = omega arith in ap (schedule b) e
words_on (suc n) b t = let e : n + suc t ≡ suc n + t = omega arith in words_on n b (suc t) ∙ ap (schedule b) e

abbrev words_of : List ℕ → List ℕ
words_of b = more_words 48 (first_words b 16) 0

compressed : (h b : List ℕ) → compress h b ≡ add_state h (more_rounds 64 h (words_of b) 0)
unfolding compress rounds schedule
compressed h b = ap (add_state h) (ap (λ w. rounds h w 64) (sym (words_on 48 b 0)) ∙ sym (rounds_on 64 h (words_of b) 0))

abbrev hash_of_block : List ℕ → List ℕ
hash_of_block b = digest_bytes (add_state initial_hash_256 (more_rounds 64 initial_hash_256 (words_of b) 0)) 8

-- a message that fills one block with its padding
one_block : (m : List ℕ) → length (padded_message m) / 64 ≡ 1 → sha256 m ≡ hash_of_block (take 64 (drop (0 * 64) (padded_message m)))
unfolding sha256 hash_after
one_block m e =
    ap (λ n. digest_bytes (hash_after initial_hash_256 (padded_message m) n) 8) e
    ∙ ap (λ h. digest_bytes h 8) (compressed initial_hash_256 (take 64 (drop (0 * 64) (padded_message m))))

pub empty_tree : name_of hash.Sha256 kind.Tree [] ≡ id.Sha256 (0x6e ∷ 0xf1 ∷ 0x9b ∷ 0x41 ∷ 0x22 ∷ 0x5c ∷ 0x53 ∷ 0x69 ∷ 0xf1 ∷ 0xc1 ∷ 0x04 ∷ 0xd4 ∷ 0x5d ∷ 0x8d ∷ 0x85 ∷ 0xef ∷ 0xa9 ∷ 0xb0 ∷ 0x57 ∷ 0xb5 ∷ 0x3b ∷ 0x14 ∷ 0xb4 ∷ 0xb9 ∷ 0xb9 ∷ 0x39 ∷ 0xdd ∷ 0x74 ∷ 0xde ∷ 0xcc ∷ 0x53 ∷ 0x21 ∷ [])
unfolding digits first_words digest_bytes
empty_tree = ap (λ bytes. id.Sha256 bytes) (one_block (name_text kind.Tree []) refl)

pub blob : name_of hash.Sha256 kind.Blob (codes "Hello World!") ≡ id.Sha256 (0x74 ∷ 0x5b ∷ 0x15 ∷ 0x17 ∷ 0xd3 ∷ 0xa6 ∷ 0x47 ∷ 0xe2 ∷ 0xa4 ∷ 0x56 ∷ 0x89 ∷ 0xc4 ∷ 0xc0 ∷ 0xcf ∷ 0x96 ∷ 0x8f ∷ 0xfe ∷ 0xd3 ∷ 0x5e ∷ 0x6b ∷ 0xdc ∷ 0x6a ∷ 0x90 ∷ 0xe3 ∷ 0xe5 ∷ 0xc6 ∷ 0xe6 ∷ 0x48 ∷ 0xdc ∷ 0x30 ∷ 0x50 ∷ 0x8b ∷ [])
unfolding digits first_words digest_bytes
blob = ap (λ bytes. id.Sha256 bytes) (one_block (name_text kind.Blob (codes "Hello World!")) refl)
