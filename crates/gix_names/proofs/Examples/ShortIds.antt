-- Ids of 20 bytes, as git prints them. A round of SHA-1 is computed once, from the state before it.
use Rattle.std.proofs.Common.{◌≡◌, ℕ, zero, suc, ◌+◌, ◌*◌, ◌/◌, List, [], ◌∷◌, ◌++◌, length, take, drop, codes, refl, sym, ◌∙◌, ap, arith}
use Rattle.std.specs.Prelude.{slice_index}
use Rattle.std.specs.Fmt.{digits}
use Rattle.sha1.specs.Sha1.{sha1, round, round_fn, round_constant, rounds, next_word, schedule, first_words, add_state, compress, hash_after, initial_hash, digest_bytes, padded_message}
use Rattle.gix_hash.specs.declared.Kind.TheVariants as hash
use Rattle.gix_hash.specs.declared.ObjectId.TheVariants as id
use Rattle.gix_object.specs.declared.Kind.TheVariants as kind
use Rattle.gix_names.specs.Named.{name_text, name_of}

-- round t
abbrev pub step : List ℕ → List ℕ → ℕ → List ℕ
step v w t = round v (round_fn t (slice_index v 1) (slice_index v 2) (slice_index v 3)) (round_constant t) (slice_index w t)

-- n rounds from round t on
abbrev pub more_rounds : ℕ → List ℕ → List ℕ → ℕ → List ℕ
more_rounds zero v w t = v
more_rounds (suc n) v w t = more_rounds n (step v w t) w (suc t)

rounds_on : (n : ℕ) (v w : List ℕ) (t : ℕ) → more_rounds n (rounds v w t) w t ≡ rounds v w (n + t)
unfolding rounds
rounds_on zero v w t = let e : t ≡ zero + t = omega arith in ap (rounds v w) e
rounds_on (suc n) v w t = let e : n + suc t ≡ suc n + t = omega arith in rounds_on n v w (suc t) ∙ ap (rounds v w) e

-- n words more than the first t + 16
abbrev pub more_words : ℕ → List ℕ → ℕ → List ℕ
more_words zero w t = w
more_words (suc n) w t = more_words n (w ++ next_word w (t + 16) ∷ []) (suc t)

words_on : (n : ℕ) (b : List ℕ) (t : ℕ) → more_words n (schedule b t) t ≡ schedule b (n + t)
unfolding schedule
words_on zero b t = let e : t ≡ zero + t = omega arith in ap (schedule b) e
words_on (suc n) b t = let e : n + suc t ≡ suc n + t = omega arith in words_on n b (suc t) ∙ ap (schedule b) e

abbrev pub words_of : List ℕ → List ℕ
words_of b = more_words 64 (first_words b 16) 0

pub compressed : (h b : List ℕ) → compress h b ≡ add_state h (more_rounds 80 h (words_of b) 0)
unfolding compress rounds schedule
compressed h b = ap (add_state h) (ap (λ w. rounds h w 80) (sym (words_on 64 b 0)) ∙ sym (rounds_on 80 h (words_of b) 0))

abbrev hash_of_block : List ℕ → List ℕ
hash_of_block b = digest_bytes (add_state initial_hash (more_rounds 80 initial_hash (words_of b) 0)) 5

-- a message that fills one block with its padding
one_block : (m : List ℕ) → length (padded_message m) / 64 ≡ 1 → sha1 m ≡ hash_of_block (take 64 (drop (0 * 64) (padded_message m)))
unfolding sha1 hash_after
one_block m e =
    ap (λ n. digest_bytes (hash_after (padded_message m) n) 5) e
    ∙ ap (λ h. digest_bytes h 5) (compressed initial_hash (take 64 (drop (0 * 64) (padded_message m))))

pub empty_tree : name_of hash.Sha1 kind.Tree [] ≡ id.Sha1 (0x4b ∷ 0x82 ∷ 0x5d ∷ 0xc6 ∷ 0x42 ∷ 0xcb ∷ 0x6e ∷ 0xb9 ∷ 0xa0 ∷ 0x60 ∷ 0xe5 ∷ 0x4b ∷ 0xf8 ∷ 0xd6 ∷ 0x92 ∷ 0x88 ∷ 0xfb ∷ 0xee ∷ 0x49 ∷ 0x04 ∷ [])
unfolding digits first_words digest_bytes
empty_tree = ap (λ bytes. id.Sha1 bytes) (one_block (name_text kind.Tree []) refl)

pub blob : name_of hash.Sha1 kind.Blob (codes "Hello World!") ≡ id.Sha1 (0xc5 ∷ 0x7e ∷ 0xff ∷ 0x55 ∷ 0xeb ∷ 0xc0 ∷ 0xc5 ∷ 0x49 ∷ 0x73 ∷ 0x90 ∷ 0x3a ∷ 0xf5 ∷ 0xf7 ∷ 0x2b ∷ 0xac ∷ 0x72 ∷ 0x76 ∷ 0x2c ∷ 0xf4 ∷ 0xf4 ∷ [])
unfolding digits first_words digest_bytes
blob = ap (λ bytes. id.Sha1 bytes) (one_block (name_text kind.Blob (codes "Hello World!")) refl)
